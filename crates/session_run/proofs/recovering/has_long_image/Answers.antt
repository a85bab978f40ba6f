-- What follows the first dividing line is too long or not.
use Rattle.std.proofs.Common.{◌≡◌, ◌∙◌, ◌<◌, Option, None, Some, length, sym, subst, arith}
use Rattle.std.proofs.lemmas.Bool.{ltb-true}
use Rattle.durable_journal.specs.Appending.{most_stored}
use Rattle.journal_audit.specs.Dividing.{Parts}
use Rattle.session_run.proofs.Recovered.{same-parts}
use Rattle.session_run.proofs.recovering.has_long_image.Goals as goal
use Rattle.session_storing.proofs.LeftTurns.{no-less}

pub returns-in-Some-clause-long : goal.returns-in-Some-clause-long
returns-in-Some-clause-long c = λ more. record {
  parts = record { text = c.in-Some.parts.0.now; rest = c.in-Some.parts.1.now };
  divided = c.in-Some.ensures.parts;
  long = ltb-true most_stored (length c.in-Some.parts.1.now) more;
}

pub returns-in-Some-clause-short : goal.returns-in-Some-clause-short
returns-in-Some-clause-short c = λ few long.
    let same = same-parts long.parts (record { text = c.in-Some.parts.0.now; rest = c.in-Some.parts.1.now }) (sym long.divided ∙ c.in-Some.ensures.parts) in
    let less = subst (λ (p : Parts). most_stored < length p.rest) same long.long in
    omega (arith, less, no-less most_stored (length c.in-Some.parts.1.now) few)

pub returns-in-None-clause-short : goal.returns-in-None-clause-short
returns-in-None-clause-short c = λ _ long. none long.parts (sym c.in-None.ensures.parts ∙ long.divided)
  where
    none : (a : Parts) → let x : Option Parts = None in let y : Option Parts = Some a in x ≡ y → ⊥
    none a e = cc
