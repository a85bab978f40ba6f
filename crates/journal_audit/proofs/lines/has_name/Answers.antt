use Rattle.std.proofs.Common.{◌≡◌, ◌∙◌, ◌++◌, codes, nat_eq, None, Some, ap, sym}
use Rattle.std.specs.List.{starts_with}
use Rattle.std.proofs.lemmas.Bool.Decides.{Decides-eqb}
use Rattle.std.proofs.lemmas.Slice.Eq.{strip_prefix_is}
use Rattle.journal_audit.proofs.LineTexts.{starts-none, starts-same}
use Rattle.journal_audit.proofs.lines.has_name.Goals as goal

pub returns-in-Some : goal.returns-in-Some
returns-in-Some c =
    let name = c.args.name.now in
    let start = codes "\"," in
    let is : c.args.rest.now ≡ name ++ c.in-Some.after.now = strip_prefix_is Decides-eqb c.args.rest.now name (Some c.in-Some.after) c.in-Some.ensures.cases in
    c.starts_with.ensures.value ∙ sym (ap (λ rest. starts_with nat_eq rest (name ++ start)) is ∙ starts-same name c.in-Some.after.now start)

pub returns-in-None : goal.returns-in-None
returns-in-None c =
    sym (starts-none c.args.rest.now c.args.name.now (codes "\",") (strip_prefix_is Decides-eqb c.args.rest.now c.args.name.now None c.in-None.ensures.cases))
