use Rattle.std.proofs.Common.{◌≡◌, ◌==◌, ◌++◌, ◌∙◌, ap, map, rules, tests, List, Option, Result}
use Rattle.std.specs.Iterator.{Yields, Drains}
use Rattle.std.specs.Prelude.{MatchResult, OnOk}
use Rattle.std.proofs.lemmas.Iterator.{YieldsList}
use Rattle.std.proofs.lemmas.Iterator.Adapters.{fact_from_extend}
use Rattle.std.proofs.lemmas.Iterator.Consumers.{YieldsList-at}
use Rattle.std.proofs.lemmas.Iterator.Splits.{YieldsList-from_slice_split}
use Rattle.market_text.proofs.session.split_words.Goals as goal

-- what a list is once all that one source yields is put at its end
put : {T A C E Q : Type 0} {steps : T → Option A → T → Type 0} {all : List C} {s : T} {P : List A → Type 0} (v : A → C) (r : Result (Unit {0}) E)
    → ((it : T) × (xs : List A) × (it ≡ s) × P xs × MatchResult r (λ _. Drains steps it xs) (λ _. (t : T) × Yields steps it xs t))
    → YieldsList steps v s all → ((xs : List A) → map v xs ≡ all → P xs → Q) → OnOk r Q
put v r ran road says = fact_from_extend v r ran (λ it b. YieldsList-at b road) says

pub returns : goal.returns
returns c =
    put (λ word. word.now) c.extend.result c.extend.ensures.ran
    (YieldsList-from_slice_split _ (λ byte. byte == 32) c.args.line.now c.split.ensures.rest c.split.ensures.done c.split.ensures.closure (λ x r q k. search (rules, tests)))
    (λ xs e h. ap (map (λ word. word.now)) (h.0 ∙ ap (λ ws. ws ++ xs) c.clear.ensures.items) ∙ e)
