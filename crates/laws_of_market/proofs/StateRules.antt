-- The first answer of two lists, and the place of these rules among all.
use Rattle.std.proofs.Common.{◌≡◌, ◌∙◌, List, [], ◌∷◌, ◌++◌, Option, Some, None, refl, ap}
use Rattle.market_model.specs.declared.refusal.Refusal.{Refusal}
use Rattle.market_model.specs.Grid.{graph_of}
use Rattle.market_model.specs.Refusals.{refusal_of_command}
use Rattle.market_model.specs.Rules.{naming_refusal, numbers_refusal}
use Rattle.market_model.specs.Sweep.{first_answer, or_else}
use Rattle.market_model.specs.StateRules.{StateComesSecond, filling_rules, state_refusal, state_rules}

-- the first answer of two lists is that of the first, or else that of the second
pub first_answer-append : {X Y : Type 0} (ask : X → Option Y) (xs ys : List X) → first_answer ask (xs ++ ys) ≡ or_else (first_answer ask xs) (λ _. first_answer ask ys)
first_answer-append ask [] ys = refl
first_answer-append {X} {Y} ask (x ∷ xs) ys = go (ask x) (first_answer-append ask xs ys)
  where
    go : (o : Option Y) → first_answer ask (xs ++ ys) ≡ or_else (first_answer ask xs) (λ _. first_answer ask ys)
        → or_else o (λ _. first_answer ask (xs ++ ys)) ≡ or_else (or_else o (λ _. first_answer ask xs)) (λ _. first_answer ask ys)
    go None rest = rest
    go (Some y) rest = refl

pub state_comes_second : StateComesSecond
unfolding refusal_of_command state_refusal
state_comes_second setup events caller given =
    let run : (Unit {0} → Option Refusal) → Option Refusal = λ rule. rule tt in
    let early : List (Unit {0} → Option Refusal) = (λ _. naming_refusal setup caller given) ∷ (λ _. numbers_refusal given) ∷ [] in
    let state = state_rules (graph_of setup) events caller given in
    let filling = filling_rules (graph_of setup) events caller given in
    first_answer-append run early (state ++ filling)
    ∙ ap (λ (o : Option Refusal). or_else (first_answer run early) (λ _. o)) (first_answer-append run state filling)
