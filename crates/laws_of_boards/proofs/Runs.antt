-- Takings and sweeps on a board are the runs that a reader believes.
use Rattle.std.proofs.Common.{◌≡◌, ◌∙◌, inl, ℕ, List, [], ◌∷◌, Option, Some, refl, sym, subst}
use Rattle.zone_graph.specs.Steps.{IsRun}
use Rattle.zone_graph.proofs.Runs.{run-unique}
use Rattle.market_model.specs.declared.event.Event.{Event}
use Rattle.market_model.specs.History.{and_then}
use Rattle.market_model.specs.Sweep.{IsSweep, sweep, sweep_leg}
use Rattle.market_model.specs.Taking.{IsTaking, next_leg, take}
use Rattle.laws_of_market.proofs.Falls.{sweep-run, take-run}
use Rattle.laws_of_market.proofs.LocalLines.{next_leg-agree, next_leg-named, sweep-agree, sweep_leg-agree, sweep_leg-named, take-agree}
use Rattle.laws_of_market.proofs.NamedByHour.{AreNamedByHour, IsNamedByHour}
use Rattle.laws_of_market.proofs.LocalStates.{Agree, agree-more}
use Rattle.laws_of_boards.specs.Boards.{BoardSweepsAreRuns, BoardTakingsAreRuns}
use Rattle.laws_of_boards.proofs.Shared.{board-agrees}

-- a run of steps that agree is one after histories that agree
run-agree : (hours : List ℕ) (step : List Event → Option Event)
    → ((a b : List Event) → Agree hours a b → step a ≡ step b)
    → ((events : List Event) (e : Event) → AreNamedByHour events → step events ≡ Some e → IsNamedByHour e)
    → (a b xs : List Event) → Agree hours a b → IsRun step and_then a xs → IsRun step and_then b xs
run-agree hours step same named a b [] agree run = sym (same a b agree) ∙ run
run-agree hours step same named a b (e ∷ xs) agree run = (
  sym (same a b agree) ∙ run.0,
  run-agree hours step same named (and_then a e) (and_then b e) xs (agree-more hours a b e agree (named a e agree.named_a run.0)) run.1,
)

pub takings : BoardTakingsAreRuns
takings board name legs is_board in_hour run =
    let whole = is_board.stands in
    let hours : List ℕ = board.hour ∷ [] in
    let agree = board-agrees board is_board in
    let over = run-agree hours (next_leg board.grid name) (λ a b same. next_leg-agree hours a b same board.grid name (inl in_hour))
    (λ events e named is. next_leg-named board.grid name events e named is) board.events whole.history legs agree run in
    let its = subst (λ g. IsTaking g whole.history name (take g whole.history name)) whole.over_grid (take-run whole.setup whole.is_setup whole.history whole.fit name) in
    run-unique (next_leg board.grid name) and_then whole.history legs (take board.grid whole.history name) over its
    ∙ sym (take-agree hours board.events whole.history board.grid name agree (inl in_hour))

pub sweeps : BoardSweepsAreRuns
sweeps board parts legs is_board run =
    let whole = is_board.stands in
    let hours : List ℕ = board.hour ∷ [] in
    let agree = board-agrees board is_board in
    let over = run-agree hours (sweep_leg parts board.grid board.hour) (λ a b same. sweep_leg-agree hours a b same parts board.grid board.hour (inl refl))
    (λ events e named is. sweep_leg-named parts board.grid board.hour events e named is) board.events whole.history legs agree run in
    let its = subst (λ g. IsSweep parts g board.hour whole.history (sweep parts g board.hour whole.history)) whole.over_grid
    (sweep-run whole.setup whole.is_setup parts board.hour whole.history whole.fit) in
    run-unique (sweep_leg parts board.grid board.hour) and_then whole.history legs (sweep parts board.grid board.hour whole.history) over its
    ∙ sym (sweep-agree hours board.events whole.history parts board.grid board.hour agree (inl refl))
