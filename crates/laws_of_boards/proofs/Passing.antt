-- Whom a taker passes over on a board it passes over for good.
use Rattle.std.proofs.Common.{◌≡◌, ◌∙◌, inl, ℕ, Bool, false, List, [], ◌∷◌, Some, sym, ap, subst}
use Rattle.zone_graph.specs.declared.route.Arc.{Arc}
use Rattle.zone_graph.specs.Graph.{Graph}
use Rattle.zone_graph.specs.Route.{IsIn}
use Rattle.market_model.specs.declared.event.Event.{Event}
use Rattle.market_model.specs.History.{and_then}
use Rattle.market_model.specs.Lines.{can_trade, rooms_for}
use Rattle.market_model.specs.Orders.{Placed, Standing, standing}
use Rattle.market_model.specs.Taking.{next_leg}
use Rattle.laws_of_market.proofs.LocalLines.{next_leg-agree, next_leg-named, placed-named, rooms_for-agree, standing-agree}
use Rattle.laws_of_market.proofs.LocalStates.{Agree, agree-more}
use Rattle.laws_of_boards.proofs.PassedOver.{pass_for_good}
use Rattle.laws_of_boards.specs.Takers.{BoardTakersPassForGood}
use Rattle.laws_of_boards.proofs.Shared.{board-agrees, placed-shared}

-- a taker can trade with an order after some events
abbrev trades : Graph → Placed → (other : Standing) → List Event → Bool
trades graph taker other events = can_trade graph (rooms_for events (standing events taker)) (standing events taker) other

-- events that agree on its hour say the same of it
trades-agree : (hours : List ℕ) (a b : List Event) → Agree hours a b → (graph : Graph) (taker : Placed) (other : Standing)
    → IsIn taker.name.hour hours → IsIn taker.order.contract.hour hours → trades graph taker other a ≡ trades graph taker other b
trades-agree hours a b agree graph taker other named h =
    ap (λ s. can_trade graph (rooms_for a s) s other) (standing-agree hours a b agree taker named)
    ∙ ap (λ (r : Arc → ℕ). can_trade graph r (standing b taker) other) (rooms_for-agree hours a b agree (standing b taker) h)

pub pass : BoardTakersPassForGood
pass board taker leg other is_board there in_hour is none =
    let whole = is_board.stands in
    let hours : List ℕ = board.hour ∷ [] in
    let agree = board-agrees board is_board in
    let named : taker.name.hour ≡ board.hour = placed-named board.events agree.named_a taker there ∙ in_hour in
    let before = trades-agree hours board.events whole.history agree board.grid taker other (inl named) (inl in_hour) in
    let agree_after = agree-more hours board.events whole.history leg agree (next_leg-named board.grid taker.name board.events leg agree.named_a is) in
    let after = trades-agree hours (and_then board.events leg) (and_then whole.history leg) agree_after board.grid taker other (inl named) (inl in_hour) in
    let next : next_leg board.grid taker.name whole.history ≡ Some leg =
    sym (next_leg-agree hours board.events whole.history agree board.grid taker.name (inl named)) ∙ is in
    let over = pass_for_good whole.setup whole.history taker leg other whole.is_setup whole.fit
    (placed-shared board.hour board.events whole.history agree taker named there)
    (subst (λ g. next_leg g taker.name whole.history ≡ Some leg) (sym whole.over_grid) next)
    (subst (λ g. trades g taker other whole.history ≡ false) (sym whole.over_grid) (sym before ∙ none)) in
    after ∙ subst (λ g. trades g taker other (and_then whole.history leg) ≡ false) whole.over_grid over
