-- What a leg of the order in hand leaves of its board and of the order.
use Rattle.std.proofs.Common.{◌≡◌, ◌∙◌, inl, ℕ, ◌+◌, ◌-◌, ◌≤◌, ◌&&◌, true, List, [], ◌∷◌, length, Some, eq-eqb, refl, sym, ap, subst, if◌then◌else◌, arith}
use Rattle.order_kinds.specs.declared.contract.Contract.{Contract}
use Rattle.order_kinds.specs.Contract.{contract_at}
use Rattle.order_kinds.specs.Period.{contract_quarters}
use Rattle.zone_graph.specs.declared.route.Arc.{Arc}
use Rattle.zone_graph.specs.Graph.{Graph}
use Rattle.zone_graph.specs.Pour.{lots_if, room_after}
use Rattle.zone_graph.specs.Route.{IsIn}
use Rattle.market_model.specs.declared.event.Event.{Event}
use Rattle.market_model.specs.declared.event.Event.TheVariants as event
use Rattle.market_model.specs.declared.event.Leg.{Leg}
use Rattle.market_model.specs.Board.{BoardState, CanBeMade, IsBoard, after_leg}
use Rattle.market_model.specs.Grid.{graph_of}
use Rattle.market_model.specs.History.{and_then}
use Rattle.market_model.specs.Orders.{Placed, Standing, ends_peak, filled, filled_by, gives_moment, left, moment, names, placed_by, standing}
use Rattle.market_model.specs.Room.{room}
use Rattle.market_model.specs.Taking.{next_leg}
use Rattle.laws_of_market.proofs.Balances.{left-leg, names-taker}
use Rattle.laws_of_market.proofs.Placed.{picked-same}
use Rattle.laws_of_market.proofs.States.{filled-more}
use Rattle.laws_of_market.proofs.LocalLines.{contract-hours, next_leg-agree, next_leg-named}
use Rattle.laws_of_market.proofs.LocalMoments.{moment-more}
use Rattle.laws_of_market.proofs.LocalStates.{Agree, agree-more, room-agree}
use Rattle.laws_of_maximum.proofs.Takers.{IsTakersLeg, rooms-after, takers-leg}
use Rattle.laws_of_boards.proofs.Legs.{leaves, next_legs}
use Rattle.laws_of_boards.proofs.Shared.{board-agrees}
use Rattle.match_core.specs.Takers.{after_fill, taker_at, taker_of}
use Rattle.match_core.specs.Walks.{TakesOn}
use Rattle.match_core.proofs.Fills.{filled-is, shown-within}
use Rattle.match_core.proofs.Orders.{can-take, has-peaks, hour-whole, its-hour, standing-whole, there-whole}

module _ (board : BoardState) (part : ℕ) (order : Placed) (takes : TakesOn board part order) (leg : Leg)
    (next : next_leg board.grid order.name board.events ≡ Some (event.Leg (contract_at board.hour part) leg)) where
  abbrev after : List Event
  after = and_then board.events (event.Leg (contract_at board.hour part) leg)

  agrees : Agree (board.hour ∷ []) board.events takes.is_board.stands.history
  agrees = board-agrees board takes.is_board

  over : next_leg (graph_of takes.is_board.stands.setup) order.name takes.is_board.stands.history ≡ Some (event.Leg (contract_at board.hour part) leg)
  over =
      subst (λ (g : Graph). next_leg g order.name takes.is_board.stands.history ≡ Some (event.Leg (contract_at board.hour part) leg)) (sym takes.is_board.stands.over_grid)
      (sym (next_leg-agree (board.hour ∷ []) board.events takes.is_board.stands.history agrees board.grid order.name (inl (its-hour board part order takes))) ∙ next)

  its : IsTakersLeg (graph_of takes.is_board.stands.setup) takes.is_board.stands.history order (event.Leg (contract_at board.hour part) leg)
  its = takers-leg (graph_of takes.is_board.stands.setup) takes.is_board.stands.is_setup takes.is_board.stands.history (can-take board part order takes)
      order (event.Leg (contract_at board.hour part) leg) (there-whole board part order takes) over

  its-leg : its.leg ≡ leg
  its-leg = let e = its.is in cc

  pub leg-some : 1 ≤ leg.lots
  leg-some = subst (λ (l : Leg). 1 ≤ l.lots) its-leg its.some

  pub leg-shown : leg.lots ≤ (standing board.events order).shown
  leg-shown =
      subst (λ (s : Standing). leg.lots ≤ s.shown) (sym (standing-whole board part order takes))
      (subst (λ (l : Leg). l.lots ≤ (standing takes.is_board.stands.history order).shown) its-leg its.taker_shows)

  pub leg-within : leg.lots ≤ left board.events order.name
  leg-within =
      let shown = leg-shown in
      let most = shown-within order.order.kind (filled board.events order.name) (left board.events order.name) in
      omega (arith, shown, most)

  pub leg-taker : leg.taker ≡ order.name
  leg-taker = subst (λ (l : Leg). l.taker ≡ order.name) its-leg its.taker_is

  -- ---- the board

  pub can-make : CanBeMade board part leg
  can-make =
      let made_leg = next_legs board part order (event.Leg (contract_at board.hour part) leg) takes.is_board takes.there takes.of_part next in
      let same : made_leg.leg ≡ leg = let e = made_leg.is in cc in
      subst (CanBeMade board part) same made_leg.can_be_made

  pub board-after : IsBoard (after_leg board part leg)
  board-after = leaves board part leg takes.is_board can-make

  pub takes-after : TakesOn (after_leg board part leg) part order
  takes-after = record {
    is_board = board-after;
    in_part = takes.in_part;
    there = subst (IsIn order) (sym (picked-same placed_by board.events (event.Leg (contract_at board.hour part) leg) refl)) takes.there;
    of_part = takes.of_part;
    in_hand = takes.in_hand;
  }

  -- ---- the rooms

  pub rooms-then : (arc : Arc) → room after (contract_quarters (contract_at board.hour part)) arc
      ≡ room_after (room board.events (contract_quarters (contract_at board.hour part))) (record { route = leg.route; lots = leg.lots }) arc
  rooms-then arc =
      let contract : Contract = contract_at board.hour part in
      let quarters_in = contract-hours (board.hour ∷ []) contract (inl refl) in
      let agree_after = agree-more (board.hour ∷ []) board.events takes.is_board.stands.history (event.Leg contract leg) agrees
      (next_leg-named board.grid order.name board.events (event.Leg contract leg) agrees.named_a next) in
      let before_same = room-agree (board.hour ∷ []) board.events takes.is_board.stands.history agrees (contract_quarters contract) quarters_in in
      let after_same = room-agree (board.hour ∷ []) after (and_then takes.is_board.stands.history (event.Leg contract leg)) agree_after (contract_quarters contract) quarters_in in
      let whole = rooms-after (graph_of takes.is_board.stands.setup) takes.is_board.stands.is_setup takes.is_board.stands.history (can-take board part order takes) order
      (event.Leg contract leg) its arc in
      let ours : room (and_then takes.is_board.stands.history (event.Leg contract leg)) (contract_quarters contract) arc
      ≡ room_after (room takes.is_board.stands.history (contract_quarters contract)) (record { route = leg.route; lots = leg.lots }) arc =
      subst (λ (l : Leg). room (and_then takes.is_board.stands.history (event.Leg contract leg)) (contract_quarters contract) arc
      ≡ room_after (room takes.is_board.stands.history (contract_quarters contract)) (record { route = l.route; lots = l.lots }) arc) its-leg
      (subst (λ (c : Contract). room (and_then takes.is_board.stands.history (event.Leg contract leg)) (contract_quarters c) arc
      ≡ room_after (room takes.is_board.stands.history (contract_quarters c)) (record { route = its.leg.route; lots = its.leg.lots }) arc) takes.of_part whole) in
      ap (λ (r : Arc → ℕ). r arc) after_same ∙ ours
      ∙ ap (λ (r : Arc → ℕ). room_after r (record { route = leg.route; lots = leg.lots }) arc) (sym before_same)

  -- ---- the order

  named : names leg order.name ≡ true
  named = ap (names leg) (sym leg-taker) ∙ names-taker leg

  filled-then : filled after order.name ≡ filled board.events order.name + leg.lots
  filled-then =
      let more = filled-more board.events (event.Leg (contract_at board.hour part) leg) order.name in
      let own : filled_by order.name (event.Leg (contract_at board.hour part) leg) ≡ leg.lots = ap (λ b. lots_if b leg.lots) named in
      omega (arith, more, own)

  pub left-then : left after order.name ≡ left board.events order.name - leg.lots
  left-then = left-leg board.events (contract_at board.hour part) leg order.name named

  moment-then : moment after order
      ≡ (if ends_peak order.order.kind (filled board.events order.name + leg.lots) then length board.events + 1 else moment board.events order)
  moment-then =
      moment-more board.hour board.events (event.Leg (contract_at board.hour part) leg) order (eq-eqb board.hour board.hour refl) (its-hour board part order takes)
      ∙ ap (λ es. if gives_moment order es (event.Leg (contract_at board.hour part) leg) then length es + 1 else moment board.events order) (hour-whole board takes.is_board)
      ∙ ap (λ b. if b then length board.events + 1 else moment board.events order) gives
    where
      gives : gives_moment order board.events (event.Leg (contract_at board.hour part) leg) ≡ ends_peak order.order.kind (filled board.events order.name + leg.lots)
      gives =
          ap (λ b. b && ends_peak order.order.kind (filled after order.name)) named
          ∙ ap (ends_peak order.order.kind) filled-then

  pub taker-then : taker_of after order ≡ after_fill (taker_of board.events order) leg.lots (length board.events + 1)
  taker-then =
      ap (λ f. taker_at order f (left after order.name) (moment after order)) filled-then
      ∙ ap (λ l. taker_at order (filled board.events order.name + leg.lots) l (moment after order)) left-then
      ∙ ap (taker_at order (filled board.events order.name + leg.lots) (left board.events order.name - leg.lots)) moment-then
      ∙ filled-is order (filled board.events order.name) (left board.events order.name) leg.lots (length board.events + 1) (moment board.events order)
      (has-peaks board part order takes) leg-some leg-shown
