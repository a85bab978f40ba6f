-- What a taking obtains is the most: its legs, over the history whose hour a board stands for.
use Rattle.std.proofs.Common.{◌≡◌, ◌∙◌, ◌⊎◌, inl, inr, ℕ, ◌+◌, ◌<◌, ◌≤◌, true, List, [], ◌∷◌, ◌++◌, fold, length, Some, refl, sym, ap, subst, arith}
use Rattle.std.proofs.lemmas.List.{drop_at}
use Rattle.order_kinds.specs.declared.contract.Contract.{Contract}
use Rattle.order_kinds.specs.declared.order.Order.{Order}
use Rattle.order_kinds.specs.Period.{contract_quarters}
use Rattle.order_kinds.specs.Side.{opposite}
use Rattle.zone_graph.specs.declared.route.Arc.{Arc}
use Rattle.zone_graph.specs.Graph.{Graph, HasZone, IsGraph}
use Rattle.zone_graph.specs.Route.{IsIn, has}
use Rattle.zone_graph.specs.Steps.{IsRun}
use Rattle.market_model.specs.declared.event.Event.{Event}
use Rattle.market_model.specs.Board.{BoardState, IsBoard, with_events}
use Rattle.market_model.specs.Certificate.{crossing_lots, zones_in_reach}
use Rattle.market_model.specs.History.{and_then}
use Rattle.market_model.specs.Lines.{line}
use Rattle.market_model.specs.Orders.{Placed, Standing, left, placed}
use Rattle.market_model.specs.Room.{room}
use Rattle.market_model.specs.Taking.{next_leg, take}
use Rattle.laws_of_market.proofs.Falls.{take-run}
use Rattle.laws_of_market.proofs.LocalLines.{contract-hours, line-agree, take-agree, take-named}
use Rattle.laws_of_market.proofs.LocalStates.{Agree, agree-append, left-agree, room-agree}
use Rattle.laws_of_market.proofs.Repeats.{fold-and_then, run-end}
use Rattle.laws_of_maximum.specs.FlowPlan.{FlowPlan, bound_with, value_of}
use Rattle.laws_of_maximum.specs.Takings.{HasNoDelta, lots_traded}
use Rattle.laws_of_maximum.proofs.BoundsFall.{left_bound}
use Rattle.laws_of_maximum.proofs.Duality.{no_plan_beats_bound}
use Rattle.laws_of_maximum.proofs.Runs.{HasTaken, ended, own_reached, taken-by}
use Rattle.laws_of_boards.proofs.Shared.{board-graph}
use Rattle.match_core.specs.declared.taker.Taker.{Taker}
use Rattle.match_core.specs.Takers.{taker_of}
use Rattle.match_core.specs.Takings.{HasEntered, HasObtainedTheMost, IsPlanOn, after_taking, bound_on, lots_made, orders_on, rooms_on, zones_on}
use Rattle.match_core.specs.Walks.{TakesOn}
use Rattle.match_core.proofs.Orders.{agree, can-take, contract-hour, in-zone, its-hour, line-zone, one-name, takes-start, there-whole}

module _ (board : BoardState) (part : ℕ) (order : Placed) (takes : TakesOn board part order) (flat : HasNoDelta order.order.kind) where
  abbrev graph : Graph
  graph = board.grid

  abbrev asked : Order
  asked = order.order

  abbrev history : List Event
  history = takes.is_board.stands.history

  abbrev hours : List ℕ
  hours = board.hour ∷ []

  abbrev legs : List Event
  legs = take graph board.events order.name

  is_graph : IsGraph graph
  is_graph = board-graph board takes.is_board

  same : Agree hours board.events history
  same = agree board part order takes

  in_hour : asked.contract.hour ≡ board.hour
  in_hour = contract-hour board part order takes

  -- the legs are those of the history
  run : IsRun (next_leg graph order.name) and_then history legs
  run =
      let whole = takes.is_board.stands in
      let its : IsRun (next_leg graph order.name) and_then history (take graph history order.name) =
      subst (λ g. IsRun (next_leg g order.name) and_then history (take g history order.name)) whole.over_grid (take-run whole.setup whole.is_setup history whole.fit order.name) in
      subst (IsRun (next_leg graph order.name) and_then history)
      (sym (take-agree hours board.events history graph order.name same (inl (its-hour board part order takes)))) its

  taken : (zones : List ℕ) → HasTaken graph is_graph order flat history legs zones
  taken zones = taken-by graph is_graph order flat history legs zones (can-take board part order takes) (there-whole board part order takes) run

  abbrev last : List Event
  last = fold and_then history legs

  -- which stand behind it
  after : Agree hours (board.events ++ legs) last
  after = subst (Agree hours (board.events ++ legs)) (sym (fold-and_then history legs))
      (agree-append hours board.events history legs same (take-named graph board.events order.name same.named_a))

  left_before : left board.events order.name ≡ left history order.name
  left_before = left-agree hours board.events history same order.name (inl (its-hour board part order takes))

  left_after : left (board.events ++ legs) order.name ≡ left last order.name
  left_after = left-agree hours (board.events ++ legs) last after order.name (inl (its-hour board part order takes))

  rooms_before : room board.events (contract_quarters asked.contract) ≡ room history (contract_quarters asked.contract)
  rooms_before = room-agree hours board.events history same (contract_quarters asked.contract) (contract-hours hours asked.contract (inl in_hour))

  rooms_after : room (board.events ++ legs) (contract_quarters asked.contract) ≡ room last (contract_quarters asked.contract)
  rooms_after = room-agree hours (board.events ++ legs) last after (contract_quarters asked.contract) (contract-hours hours asked.contract (inl in_hour))

  orders_before : orders_on board asked ≡ line history asked.contract (opposite asked.side)
  orders_before = line-agree hours board.events history same asked.contract (opposite asked.side) (inl in_hour)

  -- the zones in reach where they end
  abbrev zones : List ℕ
  zones = zones_on (with_events board (board.events ++ legs)) asked

  zones_are : zones ≡ zones_in_reach graph (room last (contract_quarters asked.contract)) asked.side asked.zone
  zones_are = ap (λ (r : Arc → ℕ). zones_in_reach graph r asked.side asked.zone) rooms_after

  own : has asked.zone zones ≡ true
  own = subst (λ z. has asked.zone z ≡ true) (sym zones_are)
      (own_reached graph is_graph order flat last (taken []).can (taken []).there (in-zone board part order takes))

  bound_is : bound_on board asked zones ≡ left_bound graph history asked zones
  bound_is =
      ap (λ (r : Arc → ℕ). bound_with graph r asked.side (orders_on board asked) (crossing_lots asked) zones) rooms_before
      ∙ ap (λ orders. bound_with graph (room history (contract_quarters asked.contract)) asked.side orders (crossing_lots asked) zones) orders_before

  sums : lots_traded legs + left (board.events ++ legs) order.name ≡ left board.events order.name
  sums = let from = (taken []).from_left in omega (arith, from, left_before, left_after)

  reaches : (left (board.events ++ legs) order.name ≡ 0) ⊎ (lots_traded legs ≡ bound_on board asked zones)
  reaches =
      let none = run-end (next_leg graph order.name) and_then history legs run in
      elim (ended graph is_graph order flat last (taken []).can (taken []).there (in-zone board part order takes) none) [
        | inl filled ↦ inl (left_after ∙ filled)
        | inr nothing ↦
            let no_more : left_bound graph last asked zones ≡ 0 = ap (left_bound graph last asked) zones_are ∙ nothing in
            let from = (taken zones).from_bound own in
            inr (omega (arith, from, no_more, bound_is))
      ]

  known : (other : Standing) → IsIn other (orders_on board asked) → HasZone graph other.order.zone
  known other i =
      line-zone board part order takes (opposite asked.side) other
      (subst (λ (c : Contract). IsIn other (line board.events c (opposite asked.side))) takes.of_part i)

  most : (plan : FlowPlan) → IsPlanOn board asked plan → (left (board.events ++ legs) order.name ≡ 0) ⊎ (value_of (orders_on board asked) plan ≤ lots_traded legs)
  most plan planned = elim reaches [
    | inl filled ↦ inl filled
    | inr bound ↦ inr (subst (λ n. value_of (orders_on board asked) plan ≤ n) (sym bound)
        (no_plan_beats_bound graph (rooms_on board asked) asked.side asked.zone (orders_on board asked) (crossing_lots asked) plan zones is_graph known planned own))
  ]

  made_are : lots_made board (after_taking board order.name) ≡ lots_traded legs
  made_are = ap lots_traded (drop_at board.events legs (length board.events) refl)

  pub obtains : HasObtainedTheMost board (after_taking board order.name) asked (left board.events order.name) (left (board.events ++ legs) order.name)
  obtains = record {
    made = ap (λ n. n + left (board.events ++ legs) order.name) made_are ∙ sums;
    reached = elim reaches [ inl filled ↦ inl filled | inr bound ↦ inr (made_are ∙ bound) ];
    most = λ plan planned. elim (most plan planned) [
      | inl filled ↦ inl filled
      | inr least ↦ inr (subst (λ n. value_of (orders_on board asked) plan ≤ n) (sym made_are) least)
    ];
  }

-- an order that has just entered, and what stands of it where its taking has ended
pub obtains-most : (start now : BoardState) (part : ℕ) (taker rest : Taker) → part < start.parts → start.hand ≡ Some taker.name.number → HasEntered start part taker → IsBoard start
    → now ≡ after_taking start taker.name
    → ((order : Placed) → IsIn order (placed start.events) → order.name ≡ taker.name → rest ≡ taker_of now.events order)
    → (order : Placed) → IsIn order (placed start.events) → order.name ≡ taker.name → HasNoDelta order.order.kind
    → HasObtainedTheMost start now order.order taker.left rest.left
obtains-most start now part taker rest in_part in_hand entered is_board made stands order there named flat =
    let takes = takes-start start part taker in_part in_hand entered is_board in
    let its_name : taker.name ≡ entered.order.name = ap (λ (t : Taker). t.name) entered.is in
    let one : order ≡ entered.order = one-name start part entered.order takes order there (named ∙ its_name) in
    let own : TakesOn start part order = subst (TakesOn start part) (sym one) takes in
    let came : taker.left ≡ left start.events order.name = ap (λ (t : Taker). t.left) entered.is ∙ ap (λ (p : Placed). left start.events p.name) (sym one) in
    let then : now ≡ after_taking start order.name = made ∙ ap (after_taking start) (sym named) in
    let stays : rest.left ≡ left (after_taking start order.name).events order.name =
    ap (λ (t : Taker). t.left) (stands order there named) ∙ ap (λ (b : BoardState). left b.events order.name) then in
    subst (λ n. HasObtainedTheMost start now order.order n rest.left) (sym came)
    (subst (λ n. HasObtainedTheMost start now order.order (left start.events order.name) n) (sym stays)
    (subst (λ b. HasObtainedTheMost start b order.order (left start.events order.name) (left (after_taking start order.name).events order.name)) (sym then)
    (obtains start part order own flat)))
