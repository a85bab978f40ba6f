-- Two lists of an hour's events that differ in no zone have the same views.
use Rattle.std.proofs.Common.{◌≡◌, ◌∙◌, inl, ℕ, List, [], ◌∷◌, filter, map, refl, sym, ap, subst}
use Rattle.order_kinds.specs.declared.contract.Contract.{Contract}
use Rattle.order_kinds.specs.declared.side.Side.{Side}
use Rattle.order_kinds.specs.Contract.{contract_at}
use Rattle.order_kinds.specs.Period.{contract_quarters}
use Rattle.zone_graph.specs.declared.route.Arc.{Arc}
use Rattle.zone_graph.specs.Graph.{Graph, HasArc, IsGraph}
use Rattle.zone_graph.specs.Steps.{IsRun}
use Rattle.market_model.specs.declared.event.Event.{Event}
use Rattle.market_model.specs.Board.{IsHourOf}
use Rattle.market_model.specs.Lines.{line}
use Rattle.market_model.specs.Orders.{Standing}
use Rattle.market_model.specs.Room.{room}
use Rattle.market_model.specs.View.{view}
use Rattle.laws_of_market.proofs.LocalAnswers.{view-agree}
use Rattle.laws_of_market.proofs.LocalLines.{contract-hours, line-agree}
use Rattle.laws_of_market.proofs.LocalStates.{room-agree}
use Rattle.laws_of_hours.proofs.NextEvents.{agrees}
use Rattle.laws_of_rows.specs.declared.trades.Fill.{Fill}
use Rattle.laws_of_rows.specs.declared.trades.Maker.{Maker}
use Rattle.laws_of_rows.specs.Depth.{Depth, after_fill, maker_of, next_fill}
use Rattle.laws_of_rows.proofs.Views.{view-rows}
use Rattle.laws_of_views.specs.Nearby.{DifferWithin, is_elsewhere}
use Rattle.laws_of_views.proofs.Near.{fills, fills-run}

-- elsewhere than in no zone is everywhere
all_elsewhere : (orders : List Standing) → filter (is_elsewhere []) orders ≡ orders
all_elsewhere [] = refl
all_elsewhere (order ∷ orders) = ap (λ l. order ∷ l) (all_elsewhere orders)

module _ (graph : Graph) (hour : ℕ) (before after : List Event) (was : IsHourOf graph hour before) (is : IsHourOf graph hour after) (part : ℕ) (side : Side) (zone : ℕ)
    (differ : DifferWithin graph before after (contract_at hour part) side []) where
  abbrev contract : Contract
  contract = contract_at hour part

  abbrev found_in : List Event → Depth
  found_in events = record { makers = map maker_of (line events (contract_at hour part) side); room = room events (contract_quarters (contract_at hour part)); left = 4294967295 }

  lines-of : (events : List Event) (of : IsHourOf graph hour events) → line events contract side ≡ line of.history contract side
  lines-of events of = line-agree (hour ∷ []) events of.history (agrees graph hour events of) contract side (inl refl)

  rooms-of : (events : List Event) (of : IsHourOf graph hour events) → room events (contract_quarters contract) ≡ room of.history (contract_quarters contract)
  rooms-of events of =
      room-agree (hour ∷ []) events of.history (agrees graph hour events of) (contract_quarters contract) (contract-hours (hour ∷ []) contract (inl refl))

  view-of : (events : List Event) (of : IsHourOf graph hour events) → view graph events contract side zone ≡ view graph of.history contract side zone
  view-of events of = view-agree (hour ∷ []) events of.history (agrees graph hour events of) graph contract side (inl refl) zone

  makers-same : map maker_of (line was.history contract side) ≡ map maker_of (line is.history contract side)
  makers-same =
      ap (map maker_of) (sym (lines-of before was) ∙ sym (all_elsewhere (line before contract side)))
      ∙ sym differ.orders
      ∙ ap (map maker_of) (all_elsewhere (line after contract side) ∙ lines-of after is)

  graph-own : IsGraph graph
  graph-own = subst IsGraph was.over_grid was.is_setup

  trades : List Fill
  trades = fills was.setup was.is_setup was.history was.fit contract side zone

  run-was : IsRun (next_fill graph side zone) after_fill (found_in was.history) trades
  unfolding trades
  run-was =
      subst (λ g. IsRun (next_fill g side zone) after_fill (found_in was.history) (trades)) was.over_grid
      (fills-run was.setup was.is_setup was.history was.fit contract side zone)

  rooms-there : (arc : Arc) → HasArc graph arc → room was.history (contract_quarters contract) arc ≡ room is.history (contract_quarters contract) arc
  rooms-there arc known =
      ap (λ (f : Arc → ℕ). f arc) (sym (rooms-of before was))
      ∙ sym (differ.rooms arc known refl)
      ∙ ap (λ (f : Arc → ℕ). f arc) (rooms-of after is)

  pub views-same : view graph after contract side zone ≡ view graph before contract side zone
  views-same =
      view-of after is
      ∙ sym (view-rows graph graph-own is.setup is.history is.fit contract side zone (room was.history (contract_quarters contract)) rooms-there trades
      (subst (λ (makers : List Maker). IsRun (next_fill graph side zone) after_fill (record { makers = makers; room = room was.history (contract_quarters contract); left = 4294967295 }) trades)
      makers-same run-was))
      ∙ view-rows graph graph-own was.setup was.history was.fit contract side zone (room was.history (contract_quarters contract)) (λ arc known. refl) trades run-was
      ∙ sym (view-of before was)
