-- The views of an hour that change only near a change: two lists of the hour's events may be of two
-- histories, over two setups of one grid.
use Rattle.std.proofs.Common.{◌≡◌, ◌∙◌, ℕ, List, filter, map, refl, sym, ap, subst}
use Rattle.order_kinds.specs.declared.contract.Contract.{Contract}
use Rattle.order_kinds.specs.declared.side.Side.{Side}
use Rattle.order_kinds.specs.Contract.{contract_at}
use Rattle.order_kinds.specs.Period.{contract_quarters}
use Rattle.order_kinds.specs.Side.{opposite}
use Rattle.zone_graph.specs.declared.route.Arc.{Arc}
use Rattle.zone_graph.specs.Graph.{Graph}
use Rattle.zone_graph.specs.Steps.{IsRun}
use Rattle.market_model.specs.declared.event.Event.{Event}
use Rattle.market_model.specs.Board.{IsHourOf}
use Rattle.market_model.specs.Certificate.{zones_in_reach}
use Rattle.market_model.specs.Lines.{line}
use Rattle.market_model.specs.Room.{room}
use Rattle.market_model.specs.View.{view}
use Rattle.laws_of_rows.specs.declared.trades.Fill.{Fill}
use Rattle.laws_of_rows.specs.Depth.{AreInZones, after_fill, maker_of, next_fill}
use Rattle.laws_of_rows.specs.Filled.{row_in, rows_with}
use Rattle.laws_of_rows.proofs.Views.{makers-known, view-rows}
use Rattle.laws_of_views.specs.Nearby.{DifferWithin, HaveNoZoneInCommon, is_elsewhere, zones_of_view}
use Rattle.laws_of_views.proofs.Near.{fills, fills-run, found-agree, in_reach, reach-own}
use Rattle.laws_of_views.proofs.Running.{run-same}
use Rattle.local_view.proofs.Hours.{hour-graph, line-of, rooms-of, view-of}

module _ (graph : Graph) (hour : ℕ) (before after : List Event) (was : IsHourOf graph hour before) (is : IsHourOf graph hour after) (part : ℕ) (side : Side) (zone : ℕ)
    (touched : List ℕ) where
  -- what differs between the lists differs between the histories
  abbrev contract : Contract
  contract = contract_at hour part

  history-differ : DifferWithin graph before after (contract_at hour part) side touched → DifferWithin graph was.history is.history (contract_at hour part) side touched
  history-differ differ = record {
    orders =
        ap (λ os. map maker_of (filter (is_elsewhere touched) os)) (sym (line-of graph hour after is part side))
        ∙ differ.orders
        ∙ ap (λ os. map maker_of (filter (is_elsewhere touched) os)) (line-of graph hour before was part side);
    rooms = λ arc known apart.
        ap (λ (f : Arc → ℕ). f arc) (sym (rooms-of graph hour after is part side)) ∙ differ.rooms arc known apart ∙ ap (λ (f : Arc → ℕ). f arc) (rooms-of graph hour before was part side);
  }

  view-of-run : (events : List Event) (of : IsHourOf graph hour events) (trades : List Fill)
      → IsRun (next_fill graph side zone) after_fill (record { makers = map maker_of (line of.history contract side); room = room of.history (contract_quarters contract); left = 4294967295 }) trades
      → view graph of.history contract side zone ≡ map row_in (rows_with trades)
  view-of-run events of trades run =
      sym (view-rows graph (hour-graph graph hour events of) of.setup of.history of.fit contract side zone (room of.history (contract_quarters contract)) (λ arc on. refl) trades run)

  known-of : (events : List Event) (of : IsHourOf graph hour events) → AreInZones graph (map maker_of (line of.history contract side))
  known-of events of = subst (λ g. AreInZones g (map maker_of (line of.history contract side))) of.over_grid (makers-known of.setup of.history of.fit contract side)

  -- where the zones in reach are untouched the view is as it was
  pub view-near : DifferWithin graph before after (contract_at hour part) side touched → HaveNoZoneInCommon touched (zones_of_view graph before (contract_at hour part) side zone)
      → view graph after (contract_at hour part) side zone ≡ view graph before (contract_at hour part) side zone
  view-near differ apart =
      let of_graph = hour-graph graph hour before was in
      let rooms = room was.history (contract_quarters contract) in
      let trades = fills was.setup was.is_setup was.history was.fit contract side zone in
      let run = subst (λ g. IsRun (next_fill g side zone) after_fill (record { makers = map maker_of (line was.history contract side); room = rooms; left = 4294967295 }) trades)
      was.over_grid (fills-run was.setup was.is_setup was.history was.fit contract side zone) in
      let history-apart = subst (λ (r : Arc → ℕ). HaveNoZoneInCommon touched (zones_in_reach graph r (opposite side) zone)) (rooms-of graph hour before was part side) apart in
      let alike = found-agree graph of_graph was.history is.history contract side zone touched (history-differ differ) history-apart (known-of before was) (known-of after is) in
      view-of graph hour after is part side zone
      ∙ view-of-run after is trades
      (run-same graph of_graph side zone (in_reach graph rooms side zone) (reach-own graph of_graph rooms side zone)
      (record { makers = map maker_of (line was.history contract side); room = rooms; left = 4294967295 })
      (record { makers = map maker_of (line is.history contract side); room = room is.history (contract_quarters contract); left = 4294967295 }) trades alike run)
      ∙ sym (view-of-run before was trades run)
      ∙ sym (view-of graph hour before was part side zone)
