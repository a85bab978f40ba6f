-- The next rows add up to the most that can be obtained: they are the views of the board, and those of
-- the history that its events are of.
use Rattle.std.proofs.Common.{◌≡◌, ◌∙◌, ◌⊎◌, inl, inr, ℕ, ◌<◌, List, [], ◌∷◌, ◌++◌, filter, map, nat_lt, sum_by, refl, sym, ap, subst}
use Rattle.order_kinds.specs.declared.contract.Contract.{Contract}
use Rattle.order_kinds.specs.declared.side.Side.{Side}
use Rattle.order_kinds.specs.Contract.{contract_at}
use Rattle.order_kinds.specs.Side.{opposite}
use Rattle.laws_of_maximum.specs.FlowPlan.{bound_with}
use Rattle.zone_graph.specs.declared.route.Arc.{Arc}
use Rattle.zone_graph.specs.Graph.{Graph, HasZone, zone_count}
use Rattle.zone_graph.proofs.Membership.{from_map}
use Rattle.market_model.specs.declared.event.Event.{Event}
use Rattle.market_model.specs.declared.reply.ViewRow.{ViewRow}
use Rattle.market_model.specs.declared.setup.Setup.{Setup}
use Rattle.market_model.specs.Board.{BoardState, IsHourOf}
use Rattle.market_model.specs.Grid.{graph_of}
use Rattle.market_model.specs.History.{of_hour}
use Rattle.market_model.specs.Lines.{line}
use Rattle.market_model.specs.Orders.{Standing}
use Rattle.market_model.specs.View.{hidden_withdrawn, unlimited_taker, view, without_hidden}
use Rattle.market_model.specs.WellFormed.{IsHistory, IsMarketSetup}
use Rattle.laws_of_market.proofs.LocalAnswers.{unfilled_zones-agree}
use Rattle.laws_of_market.proofs.NamedByHour.{AreNamedByHour, IsNamedByHour}
use Rattle.laws_of_market.proofs.LocalStates.{Agree, agree-append}
use Rattle.laws_of_views.specs.Views.{bound_shown, zones_viewed}
use Rattle.laws_of_views.proofs.Viewed.{add_up}
use Rattle.local_view.specs.Kept.{AreAllNext, AreNext, Views, line_of}
use Rattle.local_view.specs.Rows.{LineRows}
use Rattle.local_view.specs.Sums.{AddUp, AllNextAddUp, NextAddUp}
use Rattle.local_view.proofs.Hours.{agree, line-of, rooms-of, view-of}

-- the withdrawals of what icebergs hide are named by their hours
hidden-named : (orders : List Standing) → AreNamedByHour (map hidden_withdrawn orders)
hidden-named orders e i = let from = from_map hidden_withdrawn e orders i in subst IsNamedByHour (sym from.2) tt

module _ (setup : Setup) (history : List Event) (is_setup : IsMarketSetup setup) (is_history : IsHistory setup history) (hour : ℕ) (events : List Event)
    (in_hour : of_hour hour history ≡ events) (part : ℕ) (side : Side) where
  abbrev graph : Graph
  graph = graph_of setup

  abbrev contract : Contract
  contract = contract_at hour part

  abbrev of : IsHourOf graph hour events
  of = record { setup = setup; history = history; over_grid = refl; is_setup = is_setup; fit = is_history.fit; in_hour = in_hour }

  -- without what is hidden they agree too
  shown-agree : Agree (hour ∷ []) (without_hidden events (contract_at hour part) side) (without_hidden history (contract_at hour part) side)
  shown-agree =
      subst (λ (orders : List Standing). Agree (hour ∷ []) (without_hidden events contract side) (history ++ map hidden_withdrawn (filter (λ (o : Standing). nat_lt o.shown o.left) orders)))
      (line-of graph hour events of part side)
      (agree-append (hour ∷ []) events history (map hidden_withdrawn (filter (λ (o : Standing). nat_lt o.shown o.left) (line events contract side))) (agree graph hour events of)
      (hidden-named (filter (λ (o : Standing). nat_lt o.shown o.left) (line events contract side))))

  zones-of : (zone : ℕ) → zones_viewed (graph_of setup) events (contract_at hour part) side zone ≡ zones_viewed (graph_of setup) history (contract_at hour part) side zone
  zones-of zone =
      unfilled_zones-agree (hour ∷ []) (without_hidden events contract side) (without_hidden history contract side) shown-agree graph 0 (unlimited_taker contract side zone) (inl refl)

  -- the bound is that of the history
  bound-of : (zone : ℕ) → bound_shown (graph_of setup) events (contract_at hour part) side (line events (contract_at hour part) side) (zones_viewed (graph_of setup) events (contract_at hour part) side zone)
      ≡ bound_shown (graph_of setup) history (contract_at hour part) side (line history (contract_at hour part) side) (zones_viewed (graph_of setup) history (contract_at hour part) side zone)
  bound-of zone =
      ap (λ (zones : List ℕ). bound_shown graph events contract side (line events contract side) zones) (zones-of zone)
      ∙ ap (λ (orders : List Standing). bound_shown graph events contract side orders (zones_viewed graph history contract side zone)) (line-of graph hour events of part side)
      ∙ ap (λ (rooms : Arc → ℕ). bound_with graph rooms (opposite side) (line history contract side) (λ (order : Standing). order.shown) (zones_viewed graph history contract side zone))
      (rooms-of graph hour events of part side)

  -- so the rows of a view add up
  view-adds : (zone : ℕ) → HasZone (graph_of setup) zone
      → (sum_by (λ (row : ViewRow). row.lots) (view (graph_of setup) events (contract_at hour part) side zone) ≡ 4294967295)
      ⊎ (sum_by (λ (row : ViewRow). row.lots) (view (graph_of setup) events (contract_at hour part) side zone)
      ≡ bound_shown (graph_of setup) events (contract_at hour part) side (line events (contract_at hour part) side) (zones_viewed (graph_of setup) events (contract_at hour part) side zone))
  view-adds zone there =
      let same = ap (λ (rows : List ViewRow). sum_by (λ (row : ViewRow). row.lots) rows) (view-of graph hour events of part side zone) in
      elim (add_up setup history contract side zone is_setup is_history there) [
        | inl all ↦ inl (same ∙ all)
        | inr bounded ↦ inr (same ∙ bounded ∙ sym (bound-of zone))
      ]

-- next rows that are the views of a board add up
pub next-adds : (board : BoardState) (part : ℕ) (side : Side) (zones : ℕ) (own : LineRows) → zones ≡ zone_count board.grid → AreNext board part side zones own
    → NextAddUp board part side own
next-adds board part side zones own count next = record {
  rows = next.rows;
  is = next.is;
  each = λ setup history zone of within.
      subst (AddUp board part side zone) (sym (next.each zone (subst (λ n. zone < n) (sym count) within)))
      (subst (λ (graph : Graph). HasZone graph zone
      → (sum_by (λ (row : ViewRow). row.lots) (view graph board.events (contract_at board.hour part) side zone) ≡ 4294967295)
      ⊎ (sum_by (λ (row : ViewRow). row.lots) (view graph board.events (contract_at board.hour part) side zone)
      ≡ bound_shown graph board.events (contract_at board.hour part) side (line board.events (contract_at board.hour part) side)
      (zones_viewed graph board.events (contract_at board.hour part) side zone)))
      of.over_grid (view-adds setup history of.is_setup of.is_history board.hour board.events of.in_hour part side zone) within);
}

pub all-add : (board : BoardState) (views : Views) → views.zones ≡ zone_count board.grid → AreAllNext board views → AllNextAddUp board views
all-add board views count next part side low = next-adds board part side views.zones (line_of views part side) count (next part side low)
