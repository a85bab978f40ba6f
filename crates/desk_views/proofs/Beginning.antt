-- The views of an hour without events are empty, and no arc has room.
use Rattle.std.proofs.Common.{◌≡◌, ◌∙◌, ◌<◌, ◌≤◌, ℕ, zero, suc, [], get_or, length, replicate, map, None, refl, sym, ap, subst, arith}
use Rattle.std.proofs.lemmas.List.{get_or-replicate}
use Rattle.order_kinds.specs.declared.contract.Contract.{Contract}
use Rattle.order_kinds.specs.declared.side.Side.{Side}
use Rattle.order_kinds.specs.declared.side.Side.TheVariants.{Buy, Sell}
use Rattle.order_kinds.specs.Contract.{contract_at}
use Rattle.order_kinds.specs.Period.{contract_quarters}
use Rattle.quarter_capacity.specs.Capacity.{most_remaining}
use Rattle.zone_graph.specs.declared.route.Arc.{Arc}
use Rattle.zone_graph.specs.Graph.{Graph, IsGraph, zone_count}
use Rattle.market_model.specs.Lines.{line}
use Rattle.market_model.specs.Room.{room}
use Rattle.market_model.specs.View.{view}
use Rattle.laws_of_rows.specs.Depth.{maker_of, next_fill}
use Rattle.laws_of_rows.proofs.Views.{view-rows}
use Rattle.local_view.specs.Kept.{Views, empty_part, empty_rows, line_of, no_part, on_side}
use Rattle.local_view.specs.Rows.{LineRows}
use Rattle.kept_hour.specs.State.{empty_board}
use Rattle.desk_views.specs.Desk.{DeskState}
use Rattle.desk_views.specs.Insides.{HasNoRoom}
use Rattle.desk_views.specs.Standing.{StandAt}

no_line : (contract : Contract) (side : Side) → line [] contract side ≡ []
unfolding line
no_line contract side = refl

nothing_taken : (graph : Graph) (side : Side) (zone : ℕ) (room_in : Arc → ℕ) (contract : Contract) (of : Side)
    → next_fill graph side zone (record { makers = map maker_of (line [] contract of); room = room_in; left = 4294967295 }) ≡ None
nothing_taken graph side zone room_in contract of =
    ap (λ orders. next_fill graph side zone (record { makers = map maker_of orders; room = room_in; left = 4294967295 })) (no_line contract of)

view-none : (graph : Graph) → IsGraph graph → (contract : Contract) (side : Side) (zone : ℕ) → view graph [] contract side zone ≡ []
view-none graph is contract side zone =
    sym (view-rows graph is (record { hours = 24; zones = graph.zones; borders = graph.borders; callers = [] }) [] tt contract side zone (room [] (contract_quarters contract)) (λ arc known. refl) []
    (nothing_taken graph side zone (room [] (contract_quarters contract)) contract side))

room-none : (hour part : ℕ) (arc : Arc) → part < 7 → room [] (contract_quarters (contract_at hour part)) arc ≡ 0
room-none hour zero arc low = refl
room-none hour (suc zero) arc low = refl
room-none hour (suc (suc zero)) arc low = refl
room-none hour (suc (suc (suc zero))) arc low = refl
room-none hour (suc (suc (suc (suc zero)))) arc low = refl
room-none hour (suc (suc (suc (suc (suc zero))))) arc low = refl
room-none hour (suc (suc (suc (suc (suc (suc zero)))))) arc low = refl
room-none hour (suc (suc (suc (suc (suc (suc (suc part))))))) arc low = absurd (let no : ⊥ = omega (arith, low) in no)

module _ (graph : Graph) (is : IsGraph graph) (desk : DeskState) (views : desk.views ≡ record { zones = zone_count graph; lines = replicate 7 (empty_part (zone_count graph)); made = 0 })
    (rooms : (part : ℕ) → part < 7 → HasNoRoom graph (get_or desk.rooms part [])) where
  empty_line : (part : ℕ) (side : Side) → part < 7 → line_of desk.views part side ≡ empty_rows (zone_count graph)
  empty_line part side low =
      ap (λ (v : Views). line_of v part side) views
      ∙ ap (λ p. on_side p side) (get_or-replicate 7 part (empty_part (zone_count graph)) no_part low) ∙ by side
    where
      by : (s : Side) → on_side (empty_part (zone_count graph)) s ≡ empty_rows (zone_count graph)
      by Buy = refl
      by Sell = refl

  pub begins : (hour : ℕ) → StandAt (empty_board graph hour) desk
  begins hour = record {
    zones = ap (λ (v : Views). v.zones) views;
    parts = ap (λ (v : Views). length v.lines) views;
    kept = λ part side zone low there.
        ap (λ (l : LineRows). get_or l.kept zone []) (empty_line part side low)
        ∙ get_or-replicate (zone_count graph) zone [] [] there
        ∙ sym (view-none graph is (contract_at hour part) side zone);
    rooms = λ part low. record {
      size = (rooms part low).0;
      are = λ arc known. (rooms part low).1 arc ∙ sym (room-none hour part arc low);
      most = λ arc known. subst (λ n. n ≤ most_remaining) (sym ((rooms part low).1 arc)) (omega arith);
    };
  }
