use Rattle.std.proofs.Common.{◌∙◌, ◌++◌, ℕ, List, ap, get_or, length, pos, subst, sym}
use Rattle.std.proofs.lemmas.List.{drop_more}
use Rattle.zone_graph.specs.Rooms.{room_of}
use Rattle.zone_graph.proofs.Places.{at_place}
use Rattle.cut_proof.specs.Carrying.{FitTogether}
use Rattle.local_view.specs.Poured.{legs_with, rows_taken}
use Rattle.local_view.specs.declared.whole.LineOrder.{LineOrder}
use Rattle.local_view.proofs.Listed.{all-listed, one-order}
use Rattle.local_view.specs.Takers.{IsTaker}
use Rattle.local_view.proofs.listing.list_rows.Goals as goal

abbrev no_order : LineOrder
no_order = record { zone = 0; price = record { 0 = pos 0 }; lots = 0 }

pub loop-order-init : goal.loop-order-init
loop-order-init c = record {
  walking = record {
    size = ap length c.copy_from.ensures ∙ c.requires.size;
    fit = subst (λ (rooms : List (ℕ × ℕ)). FitTogether c.args.grid.now (room_of rooms)) (sym c.copy_from.ensures) c.requires.fit;
    places = c.requires.walk.places;
    knows = subst (λ (rooms : List (ℕ × ℕ)). IsTaker c.args.grid.now (room_of rooms) c.over-taker.result) (sym c.copy_from.ensures) c.over-taker.ensures.knows;
  };
  side = c.over-taker.ensures.side;
  zone = c.over-taker.ensures.zone;
  listed = ap (λ rows. rows ++ rows_taken c.args.grid.now c.args.side c.args.zone (room_of c.copy_from.new.self) 4294967295 c.args.orders.now) c.clear.ensures.items
      ∙ ap (λ rooms. rows_taken c.args.grid.now c.args.side c.args.zone (room_of rooms) 4294967295 c.args.orders.now) c.copy_from.ensures;
}

pub take-lots-requires-clause-other : goal.take-lots-requires-clause-other
take-lots-requires-clause-other c = c.requires.orders (get_or c.args.orders.now c.loop-order.order-index no_order) (at_place c.args.orders.now c.loop-order.order-index no_order c.loop-order-test.true)

pub loop-order-preserved : goal.loop-order-preserved
loop-order-preserved c = record {
  walking = c.take-lots.ensures.walking;
  side = c.take-lots.ensures.side ∙ c.loop-order.invariant.side;
  zone = c.take-lots.ensures.zone ∙ c.loop-order.invariant.zone;
  listed =
      let order = get_or c.args.orders.now c.loop-order.order-index no_order in
      let legs = legs_with c.args.grid.now (room_of c.loop-order.walk.rooms) in
      one-order c.args.grid.now c.args.side c.args.zone c.args.of_part.now c.args.orders.now c.loop-order.walk.rooms c.take-lots.new.walk.rooms c.loop-order.left c.take-lots.result c.loop-order.order-index
      c.loop-order.rows.items c.add_row.new.rows.items (legs c.loop-order.taker.side c.loop-order.taker.zone order.zone c.min.result) order c.loop-order.invariant.listed
      (drop_more c.args.orders.now c.loop-order.order-index no_order c.loop-order-test.true)
      (ap (λ s. legs s c.loop-order.taker.zone order.zone c.min.result) c.loop-order.invariant.side ∙ ap (λ z. legs c.args.side z order.zone c.min.result) c.loop-order.invariant.zone ∙ ap (legs c.args.side c.args.zone order.zone) c.min.ensures)
      c.take-lots.ensures.lots c.take-lots.ensures.rooms c.in_ok-add_row.ensures;
}

pub returns-clause-rows : goal.returns-clause-rows
returns-clause-rows c = all-listed c.args.grid.now c.args.side c.args.zone c.args.of_part.now c.args.orders.now c.loop-order.walk.rooms c.loop-order.left c.loop-order.order-index c.loop-order.rows.items c.loop-order.invariant.listed c.loop-order-test.false
