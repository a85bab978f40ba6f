-- The trades of a taker, one more at a time.
use Rattle.std.proofs.Common.{◌≡◌, ◌∙◌, inl, inr, ℕ, ◌+◌, ◌-◌, ◌<◌, ◌≤◌, ◌&&◌, Bool, true, false, List, [], ◌∷◌, ◌++◌, map, min, Some, None, nat_lt, is_some, refl, sym, ap, subst, if◌then◌else◌, arith}
use Rattle.std.proofs.lemmas.Bool.{ltb-true, and_parts}
use Rattle.std.proofs.lemmas.List.{append-nil}
use Rattle.std.proofs.lemmas.List.Sums.{fold-append}
use Rattle.std.proofs.Math.Seq.{append_snoc}
use Rattle.std.specs.List.{find, list_any}
use Rattle.std.specs.Option.{option_and_then}
use Rattle.order_kinds.specs.declared.order.OrderName.{OrderName}
use Rattle.order_kinds.specs.declared.side.Side.{Side}
use Rattle.order_kinds.specs.Same.{same_name}
use Rattle.zone_graph.specs.declared.route.Arc.{Arc}
use Rattle.zone_graph.specs.declared.route.RouteLeg.{RouteLeg}
use Rattle.zone_graph.specs.Graph.{Graph, HasZone, IsGraph}
use Rattle.zone_graph.specs.Pour.{room_after}
use Rattle.zone_graph.specs.Rooms.{room_of}
use Rattle.zone_graph.specs.Route.{IsIn}
use Rattle.zone_graph.specs.Steps.{IsRun}
use Rattle.zone_graph.proofs.Membership.{IsIn-append, from_map}
use Rattle.zone_graph.proofs.Finding.{from_find}
use Rattle.zone_graph.proofs.Carrying.{carried-le, carried-room, carried-some, way-room, best_route-route}
use Rattle.cut_proof.specs.Cut.{HasRoomFor}
use Rattle.laws_of_market.proofs.Repeats.{bind-some, map-some}
use Rattle.cut_proof.proofs.Carrying.{after_leg}
use Rattle.laws_of_rows.specs.declared.trades.Fill.{Fill}
use Rattle.laws_of_rows.specs.declared.trades.Maker.{Maker}
use Rattle.laws_of_rows.specs.declared.trades.MakerRow.{MakerRow}
use Rattle.laws_of_rows.specs.Depth.{AreInZones, Depth, after_fill, buyer_zone, can_fill, crosses_any, depth_of, fill_over, fill_with, next_fill, route_with, seller_zone, taken_of}
use Rattle.laws_of_rows.specs.Filled.{AreRowsFilled, CanAdd, is_row_of, row_with, rows_with, with_fill, with_lots}

-- a trade as a leg of a pour
abbrev pub carried_by : Fill → RouteLeg
carried_by fill = record { route = fill.route; lots = fill.lots }

-- the next trade: with a maker, over a route that has room for it, of a lot at least and no more
-- than is left
pub record IsFill (graph : Graph) (side : Side) (zone : ℕ) (depth : Depth) (fill : Fill) : Type 0 where
  pub with : Maker
  pub found : find (can_fill graph depth.room side zone) depth.makers ≡ Some with
  pub is_in : IsIn with depth.makers
  pub named : fill.maker ≡ with.name
  pub fits : HasRoomFor graph depth.room (seller_zone side zone with) (buyer_zone side zone with) (carried_by fill)
  pub some : 1 ≤ fill.lots
  pub enough : fill.lots ≤ depth.left
  pub shows : fill.lots ≤ with.left

pub next_fill-is : (graph : Graph) (side : Side) (zone : ℕ) (depth : Depth) (fill : Fill) → IsGraph graph → next_fill graph side zone depth ≡ Some fill
    → IsFill graph side zone depth fill
next_fill-is graph side zone depth fill is e = by (nat_lt 0 depth.left) refl e
  where
    by : (b : Bool) → nat_lt 0 depth.left ≡ b
        → (if b then option_and_then (fill_with graph depth.room side zone depth.left) (find (can_fill graph depth.room side zone) depth.makers) else None) ≡ Some fill
        → IsFill graph side zone depth fill
    by false left f = cc
    by true left f =
        let some_left : 0 < depth.left = ltb-true 0 depth.left left in
        let found = bind-some (fill_with graph depth.room side zone depth.left) (find (can_fill graph depth.room side zone) depth.makers) fill f in
        let maker = from_find (can_fill graph depth.room side zone) found.0 depth.makers found.1 in
        let front = and_parts (nat_lt 0 found.0.left && crosses_any side found.0) (is_some (route_with graph depth.room side zone found.0)) maker.1 in
        let first = and_parts (nat_lt 0 found.0.left) (crosses_any side found.0) front.0 in
        let some_shown : 0 < found.0.left = ltb-true 0 found.0.left first.0 in
        let route = map-some (fill_over depth.room depth.left found.0) (route_with graph depth.room side zone found.0) fill found.2 in
        let best = best_route-route graph depth.room (seller_zone side zone found.0) (buyer_zone side zone found.0) route.0 is route.1 in
        let most = carried-le depth.room (min depth.left found.0.left) route.0 in
        subst (IsFill graph side zone depth) route.2 (record {
          with = found.0;
          found = found.1;
          is_in = maker.0;
          named = refl;
          fits = record { is_route = best; has_room = λ arc i. carried-room depth.room (min depth.left found.0.left) route.0 arc i };
          some = carried-some depth.room (min depth.left found.0.left) route.0 (way-room graph depth.room (seller_zone side zone found.0) (buyer_zone side zone found.0) route.0 best.way) (omega arith);
          enough = omega arith;
          shows = omega arith;
        })

-- ---- trade by trade

-- the first trades, the depth after them and their rows
pub record IsSoFar (graph : Graph) (side : Side) (zone : ℕ) (start now : Depth) (rows : List MakerRow) : Type 0 where
  pub fills : List Fill
  pub onward : (rest : List Fill) → IsRun (next_fill graph side zone) after_fill now rest → IsRun (next_fill graph side zone) after_fill start (fills ++ rest)
  pub are : rows ≡ rows_with fills
  pub most : (row : MakerRow) → IsIn row rows → row.row.lots + now.left ≤ 4294967295
  pub fits : now.left ≤ 4294967295

-- trades that go on
module _ (graph : Graph) (side : Side) (zone : ℕ) (start now : Depth) (rows : List MakerRow) (fill : Fill) (is : IsGraph graph)
    (so_far : IsSoFar graph side zone start now rows) (next : next_fill graph side zone now ≡ Some fill) where
  fill_is : IsFill graph side zone now fill
  fill_is = next_fill-is graph side zone now fill is next

  pub can_add : CanAdd fill.lots rows
  can_add = record { each = λ row i. let most = so_far.most row i in let enough = fill_is.enough in omega (arith, most, enough) }

  with_lots-most : (row : MakerRow) → row.row.lots + now.left ≤ 4294967295 → (with_lots fill.maker fill.lots row).row.lots + (now.left - fill.lots) ≤ 4294967295
  with_lots-most row most = by (same_name row.maker fill.maker)
    where
      by : (b : Bool) → (if b then record { maker = row.maker; row = record { price = row.row.price; lots = row.row.lots + fill.lots } } else row).row.lots + (now.left - fill.lots) ≤ 4294967295
      by true = let enough = fill_is.enough in omega (arith, most, enough)
      by false = omega (arith, most)

  rows-most : (row : MakerRow) → IsIn row (with_fill rows fill) → row.row.lots + (now.left - fill.lots) ≤ 4294967295
  rows-most row i = by (list_any (is_row_of fill.maker) rows) i
    where
      by : (b : Bool) → IsIn row (if b then map (with_lots fill.maker fill.lots) rows else (rows ++ row_with fill ∷ [])) → row.row.lots + (now.left - fill.lots) ≤ 4294967295
      by true j =
          let from = from_map (with_lots fill.maker fill.lots) row rows j in
          subst (λ (r : MakerRow). r.row.lots + (now.left - fill.lots) ≤ 4294967295) (sym from.2) (with_lots-most from.0 (so_far.most from.0 from.1))
      by false j = elim (IsIn-append row rows (row_with fill ∷ []) j) [
        | inl k ↦ let most = so_far.most row k in omega (arith, most)
        | inr k ↦ elim k [
          | inl s ↦ subst (λ (r : MakerRow). r.row.lots + (now.left - fill.lots) ≤ 4294967295) (sym s) (let enough = fill_is.enough in let fits = so_far.fits in omega (arith, fits, enough))
          | inr n ↦ absurd n
        ]
      ]

  pub more-so_far : IsSoFar graph side zone start (after_fill now fill) (with_fill rows fill)
  more-so_far = record {
    fills = so_far.fills ++ fill ∷ [];
    onward = λ rest run. subst (IsRun (next_fill graph side zone) after_fill start) (sym (append_snoc so_far.fills fill rest)) (so_far.onward (fill ∷ rest) (next, run));
    are = ap (λ rs. with_fill rs fill) so_far.are ∙ sym (fold-append with_fill [] so_far.fills (fill ∷ []));
    most = rows-most;
    fits = let before = so_far.fits in omega (arith, before);
  }

pub all-so_far : (graph : Graph) (side : Side) (zone : ℕ) (start now : Depth) (rows : List MakerRow) → IsSoFar graph side zone start now rows
    → next_fill graph side zone now ≡ None → AreRowsFilled graph side zone start rows
all-so_far graph side zone start now rows so_far none = record {
  fills = so_far.fills;
  run = subst (IsRun (next_fill graph side zone) after_fill start) (append-nil so_far.fills) (so_far.onward [] none);
  are = so_far.are;
}

-- ---- makers and rooms

taken-zone : (name : OrderName) (lots : ℕ) (maker : Maker) → (taken_of name lots maker).zone ≡ maker.zone
taken-zone name lots maker = by (same_name maker.name name)
  where
    by : (b : Bool) → (if b then record maker { left = maker.left - lots } else maker).zone ≡ maker.zone
    by true = refl
    by false = refl

pub taken-in_zones : (graph : Graph) (name : OrderName) (lots : ℕ) (makers : List Maker) → AreInZones graph makers → AreInZones graph (map (taken_of name lots) makers)
taken-in_zones graph name lots makers known = record {
  each = λ maker i.
      let from = from_map (taken_of name lots) maker makers i in
      subst (HasZone graph) (sym (ap (λ (m : Maker). m.zone) from.2 ∙ taken-zone name lots from.0)) (known.each from.0 from.1);
}

-- the depth after a trade, from what the makers, the rooms and what is left then are
pub depth-after : (makers makers_after : List Maker) (rooms rooms_after : List (ℕ × ℕ)) (left left_after : ℕ) (fill : Fill) (route : List Arc)
    → makers_after ≡ map (taken_of fill.maker fill.lots) makers → route ≡ fill.route
    → ((arc : Arc) → room_of rooms_after arc ≡ room_after (room_of rooms) (record { route = route; lots = fill.lots }) arc) → left_after ≡ left - fill.lots
    → after_fill (depth_of makers rooms left) fill ≡ depth_of makers_after rooms_after left_after
depth-after makers makers_after rooms rooms_after left left_after fill route are_makers is_route are_rooms is_left =
    let over = after_leg (room_of rooms) (room_of rooms_after) (carried_by fill) route is_route are_rooms in
    λ i. record { makers = sym are_makers i; room = over i; left = sym is_left i }

-- rows that are those after some trades, whatever the depth is written as
pub so_far-at : (graph : Graph) (side : Side) (zone : ℕ) (start now after : Depth) (rows rows_after : List MakerRow) (fill : Fill) → IsGraph graph
    → IsSoFar graph side zone start now rows → next_fill graph side zone now ≡ Some fill → after_fill now fill ≡ after → rows_after ≡ with_fill rows fill
    → IsSoFar graph side zone start after rows_after
so_far-at graph side zone start now after rows rows_after fill is so_far next is_after are =
    subst (λ d. IsSoFar graph side zone start d rows_after) is_after
    (subst (IsSoFar graph side zone start (after_fill now fill)) (sym are) (more-so_far graph side zone start now rows fill is so_far next))
