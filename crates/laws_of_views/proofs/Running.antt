-- The trades of a taker depend only on the makers and the rooms in reach of its zone.
use Rattle.std.proofs.Common.{◌≡◌, ◌∙◌, ℕ, ◌-◌, Bool, true, false, ◌&&◌, List, [], ◌∷◌, filter, map, min, nat_lt, Option, Some, None, is_some, refl, sym, ap, if◌then◌else◌}
use Rattle.std.proofs.lemmas.Bool.{true≢false, and_parts}
use Rattle.std.specs.List.{find}
use Rattle.std.specs.Option.{option_and_then, option_map}
use Rattle.order_kinds.specs.declared.order.OrderName.{OrderName}
use Rattle.order_kinds.specs.declared.side.Side.{Side}
use Rattle.order_kinds.specs.declared.side.Side.TheVariants.{Buy, Sell}
use Rattle.order_kinds.specs.Same.{same_name}
use Rattle.zone_graph.specs.declared.route.Arc.{Arc}
use Rattle.zone_graph.specs.Graph.{Graph, IsGraph}
use Rattle.zone_graph.specs.Route.{IsWay}
use Rattle.zone_graph.specs.Steps.{IsRun}
use Rattle.zone_graph.proofs.Carrying.{best_route-route}
use Rattle.cut_proof.proofs.SameRooms.{carried-same}
use Rattle.cut_proof.proofs.Ways.{way_has_arc}
use Rattle.laws_of_market.proofs.Restrict.{filter-same, find-filter, find-same, filter-map}
use Rattle.laws_of_rows.specs.declared.trades.Fill.{Fill}
use Rattle.laws_of_rows.specs.declared.trades.Maker.{Maker}
use Rattle.laws_of_rows.specs.Depth.{Depth, after_fill, buyer_zone, can_fill, crosses_any, fill_over, fill_with, next_fill, route_with, seller_zone, taken_of}
use Rattle.laws_of_rows.proofs.Fills.{carried_by, next_fill-is}
use Rattle.laws_of_views.proofs.Agreement.{Agree, AreInside, agree-after, from-inside, routes-from, routes-to, to-inside}

taken-zone : (name : OrderName) (lots : ℕ) (maker : Maker) → (taken_of name lots maker).zone ≡ maker.zone
taken-zone name lots maker = by (same_name maker.name name)
  where
    by : (b : Bool) → (if b then record maker { left = maker.left - lots } else maker).zone ≡ maker.zone
    by true = refl
    by false = refl

module _ (graph : Graph) (is : IsGraph graph) (side : Side) (zone : ℕ) (inside : ℕ → Bool) (own : inside zone ≡ true) where
  abbrev pub maker_inside : Maker → Bool
  maker_inside maker = inside maker.zone

  -- two depths agree inside
  pub record AgreeInside (one two : Depth) : Type 0 where
    pub makers : filter (λ (m : Maker). inside m.zone) one.makers ≡ filter (λ (m : Maker). inside m.zone) two.makers
    pub rooms : Agree graph side inside one.room two.room
    pub left : one.left ≡ two.left

  -- ---- one trade

  module _ (room other : Arc → ℕ) (agree : Agree graph side inside room other) where
    -- a way between the taker and a maker stays inside
    trade-inside : (maker : Maker) (arcs : List Arc) → IsWay graph room (seller_zone side zone maker) arcs (buyer_zone side zone maker)
        → (inside maker.zone ≡ true) × AreInside graph side inside arcs
    trade-inside maker arcs way = on side agree way
      where
        on : (s : Side) → Agree graph s inside room other → IsWay graph room (seller_zone s zone maker) arcs (buyer_zone s zone maker)
            → (inside maker.zone ≡ true) × AreInside graph s inside arcs
        on Sell a w = to-inside graph inside room other maker.zone zone arcs a own w
        on Buy a w = from-inside graph inside room other zone maker.zone arcs a own w

    same-route : (maker : Maker) → route_with graph room side zone maker ≡ route_with graph other side zone maker
    same-route maker = on side agree
      where
        on : (s : Side) → Agree graph s inside room other → route_with graph room s zone maker ≡ route_with graph other s zone maker
        on Sell a = routes-to graph is inside room other maker.zone zone a own
        on Buy a = routes-from graph is inside room other zone maker.zone a own

    -- who can trade is inside
    can-inside : (maker : Maker) → can_fill graph room side zone maker ≡ true → maker_inside maker ≡ true
    can-inside maker can =
        by (route_with graph room side zone maker) refl
        (and_parts (nat_lt 0 maker.left && crosses_any side maker) (is_some (route_with graph room side zone maker)) can).1
      where
        by : (o : Option (List Arc)) → route_with graph room side zone maker ≡ o → is_some (route_with graph room side zone maker) ≡ true → maker_inside maker ≡ true
        by None e there = absurd (true≢false (sym there ∙ ap is_some e))
        by (Some route) e there =
            (trade-inside maker route (best_route-route graph room (seller_zone side zone maker) (buyer_zone side zone maker) route is e).way).0

    same-can : (maker : Maker) → can_fill graph room side zone maker ≡ can_fill graph other side zone maker
    same-can maker = ap (λ o. nat_lt 0 maker.left && crosses_any side maker && is_some o) (same-route maker)

    -- the trade with a maker is the same
    same-fill : (left : ℕ) (maker : Maker) → fill_with graph room side zone left maker ≡ fill_with graph other side zone left maker
    same-fill left maker =
        by (route_with graph room side zone maker) refl
        ∙ ap (option_map (fill_over other left maker)) (same-route maker)
      where
        at : List Arc → ℕ → Fill
        at route lots = record { maker = maker.name; price = maker.price; lots = lots; route = route }

        by : (o : Option (List Arc)) → route_with graph room side zone maker ≡ o → option_map (fill_over room left maker) o ≡ option_map (fill_over other left maker) o
        by None e = refl
        by (Some route) e =
            let way = (best_route-route graph room (seller_zone side zone maker) (buyer_zone side zone maker) route is e).way in
            ap (λ lots. Some (at route lots)) (carried-same room other (min left maker.left) route (λ arc i.
            agree.same arc (way_has_arc graph room (seller_zone side zone maker) (buyer_zone side zone maker) route arc way i)
            ((trade-inside maker route way).1 arc i).0))

    -- the maker that is found is the same
    same-found : (makers others : List Maker) → filter maker_inside makers ≡ filter maker_inside others
        → find (can_fill graph room side zone) makers ≡ find (can_fill graph other side zone) others
    same-found makers others alike =
        sym (find-filter (can_fill graph room side zone) maker_inside makers (λ maker i. can-inside maker))
        ∙ ap (find (can_fill graph room side zone)) alike
        ∙ find-filter (can_fill graph room side zone) maker_inside others (λ maker i. can-inside maker)
        ∙ find-same (can_fill graph room side zone) (can_fill graph other side zone) others (λ maker i. same-can maker)

  -- ---- trade by trade

  next-same : (one two : Depth) → AgreeInside one two → next_fill graph side zone one ≡ next_fill graph side zone two
  next-same one two alike =
      ap (λ n. if nat_lt 0 n then option_and_then (fill_with graph one.room side zone n) (find (can_fill graph one.room side zone) one.makers) else None) alike.left
      ∙ ap (λ o. if nat_lt 0 two.left then option_and_then (fill_with graph one.room side zone two.left) o else None)
      (same-found one.room two.room alike.rooms one.makers two.makers alike.makers)
      ∙ ap (λ o. if nat_lt 0 two.left then o else None) (by (find (can_fill graph two.room side zone) two.makers))
    where
      by : (o : Option Maker) → option_and_then (fill_with graph one.room side zone two.left) o ≡ option_and_then (fill_with graph two.room side zone two.left) o
      by None = refl
      by (Some maker) = same-fill one.room two.room alike.rooms two.left maker

  taken-inside : (name : OrderName) (lots : ℕ) (makers : List Maker)
      → filter maker_inside (map (taken_of name lots) makers) ≡ map (taken_of name lots) (filter maker_inside makers)
  taken-inside name lots makers =
      filter-map maker_inside (taken_of name lots) makers
      ∙ ap (map (taken_of name lots))
      (filter-same (λ maker. maker_inside (taken_of name lots maker)) maker_inside makers (λ maker i. ap inside (taken-zone name lots maker)))

  after-same : (one two : Depth) (fill : Fill) → AgreeInside one two → next_fill graph side zone one ≡ Some fill
      → AgreeInside (after_fill one fill) (after_fill two fill)
  after-same one two fill alike next =
      let f = next_fill-is graph side zone one fill is next in
      record {
        makers =
            taken-inside fill.maker fill.lots one.makers
            ∙ ap (map (taken_of fill.maker fill.lots)) alike.makers ∙ sym (taken-inside fill.maker fill.lots two.makers);
        rooms = agree-after graph side inside one.room two.room (carried_by fill) alike.rooms
            (trade-inside one.room two.room alike.rooms f.with fill.route f.fits.is_route.way).1;
        left = ap (λ n. n - fill.lots) alike.left;
      }

  -- the trades of the one are the trades of the other
  pub run-same : (one two : Depth) (fills : List Fill) → AgreeInside one two → IsRun (next_fill graph side zone) after_fill one fills
      → IsRun (next_fill graph side zone) after_fill two fills
  run-same one two [] alike none = sym (next-same one two alike) ∙ none
  run-same one two (fill ∷ fills) alike run =
      (sym (next-same one two alike) ∙ run.0, run-same (after_fill one fill) (after_fill two fill) fills (after-same one two fill alike run.0) run.1)
