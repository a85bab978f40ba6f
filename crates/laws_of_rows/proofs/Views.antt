-- The rows of a view are those of the trades of a taker of any quantity.
use Rattle.std.proofs.Common.{◌≡◌, ◌∙◌, ℕ, ◌+◌, ◌-◌, ◌≤◌, Bool, true, false, List, [], ◌∷◌, length, map, Some, refl, sym, ap, subst, if◌then◌else◌, arith}
use Rattle.std.specs.List.{filter_map}
use Rattle.std.specs.Option.{option_map}
use Rattle.std.proofs.lemmas.List.{length-map}
use Rattle.order_kinds.specs.declared.contract.Contract.{Contract}
use Rattle.order_kinds.specs.declared.order.OrderName.{OrderName}
use Rattle.order_kinds.specs.declared.side.Side.{Side}
use Rattle.order_kinds.specs.Period.{contract_quarters}
use Rattle.order_kinds.specs.Same.{same_name}
use Rattle.zone_graph.specs.declared.route.Arc.{Arc}
use Rattle.zone_graph.specs.Graph.{Graph, HasArc, HasZone, IsGraph}
use Rattle.zone_graph.specs.Pour.{lots_if, opposite_arc, uses}
use Rattle.zone_graph.specs.Rooms.{room_of}
use Rattle.zone_graph.specs.Route.{IsIn}
use Rattle.zone_graph.specs.Steps.{IsRun}
use Rattle.zone_graph.proofs.Membership.{from_map}
use Rattle.zone_graph.proofs.Runs.{steps-run}
use Rattle.cut_proof.proofs.Ways.{way_has_arc}
use Rattle.market_model.specs.declared.event.Event.{Event}
use Rattle.market_model.specs.declared.event.Leg.{Leg}
use Rattle.market_model.specs.declared.setup.Setup.{Setup}
use Rattle.market_model.specs.Grid.{graph_of}
use Rattle.market_model.specs.History.{and_then}
use Rattle.market_model.specs.Lines.{line}
use Rattle.market_model.specs.Orders.{Standing, left}
use Rattle.market_model.specs.Room.{room}
use Rattle.market_model.specs.Taking.{next_leg, take}
use Rattle.market_model.specs.View.{rows_of, trade_of, view}
use Rattle.market_model.specs.WellFormed.{FitAfter, IsLegalOver}
use Rattle.laws_of_market.proofs.Balances.{left-leg as left-after_leg, names-taker}
use Rattle.laws_of_market.proofs.Placed.{all_are_sound}
use Rattle.laws_of_market.proofs.Trades.{from_line}
use Rattle.laws_of_market.proofs.Uses.{within_offers}
use Rattle.laws_of_market.proofs.Restrict.{map-same}
use Rattle.cut_proof.specs.Carrying.{FitTogether}
use Rattle.laws_of_rows.specs.declared.trades.Fill.{Fill}
use Rattle.laws_of_rows.specs.declared.trades.Maker.{Maker}
use Rattle.laws_of_rows.specs.declared.trades.MakerRow.{MakerRow}
use Rattle.laws_of_rows.specs.Depth.{AreInZones, Depth, after_fill, buyer_zone, depth_of, leg_of, maker_of, next_fill, seller_zone, taken_of}
use Rattle.laws_of_rows.specs.Filled.{AreRowsFilled, row_in, rows_with}
use Rattle.laws_of_rows.proofs.Fills.{IsFill, next_fill-is}
use Rattle.laws_of_rows.proofs.Kept.{IsAfter, after-leg, left-leg}
use Rattle.laws_of_rows.proofs.NextLeg.{IsDepth, leg_event, maker_now, next_leg-fill, taker_of}
use Rattle.laws_of_rows.proofs.RowLemmas.{rows-are, same_name-sym}
use Rattle.laws_of_rows.proofs.Start.{after-start, depth-start, start, taker_name}
use Rattle.laws_of_market.proofs.Rooms.{room-leg, rooms-together}

map-map : {X Y Z : Type 0} (g : Y → Z) (f : X → Y) (xs : List X) → map g (map f xs) ≡ map (λ x. g (f x)) xs
map-map g f [] = refl
map-map g f (x ∷ xs) = ap (λ zs. g (f x) ∷ zs) (map-map g f xs)

module _ (graph : Graph) (is : IsGraph graph) (events : List Event) (contract : Contract) (side : Side) (zone : ℕ) (name : OrderName) where
  -- the history and the depth of a taker
  pub record Takes (V : List Event) (depth : Depth) : Type 0 where
    pub after : IsAfter events contract side (taker_of name contract side zone) V
    pub of : IsDepth graph events contract side name V depth

  -- they go on together
  module _ (V : List Event) (depth : Depth) (takes : Takes V depth) (fill : Fill) (next : next_fill graph side zone depth ≡ Some fill) where
    filled_with : IsFill graph side zone depth fill
    filled_with = next_fill-is graph side zone depth fill is next

    maker_in : (s : Standing) × IsIn s (line events contract side) × (filled_with.with ≡ maker_now V s)
    maker_in = from_map (maker_now V) filled_with.with (line events contract side) (subst (IsIn filled_with.with) takes.of.makers filled_with.is_in)

    leg : Leg
    leg = leg_of name fill

    maker-is : fill.maker ≡ maker_in.0.name
    maker-is = filled_with.named ∙ ap (λ (m : Maker). m.name) maker_in.2

    shows : fill.lots ≤ left V maker_in.0.name
    shows = subst (λ (m : Maker). fill.lots ≤ m.left) maker_in.2 filled_with.shows

    on_graph : (arc : Arc) → IsIn arc fill.route → HasArc graph arc
    on_graph arc i =
        way_has_arc graph depth.room (seller_zone side zone filled_with.with) (buyer_zone side zone filled_with.with) fill.route arc filled_with.fits.is_route.way i

    has : (arc : Arc) → IsIn arc fill.route → fill.lots ≤ room V (contract_quarters contract) arc
    has arc i = subst (λ n. fill.lots ≤ n) (takes.of.rooms arc (on_graph arc i)) (filled_with.fits.has_room arc i)

    after-next : IsAfter events contract side (taker_of name contract side zone) (and_then V (leg_event contract name fill))
    after-next = after-leg events contract side (taker_of name contract side zone) V takes.after (leg_of name fill) refl maker_in.0 maker_in.1 maker-is filled_with.some shows has

    taken-now : (s : Standing) → IsIn s (line events contract side) → taken_of fill.maker fill.lots (maker_now V s) ≡ maker_now (and_then V (leg_event contract name fill)) s
    taken-now s i =
        go (same_name s.name fill.maker)
        ∙ ap (λ b. at (left V s.name - lots_if b fill.lots)) (same_name-sym s.name fill.maker)
        ∙ ap at (sym (left-leg events contract side (taker_of name contract side zone) V takes.after (leg_of name fill) refl maker_in.0 maker_in.1 maker-is filled_with.some shows has s i))
      where
        at : ℕ → Maker
        at n = record { name = s.name; zone = s.order.zone; price = s.price; left = n }

        go : (b : Bool) → (if b then at (left V s.name - fill.lots) else at (left V s.name)) ≡ at (left V s.name - lots_if b fill.lots)
        go true = refl
        go false = ap at (let n = left V s.name in let z : n ≡ n - 0 = omega arith in z)

    depth-next : IsDepth graph events contract side name (and_then V (leg_event contract name fill)) (after_fill depth fill)
    depth-next = record {
      makers =
          ap (map (taken_of fill.maker fill.lots)) takes.of.makers
          ∙ map-map (taken_of fill.maker fill.lots) (maker_now V) (line events contract side)
          ∙ map-same (λ s. taken_of fill.maker fill.lots (maker_now V s)) (maker_now (and_then V (leg_event contract name fill))) (line events contract side) taken-now;
      rooms = λ arc known.
          ap (λ n. (n + lots_if (uses fill.route (opposite_arc arc)) fill.lots) - lots_if (uses fill.route arc) fill.lots) (takes.of.rooms arc known)
          ∙ sym (room-leg V contract (leg_of name fill) takes.after.within filled_with.some has arc);
      rest = ap (λ n. n - fill.lots) takes.of.rest ∙ sym (left-after_leg V contract (leg_of name fill) name (names-taker (leg_of name fill)));
    }

    pub takes-next : Takes (and_then V (leg_event contract name fill)) (after_fill depth fill)
    takes-next = record { after = after-next; of = depth-next }

  -- the legs of a run of trades
  legs-run : (V : List Event) (depth : Depth) (fills : List Fill) → Takes V depth → IsRun (next_fill graph side zone) after_fill depth fills
      → IsRun (next_leg graph name) and_then V (map (leg_event contract name) fills)
  legs-run V depth [] takes none =
      next_leg-fill graph is events contract side zone name V takes.after depth takes.of ∙ ap (option_map (leg_event contract name)) none
  legs-run V depth (fill ∷ fills) takes run = (
    next_leg-fill graph is events contract side zone name V takes.after depth takes.of ∙ ap (option_map (leg_event contract name)) run.0,
    legs-run (and_then V (leg_event contract name fill)) (after_fill depth fill) fills (takes-next V depth takes fill run.0) run.1,
  )

  -- each has a lot at least
  run-short : (depth : Depth) (fills : List Fill) → IsRun (next_fill graph side zone) after_fill depth fills → length fills ≤ depth.left
  run-short depth [] none = omega arith
  run-short depth (fill ∷ fills) run =
      let f = next_fill-is graph side zone depth fill is run.0 in
      let rest = run-short (after_fill depth fill) fills run.1 in
      let some = f.some in let enough = f.enough in omega (arith, rest, some, enough)

  pub trades-of : (fills : List Fill) → filter_map trade_of (map (leg_event contract name) fills) ≡ map (leg_of name) fills
  trades-of [] = refl
  trades-of (fill ∷ fills) = ap (λ legs. leg_of name fill ∷ legs) (trades-of fills)

-- the legs of the taking are those of the trades
pub legs-are : (graph : Graph) (is : IsGraph graph) (setup : Setup) (events : List Event) (fit : FitAfter setup [] events) (contract : Contract) (side : Side) (zone : ℕ)
    (depth : Depth) (fills : List Fill) → IsDepth graph events contract side (taker_name setup events fit contract side zone) (start setup events fit contract side zone) depth
    → IsRun (next_fill graph side zone) after_fill depth fills
    → take graph (start setup events fit contract side zone) (taker_name setup events fit contract side zone)
    ≡ map (leg_event contract (taker_name setup events fit contract side zone)) fills
unfolding take
legs-are graph is setup events fit contract side zone depth fills of run =
    let name = taker_name setup events fit contract side zone in
    let begun = start setup events fit contract side zone in
    let takes : Takes graph is events contract side zone name begun depth = record { after = after-start setup events fit contract side zone; of = of } in
    let short = run-short graph is events contract side zone name depth fills run in
    let rest = of.rest in
    let few : length (map (leg_event contract name) fills) ≤ left begun name = (let size = length-map fills (leg_event contract name) in omega (arith, size, short, rest)) in
    steps-run (left begun name) (next_leg graph name) and_then begun (map (leg_event contract name) fills) (legs-run graph is events contract side zone name begun depth fills takes run) few

-- the view is the rows of the trades of a taker that finds the line, and the rooms of the graph's arcs
pub view-rows : (graph : Graph) (is : IsGraph graph) (setup : Setup) (events : List Event) (fit : FitAfter setup [] events) (contract : Contract) (side : Side) (zone : ℕ)
    (rooms : Arc → ℕ) (are : (arc : Arc) → HasArc graph arc → rooms arc ≡ room events (contract_quarters contract) arc) (fills : List Fill)
    → IsRun (next_fill graph side zone) after_fill (record { makers = map maker_of (line events contract side); room = rooms; left = 4294967295 }) fills
    → map row_in (rows_with fills) ≡ view graph events contract side zone
unfolding view
view-rows graph is setup events fit contract side zone rooms are fills run =
    let name = taker_name setup events fit contract side zone in
    let found : Depth = record { makers = map maker_of (line events contract side); room = rooms; left = 4294967295 } in
    let of = depth-start setup events fit contract side zone graph rooms are in
    let legs = legs-are graph is setup events fit contract side zone found fills of run in
    rows-are name fills ∙ ap rows_of (sym (ap (filter_map trade_of) legs ∙ trades-of graph is events contract side zone name fills))

-- the makers of a line are in zones that there are
pub makers-known : (setup : Setup) (events : List Event) (fit : FitAfter setup [] events) (contract : Contract) (side : Side)
    → AreInZones (graph_of setup) (map maker_of (line events contract side))
makers-known setup events fit contract side = record {
  each = λ maker i.
      let from = from_map maker_of maker (line events contract side) i in
      let there = from_line events contract side from.0 from.1 in
      let sound = (all_are_sound setup events fit).orders there.order there.is_open.is_placed in
      subst (λ (m : Maker). HasZone (graph_of setup) m.zone) (sym from.2)
      (subst (λ (s : Standing). HasZone (graph_of setup) s.order.zone) (sym there.is) sound.in_zone);
}

module _ (graph : Graph) (is : IsGraph graph) (events : List Event) (legal : IsLegalOver graph events) (contract : Contract) (side : Side) (zone : ℕ) (rooms : List (ℕ × ℕ))
    (are : (arc : Arc) → HasArc graph arc → room_of rooms arc ≡ room events (contract_quarters contract) arc) where
  abbrev depth : Depth
  depth = depth_of (map maker_of (line events contract side)) rooms 4294967295

  -- the rows of the run are the view
  pub view-is : (rows : List MakerRow) → AreRowsFilled graph side zone (depth_of (map maker_of (line events contract side)) rooms 4294967295) rows
      → map row_in rows ≡ view graph events contract side zone
  view-is rows filled =
      ap (map row_in) filled.are ∙ view-rows graph is legal.setup events legal.fit contract side zone (room_of rooms) are filled.fills filled.run

  -- the makers are in zones that there are
  pub makers-in_zones : AreInZones graph (map maker_of (line events contract side))
  makers-in_zones =
      subst (λ g. AreInZones g (map maker_of (line events contract side))) (sym legal.over) (makers-known legal.setup events legal.fit contract side)

  pub fit-together : FitTogether graph (room_of rooms)
  fit-together arc known =
      let most = rooms-together events contract arc (within_offers legal.setup events legal.fit) in
      let own = are arc known in
      let back = are (opposite_arc arc) known in omega (arith, most, own, back)
