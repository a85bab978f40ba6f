-- The laws: routes, the zones in reach, and views.
use Rattle.std.proofs.Common.{◌≡◌, ◌∙◌, ◌<◌, ◌&&◌, ℕ, Bool, true, false, not, List, [], ◌∷◌, ◌++◌, filter, map, is_some, refl, sym, ap, arith}
use Rattle.std.proofs.Math.Path.{fun_ext}
use Rattle.std.specs.List.{range_with_len}
use Rattle.order_kinds.specs.declared.contract.Contract.{Contract}
use Rattle.order_kinds.specs.declared.side.Side.{Side}
use Rattle.order_kinds.specs.declared.side.Side.TheVariants.{Buy, Sell}
use Rattle.order_kinds.specs.Period.{contract_quarters}
use Rattle.order_kinds.specs.Same.{same_side}
use Rattle.order_kinds.specs.Side.{opposite}
use Rattle.zone_graph.specs.declared.route.Arc.{Arc}
use Rattle.zone_graph.specs.Graph.{Graph, HasArc, HasZone, IsGraph, end_of, start_of, zone_count}
use Rattle.zone_graph.specs.Route.{has}
use Rattle.zone_graph.specs.Steps.{IsRun, steps}
use Rattle.zone_graph.proofs.GridLemmas.{start_within}
use Rattle.zone_graph.proofs.Membership.{IsIn-has}
use Rattle.zone_graph.proofs.Routes.{end_within}
use Rattle.zone_graph.proofs.Runs.{run-measured}
use Rattle.cut_proof.specs.Cut.{reaches_in}
use Rattle.cut_proof.proofs.ReachLaws.{has-beyond, has-towards, reaches-way, way-reaches}
use Rattle.cut_proof.proofs.Ways.{way_longer}
use Rattle.market_model.specs.declared.event.Event.{Event}
use Rattle.market_model.specs.declared.setup.Setup.{Setup}
use Rattle.market_model.specs.Certificate.{zones_in_reach}
use Rattle.market_model.specs.Grid.{graph_of}
use Rattle.market_model.specs.Lines.{line}
use Rattle.market_model.specs.Room.{room}
use Rattle.market_model.specs.WellFormed.{FitAfter, IsMarketSetup}
use Rattle.laws_of_market.proofs.Restrict.{filter-filter, filter-map}
use Rattle.laws_of_rows.specs.declared.trades.Fill.{Fill}
use Rattle.laws_of_rows.specs.declared.trades.Maker.{Maker}
use Rattle.laws_of_rows.specs.Depth.{AreInZones, Depth, after_fill, maker_of, next_fill}
use Rattle.laws_of_rows.proofs.Fills.{next_fill-is}
use Rattle.laws_of_rows.proofs.Views.{makers-known, view-rows}
use Rattle.laws_of_views.specs.Nearby.{DifferWithin, HaveNoZoneInCommon, ReachChangesNearby, RoutesDependOnWhatIsReached, RoutesDependOnWhatReaches, ViewsChangeNearby, is_elsewhere, is_within, zones_of_view}
use Rattle.laws_of_views.proofs.Agreement.{Agree, far_end, near_end, routes-from, routes-to}
use Rattle.laws_of_views.proofs.Running.{AgreeInside, run-same}

-- ---- the zones in reach as a set

-- a zone can trade with the taker of a view: it reaches that one's zone, or is reached from there
abbrev pub in_reach : Graph → (Arc → ℕ) → Side → (zone other : ℕ) → Bool
in_reach graph room side zone other = reaches_in graph room other zone (same_side side Sell)

pub reach-own : (graph : Graph) (is : IsGraph graph) (room : Arc → ℕ) (side : Side) (zone : ℕ) → in_reach graph room side zone zone ≡ true
reach-own graph is room Sell zone = reaches-way graph room zone zone [] is refl
reach-own graph is room Buy zone = reaches-way graph room zone zone [] is refl

-- an arc with room leads on
reach-more : (graph : Graph) (is : IsGraph graph) (room : Arc → ℕ) (side : Side) (zone : ℕ) (arc : Arc) → HasArc graph arc
    → in_reach graph room side zone (near_end graph side arc) ≡ true → 0 < room arc → in_reach graph room side zone (far_end graph side arc) ≡ true
reach-more graph is room Sell zone arc known near some =
    let way = way-reaches graph room (end_of graph arc) zone is near in
    reaches-way graph room (start_of graph arc) zone (arc ∷ way.0) is (known, refl, some, way.1)
reach-more graph is room Buy zone arc known near some =
    let way = way-reaches graph room zone (start_of graph arc) is near in
    reaches-way graph room zone (end_of graph arc) (way.0 ++ arc ∷ []) is (way_longer graph room zone (start_of graph arc) way.0 arc way.1 known refl some)

-- rooms that are the same there agree
agree-there : (graph : Graph) (is : IsGraph graph) (side : Side) (room other : Arc → ℕ) (zone : ℕ)
    → ((arc : Arc) → HasArc graph arc → in_reach graph room side zone (near_end graph side arc) ≡ true → room arc ≡ other arc)
    → Agree graph side (in_reach graph room side zone) room other
agree-there graph is side room other zone same = record { same = same; closed = λ arc known near some. reach-more graph is room side zone arc known near some }

pub towards_same : RoutesDependOnWhatReaches
towards_same graph room other from to is same =
    routes-to graph is (in_reach graph room Sell to) room other from to (agree-there graph is Sell room other to same) (reach-own graph is room Sell to)

pub beyond_same : RoutesDependOnWhatIsReached
beyond_same graph room other from to is same =
    routes-from graph is (in_reach graph room Buy from) room other from to (agree-there graph is Buy room other from same) (reach-own graph is room Buy from)

-- ---- two lists of events

in_zones_of_view : (graph : Graph) (room : Arc → ℕ) (side : Side) (zone other : ℕ) → HasZone graph other → in_reach graph room side zone other ≡ true
    → has other (zones_in_reach graph room (opposite side) zone) ≡ true
in_zones_of_view graph room Sell zone other known there = has-towards graph room zone other known there
in_zones_of_view graph room Buy zone other known there = has-beyond graph room zone other known there

near-known : (graph : Graph) (is : IsGraph graph) (side : Side) (arc : Arc) → HasArc graph arc → HasZone graph (near_end graph side arc)
near-known graph is Sell arc known = end_within graph arc is known
near-known graph is Buy arc known = start_within graph arc is known

-- an arc one of whose ends is elsewhere
near-elsewhere : (graph : Graph) (side : Side) (zones : List ℕ) (arc : Arc) → has (near_end graph side arc) zones ≡ false → is_within graph zones arc ≡ false
near-elsewhere graph Buy zones arc e = ap (λ b. b && has (end_of graph arc) zones) e
near-elsewhere graph Sell zones arc e = by (has (start_of graph arc) zones) (has (end_of graph arc) zones) e
  where
    by : (a b : Bool) → b ≡ false → (a && b) ≡ false
    by true b f = f
    by false b f = refl

module _ (graph : Graph) (is : IsGraph graph) (before after : List Event) (contract : Contract) (side : Side) (zone : ℕ) (touched : List ℕ)
    (differ : DifferWithin graph before after contract side touched) (apart : HaveNoZoneInCommon touched (zones_of_view graph before contract side zone)) where
  abbrev pub rooms_before : Arc → ℕ
  rooms_before = room before (contract_quarters contract)

  abbrev pub rooms_after : Arc → ℕ
  rooms_after = room after (contract_quarters contract)

  abbrev pub inside : ℕ → Bool
  inside = in_reach graph (room before (contract_quarters contract)) side zone

  -- what is in reach is not touched
  pub untouched : (other : ℕ) → HasZone graph other → inside other ≡ true → has other touched ≡ false
  untouched other known there = by (has other touched) refl
    where
      by : (b : Bool) → has other touched ≡ b → has other touched ≡ false
      by false e = e
      by true e =
          absurd (apart other (IsIn-has other touched e)
          (IsIn-has other (zones_of_view graph before contract side zone) (in_zones_of_view graph rooms_before side zone other known there)))

  pub agree : Agree graph side inside rooms_before rooms_after
  agree = agree-there graph is side rooms_before rooms_after zone (λ arc known near.
      sym (differ.rooms arc known (near-elsewhere graph side touched arc (untouched (near_end graph side arc) (near-known graph is side arc known) near))))

  -- the zones in reach are the same
  reach-same : (side : Side) → Agree graph side (in_reach graph rooms_before side zone) rooms_before rooms_after
      → zones_in_reach graph rooms_after (opposite side) zone ≡ zones_in_reach graph rooms_before (opposite side) zone
  reach-same Sell both =
      ap (λ (test : ℕ → Bool). filter test (range_with_len 0 (zone_count graph)))
      (fun_ext (λ other. ap is_some (sym (
      routes-to graph is (in_reach graph rooms_before Sell zone) rooms_before rooms_after other zone both (reach-own graph is rooms_before Sell zone)))))
  reach-same Buy both =
      ap (λ (test : ℕ → Bool). filter test (range_with_len 0 (zone_count graph)))
      (fun_ext (λ other. ap is_some (sym (
      routes-from graph is (in_reach graph rooms_before Buy zone) rooms_before rooms_after zone other both (reach-own graph is rooms_before Buy zone)))))

  pub reach-is : zones_of_view graph after contract side zone ≡ zones_of_view graph before contract side zone
  reach-is = reach-same side agree

  -- the makers there are the same
  makers-there : (events : List Event) → AreInZones graph (map maker_of (line events contract side))
      → filter (λ (m : Maker). inside m.zone) (map maker_of (line events contract side))
      ≡ filter (λ (m : Maker). inside m.zone) (map maker_of (filter (is_elsewhere touched) (line events contract side)))
  makers-there events known =
      sym (filter-filter (λ (m : Maker). inside m.zone) (λ (m : Maker). not (has m.zone touched)) (map maker_of (line events contract side))
      (λ maker i there. ap not (untouched maker.zone (known.each maker i) there)))
      ∙ ap (filter (λ (m : Maker). inside m.zone)) (filter-map (λ (m : Maker). not (has m.zone touched)) maker_of (line events contract side))

  pub found-agree : AreInZones graph (map maker_of (line before contract side)) → AreInZones graph (map maker_of (line after contract side))
      → AgreeInside graph is side zone inside (reach-own graph is rooms_before side zone)
      (record { makers = map maker_of (line before contract side); room = rooms_before; left = 4294967295 })
      (record { makers = map maker_of (line after contract side); room = rooms_after; left = 4294967295 })
  found-agree known_before known_after = record {
    makers = makers-there before known_before ∙ ap (filter (λ (m : Maker). inside m.zone)) (sym differ.orders) ∙ sym (makers-there after known_after);
    rooms = agree;
    left = refl;
  }

-- ---- views

module _ (setup : Setup) (is : IsMarketSetup setup) (events : List Event) (fit : FitAfter setup [] events) (contract : Contract) (side : Side) (zone : ℕ) where
  -- what the taker of a view finds
  abbrev pub found : Depth
  found = record { makers = map maker_of (line events contract side); room = room events (contract_quarters contract); left = 4294967295 }

  pub fills : List Fill
  fills = steps 4294967295 (next_fill (graph_of setup) side zone) after_fill found

  pub fills-run : IsRun (next_fill (graph_of setup) side zone) after_fill found fills
  unfolding fills
  fills-run =
      run-measured 4294967295 (next_fill (graph_of setup) side zone) after_fill (λ d. d.left) found
      (λ d fill e. let f = next_fill-is (graph_of setup) side zone d fill is e in let some = f.some in let enough = f.enough in omega (arith, some, enough)) (omega arith)

pub reach_nearby : ReachChangesNearby
reach_nearby setup before after contract side zone touched is differ apart = reach-is (graph_of setup) is before after contract side zone touched differ apart

pub views_nearby : ViewsChangeNearby
views_nearby setup before after contract side zone touched is fit_before fit_after differ apart =
    let graph = graph_of setup in
    let known_before = makers-known setup before fit_before contract side in
    let known_after = makers-known setup after fit_after contract side in
    let alike = found-agree graph is before after contract side zone touched differ apart known_before known_after in
    let made = fills setup is before fit_before contract side zone in
    let run = fills-run setup is before fit_before contract side zone in
    sym (view-rows graph is setup after fit_after contract side zone (room after (contract_quarters contract)) (λ arc on. refl) made
    (run-same graph is side zone (in_reach graph (room before (contract_quarters contract)) side zone)
    (reach-own graph is (room before (contract_quarters contract)) side zone)
    (found setup is before fit_before contract side zone) (found setup is after fit_after contract side zone) made alike run))
    ∙ view-rows graph is setup before fit_before contract side zone (room before (contract_quarters contract)) (λ arc on. refl) made run
