-- The net positions of zones: what the borders carry, and nothing in all.
use Rattle.std.proofs.Common.{◌≡◌, ◌∙◌, inl, inr, ◌+◌, ◌==◌, ℕ, true, false, List, [], ◌∷◌, filter, sum_by, pos, ◌-ℤ◌, refl, sym, ap, arith}
use Rattle.std.proofs.Math.Path.{fun_ext}
use Rattle.std.proofs.lemmas.Int.{ints}
use Rattle.std.proofs.lemmas.List.Sums.{sum_by-cons}
use Rattle.std.specs.List.{range_with_len}
use Rattle.order_kinds.specs.declared.contract.Quarter.{Quarter}
use Rattle.order_kinds.specs.declared.side.Side.{Side}
use Rattle.order_kinds.specs.declared.side.Side.TheVariants.{Buy, Sell}
use Rattle.zone_graph.specs.declared.route.Arc.{Arc}
use Rattle.zone_graph.specs.Graph.{Graph, arcs_of, border_count, end_of, start_of}
use Rattle.zone_graph.specs.Pour.{lots_if}
use Rattle.zone_graph.specs.Route.{IsIn}
use Rattle.zone_graph.proofs.Arcs.{over}
use Rattle.cut_proof.proofs.ArcSums.{sum_nothing, sum_parts, sum_passing}
use Rattle.market_model.specs.declared.event.Event.{Event}
use Rattle.market_model.specs.declared.setup.Setup.{Setup}
use Rattle.market_model.specs.Capacity.{allocated, allocated_by}
use Rattle.market_model.specs.Grid.{graph_of}
use Rattle.market_model.specs.WellFormed.{FitAfter}
use Rattle.route_choice.specs.Flow.{sent_out, taken_in}
use Rattle.ship_schedule.specs.Schedule.{borders_from, borders_to, bought, exchange, forward_arc, is_trade, net_position, sold, total_by, traded_by}
use Rattle.ship_schedule.proofs.Evened.{IsEven, all_zones, carried_by, each-even}
use Rattle.ship_schedule.proofs.RouteSums.{sum_over}

-- ---- sums that can be below 0

-- a sum of differences is the difference of the sums
total_difference : {X : Type 0} (f g : X → ℕ) (xs : List X) → total_by (λ x. pos (f x) -ℤ pos (g x)) xs ≡ pos (sum_by f xs) -ℤ pos (sum_by g xs)
total_difference f g [] = refl
total_difference f g (x ∷ xs) =
    omega (arith, ints, sum_by-cons f x xs, sum_by-cons g x xs, total_difference f g xs)

-- ---- what zones send out and take in

-- what some events carry over an arc in a quarter
abbrev carried : Quarter → List Event → Arc → ℕ
carried quarter events arc = sum_by (carried_by quarter arc) events

module _ (graph : Graph) (all : List Event) (zone : ℕ) (quarter : Quarter) where
  -- together even events are even in a zone
  zone-balance : (events : List Event) → ((e : Event) → IsIn e events → IsEven graph all e)
      → sent_out graph (carried quarter events) zone + sum_by (traded_by all Buy zone quarter) events
      ≡ taken_in graph (carried quarter events) zone + sum_by (traded_by all Sell zone quarter) events
  zone-balance [] each =
      omega (
        arith,
        sum_nothing (carried quarter []) (filter (λ arc. start_of graph arc == zone) (arcs_of graph)) (λ arc i. refl),
        sum_nothing (carried quarter []) (filter (λ arc. end_of graph arc == zone) (arcs_of graph)) (λ arc i. refl),
      )
  zone-balance (e ∷ events) each =
      omega (
        arith,
        parts (filter (λ arc. start_of graph arc == zone) (arcs_of graph)),
        parts (filter (λ arc. end_of graph arc == zone) (arcs_of graph)),
        sum_by-cons (traded_by all Buy zone quarter) e events,
        sum_by-cons (traded_by all Sell zone quarter) e events,
        (each e (inl refl)).balanced zone quarter,
        zone-balance events (λ d i. each d (inr i)),
      )
    where
      parts : (arcs : List Arc) → sum_by (carried quarter (e ∷ events)) arcs ≡ sum_by (λ arc. carried_by quarter arc e) arcs + sum_by (carried quarter events) arcs
      parts arcs = sum_parts (carried quarter (e ∷ events)) (λ arc. carried_by quarter arc e) (carried quarter events) arcs (λ arc. sum_by-cons (carried_by quarter arc) e events)

-- what leaves a zone goes over the forward arcs of the borders that lead from it and over the other arcs
-- of those that lead to it
sent-borders : (graph : Graph) (flow : Arc → ℕ) (zone : ℕ)
    → sent_out graph flow zone ≡ sum_by (λ border. flow (over border true)) (borders_from graph zone) + sum_by (λ border. flow (over border false)) (borders_to graph zone)
sent-borders graph flow zone =
    let borders = range_with_len 0 (border_count graph) in
    omega (
      arith,
      sum_passing (λ arc. start_of graph arc == zone) flow (arcs_of graph),
      sum_over (λ arc. lots_if (start_of graph arc == zone) (flow arc)) borders,
      sum_passing (λ border. start_of graph (forward_arc border) == zone) (λ border. flow (over border true)) borders,
      sum_passing (λ border. end_of graph (forward_arc border) == zone) (λ border. flow (over border false)) borders,
    )

taken-borders : (graph : Graph) (flow : Arc → ℕ) (zone : ℕ)
    → taken_in graph flow zone ≡ sum_by (λ border. flow (over border true)) (borders_to graph zone) + sum_by (λ border. flow (over border false)) (borders_from graph zone)
taken-borders graph flow zone =
    let borders = range_with_len 0 (border_count graph) in
    omega (
      arith,
      sum_passing (λ arc. end_of graph arc == zone) flow (arcs_of graph),
      sum_over (λ arc. lots_if (end_of graph arc == zone) (flow arc)) borders,
      sum_passing (λ border. end_of graph (forward_arc border) == zone) (λ border. flow (over border true)) borders,
      sum_passing (λ border. start_of graph (forward_arc border) == zone) (λ border. flow (over border false)) borders,
    )

-- ---- one zone

position-of : (sells buys out into from_there from_back to_there to_back : ℕ) → out + buys ≡ into + sells
    → out ≡ from_there + to_back → into ≡ to_there + from_back
    → pos sells -ℤ pos buys ≡ (pos from_there -ℤ pos from_back) -ℤ (pos to_there -ℤ pos to_back)
position-of sells buys out into from_there from_back to_there to_back e f g = omega (arith, ints)

-- the net position of a zone is what the borders carry
pub position-carried : (setup : Setup) (events : List Event) → FitAfter setup [] events → (zone : ℕ) (quarter : Quarter)
    → net_position events zone quarter
    ≡ total_by (λ border. exchange events border quarter) (borders_from (graph_of setup) zone)
    -ℤ total_by (λ border. exchange events border quarter) (borders_to (graph_of setup) zone)
position-carried setup events fit zone quarter =
    let graph = graph_of setup in
    let flow = allocated (filter is_trade events) quarter in
    let same : flow ≡ carried quarter events = fun_ext (λ arc. sum_passing is_trade (allocated_by quarter arc) events) in
    let out = ap (λ f. sent_out graph f zone) same in
    let into = ap (λ f. taken_in graph f zone) same in
    let balance = zone-balance graph events zone quarter events (each-even setup events fit) in
    position-of (sold events zone quarter) (bought events zone quarter) (sent_out graph flow zone) (taken_in graph flow zone)
    (sum_by (λ border. flow (over border true)) (borders_from graph zone)) (sum_by (λ border. flow (over border false)) (borders_from graph zone))
    (sum_by (λ border. flow (over border true)) (borders_to graph zone)) (sum_by (λ border. flow (over border false)) (borders_to graph zone))
    (omega (arith, out, into, balance)) (sent-borders graph flow zone) (taken-borders graph flow zone)
    ∙ ap (λ z. z -ℤ (pos (sum_by (λ border. flow (over border true)) (borders_to graph zone)) -ℤ pos (sum_by (λ border. flow (over border false)) (borders_to graph zone))))
    (sym (total_difference (λ border. flow (over border true)) (λ border. flow (over border false)) (borders_from graph zone)))
    ∙ ap (λ z. total_by (λ border. exchange events border quarter) (borders_from graph zone) -ℤ z)
    (sym (total_difference (λ border. flow (over border true)) (λ border. flow (over border false)) (borders_to graph zone)))

-- ---- all zones

module _ (graph : Graph) (all : List Event) (quarter : Quarter) where
  -- what some events trade in all zones on a side
  abbrev in_all : Side → List Event → ℕ
  in_all side events = sum_by (λ zone. sum_by (traded_by all side zone quarter) events) (all_zones graph)

  -- together even events sell what they buy
  all-settled : (events : List Event) → ((e : Event) → IsIn e events → IsEven graph all e) → in_all Sell events ≡ in_all Buy events
  all-settled [] each = refl
  all-settled (e ∷ events) each =
      omega (arith, parts Sell, parts Buy, (each e (inl refl)).settled quarter, all-settled events (λ d i. each d (inr i)))
    where
      parts : (side : Side) → in_all side (e ∷ events) ≡ sum_by (λ zone. traded_by all side zone quarter e) (all_zones graph) + in_all side events
      parts side =
          sum_parts (λ zone. sum_by (traded_by all side zone quarter) (e ∷ events)) (λ zone. traded_by all side zone quarter e)
          (λ zone. sum_by (traded_by all side zone quarter) events) (all_zones graph) (λ zone. sum_by-cons (traded_by all side zone quarter) e events)

nothing-of : (sells buys : ℕ) → sells ≡ buys → pos sells -ℤ pos buys ≡ pos 0
nothing-of sells buys e = omega (arith, ints)

-- the net positions of all zones add up to nothing
pub positions-nothing : (setup : Setup) (events : List Event) → FitAfter setup [] events → (quarter : Quarter)
    → total_by (λ zone. net_position events zone quarter) (all_zones (graph_of setup)) ≡ pos 0
positions-nothing setup events fit quarter =
    total_difference (λ zone. sold events zone quarter) (λ zone. bought events zone quarter) (all_zones (graph_of setup))
    ∙ nothing-of (in_all (graph_of setup) events quarter Sell events) (in_all (graph_of setup) events quarter Buy events)
    (all-settled (graph_of setup) events quarter events (each-even setup events fit))
