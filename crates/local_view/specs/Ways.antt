-- Ways from a zone outwards, and whether all that zones show can come over them together.
use Rattle.std.specs.Prelude.{◌≡◌, ◌≢◌, ℕ, ◌+◌, ◌<◌, ◌≤◌, Bool, true, false, List, length, slice_index_or, sum_by}
use Rattle.order_kinds.specs.declared.side.Side.{Side}
use Rattle.order_kinds.specs.declared.side.Side.TheVariants.{Buy, Sell}
use Rattle.cut_proof.specs.ZoneSet.{holds}
use Rattle.zone_graph.specs.declared.route.Arc.{Arc}
use Rattle.zone_graph.specs.Graph.{Graph, HasArc, HasZone, arc_ends, end_of, start_of}
use Rattle.zone_graph.specs.Pour.{opposite_arc}
use Rattle.route_choice.specs.Flow.{sent_out, taken_in}
use Rattle.local_view.specs.declared.ways.Way.{Way}
use Rattle.local_view.specs.declared.ways.Ways.{Ways}

-- what stands for a way where there is none
abbrev pub no_way : Way
no_way = record { arc = record { border = 0; forward = false }; near = 0; far = 0 }

-- the arc of the way at a place
abbrev pub arc_at : List Way → ℕ → Arc
arc_at ways i = (slice_index_or ways i no_way).arc

-- so many first ways of a list, each of which leads into another zone, and none into one that a way before it leads from
pub record AreWays (graph : Graph) (ways : List Way) (count : ℕ) : Type 0 where
  pub places : length ways ≡ 64
  pub few : count ≤ 64
  pub known : (i : ℕ) → i < count → HasArc graph (arc_at ways i)
  pub ends : (i : ℕ) → i < count → arc_ends graph (arc_at ways i) ≡ ((slice_index_or ways i no_way).near, (slice_index_or ways i no_way).far)
  pub apart : (i j : ℕ) → i < j → j < count → end_of graph (arc_at ways i) ≢ end_of graph (arc_at ways j)
  pub onward : (i j : ℕ) → i < j → j < count → start_of graph (arc_at ways i) ≢ end_of graph (arc_at ways j)

-- so are those that are kept
abbrev pub HasWays : Graph → Ways → Type 0
HasWays graph ways = AreWays graph ways.list ways.count

-- how many flags are not set
abbrev pub if_free : Bool → ℕ
if_free true = 0
if_free false = 1

abbrev pub free_places : (found : List Bool) → ℕ
free_places found = sum_by if_free found

-- the zones that they lead into are found, and so is the one that they lead from
pub record AreFound (graph : Graph) (ways : List Way) (count : ℕ) (found : List Bool) : Type 0 where
  pub flags : length found ≡ 64
  pub places : length ways ≡ 64
  pub known : (i : ℕ) → i < count → HasArc graph (arc_at ways i)
  pub ends : (i : ℕ) → i < count → arc_ends graph (arc_at ways i) ≡ ((slice_index_or ways i no_way).near, (slice_index_or ways i no_way).far)
  pub reached : (i : ℕ) → i < count → slice_index_or found (end_of graph (arc_at ways i)) false ≡ true
  pub begun : (i : ℕ) → i < count → slice_index_or found (start_of graph (arc_at ways i)) false ≡ true
  pub apart : (i j : ℕ) → i < j → j < count → end_of graph (arc_at ways i) ≢ end_of graph (arc_at ways j)
  pub onward : (i j : ℕ) → i < j → j < count → start_of graph (arc_at ways i) ≢ end_of graph (arc_at ways j)
  pub free : count + free_places found < 64

-- the arc by which lots take an arc of a way: to buys they go out over it, from sells they come back
abbrev pub over : Side → Arc → Arc
over Buy arc = arc
over Sell arc = opposite_arc arc

-- a zone passes on what comes in and so many lots more, or for buys takes in what it passes on and so
-- many lots more
abbrev pub PassesOn : Graph → Side → (Arc → ℕ) → (zone lots : ℕ) → Type 0
PassesOn graph Sell flow zone lots = sent_out graph flow zone ≡ taken_in graph flow zone + lots
PassesOn graph Buy flow zone lots = taken_in graph flow zone ≡ sent_out graph flow zone + lots

-- lots can flow so that each zone but one passes on all that orders of a side show there
pub record ComeTogether (graph : Graph) (room : Arc → ℕ) (side : Side) (zone : ℕ) (shown : List ℕ) : Type 0 where
  pub flow : Arc → ℕ
  pub within : (arc : Arc) → HasArc graph arc → flow arc ≤ room arc
  pub balanced : (other : ℕ) → HasZone graph other → other ≢ zone → PassesOn graph side flow other (slice_index_or shown other 0)

-- what zones show comes over ways towards the zone that they lead from, the farthest first; the ways from a place on are
-- done. Told the other way round: lots flow outwards, over each of these ways as many as came over it and over the
-- others none, and what a zone takes in and still has is what it sends out and shows.
pub record IsBringing (graph : Graph) (room : Arc → ℕ) (side : Side) (shown load : List ℕ) (ways : List Way) (count : ℕ) (loads : List ℕ) (place : ℕ) : Type 0 where
  pub size : length load ≡ 64
  pub places : length loads ≡ 64
  pub flow : Arc → ℕ
  pub within : (arc : Arc) → HasArc graph arc → flow arc ≤ room (over side arc)
  pub unused : (i : ℕ) → i < place → flow (arc_at ways i) ≡ 0
  pub sent : (i : ℕ) → place ≤ i → i < count → flow (arc_at ways i) ≡ slice_index_or loads i 0
  pub none_back : (i : ℕ) → i < count → flow (opposite_arc (arc_at ways i)) ≡ 0
  pub balanced : (other : ℕ) → HasZone graph other → taken_in graph flow other + slice_index_or load other 0 ≡ sent_out graph flow other + slice_index_or shown other 0

-- all comes to a zone, or told the other way round flows out from it: beyond what flows back over each arc there is room
-- for the rest. Over the ways from a place on as many lots flow outwards as are told of each.
pub record IsSpread (graph : Graph) (room : Arc → ℕ) (side : Side) (shown : List ℕ) (ways : List Way) (count : ℕ) (loads : List ℕ) (all place zone : ℕ) : Type 0 where
  pub flow : Arc → ℕ
  pub within : (arc : Arc) → HasArc graph arc → flow arc ≤ room (over side arc) + flow (opposite_arc arc)
  pub outwards : (i : ℕ) → place ≤ i → i < count → flow (opposite_arc (arc_at ways i)) + slice_index_or loads i 0 ≤ flow (arc_at ways i)
  pub own : taken_in graph flow zone + all ≡ sent_out graph flow zone + slice_index_or shown zone 0
  pub others : (other : ℕ) → HasZone graph other → other ≢ zone → taken_in graph flow other ≡ sent_out graph flow other + slice_index_or shown other 0

-- the zones of a set are joined with a zone by an arc each that has room for what comes from a side's orders there,
-- or goes to them; bit z stands for zone z
pub record AreJoined (graph : Graph) (room : Arc → ℕ) (side : Side) (zone joined : ℕ) : Type 0 where
  pub by : (other : ℕ) → holds joined other ≡ true → (arc : Arc) × HasArc graph arc × (start_of graph arc ≡ other) × (end_of graph arc ≡ zone) × (0 < room (over side arc))
  pub all : (arc : Arc) → HasArc graph arc → end_of graph arc ≡ zone → 0 < room (over side arc) → holds joined (start_of graph arc) ≡ true
