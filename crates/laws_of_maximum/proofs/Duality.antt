-- No flow plan is worth more than the bound of a set of zones around the taker's.
use Rattle.std.proofs.Common.{◌≡◌, ◌≢◌, ◌∙◌, inl, inr, ℕ, ◌+◌, ◌≤◌, ◌&&◌, Bool, true, false, not, List, [], ◌∷◌, filter, sum_by, refl, sym, ap, arith}
use Rattle.std.proofs.lemmas.Bool.{true≢false}
use Rattle.std.proofs.lemmas.List.Sums.{sum_by-cons}
use Rattle.std.specs.List.{range_with_len}
use Rattle.order_kinds.specs.declared.side.Side.{Side}
use Rattle.order_kinds.specs.declared.side.Side.TheVariants.{Buy, Sell}
use Rattle.zone_graph.specs.declared.route.Arc.{Arc}
use Rattle.zone_graph.specs.Graph.{Graph, HasArc, HasZone, IsGraph, arcs_of, end_of, start_of, zone_count}
use Rattle.zone_graph.specs.Pour.{lots_if, opposite_arc}
use Rattle.zone_graph.specs.Reach.{enters, leaves}
use Rattle.zone_graph.specs.Route.{AreDifferent, IsIn, has}
use Rattle.zone_graph.proofs.GridLemmas.{start_within}
use Rattle.zone_graph.proofs.Membership.{IsIn-filter, IsIn-has, IsIn-range, from_filter, from_range, has-IsIn}
use Rattle.zone_graph.proofs.Routes.{end_within, from_arcs_of}
use Rattle.cut_proof.proofs.ArcSums.{sum_opposite, sum_parts, sum_passing}
use Rattle.cut_proof.proofs.Crossing.{enters-opposite, leaves-opposite}
use Rattle.market_model.specs.Certificate.{room_across}
use Rattle.market_model.specs.Orders.{Standing}
use Rattle.route_choice.specs.Flow.{sent_out, taken_in}
use Rattle.route_choice.proofs.Flows.{at_zones, different-filter, different-range, if_least, split_if, sum_least, sum_same, sum_zones}
use Rattle.laws_of_maximum.specs.FlowPlan.{FlowPlan, IsBalanced, IsFlowPlan, NoPlanBeatsABound, bound_with, given_in, value_of}

-- two sums are together two others, where each of their terms are
sum_balance_in : {X : Type 0} (f g h k : X → ℕ) (xs : List X) → ((x : X) → IsIn x xs → f x + g x ≡ h x + k x) → sum_by f xs + sum_by g xs ≡ sum_by h xs + sum_by k xs
sum_balance_in f g h k [] each = refl
sum_balance_in f g h k (x ∷ xs) each =
    omega (
      arith,
      sum_by-cons f x xs,
      sum_by-cons g x xs,
      sum_by-cons h x xs,
      sum_by-cons k x xs,
      each x (inl refl),
      sum_balance_in f g h k xs (λ y i. each y (inr i)),
    )

pub sum_same_in : {X : Type 0} (f g : X → ℕ) (xs : List X) → ((x : X) → IsIn x xs → f x ≡ g x) → sum_by f xs ≡ sum_by g xs
sum_same_in f g [] each = refl
sum_same_in f g (x ∷ xs) each = omega (arith, sum_by-cons f x xs, sum_by-cons g x xs, each x (inl refl), sum_same_in f g xs (λ y i. each y (inr i)))

-- the zones of a graph that are outside a set
abbrev pub outside : Graph → List ℕ → List ℕ
outside graph zones = filter (λ zone. not (has zone zones)) (range_with_len 0 (zone_count graph))

pub outside-different : (graph : Graph) (zones : List ℕ) → AreDifferent (outside graph zones)
outside-different graph zones = different-filter (λ zone. not (has zone zones)) (range_with_len 0 (zone_count graph)) (different-range 0 (zone_count graph))

pub from_outside : (graph : Graph) (zones : List ℕ) (zone : ℕ) → IsIn zone (outside graph zones) → HasZone graph zone × (not (has zone zones) ≡ true)
from_outside graph zones zone i =
    let found = from_filter (λ z. not (has z zones)) zone (range_with_len 0 (zone_count graph)) i in
    (omega (arith, (from_range zone 0 (zone_count graph) found.0).1), found.1)

-- a zone of the graph is outside a set or inside
pub has-outside : (graph : Graph) (zones : List ℕ) (zone : ℕ) → HasZone graph zone → has zone (outside graph zones) ≡ not (has zone zones)
has-outside graph zones zone known = by (has zone (outside graph zones)) (has zone zones) refl refl
  where
    by : (a b : Bool) → has zone (outside graph zones) ≡ a → has zone zones ≡ b → a ≡ not b
    by true false e f = refl
    by false true e f = refl
    by true true e f =
        let apart = (from_outside graph zones zone (IsIn-has zone (outside graph zones) e)).1 in
        absurd (true≢false (sym apart ∙ ap not f))
    by false false e f =
        let there = has-IsIn zone (outside graph zones)
        (IsIn-filter (λ z. not (has z zones)) zone (range_with_len 0 (zone_count graph)) (IsIn-range zone 0 (zone_count graph) (omega arith) (omega (arith, known))) (ap not f)) in
        sym e ∙ there

inside_or_outside : (b : Bool) (n : ℕ) → n ≡ lots_if b n + lots_if (not b) n
inside_or_outside true n = omega arith
inside_or_outside false n = omega arith

-- of the two ends of an arc
crossing_out : (start end : Bool) (n : ℕ) → lots_if (not start) n + lots_if (start && not end) n ≡ lots_if (not end) n + lots_if (not start && end) n
crossing_out true true n = refl
crossing_out true false n = omega arith
crossing_out false true n = omega arith
crossing_out false false n = omega arith

if_least_where : (b : Bool) (m n : ℕ) → (b ≡ true → m ≤ n) → lots_if b m ≤ lots_if b n
if_least_where true m n least = least refl
if_least_where false m n least = omega arith

-- ---- what flows over the edge of a set of zones

-- a zone passes on, to a buy, what comes in and so many lots more; to a sell, it takes in what goes out
-- and so many lots more
abbrev pub Passes : Graph → Side → (Arc → ℕ) → (zone lots : ℕ) → Type 0
Passes graph Buy flow zone lots = sent_out graph flow zone ≡ taken_in graph flow zone + lots
Passes graph Sell flow zone lots = taken_in graph flow zone ≡ sent_out graph flow zone + lots

-- an arc leads over the edge of a set: for a buy into it, for a sell out of it
abbrev pub leads_over : Graph → Side → List ℕ → Arc → Bool
leads_over graph Buy zones arc = enters graph zones arc
leads_over graph Sell zones arc = leaves graph zones arc

module _ (graph : Graph) (zone : ℕ) (flow : Arc → ℕ) (zones : List ℕ) (is : IsGraph graph) (inside : has zone zones ≡ true) where
  abbrev beyond : List ℕ
  beyond = outside graph zones

  abbrev flows_in : ℕ
  flows_in = sum_by (λ arc. lots_if (enters graph zones arc) (flow arc)) (arcs_of graph)

  abbrev flows_out : ℕ
  flows_out = sum_by (λ arc. lots_if (leaves graph zones arc) (flow arc)) (arcs_of graph)

  apart : (other : ℕ) → IsIn other beyond → other ≢ zone
  apart other i same =
      let away = (from_outside graph zones other i).1 in
      absurd (true≢false (sym away ∙ ap not (ap (λ z. has z zones) same ∙ inside)))

  -- the sums over the zones outside
  sent : sum_by (sent_out graph flow) beyond ≡ sum_by (λ arc. lots_if (not (has (start_of graph arc) zones)) (flow arc)) (arcs_of graph)
  sent =
      sum_zones (start_of graph) flow (arcs_of graph) beyond (outside-different graph zones)
      ∙ sum_same_in (at_zones (start_of graph) flow beyond) (λ arc. lots_if (not (has (start_of graph arc) zones)) (flow arc)) (arcs_of graph)
      (λ arc i. ap (λ b. lots_if b (flow arc)) (has-outside graph zones (start_of graph arc) (start_within graph arc is (from_arcs_of graph arc i))))

  taken : sum_by (taken_in graph flow) beyond ≡ sum_by (λ arc. lots_if (not (has (end_of graph arc) zones)) (flow arc)) (arcs_of graph)
  taken =
      sum_zones (end_of graph) flow (arcs_of graph) beyond (outside-different graph zones)
      ∙ sum_same_in (at_zones (end_of graph) flow beyond) (λ arc. lots_if (not (has (end_of graph arc) zones)) (flow arc)) (arcs_of graph)
      (λ arc i. ap (λ b. lots_if b (flow arc)) (has-outside graph zones (end_of graph arc) (end_within graph arc is (from_arcs_of graph arc i))))

  -- what flows over the edge of the set
  crosses : sum_by (sent_out graph flow) beyond + flows_out ≡ sum_by (taken_in graph flow) beyond + flows_in
  crosses =
      let edges = sum_balance_in (λ arc. lots_if (not (has (start_of graph arc) zones)) (flow arc)) (λ arc. lots_if (leaves graph zones arc) (flow arc))
      (λ arc. lots_if (not (has (end_of graph arc) zones)) (flow arc)) (λ arc. lots_if (enters graph zones arc) (flow arc)) (arcs_of graph)
      (λ arc i. crossing_out (has (start_of graph arc) zones) (has (end_of graph arc) zones) (flow arc)) in
      omega (arith, sent, taken, edges)

  -- what the zones outside pass on beyond what comes in flows over the edge, into the set or out of it
  passed_in : (lots : ℕ → ℕ) → ((other : ℕ) → HasZone graph other → other ≢ zone → Passes graph Buy flow other (lots other)) → sum_by lots beyond + flows_out ≡ flows_in
  passed_in lots each =
      let parted : sum_by (sent_out graph flow) beyond ≡ sum_by (taken_in graph flow) beyond + sum_by lots beyond =
      sum_same_in (sent_out graph flow) (λ z. taken_in graph flow z + lots z) beyond (λ z i. each z (from_outside graph zones z i).0 (apart z i))
      ∙ sum_parts (λ z. taken_in graph flow z + lots z) (taken_in graph flow) lots beyond (λ z. refl) in
      omega (arith, parted, crosses)

  passed_out : (lots : ℕ → ℕ) → ((other : ℕ) → HasZone graph other → other ≢ zone → Passes graph Sell flow other (lots other)) → sum_by lots beyond + flows_in ≡ flows_out
  passed_out lots each =
      let parted : sum_by (taken_in graph flow) beyond ≡ sum_by (sent_out graph flow) beyond + sum_by lots beyond =
      sum_same_in (taken_in graph flow) (λ z. sent_out graph flow z + lots z) beyond (λ z i. each z (from_outside graph zones z i).0 (apart z i))
      ∙ sum_parts (λ z. sent_out graph flow z + lots z) (sent_out graph flow) lots beyond (λ z. refl) in
      omega (arith, parted, crosses)

  module _ (room : Arc → ℕ) where
    -- over the arcs that pass a test, the room and what flows back over their opposites
    with_back : (p q : Arc → Bool) → ((arc : Arc) → p arc ≡ q (opposite_arc arc))
        → sum_by (λ arc. lots_if (p arc) (room arc + flow (opposite_arc arc))) (arcs_of graph)
        ≡ sum_by room (filter p (arcs_of graph)) + sum_by (λ arc. lots_if (q arc) (flow arc)) (arcs_of graph)
    with_back p q turned =
        let arcs = arcs_of graph in
        let parted = sum_parts (λ arc. lots_if (p arc) (room arc + flow (opposite_arc arc))) (λ arc. lots_if (p arc) (room arc)) (λ arc. lots_if (p arc) (flow (opposite_arc arc))) arcs
        (λ arc. split_if (p arc) (room arc) (flow (opposite_arc arc))) in
        let back = sum_same (λ arc. lots_if (p arc) (flow (opposite_arc arc))) (λ arc. lots_if (q (opposite_arc arc)) (flow (opposite_arc arc))) arcs
        (λ arc. ap (λ b. lots_if b (flow (opposite_arc arc))) (turned arc)) in
        let over = sum_opposite graph (λ arc. lots_if (q arc) (flow arc)) in
        let rooms = sum_passing p room arcs in
        omega (arith, parted, back, over, rooms)

    -- no more flows over them, beyond what flows back, than they have room for
    bounded : (p q : Arc → Bool) → ((arc : Arc) → p arc ≡ q (opposite_arc arc)) → ((arc : Arc) → HasArc graph arc → flow arc ≤ room arc + flow (opposite_arc arc))
        → sum_by (λ arc. lots_if (p arc) (flow arc)) (arcs_of graph) ≤ sum_by room (filter p (arcs_of graph)) + sum_by (λ arc. lots_if (q arc) (flow arc)) (arcs_of graph)
    bounded p q turned within =
        let least = sum_least (λ arc. lots_if (p arc) (flow arc)) (λ arc. lots_if (p arc) (room arc + flow (opposite_arc arc))) (arcs_of graph)
        (λ arc i. if_least (p arc) (flow arc) (room arc + flow (opposite_arc arc)) (within arc (from_arcs_of graph arc i))) in
        omega (arith, least, with_back p q turned)

    -- and no less, where none of them has room to spare
    filled : (p q : Arc → Bool) → ((arc : Arc) → p arc ≡ q (opposite_arc arc)) → ((arc : Arc) → HasArc graph arc → p arc ≡ true → room arc + flow (opposite_arc arc) ≤ flow arc)
        → sum_by room (filter p (arcs_of graph)) + sum_by (λ arc. lots_if (q arc) (flow arc)) (arcs_of graph) ≤ sum_by (λ arc. lots_if (p arc) (flow arc)) (arcs_of graph)
    filled p q turned full =
        let least = sum_least (λ arc. lots_if (p arc) (room arc + flow (opposite_arc arc))) (λ arc. lots_if (p arc) (flow arc)) (arcs_of graph)
        (λ arc i. if_least_where (p arc) (room arc + flow (opposite_arc arc)) (flow arc) (full arc (from_arcs_of graph arc i))) in
        omega (arith, least, with_back p q turned)

    -- what the zones outside pass on is no more than the room across the edge
    pub most_across : (s : Side) (lots : ℕ → ℕ) → ((arc : Arc) → HasArc graph arc → flow arc ≤ room arc + flow (opposite_arc arc))
        → ((other : ℕ) → HasZone graph other → other ≢ zone → Passes graph s flow other (lots other)) → sum_by lots (outside graph zones) ≤ room_across graph room s zones
    most_across Buy lots within each = omega (arith, passed_in lots each, bounded (enters graph zones) (leaves graph zones) (enters-opposite graph zones) within)
    most_across Sell lots within each = omega (arith, passed_out lots each, bounded (leaves graph zones) (enters graph zones) (leaves-opposite graph zones) within)

    -- and no less, where no arc over the edge has room to spare
    pub least_across : (s : Side) (lots : ℕ → ℕ) → ((arc : Arc) → HasArc graph arc → leads_over graph s zones arc ≡ true → room arc + flow (opposite_arc arc) ≤ flow arc)
        → ((other : ℕ) → HasZone graph other → other ≢ zone → Passes graph s flow other (lots other)) → room_across graph room s zones ≤ sum_by lots (outside graph zones)
    least_across Buy lots full each = omega (arith, passed_in lots each, filled (enters graph zones) (leaves graph zones) (enters-opposite graph zones) full)
    least_across Sell lots full each = omega (arith, passed_out lots each, filled (leaves graph zones) (enters graph zones) (leaves-opposite graph zones) full)

-- ---- plans

module _ (graph : Graph) (room : Arc → ℕ) (side : Side) (zone : ℕ) (orders : List Standing) (most : Standing → ℕ) (plan : FlowPlan) (zones : List ℕ)
    (is : IsGraph graph) (known : (order : Standing) → IsIn order orders → HasZone graph order.order.zone)
    (planned : IsFlowPlan graph room side zone orders most plan) (inside : has zone zones ≡ true) where
  -- what the orders outside give
  abbrev given_outside : ℕ
  given_outside = sum_by (λ order. lots_if (not (has order.order.zone zones)) (plan.gives order)) orders

  given : sum_by (given_in orders plan) (outside graph zones) ≡ given_outside
  given =
      sum_zones (λ (order : Standing). order.order.zone) plan.gives orders (outside graph zones) (outside-different graph zones)
      ∙ sum_same_in (at_zones (λ (order : Standing). order.order.zone) plan.gives (outside graph zones)) (λ order. lots_if (not (has order.order.zone zones)) (plan.gives order)) orders
      (λ order i. ap (λ b. lots_if b (plan.gives order)) (has-outside graph zones order.order.zone (known order i)))

  -- it comes over the edge of the set
  balance : (s : Side) → ((other : ℕ) → HasZone graph other → other ≢ zone → IsBalanced graph s orders plan other) → given_outside ≤ room_across graph room s zones
  balance Buy each = omega (arith, given, most_across graph zone plan.flow zones is inside room Buy (given_in orders plan) planned.within each)
  balance Sell each = omega (arith, given, most_across graph zone plan.flow zones is inside room Sell (given_in orders plan) planned.within each)

  pub no_plan_more : value_of orders plan ≤ bound_with graph room side orders most zones
  no_plan_more =
      let parted = sum_parts plan.gives (λ order. lots_if (has order.order.zone zones) (plan.gives order)) (λ order. lots_if (not (has order.order.zone zones)) (plan.gives order)) orders
      (λ order. inside_or_outside (has order.order.zone zones) (plan.gives order)) in
      let own = sum_least (λ (order : Standing). lots_if (has order.order.zone zones) (plan.gives order)) (λ order. lots_if (has order.order.zone zones) (most order)) orders
      (λ order i. if_least (has order.order.zone zones) (plan.gives order) (most order) (planned.gives_most order i)) in
      let passing = sum_passing (λ (order : Standing). has order.order.zone zones) most orders in
      let across = balance side planned.balanced in
      omega (arith, parted, own, passing, across)

pub no_plan_beats_bound : NoPlanBeatsABound
no_plan_beats_bound graph room side zone orders most plan zones is known planned inside = no_plan_more graph room side zone orders most plan zones is known planned inside
