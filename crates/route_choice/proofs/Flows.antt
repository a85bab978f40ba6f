-- A flow into a set of zones is bounded by the room of the arcs that enter it.
use Rattle.std.proofs.Common.{◌≡◌, ◌≢◌, ◌∙◌, ◌+◌, ◌≤◌, ◌==◌, ◌&&◌, ◌||◌, ◌⊎◌, inl, inr, ℕ, zero, suc, Bool, true, false, not, cond, List, [], ◌∷◌, filter, nat_eq, sum_by, refl, sym, ap, subst, arith, eq-eqb, eqb-true}
use Rattle.std.proofs.lemmas.Bool.{cases_eq, ne_eqb, true≢false}
use Rattle.std.proofs.lemmas.List.Sums.{sum_by-cons}
use Rattle.std.specs.List.{range_with_len}
use Rattle.zone_graph.specs.declared.route.Arc.{Arc}
use Rattle.zone_graph.specs.declared.route.RouteLeg.{RouteLeg}
use Rattle.zone_graph.specs.Graph.{Graph, HasZone, IsGraph, arcs_of, end_of, start_of, zone_count}
use Rattle.zone_graph.specs.Pour.{lots_if, opposite_arc, pour, uses}
use Rattle.zone_graph.specs.Reach.{enters, entering_room, leaves, reaches, zones_towards}
use Rattle.zone_graph.specs.Route.{AreDifferent, IsIn, IsRoute, has}
use Rattle.zone_graph.proofs.Membership.{IsIn-has, from_filter, from_range, has-IsIn}
use Rattle.zone_graph.proofs.Routes.{from_arcs_of}
use Rattle.zone_graph.proofs.Arcs.{one_or_other}
use Rattle.cut_proof.proofs.ArcSums.{at_route, exchanged, sum_balance, sum_opposite, sum_parts, sum_passing, sum_route}
use Rattle.cut_proof.proofs.Crossing.{enters-opposite}
use Rattle.cut_proof.proofs.Ways.{borders_once, way-steps, way_has_arc}
use Rattle.route_choice.specs.Flow.{IsFlow, NoFlowCarriesMore, sent_out, taken_in}
use Rattle.route_choice.specs.Poured.{CarryTheMost, lots_of, rooms_after}
use Rattle.route_choice.proofs.Pours.{end_inside, most_of_run, pour-run}

-- ---- sums

pub sum_same : {X : Type 0} (f g : X → ℕ) (xs : List X) → ((x : X) → f x ≡ g x) → sum_by f xs ≡ sum_by g xs
sum_same {X} f g xs each = let same : f ≡ g = λ i. λ x. each x i in ap (λ (h : X → ℕ). sum_by h xs) same

pub sum_least : {X : Type 0} (f g : X → ℕ) (xs : List X) → ((x : X) → IsIn x xs → f x ≤ g x) → sum_by f xs ≤ sum_by g xs
sum_least f g [] each = omega arith
sum_least f g (x ∷ xs) each =
    omega (arith, sum_by-cons f x xs, sum_by-cons g x xs, sum_least f g xs (λ y i. each y (inr i)), each x (inl refl))

-- the sum over the zones of a set of what counts at each of them
abbrev pub at_zones : {X : Type 0} → (X → ℕ) → (X → ℕ) → List ℕ → X → ℕ
at_zones end flow zones arc = lots_if (has (end arc) zones) (flow arc)

pub sum_zones : {X : Type 0} (end flow : X → ℕ) (arcs : List X) (zones : List ℕ) → AreDifferent zones
    → sum_by (λ zone. sum_by flow (filter (λ arc. end arc == zone) arcs)) zones ≡ sum_by (at_zones end flow zones) arcs
sum_zones {X} end flow arcs [] once = sym (nothing arcs)
  where
    nothing : (xs : List X) → sum_by (at_zones end flow []) xs ≡ 0
    nothing [] = refl
    nothing (x ∷ xs) = omega (arith, sum_by-cons (at_zones end flow []) x xs, nothing xs)
sum_zones {X} end flow arcs (zone ∷ zones) once =
    omega (
      arith,
      sum_by-cons (λ z. sum_by flow (filter (λ arc. end arc == z) arcs)) zone zones,
      sum_zones end flow arcs zones once.1,
      sum_passing (λ arc. end arc == zone) flow arcs,
      sum_parts (at_zones end flow (zone ∷ zones)) (λ arc. lots_if (end arc == zone) (flow arc)) (at_zones end flow zones) arcs parts,
    )
  where
    turned : (a b : ℕ) → nat_eq a b ≡ nat_eq b a
    turned a b = by (cases_eq a b)
      where
        by : (a ≡ b) ⊎ (a ≢ b) → nat_eq a b ≡ nat_eq b a
        by (inl e) = eq-eqb a b e ∙ sym (eq-eqb b a (sym e))
        by (inr apart) = ne_eqb a b apart ∙ sym (ne_eqb b a (λ e. apart (sym e)))

    parts : (arc : X) → at_zones end flow (zone ∷ zones) arc ≡ lots_if (end arc == zone) (flow arc) + at_zones end flow zones arc
    parts arc =
        ap (λ b. lots_if (b || has (end arc) zones) (flow arc)) (turned zone (end arc))
        ∙ one_or_other (end arc == zone) (has (end arc) zones) (flow arc)
        (λ here there. once.0 (subst (λ z. IsIn z zones) (eqb-true (end arc) zone here) (IsIn-has (end arc) zones there)))

-- ---- over a route

module _ (graph : Graph) (room : Arc → ℕ) (from to lots : ℕ) (route : List Arc) (is : IsRoute graph room from to route) where
  abbrev on_route : Arc → ℕ
  on_route arc = lots_if (uses route arc) lots

  -- over the arcs that pass a test
  route-sum : (test : Arc → Bool) → sum_by on_route (filter test (arcs_of graph)) ≡ sum_by (λ arc. lots_if (test arc) lots) route
  route-sum test =
      sum_passing test on_route (arcs_of graph)
      ∙ sum_same (λ arc. lots_if (test arc) (on_route arc)) (at_route (λ arc. lots_if (test arc) lots) route) (arcs_of graph) (λ arc. exchanged (test arc) (uses route arc) lots)
      ∙ sum_route graph (λ arc. lots_if (test arc) lots) route (λ arc i. way_has_arc graph room from to route arc is.way i)
      (borders_once graph room from to route is.way is.simple)

  -- a route carries its lots out of the zone where it starts, into the zone where it ends, and through
  -- all others
  pub route-balance : (zone : ℕ) → sent_out graph on_route zone + lots_if (to == zone) lots ≡ taken_in graph on_route zone + lots_if (from == zone) lots
  route-balance zone =
      omega (arith, route-sum (λ arc. start_of graph arc == zone), route-sum (λ arc. end_of graph arc == zone), way-steps graph room lots zone from to route is.way)

-- ---- a flow into a set of zones

-- the zones of a set that the first zone is not in take in what they send out, and the last one so
-- many lots more
set_balance : (graph : Graph) (room : Arc → ℕ) (from to lots : ℕ) (flow : Arc → ℕ) (zones : List ℕ) → IsFlow graph room from to lots flow
    → AreDifferent zones → ((zone : ℕ) → IsIn zone zones → HasZone graph zone) → ((zone : ℕ) → IsIn zone zones → zone ≢ from)
    → sum_by (taken_in graph flow) zones ≡ sum_by (sent_out graph flow) zones + lots_if (has to zones) lots
set_balance graph room from to lots flow [] is_flow once known apart = refl
set_balance graph room from to lots flow (zone ∷ zones) is_flow once known apart =
    by (cases_eq zone to) (set_balance graph room from to lots flow zones is_flow once.1 (λ z i. known z (inr i)) (λ z i. apart z (inr i)))
  where
    absent : (b : Bool) → has zone zones ≡ b → has zone zones ≡ false
    absent false e = e
    absent true e = absurd (once.0 (IsIn-has zone zones e))

    by : (zone ≡ to) ⊎ (zone ≢ to) → sum_by (taken_in graph flow) zones ≡ sum_by (sent_out graph flow) zones + lots_if (has to zones) lots
        → sum_by (taken_in graph flow) (zone ∷ zones) ≡ sum_by (sent_out graph flow) (zone ∷ zones) + lots_if (has to (zone ∷ zones)) lots
    by (inl same) rest =
        let here : taken_in graph flow zone ≡ sent_out graph flow zone + lots = subst (λ z. taken_in graph flow z ≡ sent_out graph flow z + lots) (sym same) is_flow.arriving in
        let none : lots_if (has to zones) lots ≡ 0 = ap (λ z. lots_if (has z zones) lots) (sym same) ∙ ap (λ b. lots_if b lots) (absent (has zone zones) refl) in
        let some : lots_if (has to (zone ∷ zones)) lots ≡ lots = ap (λ b. lots_if (b || has to zones) lots) (eq-eqb zone to same) in
        omega (arith, here, none, some, rest, sum_by-cons (taken_in graph flow) zone zones, sum_by-cons (sent_out graph flow) zone zones)
    by (inr other) rest =
        let here : taken_in graph flow zone ≡ sent_out graph flow zone = is_flow.sent_on zone (known zone (inl refl)) (apart zone (inl refl)) other in
        let same : lots_if (has to (zone ∷ zones)) lots ≡ lots_if (has to zones) lots = ap (λ b. lots_if (b || has to zones) lots) (ne_eqb zone to other) in
        omega (arith, here, same, rest, sum_by-cons (taken_in graph flow) zone zones, sum_by-cons (sent_out graph flow) zone zones)

-- of an arc's ends in a set
crossing : (start end : Bool) (n : ℕ) → lots_if end n + lots_if (start && not end) n ≡ lots_if start n + lots_if (not start && end) n
crossing true true n = omega arith
crossing true false n = omega arith
crossing false true n = omega arith
crossing false false n = omega arith

pub split_if : (b : Bool) (m n : ℕ) → lots_if b (m + n) ≡ lots_if b m + lots_if b n
split_if true m n = refl
split_if false m n = refl

pub if_least : (b : Bool) (m n : ℕ) → m ≤ n → lots_if b m ≤ lots_if b n
if_least true m n least = least
if_least false m n least = omega arith

-- a flow brings no more into a set of zones around its last than the arcs that enter it have room for
pub flow_bound : (graph : Graph) (room : Arc → ℕ) (from to lots : ℕ) (flow : Arc → ℕ) (zones : List ℕ) → IsFlow graph room from to lots flow
    → AreDifferent zones → ((zone : ℕ) → IsIn zone zones → HasZone graph zone) → has from zones ≡ false → has to zones ≡ true
    → lots ≤ entering_room graph room zones
flow_bound graph room from to lots flow zones is_flow once known outside inside =
    let arcs = arcs_of graph in
    let balance = set_balance graph room from to lots flow zones is_flow once known
    (λ zone i e. true≢false (sym (has-IsIn from zones (subst (λ z. IsIn z zones) e i)) ∙ outside)) in
    let arrives = ap (λ b. lots_if b lots) inside in
    let into : sum_by (taken_in graph flow) zones ≡ sum_by (at_zones (end_of graph) flow zones) arcs = sum_zones (end_of graph) flow arcs zones once in
    let out_of : sum_by (sent_out graph flow) zones ≡ sum_by (at_zones (start_of graph) flow zones) arcs = sum_zones (start_of graph) flow arcs zones once in
    let crosses = sum_balance (at_zones (end_of graph) flow zones) (λ arc. lots_if (leaves graph zones arc) (flow arc))
    (at_zones (start_of graph) flow zones) (λ arc. lots_if (enters graph zones arc) (flow arc)) arcs
    (λ arc. crossing (has (start_of graph arc) zones) (has (end_of graph arc) zones) (flow arc)) in
    let back = sum_opposite graph (λ arc. lots_if (leaves graph zones arc) (flow arc)) in
    let turned = sum_same (λ arc. lots_if (enters graph zones arc) (flow (opposite_arc arc))) (λ arc. lots_if (leaves graph zones (opposite_arc arc)) (flow (opposite_arc arc))) arcs
    (λ arc. ap (λ b. lots_if b (flow (opposite_arc arc))) (enters-opposite graph zones arc)) in
    let turned_back : sum_by (λ arc. lots_if (enters graph zones arc) (flow (opposite_arc arc))) arcs ≡ sum_by (λ arc. lots_if (leaves graph zones arc) (flow arc)) arcs = turned ∙ back in
    let bounded = sum_least (λ arc. lots_if (enters graph zones arc) (flow arc)) (λ arc. lots_if (enters graph zones arc) (room arc + flow (opposite_arc arc))) arcs
    (λ arc i. if_least (enters graph zones arc) (flow arc) (room arc + flow (opposite_arc arc)) (is_flow.within arc (from_arcs_of graph arc i))) in
    let parted = sum_parts (λ arc. lots_if (enters graph zones arc) (room arc + flow (opposite_arc arc))) (λ arc. lots_if (enters graph zones arc) (room arc))
    (λ arc. lots_if (enters graph zones arc) (flow (opposite_arc arc))) arcs (λ arc. split_if (enters graph zones arc) (room arc) (flow (opposite_arc arc))) in
    let rooms : entering_room graph room zones ≡ sum_by (λ arc. lots_if (enters graph zones arc) (room arc)) arcs = sum_passing (enters graph zones) room arcs in
    omega (arith, balance, arrives, into, out_of, crosses, turned_back, bounded, parted, rooms)

-- ---- against a pour

pub different-range : (first count : ℕ) → AreDifferent (range_with_len first count)
different-range first zero = tt
different-range first (suc count) = (λ i. omega (arith, (from_range first (first + 1) count i).0), different-range (first + 1) count)

pub different-filter : {X : Type 0} (p : X → Bool) (xs : List X) → AreDifferent xs → AreDifferent (filter p xs)
different-filter p [] once = tt
different-filter {X} p (x ∷ xs) once = by (p x) (different-filter p xs once.1)
  where
    by : (b : Bool) → AreDifferent (filter p xs) → AreDifferent (cond b (x ∷ filter p xs) (filter p xs))
    by true rest = (λ i. once.0 (from_filter p x xs i).0, rest)
    by false rest = rest

-- legs that carry the most carry all lots, or no flow brings more
pub flow_or_all : (graph : Graph) (room : Arc → ℕ) (from to most lots : ℕ) (flow : Arc → ℕ) (legs : List RouteLeg) → IsGraph graph → HasZone graph to
    → CarryTheMost graph room (rooms_after room legs) from to most legs → IsFlow graph room from to lots flow → (lots_of legs ≡ most) ⊎ (lots ≤ lots_of legs)
flow_or_all graph room from to most lots flow legs is known (inl all) is_flow = inl all
flow_or_all graph room from to most lots flow legs is known (inr most_in) is_flow =
    let after = rooms_after room legs in
    let zones = zones_towards graph after to in
    let in_graph : (zone : ℕ) → IsIn zone zones → HasZone graph zone = λ zone i.
    let found = from_filter (λ other. reaches graph after other to) zone (range_with_len 0 (zone_count graph)) i in
    omega (arith, (from_range zone 0 (zone_count graph) found.0).1) in
    let once = different-filter (λ other. reaches graph after other to) (range_with_len 0 (zone_count graph)) (different-range 0 (zone_count graph)) in
    inr (omega (arith, most_in.0, flow_bound graph room from to lots flow zones is_flow once in_graph most_in.1 (end_inside graph after to is known)))

pub no_flow_more : NoFlowCarriesMore
no_flow_more graph room from to most lots flow is known is_flow few =
    let legs = pour graph room from to most in
    elim (flow_or_all graph room from to most lots flow legs is known (most_of_run graph from to room most legs is known (pour-run graph from to room most is)) is_flow) [
      | inl all ↦ omega (arith, all, few)
      | inr less ↦ less
    ]
