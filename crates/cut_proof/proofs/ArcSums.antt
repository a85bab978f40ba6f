-- Sums over the arcs of a graph, and over those of them that are a route's.
use Rattle.std.proofs.Common.{◌≡◌, ◌≢◌, ◌∙◌, ◌+◌, ◌<◌, ◌≤◌, ◌&&◌, ◌⊎◌, inl, inr, ℕ, zero, suc, Bool, true, false, cond, List, [], ◌∷◌, ◌++◌, map, filter, flat_map, sum_by, nat_eq, refl, sym, ap, subst, arith, eq-eqb}
use Rattle.std.proofs.lemmas.Bool.{cases_eq, ne_eqb}
use Rattle.std.proofs.lemmas.List.Sums.{sum_by-cons}
use Rattle.std.specs.List.{range_with_len}
use Rattle.zone_graph.specs.declared.route.Arc.{Arc}
use Rattle.zone_graph.specs.Graph.{Graph, HasArc, arcs_of, arcs_over, border_count}
use Rattle.zone_graph.specs.Pour.{lots_if, opposite_arc, same_arc, same_bool, uses}
use Rattle.zone_graph.specs.Route.{AreDifferent, IsIn}
use Rattle.zone_graph.proofs.Membership.{IsIn-map}
use Rattle.zone_graph.proofs.Arcs.{IsIn-uses, one_or_other, over, over-is, same_arc-is}

-- one number more
pub range_more : (first count : ℕ) → range_with_len first (suc count) ≡ range_with_len first count ++ (first + count) ∷ []
range_more first zero = ap (λ n. n ∷ []) (omega arith)
range_more first (suc count) = ap (λ ns. first ∷ ns) (range_more (first + 1) count ∙ ap (λ n. range_with_len (first + 1) count ++ n ∷ []) (omega arith))

-- a sum over what passes a test is a sum of what counts where the test holds
pub sum_passing : {X : Type 0} (p : X → Bool) (f : X → ℕ) (xs : List X) → sum_by f (filter p xs) ≡ sum_by (λ x. lots_if (p x) (f x)) xs
sum_passing p f [] = refl
sum_passing p f (x ∷ xs) = by (p x) (sum_passing p f xs) ∙ sym (sum_by-cons (λ y. lots_if (p y) (f y)) x xs)
  where
    by : (b : Bool) → sum_by f (filter p xs) ≡ sum_by (λ y. lots_if (p y) (f y)) xs
        → sum_by f (cond b (x ∷ filter p xs) (filter p xs)) ≡ lots_if b (f x) + sum_by (λ y. lots_if (p y) (f y)) xs
    by true rest = omega (arith, sum_by-cons f x (filter p xs), rest)
    by false rest = omega (arith, rest)

-- tests one behind the other
pub exchanged : (a b : Bool) (n : ℕ) → lots_if a (lots_if b n) ≡ lots_if b (lots_if a n)
exchanged true true n = refl
exchanged true false n = refl
exchanged false true n = refl
exchanged false false n = refl

-- sums balance where their parts do
pub sum_balance : {X : Type 0} (f g h k : X → ℕ) (xs : List X) → ((x : X) → f x + g x ≡ h x + k x)
    → sum_by f xs + sum_by g xs ≡ sum_by h xs + sum_by k xs
sum_balance f g h k [] each = refl
sum_balance f g h k (x ∷ xs) each =
    omega (arith, sum_by-cons f x xs, sum_by-cons g x xs, sum_by-cons h x xs, sum_by-cons k x xs, sum_balance f g h k xs each, each x)

-- a sum by parts
pub sum_parts : {X : Type 0} (f g h : X → ℕ) (xs : List X) → ((x : X) → f x ≡ g x + h x) → sum_by f xs ≡ sum_by g xs + sum_by h xs
sum_parts f g h [] each = refl
sum_parts f g h (x ∷ xs) each =
    omega (arith, sum_by-cons f x xs, sum_by-cons g x xs, sum_by-cons h x xs, sum_parts f g h xs each, each x)

-- a sum of what is nothing at each item
pub sum_nothing : {X : Type 0} (f : X → ℕ) (xs : List X) → ((x : X) → IsIn x xs → f x ≡ 0) → sum_by f xs ≡ 0
sum_nothing f [] each = refl
sum_nothing f (x ∷ xs) each =
    omega (arith, sum_by-cons f x xs, sum_nothing f xs (λ y i. each y (inr i)), each x (inl refl))

-- the sum over the two arcs of a border, and those of other borders
border_sum : (f : Arc → ℕ) (border : ℕ) (borders : List ℕ)
    → sum_by f (flat_map arcs_over (border ∷ borders)) ≡ f (over border true) + f (over border false) + sum_by f (flat_map arcs_over borders)
border_sum f border borders =
    omega (arith, sum_by-cons f (over border true) (over border false ∷ flat_map arcs_over borders), sum_by-cons f (over border false) (flat_map arcs_over borders))

-- over all arcs it is the same whether an arc or its opposite counts
pub sum_opposite : (graph : Graph) (f : Arc → ℕ) → sum_by (λ arc. f (opposite_arc arc)) (arcs_of graph) ≡ sum_by f (arcs_of graph)
sum_opposite graph f = turned (range_with_len 0 (border_count graph))
  where
    turned : (borders : List ℕ) → sum_by (λ arc. f (opposite_arc arc)) (flat_map arcs_over borders) ≡ sum_by f (flat_map arcs_over borders)
    turned [] = refl
    turned (border ∷ borders) =
        omega (arith, border_sum (λ arc. f (opposite_arc arc)) border borders, border_sum f border borders, turned borders)

-- ---- one arc

-- what counts at one arc alone
abbrev pub at_arc : (Arc → ℕ) → Arc → Arc → ℕ
at_arc f arc other = lots_if (same_arc other arc) (f other)

at_its_border : (f : Arc → ℕ) (border : ℕ) (arc : Arc) → border ≡ arc.border → at_arc f arc (over border true) + at_arc f arc (over border false) ≡ f arc
at_its_border f border arc e = by (nat_eq border arc.border) (eq-eqb border arc.border e) arc.forward refl
  where
    by : (b : Bool) → b ≡ true → (d : Bool) → d ≡ arc.forward
        → lots_if (b && same_bool true d) (f (over border true)) + lots_if (b && same_bool false d) (f (over border false)) ≡ f arc
    by true t true h = let same : f (over border true) ≡ f arc = ap f (over-is border true arc e h) in omega (arith, same)
    by true t false h = let same : f (over border false) ≡ f arc = ap f (over-is border false arc e h) in omega (arith, same)
    by false t d h = absurd (cc)

at_other_border : (f : Arc → ℕ) (border : ℕ) (arc : Arc) → nat_eq border arc.border ≡ false → at_arc f arc (over border true) + at_arc f arc (over border false) ≡ 0
at_other_border f border arc e =
    ap (λ b. lots_if (b && same_bool true arc.forward) (f (over border true)) + lots_if (b && same_bool false arc.forward) (f (over border false))) e

at_no_border : (f : Arc → ℕ) (arc : Arc) (first count : ℕ) → arc.border < first → sum_by (at_arc f arc) (flat_map arcs_over (range_with_len first count)) ≡ 0
at_no_border f arc first zero past = refl
at_no_border f arc first (suc count) past =
    let other : nat_eq first arc.border ≡ false = ne_eqb first arc.border (λ same. omega (arith, past, same)) in
    omega (arith, border_sum (at_arc f arc) first (range_with_len (first + 1) count), at_other_border f first arc other, at_no_border f arc (first + 1) count (omega (arith, past)))

not_at : (a b : ℕ) → a ≤ b → a ≢ b → a + 1 ≤ b
not_at a b least apart = omega arith

at_one_border : (f : Arc → ℕ) (arc : Arc) (first count : ℕ) → first ≤ arc.border → arc.border < first + count
    → sum_by (at_arc f arc) (flat_map arcs_over (range_with_len first count)) ≡ f arc
at_one_border f arc first zero least most = absurd (omega (arith, least, most))
at_one_border f arc first (suc count) least most = by (cases_eq first arc.border) (at_one_border f arc (first + 1) count)
  where
    by : (first ≡ arc.border) ⊎ (first ≡ arc.border → ⊥)
        → (first + 1 ≤ arc.border → arc.border < first + 1 + count → sum_by (at_arc f arc) (flat_map arcs_over (range_with_len (first + 1) count)) ≡ f arc)
        → sum_by (at_arc f arc) (flat_map arcs_over (range_with_len first (suc count))) ≡ f arc
    by (inl same) later =
        omega (arith, border_sum (at_arc f arc) first (range_with_len (first + 1) count), at_its_border f first arc same, at_no_border f arc (first + 1) count (omega (arith, same)))
    by (inr apart) later =
        let more : first + 1 ≤ arc.border = not_at first arc.border least apart in
        omega (arith, border_sum (at_arc f arc) first (range_with_len (first + 1) count), at_other_border f first arc (ne_eqb first arc.border apart), later more (omega (arith, most)))

-- the sum of what counts at one arc of the graph
pub sum_at : (graph : Graph) (f : Arc → ℕ) (arc : Arc) → HasArc graph arc → sum_by (at_arc f arc) (arcs_of graph) ≡ f arc
sum_at graph f arc known = at_one_border f arc 0 (border_count graph) (omega arith) (omega (arith, known))

-- ---- the arcs of a route

-- what counts at the arcs of a route alone
abbrev pub at_route : (Arc → ℕ) → List Arc → Arc → ℕ
at_route f route arc = lots_if (uses route arc) (f arc)

-- over all arcs, what counts at the arcs of a route is the sum over the route
pub sum_route : (graph : Graph) (f : Arc → ℕ) (route : List Arc) → ((arc : Arc) → IsIn arc route → HasArc graph arc)
    → AreDifferent (map (λ (arc : Arc). arc.border) route) → sum_by (at_route f route) (arcs_of graph) ≡ sum_by f route
sum_route graph f [] known once = sum_nothing (λ (arc : Arc). 0) (arcs_of graph) (λ arc i. refl)
sum_route graph f (next ∷ route) known once =
    omega (
      arith,
      sum_parts (at_route f (next ∷ route)) (at_arc f next) (at_route f route) (arcs_of graph) (λ arc. one_or_other (same_arc arc next) (uses route arc) (f arc) (apart arc)),
      sum_at graph f next (known next (inl refl)),
      sum_route graph f route (λ arc i. known arc (inr i)) once.1,
      sum_by-cons f next route,
    )
  where
    apart : (arc : Arc) → same_arc arc next ≡ true → uses route arc ≡ true → ⊥
    apart arc same used =
        once.0 (subst (λ b. IsIn b (map (λ (a : Arc). a.border) route)) (ap (λ (a : Arc). a.border) (same_arc-is arc next same))
        (IsIn-map (λ (a : Arc). a.border) arc route (IsIn-uses route arc used)))
