-- The best route is the one that no other beats, and it depends on the rooms of the graph's arcs
-- alone.
use Rattle.std.proofs.Common.{◌≡◌, ◌∙◌, ◌<◌, ℕ, Bool, true, false, List, [], ◌∷◌, length, map, Option, Some, None, is_some, refl, sym, ap, subst}
use Rattle.std.proofs.lemmas.Bool.{true≢false}
use Rattle.std.proofs.lemmas.Map.Lookups.{exact_unsigned}
use Rattle.std.specs.Cmp.{IsTotalOrder, nat_cmp_total, on_total, then_total}
use Rattle.std.specs.Cmp.Lexicographic.{lists_total, slice_cmp}
use Rattle.std.specs.Ordering.{is_gt, nat_cmp, ordering_reverse, ordering_then}
use Rattle.std.specs.declared.cmp.Ordering.{Ordering}
use Rattle.zone_graph.specs.declared.route.Arc.{Arc}
use Rattle.zone_graph.specs.Graph.{Graph, HasArc, IsGraph, end_of, start_of}
use Rattle.zone_graph.specs.Route.{IsBestRoute, IsIn, IsRoute, IsWay, best_route, route_cmp, routes}
use Rattle.zone_graph.specs.Reach.{reaches}
use Rattle.zone_graph.proofs.Least.{least_by-is, least_by-none}
use Rattle.zone_graph.proofs.Routes.{listed_is_route, route_is_listed}

-- routes are in a total order
pub route_cmp_total : IsTotalOrder route_cmp
route_cmp_total = then_total (on_total (λ (arcs : List Arc). length arcs) nat_cmp_total) (on_total (λ (arcs : List Arc). map (λ arc. arc.border) arcs) (lists_total nat_cmp_total))

-- the best route that is computed is beaten by no other
pub best_route-is : (graph : Graph) (room : Arc → ℕ) (from to : ℕ) (arcs : List Arc) → IsGraph graph
    → best_route graph room from to ≡ Some arcs → IsBestRoute graph room from to arcs
best_route-is graph room from to arcs is e =
    let least = least_by-is route_cmp_total (routes graph room from to) arcs e in
    record {
      route = listed_is_route graph room from to arcs least.there;
      best = λ other h. least.below other (route_is_listed graph room from to other is h);
    }

-- there is no route where none is computed
pub best_route-none : (graph : Graph) (room : Arc → ℕ) (from to : ℕ) (arcs : List Arc) → IsGraph graph
    → best_route graph room from to ≡ None → ¬ IsRoute graph room from to arcs
best_route-none graph room from to arcs is e h =
    subst (IsIn arcs) (least_by-none route_cmp_total (routes graph room from to) e) (route_is_listed graph room from to arcs is h)

-- two routes neither of which beats the other have the same borders
tied : (a b : List Arc) → is_gt (route_cmp a b) ≡ false → is_gt (route_cmp b a) ≡ false → route_cmp a b ≡ Ordering.Equal
tied a b p q = both (route_cmp a b) p (route_cmp b a) q (route_cmp_total.antisymm b a)
  where
    both : (r : Ordering) → is_gt r ≡ false → (s : Ordering) → is_gt s ≡ false → s ≡ ordering_reverse r → r ≡ Ordering.Equal
    both Ordering.Less p s q e = absurd (true≢false (sym (ap is_gt e) ∙ q))
    both Ordering.Equal p s q e = refl
    both Ordering.Greater p s q e = absurd (true≢false p)

then_equal : (a b : Ordering) → ordering_then a b ≡ Ordering.Equal → b ≡ Ordering.Equal
then_equal Ordering.Less b e = cc
then_equal Ordering.Equal b e = e
then_equal Ordering.Greater b e = cc

first_equal : (a b : Ordering) → ordering_then a b ≡ Ordering.Equal → a ≡ Ordering.Equal
first_equal Ordering.Less b e = e
first_equal Ordering.Equal b e = refl
first_equal Ordering.Greater b e = e

same_numbers : (xs ys : List ℕ) → slice_cmp nat_cmp xs ys ≡ Ordering.Equal → xs ≡ ys
same_numbers [] [] e = refl
same_numbers [] (y ∷ ys) e = cc
same_numbers (x ∷ xs) [] e = cc
same_numbers (x ∷ xs) (y ∷ ys) e =
    let head : x ≡ y = exact_unsigned x y (first_equal (nat_cmp x y) (slice_cmp nat_cmp xs ys) e) in
    let tail : xs ≡ ys = same_numbers xs ys (then_equal (nat_cmp x y) (slice_cmp nat_cmp xs ys) e) in
    cc

-- two arcs over one border that start in one zone are one arc
pub same_arc : (graph : Graph) (x y : Arc) → IsGraph graph → HasArc graph x → x.border ≡ y.border → start_of graph x ≡ start_of graph y → x ≡ y
same_arc graph x y is known border start = by_direction x.forward y.forward refl refl
  where
    over : Bool → Arc
    over f = record { border = x.border; forward = f }

    other : Bool → Arc
    other f = record { border = y.border; forward = f }

    starts : (f g : Bool) → x.forward ≡ f → y.forward ≡ g → start_of graph (over f) ≡ start_of graph (over g)
    starts f g e h =
        ap (λ (d : Bool). start_of graph (record { border = x.border; forward = d })) (sym e) ∙ start
        ∙ ap (λ (d : Bool). start_of graph (record { border = y.border; forward = d })) h
        ∙ ap (λ (b : ℕ). start_of graph (record { border = b; forward = g })) (sym border)

    alike : (f : Bool) → x.forward ≡ f → y.forward ≡ f → x ≡ y
    alike f e h =
        ap (λ (d : Bool). record { border = x.border; forward = d }) (e ∙ sym h)
        ∙ ap (λ (b : ℕ). record { border = b; forward = y.forward }) border

    by_direction : (f g : Bool) → x.forward ≡ f → y.forward ≡ g → x ≡ y
    by_direction true true e h = alike true e h
    by_direction false false e h = alike false e h
    by_direction true false e h = absurd (is.apart x.border known (starts true false e h))
    by_direction false true e h = absurd (is.apart x.border known (sym (starts false true e h)))

-- two ways from one zone over the same borders are one way
same_way : (graph : Graph) (room : Arc → ℕ) (from to : ℕ) (xs ys : List Arc) → IsGraph graph
    → IsWay graph room from xs to → IsWay graph room from ys to
    → map (λ (arc : Arc). arc.border) xs ≡ map (λ (arc : Arc). arc.border) ys → xs ≡ ys
same_way graph room from to [] [] is p q e = refl
same_way graph room from to [] (y ∷ ys) is p q e = cc
same_way graph room from to (x ∷ xs) [] is p q e = cc
same_way graph room from to (x ∷ xs) (y ∷ ys) is p q e =
    let head : x.border ≡ y.border = cc in
    let tail : map (λ (arc : Arc). arc.border) xs ≡ map (λ (arc : Arc). arc.border) ys = cc in
    let arc : x ≡ y = same_arc graph x y is p.0 head (p.1 ∙ sym q.1) in
    let rest : xs ≡ ys = same_way graph room (end_of graph x) to xs ys is p.3 (subst (λ z. IsWay graph room (end_of graph z) ys to) (sym arc) q.3) tail in
    cc

-- there is one best route at the most
pub best_is_one : (graph : Graph) (room : Arc → ℕ) (from to : ℕ) (a b : List Arc) → IsGraph graph
    → IsBestRoute graph room from to a → IsBestRoute graph room from to b → a ≡ b
best_is_one graph room from to a b is p q =
    let equal = tied a b (p.best b q.route) (q.best a p.route) in
    same_way graph room from to a b is p.route.way q.route.way (same_numbers _ _ (then_equal _ _ equal))

-- the route that no other beats is the one that is computed
pub best_route-unique : (graph : Graph) (room : Arc → ℕ) (from to : ℕ) (arcs : List Arc) → IsGraph graph
    → IsBestRoute graph room from to arcs → best_route graph room from to ≡ Some arcs
best_route-unique graph room from to arcs is best = found (best_route graph room from to) refl
  where
    found : (o : Option (List Arc)) → best_route graph room from to ≡ o → best_route graph room from to ≡ Some arcs
    found None e = absurd (best_route-none graph room from to arcs is e best.route)
    found (Some other) e = e ∙ ap Some (best_is_one graph room from to other arcs is (best_route-is graph room from to other is e) best)

-- where there is no route none is computed
pub best_route-no_route : (graph : Graph) (room : Arc → ℕ) (from to : ℕ) → IsGraph graph
    → ((arcs : List Arc) → ¬ IsRoute graph room from to arcs) → best_route graph room from to ≡ None
best_route-no_route graph room from to is never = found (best_route graph room from to) refl
  where
    found : (o : Option (List Arc)) → best_route graph room from to ≡ o → best_route graph room from to ≡ None
    found None e = e
    found (Some arcs) e = absurd (never arcs (best_route-is graph room from to arcs is e).route)

-- a route is found where there is one
pub reaches-route : (graph : Graph) (room : Arc → ℕ) (from to : ℕ) (arcs : List Arc) → IsGraph graph → IsRoute graph room from to arcs
    → reaches graph room from to ≡ true
reaches-route graph room from to arcs is route = found (best_route graph room from to) refl
  where
    found : (o : Option (List Arc)) → best_route graph room from to ≡ o → is_some (best_route graph room from to) ≡ true
    found None e = absurd (best_route-none graph room from to arcs is e route)
    found (Some best) e = ap is_some e

pub route-reaches : (graph : Graph) (room : Arc → ℕ) (from to : ℕ) → IsGraph graph → reaches graph room from to ≡ true
    → (arcs : List Arc) × IsRoute graph room from to arcs
route-reaches graph room from to is there = found (best_route graph room from to) refl
  where
    found : (o : Option (List Arc)) → best_route graph room from to ≡ o → (arcs : List Arc) × IsRoute graph room from to arcs
    found None e = absurd (true≢false (sym there ∙ ap is_some e))
    found (Some best) e = (best, (best_route-is graph room from to best is e).route)

-- ---- other rooms

-- a way has room where the rooms of the graph's arcs are the same
way_elsewhere : (graph : Graph) (room other : Arc → ℕ) (from to : ℕ) (arcs : List Arc) → ((arc : Arc) → HasArc graph arc → room arc ≡ other arc)
    → IsWay graph room from arcs to → IsWay graph other from arcs to
way_elsewhere graph room other from to [] same w = w
way_elsewhere graph room other from to (arc ∷ arcs) same w =
    (w.0, w.1, subst (λ n. 0 < n) (same arc w.0) w.2, way_elsewhere graph room other (end_of graph arc) to arcs same w.3)

route_elsewhere : (graph : Graph) (room other : Arc → ℕ) (from to : ℕ) (arcs : List Arc) → ((arc : Arc) → HasArc graph arc → room arc ≡ other arc)
    → IsRoute graph room from to arcs → IsRoute graph other from to arcs
route_elsewhere graph room other from to arcs same r = record { way = way_elsewhere graph room other from to arcs same r.way; simple = r.simple }

-- the best route is the same where the rooms of the graph's arcs are
pub best_route-rooms : (graph : Graph) (room other : Arc → ℕ) (from to : ℕ) → IsGraph graph → ((arc : Arc) → HasArc graph arc → room arc ≡ other arc)
    → best_route graph room from to ≡ best_route graph other from to
best_route-rooms graph room other from to is same = found (best_route graph room from to) refl (best_route graph other from to) refl
  where
    back : (arc : Arc) → HasArc graph arc → other arc ≡ room arc
    back arc known = sym (same arc known)

    found : (o : Option (List Arc)) → best_route graph room from to ≡ o → (p : Option (List Arc)) → best_route graph other from to ≡ p
        → best_route graph room from to ≡ best_route graph other from to
    found None e None f = e ∙ sym f
    found None e (Some arcs) f =
        absurd (best_route-none graph room from to arcs is e (route_elsewhere graph other room from to arcs back (best_route-is graph other from to arcs is f).route))
    found (Some arcs) e p f =
        let best = best_route-is graph room from to arcs is e in
        e ∙ sym (best_route-unique graph other from to arcs is (record {
          route = route_elsewhere graph room other from to arcs same best.route;
          best = λ another h. best.best another (route_elsewhere graph other room from to another back h);
        }))
