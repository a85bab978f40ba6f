-- Two rooms of arcs that are the same on the arcs that matter: a route carries as much over both, and the
-- best route is the same.
use Rattle.std.proofs.Common.{◌≡◌, ◌∙◌, ◌<◌, inl, inr, ℕ, List, [], ◌∷◌, min, Option, Some, None, refl, sym, ap, subst}
use Rattle.zone_graph.specs.declared.route.Arc.{Arc}
use Rattle.zone_graph.specs.Graph.{Graph, IsGraph, end_of}
use Rattle.zone_graph.specs.Route.{IsIn, IsRoute, IsWay, best_route, carried}
use Rattle.zone_graph.proofs.BestRoute.{best_route-is, best_route-none, best_route-unique}

-- a way has room where its arcs have the same rooms
way-same : (graph : Graph) (room other : Arc → ℕ) (from to : ℕ) (arcs : List Arc) → ((arc : Arc) → IsIn arc arcs → room arc ≡ other arc)
    → IsWay graph room from arcs to → IsWay graph other from arcs to
way-same graph room other from to [] same way = way
way-same graph room other from to (arc ∷ arcs) same way = (
  way.0,
  way.1,
  subst (λ n. 0 < n) (same arc (inl refl)) way.2,
  way-same graph room other (end_of graph arc) to arcs (λ a i. same a (inr i)) way.3,
)

-- a route carries as much where its arcs have the same rooms
pub carried-same : (room other : Arc → ℕ) (lots : ℕ) (route : List Arc) → ((arc : Arc) → IsIn arc route → room arc ≡ other arc)
    → carried room lots route ≡ carried other lots route
carried-same room other lots [] same = refl
carried-same room other lots (arc ∷ arcs) same =
    ap (λ n. carried room (min lots n) arcs) (same arc (inl refl))
    ∙ carried-same room other (min lots (other arc)) arcs (λ a i. same a (inr i))

-- all arcs of the routes from a zone to a zone have the same rooms
abbrev pub SameOnRoutes : Graph → (room other : Arc → ℕ) → (from to : ℕ) → Type 0
SameOnRoutes graph room other from to = (arcs : List Arc) → IsRoute graph room from to arcs → (arc : Arc) → IsIn arc arcs → room arc ≡ other arc

route-same : (graph : Graph) (room other : Arc → ℕ) (from to : ℕ) (arcs : List Arc) → SameOnRoutes graph room other from to
    → IsRoute graph room from to arcs → IsRoute graph other from to arcs
route-same graph room other from to arcs same route =
    record { way = way-same graph room other from to arcs (same arcs route) route.way; simple = route.simple }

-- so the best route is the same
pub best-same : (graph : Graph) (room other : Arc → ℕ) (from to : ℕ) → IsGraph graph → SameOnRoutes graph room other from to → SameOnRoutes graph other room from to
    → best_route graph room from to ≡ best_route graph other from to
best-same graph room other from to is same back = found (best_route graph room from to) refl (best_route graph other from to) refl
  where
    found : (o : Option (List Arc)) → best_route graph room from to ≡ o → (p : Option (List Arc)) → best_route graph other from to ≡ p
        → best_route graph room from to ≡ best_route graph other from to
    found None e None f = e ∙ sym f
    found None e (Some arcs) f =
        absurd (best_route-none graph room from to arcs is e (route-same graph other room from to arcs back (best_route-is graph other from to arcs is f).route))
    found (Some arcs) e p f =
        let best = best_route-is graph room from to arcs is e in
        e ∙ sym (best_route-unique graph other from to arcs is (record {
          route = route-same graph room other from to arcs same best.route;
          best = λ another h. best.best another (route-same graph other room from to another back h);
        }))
