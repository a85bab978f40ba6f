-- What a route carries of some lots.
use Rattle.std.proofs.Common.{◌≡◌, inl, inr, ℕ, ◌<◌, ◌≤◌, List, [], ◌∷◌, min, Some, refl, sym, subst, arith}
use Rattle.zone_graph.specs.declared.route.Arc.{Arc}
use Rattle.zone_graph.specs.Graph.{Graph, IsGraph, end_of}
use Rattle.zone_graph.specs.Route.{IsIn, IsRoute, IsWay, best_route, carried}
use Rattle.zone_graph.proofs.BestRoute.{best_route-is}

-- no more than the lots
pub carried-le : (room : Arc → ℕ) (lots : ℕ) (route : List Arc) → carried room lots route ≤ lots
carried-le room lots [] = omega arith
carried-le room lots (arc ∷ arcs) = let rest = carried-le room (min lots (room arc)) arcs in omega arith

-- no more than the room of any of its arcs
pub carried-room : (room : Arc → ℕ) (lots : ℕ) (route : List Arc) (arc : Arc) → IsIn arc route → carried room lots route ≤ room arc
carried-room room lots [] arc h = absurd h
carried-room room lots (first ∷ arcs) arc h = elim h [
  | inl e ↦ let rest = carried-le room (min lots (room first)) arcs in
      subst (λ a. carried room (min lots (room first)) arcs ≤ room a) (sym e) (omega arith)
  | inr i ↦ carried-room room (min lots (room first)) arcs arc i
]

-- something of something, where each arc has room
pub carried-some : (room : Arc → ℕ) (lots : ℕ) (route : List Arc) → ((arc : Arc) → IsIn arc route → 0 < room arc) → 1 ≤ lots → 1 ≤ carried room lots route
carried-some room lots [] has some = some
carried-some room lots (arc ∷ arcs) has some =
    let here : 0 < room arc = has arc (inl refl) in
    carried-some room (min lots (room arc)) arcs (λ a i. has a (inr i)) (omega arith)

-- each arc of a way has room
pub way-room : (graph : Graph) (room : Arc → ℕ) (from to : ℕ) (arcs : List Arc) → IsWay graph room from arcs to → (arc : Arc) → IsIn arc arcs → 0 < room arc
way-room graph room from to [] way arc h = absurd h
way-room graph room from to (first ∷ arcs) way arc h = elim h [
  | inl e ↦ subst (λ a. 0 < room a) (sym e) way.2
  | inr i ↦ way-room graph room (end_of graph first) to arcs way.3 arc i
]

-- the best route is a route
pub best_route-route : (graph : Graph) (room : Arc → ℕ) (from to : ℕ) (arcs : List Arc) → IsGraph graph
    → best_route graph room from to ≡ Some arcs → IsRoute graph room from to arcs
best_route-route graph room from to arcs is e = (best_route-is graph room from to arcs is e).route
