-- Two rooms of arcs that agree inside a set of zones which nothing enters, or leaves: what is carried
-- inside, and by which routes, is the same.
use Rattle.std.proofs.Common.{◌≡◌, ◌∙◌, ◌+◌, ◌-◌, ◌<◌, inl, inr, ℕ, Bool, true, false, List, [], ◌∷◌, refl, sym, ap, subst, arith}
use Rattle.order_kinds.specs.declared.side.Side.{Side}
use Rattle.order_kinds.specs.declared.side.Side.TheVariants.{Buy, Sell}
use Rattle.zone_graph.specs.declared.route.Arc.{Arc}
use Rattle.zone_graph.specs.declared.route.RouteLeg.{RouteLeg}
use Rattle.zone_graph.specs.Graph.{Graph, HasArc, IsGraph, end_of, start_of}
use Rattle.zone_graph.specs.Pour.{lots_if, opposite_arc, room_after, uses}
use Rattle.zone_graph.specs.Route.{IsIn, IsWay, best_route}
use Rattle.zone_graph.proofs.Arcs.{IsIn-uses, opposite-end, opposite-start}
use Rattle.cut_proof.proofs.SameRooms.{SameOnRoutes, best-same}
use Rattle.cut_proof.proofs.Ways.{way_has_arc}

-- ---- a set of zones

-- the end of an arc that is nearer to the taker of a view, and the other one: energy comes to the taker
-- from sells, and goes from it to buys
abbrev pub near_end : Graph → Side → Arc → ℕ
near_end graph Sell arc = end_of graph arc
near_end graph Buy arc = start_of graph arc

abbrev pub far_end : Graph → Side → Arc → ℕ
far_end graph Sell arc = start_of graph arc
far_end graph Buy arc = end_of graph arc

-- two rooms agree on the arcs whose near end is in a set of zones, and the far end of those that have room
-- is in it too
pub record Agree (graph : Graph) (side : Side) (inside : ℕ → Bool) (room other : Arc → ℕ) : Type 0 where
  pub same : (arc : Arc) → HasArc graph arc → inside (near_end graph side arc) ≡ true → room arc ≡ other arc
  pub closed : (arc : Arc) → HasArc graph arc → inside (near_end graph side arc) ≡ true → 0 < room arc → inside (far_end graph side arc) ≡ true

pub agree-back : (graph : Graph) (side : Side) (inside : ℕ → Bool) (room other : Arc → ℕ) → Agree graph side inside room other → Agree graph side inside other room
agree-back graph side inside room other agree = record {
  same = λ arc known near. sym (agree.same arc known near);
  closed = λ arc known near some. agree.closed arc known near (subst (λ n. 0 < n) (sym (agree.same arc known near)) some);
}

-- both ends of each arc are inside
abbrev pub AreInside : Graph → Side → (ℕ → Bool) → List Arc → Type 0
AreInside graph side inside arcs = (arc : Arc) → IsIn arc arcs → (inside (near_end graph side arc) ≡ true) × (inside (far_end graph side arc) ≡ true)

-- a way to a zone inside, or for a taker that sells a way from it, stays inside
pub to-inside : (graph : Graph) (inside : ℕ → Bool) (room other : Arc → ℕ) (from to : ℕ) (arcs : List Arc) → Agree graph Sell inside room other → inside to ≡ true
    → IsWay graph room from arcs to → (inside from ≡ true) × AreInside graph Sell inside arcs
to-inside graph inside room other from to [] agree own way = (ap inside way ∙ own, λ arc never. absurd never)
to-inside graph inside room other from to (arc ∷ arcs) agree own way =
    let rest = to-inside graph inside room other (end_of graph arc) to arcs agree own way.3 in
    let far = agree.closed arc way.0 rest.0 way.2 in (
      ap inside (sym way.1) ∙ far,
      λ a i. elim i [
        | inl e ↦ subst (λ (x : Arc). (inside (end_of graph x) ≡ true) × (inside (start_of graph x) ≡ true)) (sym e) (rest.0, far)
        | inr later ↦ rest.1 a later
      ],
    )

pub from-inside : (graph : Graph) (inside : ℕ → Bool) (room other : Arc → ℕ) (from to : ℕ) (arcs : List Arc) → Agree graph Buy inside room other → inside from ≡ true
    → IsWay graph room from arcs to → (inside to ≡ true) × AreInside graph Buy inside arcs
from-inside graph inside room other from to [] agree own way = (ap inside (sym way) ∙ own, λ arc never. absurd never)
from-inside graph inside room other from to (arc ∷ arcs) agree own way =
    let near : inside (start_of graph arc) ≡ true = ap inside way.1 ∙ own in
    let far = agree.closed arc way.0 near way.2 in
    let rest = from-inside graph inside room other (end_of graph arc) to arcs agree far way.3 in (
      rest.0,
      λ a i. elim i [
        | inl e ↦ subst (λ (x : Arc). (inside (start_of graph x) ≡ true) × (inside (end_of graph x) ≡ true)) (sym e) (near, far)
        | inr later ↦ rest.1 a later
      ],
    )

-- so all routes to it, or from it, are the same
pub routes-to : (graph : Graph) (is : IsGraph graph) (inside : ℕ → Bool) (room other : Arc → ℕ) (from to : ℕ) → Agree graph Sell inside room other
    → inside to ≡ true → best_route graph room from to ≡ best_route graph other from to
routes-to graph is inside room other from to agree own =
    best-same graph room other from to is (on room other agree) (on other room (agree-back graph Sell inside room other agree))
  where
    on : (one two : Arc → ℕ) → Agree graph Sell inside one two → SameOnRoutes graph one two from to
    on one two both arcs route arc i =
        both.same arc (way_has_arc graph one from to arcs arc route.way i) ((to-inside graph inside one two from to arcs both own route.way).1 arc i).0

pub routes-from : (graph : Graph) (is : IsGraph graph) (inside : ℕ → Bool) (room other : Arc → ℕ) (from to : ℕ) → Agree graph Buy inside room other
    → inside from ≡ true → best_route graph room from to ≡ best_route graph other from to
routes-from graph is inside room other from to agree own =
    best-same graph room other from to is (on room other agree) (on other room (agree-back graph Buy inside room other agree))
  where
    on : (one two : Arc → ℕ) → Agree graph Buy inside one two → SameOnRoutes graph one two from to
    on one two both arcs route arc i =
        both.same arc (way_has_arc graph one from to arcs arc route.way i) ((from-inside graph inside one two from to arcs both own route.way).1 arc i).0

-- ---- a leg inside

opposite-near : (graph : Graph) (side : Side) (arc : Arc) → near_end graph side (opposite_arc arc) ≡ far_end graph side arc
opposite-near graph Sell arc = opposite-end graph arc
opposite-near graph Buy arc = opposite-start graph arc

-- after a leg inside they still agree: an arc that got room leads back over the leg
pub agree-after : (graph : Graph) (side : Side) (inside : ℕ → Bool) (room other : Arc → ℕ) (leg : RouteLeg) → Agree graph side inside room other
    → AreInside graph side inside leg.route → Agree graph side inside (room_after room leg) (room_after other leg)
agree-after graph side inside room other leg agree all = record {
  same = λ arc known near. ap (λ n. (n + lots_if (uses leg.route (opposite_arc arc)) leg.lots) - lots_if (uses leg.route arc) leg.lots) (agree.same arc known near);
  closed = λ arc known near some. by arc known near some (uses leg.route (opposite_arc arc)) refl;
}
  where
    by : (arc : Arc) → HasArc graph arc → inside (near_end graph side arc) ≡ true → 0 < room_after room leg arc → (b : Bool) → uses leg.route (opposite_arc arc) ≡ b
        → inside (far_end graph side arc) ≡ true
    by arc known near some true e = ap inside (sym (opposite-near graph side arc)) ∙ (all (opposite_arc arc) (IsIn-uses leg.route (opposite_arc arc) e)).0
    by arc known near some false e =
        let nothing = ap (λ b. lots_if b leg.lots) e in
        agree.closed arc known near (omega (arith, nothing, some))
