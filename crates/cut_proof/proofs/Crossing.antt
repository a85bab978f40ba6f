-- What a leg changes of the rooms of the arcs into and out of a set of zones: as it goes in and out
-- in turn, it is its lots, once, or nothing.
use Rattle.std.proofs.Common.{◌≡◌, ◌∙◌, ◌+◌, ◌-◌, ◌≤◌, ◌&&◌, ℕ, Bool, true, false, not, List, [], ◌∷◌, map, filter, sum_by, refl, sym, ap, arith}
use Rattle.std.proofs.lemmas.List.Sums.{sum_by-cons}
use Rattle.zone_graph.specs.declared.route.Arc.{Arc}
use Rattle.zone_graph.specs.declared.route.RouteLeg.{RouteLeg}
use Rattle.zone_graph.specs.Graph.{Graph, HasArc, arcs_of, end_of, start_of}
use Rattle.zone_graph.specs.Pour.{lots_if, opposite_arc, room_after, uses}
use Rattle.zone_graph.specs.Reach.{entering_room, enters, leaves, leaving_room}
use Rattle.zone_graph.specs.Route.{AreDifferent, IsIn, IsWay, has}
use Rattle.zone_graph.proofs.Arcs.{IsIn-uses, opposite-start, opposite-end}
use Rattle.cut_proof.specs.Cut.{HasRoomFor, InnerLegsKeepTheCut, LegsInTakeEnteringRoom, LegsOutTakeLeavingRoom}
use Rattle.cut_proof.proofs.ArcSums.{at_route, sum_balance, sum_opposite, sum_passing, sum_route}
use Rattle.cut_proof.proofs.Ways.{borders_once, way_has_arc}

-- lots that count at the arcs that pass a test
abbrev pub lots_where : (Arc → Bool) → ℕ → Arc → ℕ
lots_where test lots arc = lots_if (test arc) lots

-- one arc goes in, or out, or neither
step_crosses : (start end : Bool) (lots : ℕ) → lots_if (not start && end) lots + lots_if start lots ≡ lots_if (start && not end) lots + lots_if end lots
step_crosses true true lots = omega arith
step_crosses true false lots = omega arith
step_crosses false true lots = omega arith
step_crosses false false lots = omega arith

-- a way goes in as often as out, and once more where it ends inside, and once less where it starts
-- there
pub way_crosses : (graph : Graph) (room : Arc → ℕ) (zones : List ℕ) (lots from to : ℕ) (arcs : List Arc) → IsWay graph room from arcs to
    → sum_by (lots_where (enters graph zones) lots) arcs + lots_if (has from zones) lots
    ≡ sum_by (lots_where (leaves graph zones) lots) arcs + lots_if (has to zones) lots
way_crosses graph room zones lots from to [] way = ap (λ zone. 0 + lots_if (has zone zones) lots) way
way_crosses graph room zones lots from to (arc ∷ arcs) way =
    let start = ap (λ zone. lots_if (has zone zones) lots) way.1 in
    let step = step_crosses (has (start_of graph arc) zones) (has (end_of graph arc) zones) lots in
    let rest = way_crosses graph room zones lots (end_of graph arc) to arcs way.3 in
    omega (arith, sum_by-cons (lots_where (enters graph zones) lots) arc arcs, sum_by-cons (lots_where (leaves graph zones) lots) arc arcs, start, step, rest)

-- one arc of a cut, by whether it is in the cut, whether the route uses it and whether it uses the
-- opposite one
arc_balance : (inside used back : Bool) (room lots : ℕ) → (used ≡ true → lots ≤ room)
    → lots_if inside ((room + lots_if back lots) - lots_if used lots) + lots_if used (lots_if inside lots)
    ≡ lots_if inside room + lots_if back (lots_if inside lots)
arc_balance true true true room lots enough = let most = enough refl in omega (arith, most)
arc_balance true true false room lots enough = let most = enough refl in omega (arith, most)
arc_balance true false true room lots enough = omega arith
arc_balance true false false room lots enough = omega arith
arc_balance false true true room lots enough = refl
arc_balance false true false room lots enough = refl
arc_balance false false true room lots enough = refl
arc_balance false false false room lots enough = refl

-- the rooms of the arcs that pass a test fall by the lots on those that the route uses, and rise by
-- the lots on those whose opposites it uses
pub cut_balance : (graph : Graph) (room : Arc → ℕ) (from to : ℕ) (leg : RouteLeg) (p q : Arc → Bool)
    → HasRoomFor graph room from to leg → ((arc : Arc) → p arc ≡ q (opposite_arc arc))
    → sum_by (room_after room leg) (filter p (arcs_of graph)) + sum_by (lots_where p leg.lots) leg.route
    ≡ sum_by room (filter p (arcs_of graph)) + sum_by (lots_where q leg.lots) leg.route
cut_balance graph room from to leg p q fits turned =
    omega (
      arith,
      sum_passing p (room_after room leg) (arcs_of graph),
      sum_passing p room (arcs_of graph),
      sum_route graph (lots_where p leg.lots) leg.route known once,
      sum_route graph (lots_where q leg.lots) leg.route known once,
      sum_opposite graph (at_route (lots_where q leg.lots) leg.route),
      sum_balance (λ arc. lots_if (p arc) (room_after room leg arc)) (at_route (lots_where p leg.lots) leg.route) (λ arc. lots_if (p arc) (room arc))
          (λ arc. at_route (lots_where q leg.lots) leg.route (opposite_arc arc)) (arcs_of graph) each,
    )
  where
    known : (arc : Arc) → IsIn arc leg.route → HasArc graph arc
    known arc i = way_has_arc graph room from to leg.route arc fits.is_route.way i

    once : AreDifferent (map (λ (arc : Arc). arc.border) leg.route)
    once = borders_once graph room from to leg.route fits.is_route.way fits.is_route.simple

    each : (arc : Arc) → lots_if (p arc) (room_after room leg arc) + lots_if (uses leg.route arc) (lots_if (p arc) leg.lots)
        ≡ lots_if (p arc) (room arc) + lots_if (uses leg.route (opposite_arc arc)) (lots_if (q (opposite_arc arc)) leg.lots)
    each arc =
        arc_balance (p arc) (uses leg.route arc) (uses leg.route (opposite_arc arc)) (room arc) leg.lots (λ used. fits.has_room arc (IsIn-uses leg.route arc used))
        ∙ ap (λ b. lots_if (p arc) (room arc) + lots_if (uses leg.route (opposite_arc arc)) (lots_if b leg.lots)) (turned arc)

both_turned : (start end : Bool) → (not start && end) ≡ (end && not start)
both_turned true true = refl
both_turned true false = refl
both_turned false true = refl
both_turned false false = refl

-- an arc enters where its opposite leaves
pub enters-opposite : (graph : Graph) (zones : List ℕ) (arc : Arc) → enters graph zones arc ≡ leaves graph zones (opposite_arc arc)
enters-opposite graph zones arc =
    both_turned (has (start_of graph arc) zones) (has (end_of graph arc) zones)
    ∙ ap (λ zone. has zone zones && not (has (start_of graph arc) zones)) (sym (opposite-start graph arc))
    ∙ ap (λ zone. has (start_of graph (opposite_arc arc)) zones && not (has zone zones)) (sym (opposite-end graph arc))

pub leaves-opposite : (graph : Graph) (zones : List ℕ) (arc : Arc) → leaves graph zones arc ≡ enters graph zones (opposite_arc arc)
leaves-opposite graph zones arc =
    sym (both_turned (has (end_of graph arc) zones) (has (start_of graph arc) zones))
    ∙ ap (λ zone. not (has zone zones) && has (start_of graph arc) zones) (sym (opposite-start graph arc))
    ∙ ap (λ zone. not (has (start_of graph (opposite_arc arc)) zones) && has zone zones) (sym (opposite-end graph arc))

-- what enters after a leg
pub entering_after : (graph : Graph) (room : Arc → ℕ) (from to : ℕ) (zones : List ℕ) (leg : RouteLeg) → HasRoomFor graph room from to leg
    → entering_room graph (room_after room leg) zones + lots_if (has to zones) leg.lots ≡ entering_room graph room zones + lots_if (has from zones) leg.lots
entering_after graph room from to zones leg fits =
    omega (
      arith,
      cut_balance graph room from to leg (enters graph zones) (leaves graph zones) fits (enters-opposite graph zones),
      way_crosses graph room zones leg.lots from to leg.route fits.is_route.way,
    )

-- what leaves after a leg
pub leaving_after : (graph : Graph) (room : Arc → ℕ) (from to : ℕ) (zones : List ℕ) (leg : RouteLeg) → HasRoomFor graph room from to leg
    → leaving_room graph (room_after room leg) zones + lots_if (has from zones) leg.lots ≡ leaving_room graph room zones + lots_if (has to zones) leg.lots
leaving_after graph room from to zones leg fits =
    omega (
      arith,
      cut_balance graph room from to leg (leaves graph zones) (enters graph zones) fits (leaves-opposite graph zones),
      way_crosses graph room zones leg.lots from to leg.route fits.is_route.way,
    )

pub legs_in : LegsInTakeEnteringRoom
legs_in graph room from to zones leg fits outside inside =
    let before = ap (λ b. lots_if b leg.lots) outside in
    let after = ap (λ b. lots_if b leg.lots) inside in
    record {
      entering = omega (arith, entering_after graph room from to zones leg fits, before, after);
      leaving = omega (arith, leaving_after graph room from to zones leg fits, before, after);
    }

pub legs_out : LegsOutTakeLeavingRoom
legs_out graph room from to zones leg fits inside outside =
    let before = ap (λ b. lots_if b leg.lots) inside in
    let after = ap (λ b. lots_if b leg.lots) outside in
    record {
      entering = omega (arith, entering_after graph room from to zones leg fits, before, after);
      leaving = omega (arith, leaving_after graph room from to zones leg fits, before, after);
    }

pub inner_legs : InnerLegsKeepTheCut
inner_legs graph room from to zones leg fits alike =
    let same = ap (λ b. lots_if b leg.lots) alike in
    record {
      entering = omega (arith, entering_after graph room from to zones leg fits, same);
      leaving = omega (arith, leaving_after graph room from to zones leg fits, same);
    }
