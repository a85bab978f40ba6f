-- A pour in its course: the legs so far, the rooms that they leave, and what is left to pour.
use Rattle.std.proofs.Common.{◌≡◌, ◌∙◌, ◌+◌, ◌-◌, ◌<◌, ◌≤◌, ◌⊎◌, inl, inr, ℕ, zero, suc, Bool, true, false, List, [], ◌∷◌, ◌++◌, length, take, Option, Some, None, Result, Ok, Err, OnErr, is_some, refl, sym, ap, subst, arith, append-nil, append_assoc}
use Rattle.std.proofs.lemmas.List.Sums.{fold-append, sum_by-append, sum_by-cons}
use Rattle.std.proofs.Math.Seq.{take-append_seam}
use Rattle.std.specs.Option.{option_map}
use Rattle.zone_graph.specs.declared.route.Arc.{Arc}
use Rattle.zone_graph.specs.declared.route.RouteLeg.{RouteLeg}
use Rattle.zone_graph.specs.Graph.{Graph, HasZone, IsGraph}
use Rattle.zone_graph.specs.Pour.{Pouring, after_pour_leg, next_pour_leg, pour, pour_leg, room_after}
use Rattle.zone_graph.specs.Reach.{entering_room, zones_towards}
use Rattle.zone_graph.specs.Route.{best_route, carried, has}
use Rattle.zone_graph.specs.Steps.{IsRun}
use Rattle.zone_graph.proofs.BestRoute.{best_route-is, reaches-route}
use Rattle.zone_graph.proofs.Runs.{run-measured, run-unique}
use Rattle.zone_graph.proofs.Carrying.{carried-le, carried-room, carried-some, way-room}
use Rattle.cut_proof.specs.Cut.{HasRoomFor}
use Rattle.cut_proof.proofs.Crossing.{legs_in}
use Rattle.cut_proof.proofs.ReachLaws.{has-towards, no_room_enters, towards-has}
use Rattle.cut_proof.proofs.Carrying.{after_leg}
use Rattle.route_choice.specs.Poured.{AreRoomsAfterSome, CarryTheMost, PoursRunToTheirEnd, lots_of, rooms_after}

-- ---- one leg

-- the next leg of a pour: there is room for it, and it carries a lot at least of what is left
pub record IsPourLeg (graph : Graph) (room : Arc → ℕ) (from to left : ℕ) (leg : RouteLeg) : Type 0 where
  pub fits : HasRoomFor graph room from to leg
  pub some : 1 ≤ leg.lots
  pub enough : leg.lots ≤ left

abbrev pub over_route : (Arc → ℕ) → ℕ → List Arc → RouteLeg
over_route room left route = record { route = route; lots = carried room left route }

pub pour_leg-is : (graph : Graph) (room : Arc → ℕ) (from to left : ℕ) (leg : RouteLeg) → IsGraph graph → pour_leg graph room from to left ≡ Some leg
    → IsPourLeg graph room from to left leg
pour_leg-is graph room from to zero leg is e = cc
pour_leg-is graph room from to (suc more) leg is e = by (best_route graph room from to) refl e
  where
    by : (o : Option (List Arc)) → best_route graph room from to ≡ o → option_map (over_route room (suc more)) o ≡ Some leg
        → IsPourLeg graph room from to (suc more) leg
    by None found f = cc
    by (Some route) found f =
        let same : over_route room (suc more) route ≡ leg = cc in
        let best = (best_route-is graph room from to route is found).route in
        subst (IsPourLeg graph room from to (suc more)) same (record {
          fits = record { is_route = best; has_room = λ arc i. carried-room room (suc more) route arc i };
          some = carried-some room (suc more) route (way-room graph room from to route best.way) (omega arith);
          enough = carried-le room (suc more) route;
        })

pub leg_over_route : (graph : Graph) (room : Arc → ℕ) (from to left : ℕ) (route : List Arc) → 0 < left → best_route graph room from to ≡ Some route
    → pour_leg graph room from to left ≡ Some (over_route room left route)
leg_over_route graph room from to zero route some e = absurd (omega arith)
leg_over_route graph room from to (suc more) route some e = ap (option_map (over_route room (suc more))) e

-- where there is no leg, nothing is left or no route is there
none_left_or_no_route : (graph : Graph) (room : Arc → ℕ) (from to left : ℕ) → pour_leg graph room from to left ≡ None
    → (left ≡ 0) ⊎ (best_route graph room from to ≡ None)
none_left_or_no_route graph room from to zero e = inl refl
none_left_or_no_route graph room from to (suc more) e = by (best_route graph room from to) refl e
  where
    by : (o : Option (List Arc)) → best_route graph room from to ≡ o → option_map (over_route room (suc more)) o ≡ None
        → (suc more ≡ 0) ⊎ (best_route graph room from to ≡ None)
    by None found f = inr found
    by (Some route) found f = cc

-- ---- the legs of a pour

abbrev pub pouring : (Arc → ℕ) → ℕ → Pouring
pouring room left = record { room = room; left = left }

abbrev pub Poured : Graph → (from to : ℕ) → (Arc → ℕ) → (left : ℕ) → List RouteLeg → Type 0
Poured graph from to room left legs = IsRun (next_pour_leg graph from to) after_pour_leg (pouring room left) legs

-- the pour is a run
pub pour-run : (graph : Graph) (from to : ℕ) (room : Arc → ℕ) (left : ℕ) → IsGraph graph → Poured graph from to room left (pour graph room from to left)
pour-run graph from to room left is =
    run-measured left (next_pour_leg graph from to) after_pour_leg (λ p. p.left) (pouring room left)
    (λ p leg e. let l = pour_leg-is graph p.room from to p.left leg is e in omega (arith, l.some, l.enough)) (omega arith)

-- and the only one
pub runs_to_its_end : PoursRunToTheirEnd
runs_to_its_end graph room from to most legs is =
    let run = pour-run graph from to room most is in (
      λ other. run-unique (next_pour_leg graph from to) after_pour_leg (pouring room most) legs (pour graph room from to most) other run,
      λ same. subst (Poured graph from to room most) (sym same) run,
    )

-- a pour in its course
pub record IsPoured (graph : Graph) (start : Arc → ℕ) (from to most : ℕ) (room : Arc → ℕ) (left : ℕ) (legs : List RouteLeg) : Type 0 where
  pub rooms : room ≡ rooms_after start legs
  pub lots : lots_of legs + left ≡ most
  pub onward : (rest : List RouteLeg) → Poured graph from to room left rest → Poured graph from to start most (legs ++ rest)

pub one_more : (graph : Graph) (start : Arc → ℕ) (from to most : ℕ) (room : Arc → ℕ) (left : ℕ) (legs : List RouteLeg) (leg : RouteLeg) → IsGraph graph
    → IsPoured graph start from to most room left legs → pour_leg graph room from to left ≡ Some leg
    → IsPoured graph start from to most (room_after room leg) (left - leg.lots) (legs ++ leg ∷ [])
one_more graph start from to most room left legs leg is p e =
    let l = pour_leg-is graph room from to left leg is e in
    record {
      rooms = ap (λ r. room_after r leg) p.rooms ∙ sym (fold-append room_after start legs (leg ∷ []));
      lots = omega (arith, p.lots, l.enough, sum_by-append (λ (k : RouteLeg). k.lots) legs (leg ∷ []), sum_by-cons (λ (k : RouteLeg). k.lots) leg []);
      onward = λ rest run. subst (Poured graph from to start most) (sym (append_assoc legs (leg ∷ []) rest)) (p.onward (leg ∷ rest) (e, run));
    }

-- the same where the rooms are told arc by arc
pub one_more_over : (graph : Graph) (start : Arc → ℕ) (from to most : ℕ) (room after : Arc → ℕ) (left : ℕ) (legs : List RouteLeg) (leg : RouteLeg) (route : List Arc) → IsGraph graph
    → IsPoured graph start from to most room left legs → pour_leg graph room from to left ≡ Some leg → route ≡ leg.route
    → ((x : Arc) → after x ≡ room_after room (record { route = route; lots = leg.lots }) x)
    → IsPoured graph start from to most after (left - leg.lots) (legs ++ leg ∷ [])
one_more_over graph start from to most room after left legs leg route is p e same over =
    subst (λ r. IsPoured graph start from to most r (left - leg.lots) (legs ++ leg ∷ [])) (after_leg room after leg route same over)
    (one_more graph start from to most room left legs leg is p e)

-- the legs of the pour are those so far and those of the pour of what is left
pub so_far : (graph : Graph) (start : Arc → ℕ) (from to most : ℕ) (room : Arc → ℕ) (left : ℕ) (legs : List RouteLeg) → IsGraph graph
    → IsPoured graph start from to most room left legs → pour graph start from to most ≡ legs ++ pour graph room from to left
so_far graph start from to most room left legs is p =
    run-unique (next_pour_leg graph from to) after_pour_leg (pouring start most) (pour graph start from to most) (legs ++ pour graph room from to left)
    (pour-run graph from to start most is) (p.onward (pour graph room from to left) (pour-run graph from to room left is))

-- the rooms are those after a first part of the pour
pub after_some : (graph : Graph) (start : Arc → ℕ) (from to most : ℕ) (room : Arc → ℕ) (left : ℕ) (legs : List RouteLeg) → IsGraph graph
    → IsPoured graph start from to most room left legs → AreRoomsAfterSome start room (pour graph start from to most)
after_some graph start from to most room left legs is p =
    let first : take (length legs) (pour graph start from to most) ≡ legs =
    ap (take (length legs)) (so_far graph start from to most room left legs is p) ∙ take-append_seam legs (pour graph room from to left) in
    (length legs, λ arc. ap (λ r. r arc) p.rooms ∙ ap (λ ls. rooms_after start ls arc) (sym first))

-- where there is no further leg the legs are the pour
pub ended : (graph : Graph) (start : Arc → ℕ) (from to most : ℕ) (room : Arc → ℕ) (left : ℕ) (legs : List RouteLeg) → IsGraph graph
    → IsPoured graph start from to most room left legs → pour_leg graph room from to left ≡ None → legs ≡ pour graph start from to most
ended graph start from to most room left legs is p none =
    run-unique (next_pour_leg graph from to) after_pour_leg (pouring start most) legs (pour graph start from to most)
    (subst (Poured graph from to start most) (append-nil legs) (p.onward [] none)) (pour-run graph from to start most is)

-- ---- that it carries the most

-- legs of a pour take their lots from the room into a set of zones that lies around their end
run_takes : (graph : Graph) (from to : ℕ) (zones : List ℕ) (room : Arc → ℕ) (left : ℕ) (legs : List RouteLeg) → IsGraph graph
    → has from zones ≡ false → has to zones ≡ true → Poured graph from to room left legs
    → entering_room graph (rooms_after room legs) zones + lots_of legs ≡ entering_room graph room zones
run_takes graph from to zones room left [] is outside inside run = omega arith
run_takes graph from to zones room left (leg ∷ legs) is outside inside run =
    let l = pour_leg-is graph room from to left leg is run.0 in
    let first = legs_in graph room from to zones leg l.fits outside inside in
    let rest = run_takes graph from to zones (room_after room leg) (left - leg.lots) legs is outside inside run.1 in
    omega (arith, first.entering, rest, sum_by-cons (λ (k : RouteLeg). k.lots) leg legs)

-- after a run there is no further leg of what it leaves
run_ends : (graph : Graph) (from to : ℕ) (room : Arc → ℕ) (left : ℕ) (legs : List RouteLeg) → IsGraph graph → Poured graph from to room left legs
    → (rest : ℕ) × (pour_leg graph (rooms_after room legs) from to rest ≡ None) × (lots_of legs + rest ≡ left)
run_ends graph from to room left [] is run = (left, run, omega arith)
run_ends graph from to room left (leg ∷ legs) is run =
    let l = pour_leg-is graph room from to left leg is run.0 in
    let later = run_ends graph from to (room_after room leg) (left - leg.lots) legs is run.1 in
    (later.0, later.1, omega (arith, later.2, l.enough, sum_by-cons (λ (k : RouteLeg). k.lots) leg legs))

-- a pour carries no more lots than it is given
pub pour-within : (graph : Graph) (room : Arc → ℕ) (from to most : ℕ) → IsGraph graph → lots_of (pour graph room from to most) ≤ most
pour-within graph room from to most is =
    let end = run_ends graph from to room most (pour graph room from to most) is (pour-run graph from to room most is) in
    omega (arith, end.2)

-- a zone is among those from which it can be reached
pub end_inside : (graph : Graph) (room : Arc → ℕ) (to : ℕ) → IsGraph graph → HasZone graph to → has to (zones_towards graph room to) ≡ true
end_inside graph room to is known =
    has-towards graph room to to known (reaches-route graph room to to [] is (record { way = refl; simple = (λ h. h, tt) }))

-- a whole pour carries all lots or as many as the rooms allow
pub most_of_run : (graph : Graph) (from to : ℕ) (room : Arc → ℕ) (most : ℕ) (legs : List RouteLeg) → IsGraph graph → HasZone graph to
    → Poured graph from to room most legs → CarryTheMost graph room (rooms_after room legs) from to most legs
most_of_run graph from to room most legs is known run =
    let end = run_ends graph from to room most legs is run in by end.0 end.2 (none_left_or_no_route graph (rooms_after room legs) from to end.0 end.1)
  where
    away : best_route graph (rooms_after room legs) from to ≡ None → (b : Bool) → has from (zones_towards graph (rooms_after room legs) to) ≡ b
        → has from (zones_towards graph (rooms_after room legs) to) ≡ false
    away none_there false e = e
    away none_there true e = let absent : true ≡ false = sym (towards-has graph (rooms_after room legs) to from e) ∙ ap is_some none_there in cc

    by : (rest : ℕ) → lots_of legs + rest ≡ most → (rest ≡ 0) ⊎ (best_route graph (rooms_after room legs) from to ≡ None)
        → CarryTheMost graph room (rooms_after room legs) from to most legs
    by rest all (inl zeroth) = inl (omega (arith, all, zeroth))
    by rest all (inr none_there) =
        let outside = away none_there (has from (zones_towards graph (rooms_after room legs) to)) refl in
        let takes = run_takes graph from to (zones_towards graph (rooms_after room legs) to) room most legs is outside (end_inside graph (rooms_after room legs) to is known) run in
        inr (omega (arith, takes, no_room_enters graph (rooms_after room legs) to is), outside)

-- where there is no further leg, all lots are carried or as many as the rooms allow
pub carried_most : (graph : Graph) (start : Arc → ℕ) (from to most : ℕ) (room : Arc → ℕ) (left : ℕ) (legs : List RouteLeg) → IsGraph graph → HasZone graph to
    → IsPoured graph start from to most room left legs → pour_leg graph room from to left ≡ None → CarryTheMost graph start room from to most legs
carried_most graph start from to most room left legs is known p none =
    let run = subst (Poured graph from to start most) (append-nil legs) (p.onward [] none) in
    subst (λ r. CarryTheMost graph start r from to most legs) (sym p.rooms) (most_of_run graph from to start most legs is known run)

-- what holds anyway holds on an error
pub on_err : {T E : Type 0} {P : Type 0} (result : Result T E) → P → OnErr result P
on_err (Ok x) p = tt
on_err (Err e) p = p
