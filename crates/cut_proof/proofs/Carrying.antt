-- What a route carries of some lots, and the rooms after it has carried them arc by arc.
use Rattle.std.proofs.Common.{◌≡◌, ◌≢◌, ◌∙◌, ◌+◌, ◌-◌, ◌<◌, ◌≤◌, ◌&&◌, ◌||◌, inl, inr, ℕ, Bool, true, false, List, [], ◌∷◌, map, min, refl, sym, ap, subst, arith, Some}
use Rattle.std.proofs.lemmas.Bool.{ne_eqb}
use Rattle.zone_graph.specs.declared.route.Arc.{Arc}
use Rattle.zone_graph.specs.declared.route.RouteLeg.{RouteLeg}
use Rattle.zone_graph.specs.Graph.{Graph, HasArc, border_count, end_of, IsGraph}
use Rattle.zone_graph.specs.Pour.{lots_if, opposite_arc, room_after, same_arc, same_bool, uses}
use Rattle.zone_graph.specs.Route.{AreDifferent, IsIn, IsWay, carried, best_route}
use Rattle.zone_graph.proofs.Membership.{IsIn-map}
use Rattle.zone_graph.proofs.Arcs.{same_arc-is, IsIn-uses, opposite-twice}
use Rattle.zone_graph.proofs.Carrying.{carried-le, best_route-route}
use Rattle.cut_proof.specs.Cut.{HasRoomFor}
use Rattle.cut_proof.proofs.Ways.{borders_once, way_has_arc}
use Rattle.cut_proof.specs.Carrying.{CanCarry, FitTogether}

-- ---- what a route carries

-- as much under other rooms that agree on the graph's arcs
pub carried-rooms : (graph : Graph) (room other : Arc → ℕ) (lots : ℕ) (route : List Arc) → ((arc : Arc) → HasArc graph arc → room arc ≡ other arc)
    → ((arc : Arc) → IsIn arc route → HasArc graph arc) → carried room lots route ≡ carried other lots route
carried-rooms graph room other lots [] same known = refl
carried-rooms graph room other lots (arc ∷ arcs) same known =
    ap (λ n. carried room (min lots n) arcs) (same arc (known arc (inl refl)))
    ∙ carried-rooms graph room other (min lots (other arc)) arcs same (λ a i. known a (inr i))

-- ---- over one arc after another

other_border : (a b : Arc) → a.border ≢ b.border → same_arc a b ≡ false
other_border a b apart = ap (λ t. t && same_bool a.forward b.forward) (ne_eqb a.border b.border apart)

not_used : (arcs : List Arc) (arc : Arc) → ((other : Arc) → IsIn other arcs → other.border ≢ arc.border) → uses arcs arc ≡ false
not_used [] arc apart = refl
not_used (next ∷ arcs) arc apart =
    ap (λ t. t || uses arcs arc) (other_border arc next (λ e. apart next (inl refl) (sym e))) ∙ not_used arcs arc (λ other i. apart other (inr i))

-- where one arc and then others carry lots, the rooms are those after all of them
one_then_others : (room lots : ℕ) (a b c d : Bool) → (a ≡ true → (c ≡ false) × (d ≡ false)) → (b ≡ true → (c ≡ false) × (d ≡ false))
    → (((room + lots_if (b || false) lots) - lots_if (a || false) lots) + lots_if d lots) - lots_if c lots ≡ (room + lots_if (b || d) lots) - lots_if (a || c) lots
one_then_others room lots true true c d own back =
    ap (λ t. (((room + lots) - lots) + lots_if t lots) - lots_if c lots) (own refl).1 ∙ ap (λ t. (((room + lots) - lots) + 0) - lots_if t lots) (own refl).0 ∙ omega arith
one_then_others room lots true false c d own back =
    ap (λ t. (((room + 0) - lots) + lots_if t lots) - lots_if c lots) (own refl).1 ∙ ap (λ t. (((room + 0) - lots) + 0) - lots_if t lots) (own refl).0
    ∙ sym (ap (λ t. (room + lots_if t lots) - lots) (own refl).1 ∙ omega arith)
one_then_others room lots false true c d own back =
    ap (λ t. (((room + lots) - 0) + lots_if t lots) - lots_if c lots) (back refl).1 ∙ ap (λ t. (((room + lots) - 0) + 0) - lots_if t lots) (back refl).0
    ∙ sym (ap (λ t. (room + lots) - lots_if t lots) (back refl).0 ∙ omega arith)
one_then_others room lots false false c d own back = ap (λ n. (n + lots_if d lots) - lots_if c lots) (omega arith)

-- a leg over an arc alone
abbrev pub over_one : Arc → ℕ → RouteLeg
over_one arc lots = record { route = arc ∷ []; lots = lots }

abbrev pub over_all : List Arc → ℕ → RouteLeg
over_all arcs lots = record { route = arcs; lots = lots }

pub carried_on : (room : Arc → ℕ) (arc : Arc) (arcs : List Arc) (lots : ℕ) → ((other : Arc) → IsIn other arcs → other.border ≢ arc.border)
    → (x : Arc) → room_after (room_after room (over_one arc lots)) (over_all arcs lots) x ≡ room_after room (over_all (arc ∷ arcs) lots) x
carried_on room arc arcs lots apart x =
    one_then_others (room x) lots (same_arc x arc) (same_arc (opposite_arc x) arc) (uses arcs x) (uses arcs (opposite_arc x))
    (λ e. away (ap (λ (a : Arc). a.border) (same_arc-is x arc e)))
    (λ e. away (ap (λ (a : Arc). a.border) (same_arc-is (opposite_arc x) arc e)))
  where
    away : x.border ≡ arc.border → (uses arcs x ≡ false) × (uses arcs (opposite_arc x) ≡ false)
    away same =
        let none : (other : Arc) → IsIn other arcs → other.border ≢ x.border = λ other i e. apart other i (e ∙ same) in
        (not_used arcs x none, not_used arcs (opposite_arc x) none)

-- arcs over other borders keep their rooms
pub carried-elsewhere : (room : Arc → ℕ) (arc : Arc) (lots : ℕ) (x : Arc) → x.border ≢ arc.border → room_after room (over_one arc lots) x ≡ room x
carried-elsewhere room arc lots x apart =
    ap (λ t. (room x + lots_if (t || false) lots) - lots_if (same_arc x arc || false) lots) (other_border (opposite_arc x) arc apart)
    ∙ ap (λ t. (room x + 0) - lots_if (t || false) lots) (other_border x arc apart)
    ∙ omega arith

pub can_carry-keep : (borders borders' : ℕ) (room room' : Arc → ℕ) (lots : ℕ) (arcs : List Arc) → borders ≡ borders' → ((x : Arc) → IsIn x arcs → room' x ≡ room x)
    → ((x : Arc) → IsIn x arcs → room' (opposite_arc x) ≡ room (opposite_arc x)) → CanCarry borders room lots arcs → CanCarry borders' room' lots arcs
can_carry-keep borders borders' room room' lots [] size same back can = tt
can_carry-keep borders borders' room room' lots (arc ∷ arcs) size same back can = (
  omega (arith, size, can.0),
  omega (arith, same arc (inl refl), can.1),
  omega (arith, back arc (inl refl), can.2),
  can.3,
  can_carry-keep borders borders' room room' lots arcs size (λ x i. same x (inr i)) (λ x i. back x (inr i)) can.4,
)

-- ---- routes

-- over a route that has room for them lots can be carried
pub route_can_carry : (graph : Graph) (room : Arc → ℕ) (from to : ℕ) (leg : RouteLeg) → FitTogether graph room → HasRoomFor graph room from to leg
    → CanCarry (border_count graph) room leg.lots leg.route
route_can_carry graph room from to leg fit fits =
    arcs_can leg.route (λ arc i. way_has_arc graph room from to leg.route arc fits.is_route.way i) fits.has_room
    (borders_once graph room from to leg.route fits.is_route.way fits.is_route.simple)
  where
    arcs_can : (arcs : List Arc) → ((arc : Arc) → IsIn arc arcs → HasArc graph arc) → ((arc : Arc) → IsIn arc arcs → leg.lots ≤ room arc)
        → AreDifferent (map (λ (arc : Arc). arc.border) arcs) → CanCarry (border_count graph) room leg.lots arcs
    arcs_can [] known has once = tt
    arcs_can (arc ∷ arcs) known has once = (
      known arc (inl refl),
      has arc (inl refl),
      omega (arith, has arc (inl refl), fit arc (known arc (inl refl))),
      λ other i e. once.0 (subst (λ b. IsIn b (map (λ (a : Arc). a.border) arcs)) e (IsIn-map (λ (a : Arc). a.border) other arcs i)),
      arcs_can arcs (λ a i. known a (inr i)) (λ a i. has a (inr i)) once.1,
    )

-- lots move from an arc to the opposite one, so that their rooms stay the same together
pub fit-kept : (graph : Graph) (room : Arc → ℕ) (leg : RouteLeg) → FitTogether graph room → ((arc : Arc) → IsIn arc leg.route → leg.lots ≤ room arc)
    → FitTogether graph (room_after room leg)
fit-kept graph room leg fit has arc known =
    let there = fit arc known in
    let own = least arc (uses leg.route arc) refl in
    let back = least (opposite_arc arc) (uses leg.route (opposite_arc arc)) refl in
    let twice : uses leg.route (opposite_arc (opposite_arc arc)) ≡ uses leg.route arc = ap (uses leg.route) (opposite-twice arc) in
    let same = ap (λ b. (room (opposite_arc arc) + lots_if b leg.lots) - lots_if (uses leg.route (opposite_arc arc)) leg.lots) twice in
    omega (arith, there, own, back, same)
  where
    least : (x : Arc) (b : Bool) → uses leg.route x ≡ b → lots_if b leg.lots ≤ room x
    least x true e = has x (IsIn-uses leg.route x e)
    least x false e = omega arith

-- ---- arc by arc

-- once the arcs that are left have carried the lots, the rooms are those after the whole route has
abbrev pub AreCarriedOn : (before now : Arc → ℕ) → (lots : ℕ) → (route rest : List Arc) → Type 0
AreCarriedOn before now lots route rest = (x : Arc) → room_after now (over_all rest lots) x ≡ room_after before (over_all route lots) x

-- the rooms after the first of them has carried lots, at each arc
abbrev pub CarriedOver : (before after : Arc → ℕ) → (arc : Arc) → (lots : ℕ) → Type 0
CarriedOver before after arc lots = (x : Arc) → after x ≡ room_after before (over_one arc lots) x

pub others_can : (borders borders' : ℕ) (room room' : Arc → ℕ) (lots : ℕ) (arc : Arc) (rest : List Arc) → borders ≡ borders' → CarriedOver room room' arc lots
    → CanCarry borders room lots (arc ∷ rest) → CanCarry borders' room' lots rest
others_can borders borders' room room' lots arc rest size over can =
    can_carry-keep borders borders' room room' lots rest size
    (λ x i. over x ∙ carried-elsewhere room arc lots x (can.3 x i))
    (λ x i. over (opposite_arc x) ∙ carried-elsewhere room arc lots (opposite_arc x) (can.3 x i)) can.4

pub others_carry : (before room room' : Arc → ℕ) (borders lots : ℕ) (route rest : List Arc) (arc : Arc) → CarriedOver room room' arc lots
    → CanCarry borders room lots (arc ∷ rest) → AreCarriedOn before room lots route (arc ∷ rest) → AreCarriedOn before room' lots route rest
others_carry before room room' borders lots route rest arc over can on x =
    let same : room' ≡ room_after room (over_one arc lots) = λ i. λ y. over y i in
    ap (λ r. room_after r (over_all rest lots) x) same ∙ carried_on room arc rest lots can.3 x ∙ on x

-- ---- a leg

-- the rooms after a route has carried the leg's lots are those after the leg
pub after_leg : (before after : Arc → ℕ) (leg : RouteLeg) (route : List Arc) → route ≡ leg.route
    → ((x : Arc) → after x ≡ room_after before (record { route = route; lots = leg.lots }) x) → room_after before leg ≡ after
after_leg before after leg route e over =
    sym (ap (λ r. room_after before (record { route = r; lots = leg.lots })) e) ∙ (λ i. λ x. sym (over x) i)

-- the arcs of a best route are the graph's
pub best_route-arcs : (graph : Graph) (room : Arc → ℕ) (from to : ℕ) (route : List Arc) → IsGraph graph → best_route graph room from to ≡ Some route
    → (arc : Arc) → IsIn arc route → HasArc graph arc
best_route-arcs graph room from to route is found arc i =
    way_has_arc graph room from to route arc (best_route-route graph room from to route is found).way i
