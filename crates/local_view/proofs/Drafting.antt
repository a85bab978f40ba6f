-- Rooms of which the two arcs of each border keep their sum.
use Rattle.std.proofs.Common.{◌≡◌, ◌≢◌, ◌∙◌, ℕ, ◌+◌, ◌==◌, ◌&&◌, inl, inr, Bool, true, false, not, ◌≤◌, List, length, if◌then◌else◌, refl, sym, ap, subst, arith, eq-eqb, eqb-true}
use Rattle.std.proofs.lemmas.Bool.{true≢false}
use Rattle.std.proofs.lemmas.List.{get_or_past}
use Rattle.zone_graph.specs.declared.route.Arc.{Arc}
use Rattle.zone_graph.specs.Graph.{Graph}
use Rattle.zone_graph.specs.Pour.{opposite_arc, same_arc, same_bool}
use Rattle.zone_graph.specs.Rooms.{part_of, room_of}
use Rattle.zone_graph.proofs.Arcs.{opposite-twice, same_arc-is, same_arc-itself, same_border}
use Rattle.cut_proof.specs.Carrying.{FitTogether}
use Rattle.local_view.specs.Drafts.{AreKept, IsKept}

-- what fits together fits where the sums are kept
pub fit-kept : (graph : Graph) (old new : List (ℕ × ℕ)) → FitTogether graph (room_of old) → AreKept old new → FitTogether graph (room_of new)
fit-kept graph old new fit kept arc has = omega (arith, fit arc has, kept arc)

pub kept-on : (old mid new : List (ℕ × ℕ)) → AreKept old mid → AreKept mid new → AreKept old new
kept-on old mid new first next arc = next arc ∙ first arc

-- an arc is another one than the opposite
opposite-other : (arc : Arc) → same_arc (opposite_arc arc) arc ≡ false
opposite-other arc = by (same_arc (opposite_arc arc) arc) refl
  where
    turned : (forward : Bool) → not forward ≡ forward → ⊥
    turned true e = true≢false (sym e)
    turned false e = true≢false e

    by : (b : Bool) → same_arc (opposite_arc arc) arc ≡ b → b ≡ false
    by true e = absurd (turned arc.forward (ap (λ (a : Arc). a.forward) (same_arc-is (opposite_arc arc) arc e)))
    by false e = refl

-- one row of rooms is another but for the room of an arc
abbrev pub IsWith : (old new : List (ℕ × ℕ)) → Arc → ℕ → Type 0
IsWith old new arc room = (other : Arc) → room_of new other ≡ (if same_arc arc other then room else room_of old other)

at_arc : (old new : List (ℕ × ℕ)) (arc : Arc) (room : ℕ) → IsWith old new arc room → room_of new arc ≡ room
at_arc old new arc room is = is arc ∙ ap (λ b. if b then room else room_of old arc) (same_arc-itself arc)

elsewhere : (old new : List (ℕ × ℕ)) (arc : Arc) (room : ℕ) (other : Arc) → IsWith old new arc room → same_arc arc other ≡ false → room_of new other ≡ room_of old other
elsewhere old new arc room other is e = is other ∙ ap (λ b. if b then room else room_of old other) e

-- behind the last border there is no room
none_past : (rooms : List (ℕ × ℕ)) (arc : Arc) → length rooms ≤ arc.border → room_of rooms arc ≡ 0
none_past rooms arc past = ap (part_of arc.forward) (get_or_past rooms arc.border (0, 0) past) ∙ none arc.forward
  where
    none : (forward : Bool) → part_of forward (0, 0) ≡ 0
    none true = refl
    none false = refl

-- so its sums are kept there
pub kept_past : (of left : List (ℕ × ℕ)) (arc : Arc) → length of ≤ arc.border → length left ≤ arc.border → IsKept of left arc
kept_past of left arc of_past left_past =
    omega (arith, none_past of arc of_past, none_past of (opposite_arc arc) of_past, none_past left arc left_past, none_past left (opposite_arc arc) left_past)

-- where the two arcs of a border are given rooms those of others stay
untouched : (old mid new : List (ℕ × ℕ)) (arc opposite : Arc) (room back : ℕ) → IsWith old mid arc room → IsWith mid new opposite back → opposite ≡ opposite_arc arc
    → (other : Arc) → (arc.border == other.border) ≡ false → room_of new other ≡ room_of old other
untouched old mid new arc opposite room back first second is other apart =
    elsewhere mid new (opposite_arc arc) back other (subst (λ o. IsWith mid new o back) is second) (ap (λ t. t && same_bool (opposite_arc arc).forward other.forward) apart)
    ∙ elsewhere old mid arc room other first (ap (λ t. t && same_bool arc.forward other.forward) apart)

pub kept-others : (old mid new : List (ℕ × ℕ)) (arc opposite : Arc) (room back : ℕ) → IsWith old mid arc room → IsWith mid new opposite back → opposite ≡ opposite_arc arc
    → (of : List (ℕ × ℕ)) (other : Arc) → (arc.border == other.border) ≡ false → IsKept of old other → IsKept of new other
kept-others old mid new arc opposite room back first second is of other apart kept =
    omega (arith, kept, untouched old mid new arc opposite room back first second is other apart, untouched old mid new arc opposite room back first second is (opposite_arc other) apart)

-- the sum of a border is kept where its two arcs are given rooms with the sum of theirs, and those of others as before
pub kept-both : (of old mid new : List (ℕ × ℕ)) (arc opposite : Arc) (room back : ℕ) → IsWith old mid arc room → IsWith mid new opposite back → opposite ≡ opposite_arc arc
    → room + back ≡ room_of of arc + room_of of (opposite_arc arc) → (other : Arc) → (other.border ≢ arc.border → IsKept of old other) → IsKept of new other
kept-both of old mid new arc opposite room back first second is sum other kept = by (arc.border == other.border) refl
  where
    next : IsWith mid new (opposite_arc arc) back
    next = subst (λ o. IsWith mid new o back) is second

    there : IsKept of new arc
    there =
        let own = elsewhere mid new (opposite_arc arc) back arc next (opposite-other arc) ∙ at_arc old mid arc room first in
        let against = at_arc mid new (opposite_arc arc) back next in
        omega (arith, own, against, sum)

    turned : IsKept of new (opposite_arc arc)
    turned = omega (arith, there, ap (room_of new) (opposite-twice arc), ap (room_of of) (opposite-twice arc))

    by : (b : Bool) → (arc.border == other.border) ≡ b → IsKept of new other
    by true e = elim (same_border other arc (sym (eqb-true arc.border other.border e))) [
      | inl same ↦ subst (IsKept of new) (sym same) there
      | inr same ↦ subst (IsKept of new) (sym same) turned
    ]
    by false e = omega (arith, untouched old mid new arc opposite room back first second is other e, untouched old mid new arc opposite room back first second is (opposite_arc other) e, kept (λ same. true≢false (sym (eq-eqb arc.border other.border (sym same)) ∙ e)))
