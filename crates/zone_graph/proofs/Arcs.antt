-- Arcs: the opposite one, when two are the same, which arcs are a route's, and lots that count at
-- some arcs alone.
use Rattle.std.proofs.Common.{◌≡◌, ◌∙◌, ◌+◌, ◌<◌, ◌≤◌, ◌==◌, ◌&&◌, ◌||◌, ◌⊎◌, if◌then◌else◌, inl, inr, ℕ, zero, suc, Bool, true, false, not, List, [], ◌∷◌, length, map, get_or, take, nat_eq, refl, sym, ap, subst, arith, eq-eqb, eqb-true}
use Rattle.std.proofs.lemmas.Bool.{and_parts, or_cases, or_right, true≢false}
use Rattle.zone_graph.specs.declared.route.Arc.{Arc}
use Rattle.zone_graph.specs.Graph.{Graph, end_of, start_of}
use Rattle.zone_graph.specs.Pour.{lots_if, opposite_arc, same_arc, same_bool, uses}
use Rattle.zone_graph.specs.Route.{AreDifferent, IsIn}
use Rattle.zone_graph.proofs.Membership.{IsIn-map}
use Rattle.zone_graph.proofs.Places.{at_place}

-- an arc by its border and direction
abbrev pub over : ℕ → Bool → Arc
over border forward = record { border = border; forward = forward }

pub over-is : (border : ℕ) (forward : Bool) (arc : Arc) → border ≡ arc.border → forward ≡ arc.forward → over border forward ≡ arc
over-is border forward arc e f = ap (λ b. over b forward) e ∙ ap (over arc.border) f

-- ---- the opposite arc

-- the opposite arc leads back
pub opposite-start : (graph : Graph) (arc : Arc) → start_of graph (opposite_arc arc) ≡ end_of graph arc
opposite-start graph arc = by arc.forward
  where
    by : (b : Bool) → start_of graph (opposite_arc (record { border = arc.border; forward = b })) ≡ end_of graph (record { border = arc.border; forward = b })
    by true = refl
    by false = refl

pub opposite-end : (graph : Graph) (arc : Arc) → end_of graph (opposite_arc arc) ≡ start_of graph arc
opposite-end graph arc = by arc.forward
  where
    by : (b : Bool) → end_of graph (opposite_arc (record { border = arc.border; forward = b })) ≡ start_of graph (record { border = arc.border; forward = b })
    by true = refl
    by false = refl

pub opposite-twice : (arc : Arc) → opposite_arc (opposite_arc arc) ≡ arc
opposite-twice arc = by arc.forward
  where
    by : (b : Bool) → opposite_arc (opposite_arc (record { border = arc.border; forward = b })) ≡ record { border = arc.border; forward = b }
    by true = refl
    by false = refl

pub opposite-border : (arc other : Arc) → arc ≡ opposite_arc other → arc.border ≡ other.border
opposite-border arc other e = ap (λ (a : Arc). a.border) e

-- two arcs over one border are the same or opposite
pub same_border : (x y : Arc) → x.border ≡ y.border → (x ≡ y) ⊎ (x ≡ opposite_arc y)
same_border x y e = by x.forward y.forward refl refl
  where
    by : (f g : Bool) → f ≡ x.forward → g ≡ y.forward → (x ≡ y) ⊎ (x ≡ opposite_arc y)
    by true true p q = inl (over-is x.border x.forward y e (sym p ∙ q))
    by false false p q = inl (over-is x.border x.forward y e (sym p ∙ q))
    by true false p q = inr (over-is x.border x.forward (opposite_arc y) e (sym p ∙ ap not q))
    by false true p q = inr (over-is x.border x.forward (opposite_arc y) e (sym p ∙ ap not q))

-- ---- the same arc

pub same_bool-is : (a b : Bool) → same_bool a b ≡ true → a ≡ b
same_bool-is true b e = sym e
same_bool-is false true e = absurd (true≢false (sym e))
same_bool-is false false e = refl

same_bool-itself : (b : Bool) → same_bool b b ≡ true
same_bool-itself true = refl
same_bool-itself false = refl

same_bool-symm : (a b : Bool) → same_bool a b ≡ same_bool b a
same_bool-symm true true = refl
same_bool-symm true false = refl
same_bool-symm false true = refl
same_bool-symm false false = refl

-- the test of which arcs are the same
pub same_arc-is : (a b : Arc) → same_arc a b ≡ true → a ≡ b
same_arc-is a b e =
    let parts = and_parts (nat_eq a.border b.border) (same_bool a.forward b.forward) e in
    over-is a.border a.forward b (eqb-true a.border b.border parts.0) (same_bool-is a.forward b.forward parts.1)

pub same_arc-itself : (arc : Arc) → same_arc arc arc ≡ true
same_arc-itself arc = ap (λ b. b && same_bool arc.forward arc.forward) (eq-eqb arc.border arc.border refl) ∙ same_bool-itself arc.forward

pub same_arc-border : (a b : Arc) → same_arc a b ≡ true → a.border ≡ b.border
same_arc-border a b e = ap (λ (arc : Arc). arc.border) (same_arc-is a b e)

pub eqb-symm : (a b : ℕ) → (a == b) ≡ (b == a)
eqb-symm a b = grind arith

pub same_arc-symm : (a b : Arc) → same_arc a b ≡ same_arc b a
same_arc-symm a b =
    ap (λ c. c && same_bool a.forward b.forward) (eqb-symm a.border b.border)
    ∙ ap (λ c. (b.border == a.border) && c) (same_bool-symm a.forward b.forward)

-- ---- the arcs of a route

-- a route uses the arcs that are in it
pub IsIn-uses : (route : List Arc) (arc : Arc) → uses route arc ≡ true → IsIn arc route
IsIn-uses [] arc e = absurd (true≢false (sym e))
IsIn-uses (next ∷ route) arc e = elim (or_cases (same_arc arc next) (uses route arc) e) [
  | inl same ↦ inl (same_arc-is arc next same)
  | inr rest ↦ inr (IsIn-uses route arc rest)
]

pub uses-IsIn : (route : List Arc) (arc : Arc) → IsIn arc route → uses route arc ≡ true
uses-IsIn [] arc i = absurd i
uses-IsIn (next ∷ route) arc i = elim i [
  | inl e ↦ ap (λ b. b || uses route arc) (ap (same_arc arc) (sym e) ∙ same_arc-itself arc)
  | inr j ↦ or_right (same_arc arc next) (uses route arc) (uses-IsIn route arc j)
]

-- no arc of a route is over the border of one that comes before it
pub is_fresh : (route : List Arc) (i : ℕ) (d other : Arc) → AreDifferent (map (λ arc. arc.border) route) → i < length route
    → other.border ≡ (get_or route i d).border → uses (take i route) other ≡ false
is_fresh [] i d other differ within border = absurd (let no : ⊥ = omega arith in no)
is_fresh (arc ∷ route) zero d other differ within border = refl
is_fresh (arc ∷ route) (suc i) d other differ within border =
    by (same_arc other arc) refl (is_fresh route i d other differ.1 (omega arith) border)
  where
    by : (b : Bool) → same_arc other arc ≡ b → uses (take i route) other ≡ false → (b || uses (take i route) other) ≡ false
    by true same rest =
        let again : IsIn (get_or route i d).border (map (λ a. a.border) route) =
        IsIn-map (λ a. a.border) (get_or route i d) route (at_place route i d (omega arith)) in
        absurd (differ.0 (subst (λ border. IsIn border (map (λ a. a.border) route)) (sym border ∙ same_arc-border other arc same) again))
    by false same rest = rest

-- ---- lots that count where a test holds

pub never_both : (x y : Bool) → (y ≡ true → x ≡ false) → (x && y) ≡ false
never_both true true apart = apart refl
never_both true false apart = refl
never_both false y apart = refl

pub lots_if-or : (x y : Bool) (lots : ℕ) → (x && y) ≡ false → lots_if (x || y) lots ≡ lots_if x lots + lots_if y lots
lots_if-or true true lots apart = cc
lots_if-or true false lots apart = omega arith
lots_if-or false true lots apart = omega arith
lots_if-or false false lots apart = omega arith

-- where two tests do not both hold, what counts where one does is what counts where each does
pub one_or_other : (a b : Bool) (lots : ℕ) → (a ≡ true → b ≡ true → ⊥) → lots_if (a || b) lots ≡ lots_if a lots + lots_if b lots
one_or_other true true lots apart = absurd (apart refl refl)
one_or_other true false lots apart = omega arith
one_or_other false b lots apart = omega arith

-- lots that count where a test holds, no more than some number there
pub if_free : (b : Bool) (lots most : ℕ) → (b ≡ true → lots ≤ most) → lots_if b lots ≤ most
if_free true lots most h = h refl
if_free false lots most h = omega arith

-- numbers that are written for the two directions of a border, one after the other
pub two_rooms : (same forward : Bool) (old mid new : ℕ) (room : Bool → ℕ)
    → mid ≡ (if same && same_bool true forward then room true else old)
    → new ≡ (if same && same_bool false forward then room false else mid)
    → new ≡ (if same then room forward else old)
two_rooms true true old mid new room first second = second ∙ first
two_rooms true false old mid new room first second = second
two_rooms false forward old mid new room first second = second ∙ first
