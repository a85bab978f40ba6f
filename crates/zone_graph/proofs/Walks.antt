-- A line of items whose numbers differ, walked from each item to the one behind it.
use Rattle.std.proofs.Common.{◌≡◌, ◌≢◌, ◌∙◌, inl, inr, if◌then◌else◌, ℕ, suc, ◌+◌, ◌==◌, ◌<◌, Bool, true, false, List, [], ◌∷◌, ◌++◌, append_assoc, length, sum_by, Option, Some, None, eq-eqb, eqb-true, refl, sym, ap, subst, arith}
use Rattle.std.proofs.lemmas.List.Sums.{sum_by-cons}
use Rattle.zone_graph.specs.Route.{IsIn}
use Rattle.zone_graph.proofs.Membership.{IsIn-right}

abbrev pub first_of : {X : Type 0} → List X → Option X
first_of [] = None
first_of (x ∷ line) = Some x

-- the item behind that of a number
abbrev pub after_in : {X : Type 0} (number : X → ℕ) (n : ℕ) → List X → Option X
after_in number n [] = None
after_in number n (x ∷ line) = if number x == n then first_of line else after_in number n line

-- the part of a line from the item of a number on, and from an item that was found in it
abbrev pub from_number : {X : Type 0} (number : X → ℕ) (n : ℕ) → List X → List X
from_number number n [] = []
from_number number n (x ∷ line) = if number x == n then (x ∷ line) else from_number number n line

abbrev pub from_found : {X : Type 0} (number : X → ℕ) → List X → (found : Option X) → List X
from_found number line None = []
from_found number line (Some x) = from_number number (number x) line

-- no number stands twice
abbrev pub Differ : {X : Type 0} (number : X → ℕ) → List X → Type 0
Differ number [] = Unit {0}
Differ {X} number (x ∷ line) = ((y : X) → IsIn y line → number x ≢ number y) × Differ number line

pub differs : (a b : ℕ) → a ≢ b → (a == b) ≡ false
differs a b apart = go (a == b) refl
  where
    go : (t : Bool) → (a == b) ≡ t → t ≡ false
    go true e = absurd (apart (eqb-true a b e))
    go false e = refl

-- what is in front of an item of a line and what is behind it
pub record StandsAt {X : Type 0} (number : X → ℕ) (line : List X) (x : X) : Type 0 where
  pub front : List X
  pub back : List X
  pub parts : line ≡ front ++ x ∷ back
  pub here : from_number number (number x) line ≡ x ∷ back

-- a walk goes on from an item to the one behind it
pub record GoesOn {X : Type 0} (number : X → ℕ) (line : List X) (found next : Option X) (x : X) : Type 0 where
  pub back : List X
  pub was : from_found number line found ≡ x ∷ back
  pub onward : from_found number line next ≡ back
  pub stands : next ≡ first_of (from_found number line next)

module _ {X : Type 0} (number : X → ℕ) where
  walk-start : (line : List X) → from_found number line (first_of line) ≡ line
  walk-start [] = refl
  walk-start (x ∷ line) = rw (eq-eqb (number x) (number x) refl) refl

  -- behind a front that does not have the number
  from-through : (front back : List X) (x : X) → ((y : X) → IsIn y front → number y ≢ number x) → from_number number (number x) (front ++ x ∷ back) ≡ x ∷ back
  from-through [] back x none = rw (eq-eqb (number x) (number x) refl) refl
  from-through (y ∷ front) back x none = rw (differs (number y) (number x) (none y (inl refl))) (from-through front back x (λ z i. none z (inr i)))

  after-through : (front back : List X) (x : X) → ((y : X) → IsIn y front → number y ≢ number x) → after_in number (number x) (front ++ x ∷ back) ≡ first_of back
  after-through [] back x none = rw (eq-eqb (number x) (number x) refl) refl
  after-through (y ∷ front) back x none = rw (differs (number y) (number x) (none y (inl refl))) (after-through front back x (λ z i. none z (inr i)))

  front-differs : (front back : List X) (x : X) → Differ number (front ++ x ∷ back) → (y : X) → IsIn y front → number y ≢ number x
  front-differs [] back x differ y i = absurd i
  front-differs (z ∷ front) back x differ y i = elim i [
    | inl same ↦ λ e. differ.0 x (IsIn-right x front (x ∷ back) (inl refl)) (ap number (sym same) ∙ e)
    | inr j ↦ front-differs front back x differ.1 y j
  ]

  split-at : (n : ℕ) (line : List X) (x : X) → Some x ≡ first_of (from_number number n line)
      → (front : List X) × (back : List X) × (line ≡ front ++ x ∷ back) × (from_number number n line ≡ x ∷ back)
  split-at n [] x e = absurd (cc)
  split-at n (y ∷ line) x given = go (λ e. split-at n line x e) (number y == n) refl given
    where
      go : (Some x ≡ first_of (from_number number n line)
          → (front : List X) × (back : List X) × (line ≡ front ++ x ∷ back) × (from_number number n line ≡ x ∷ back))
          → (b : Bool) → (number y == n) ≡ b → Some x ≡ first_of (from_number number n (y ∷ line))
          → (front : List X) × (back : List X) × (y ∷ line ≡ front ++ x ∷ back) × (from_number number n (y ∷ line) ≡ x ∷ back)
      go onward true t e =
          let here : from_number number n (y ∷ line) ≡ y ∷ line = rw t refl in
          let first : Some x ≡ Some y = e ∙ ap first_of here in
          let same : y ≡ x = cc in
          ([], line, ap (λ z. z ∷ line) same, here ∙ ap (λ z. z ∷ line) same)
      go onward false t e =
          let here : from_number number n (y ∷ line) ≡ from_number number n line = rw t refl in
          let rest = onward (e ∙ ap first_of here) in
          (y ∷ rest.0, rest.1, ap (λ l. y ∷ l) rest.2, here ∙ rest.3)

  pub stands-at : (line : List X) (found : Option X) (x : X) → found ≡ Some x → found ≡ first_of (from_found number line found) → StandsAt number line x
  stands-at line found x is first =
      let at : Some x ≡ first_of (from_number number (number x) line) = sym is ∙ first ∙ ap (λ o. first_of (from_found number line o)) is in
      let parts = split-at (number x) line x at in
      record { front = parts.0; back = parts.1; parts = parts.2; here = parts.3 }

  pub stands-in : (line : List X) (x : X) → StandsAt number line x → IsIn x line
  stands-in line x at = subst (IsIn x) (sym at.parts) (IsIn-right x at.front (x ∷ at.back) (inl refl))

  -- behind an item the walk has what is behind it
  behind-on : (line : List X) → Differ number line → (x : X) (front back : List X) → line ≡ front ++ x ∷ back → from_found number line (first_of back) ≡ back
  behind-on line differ x front [] parts = refl
  behind-on line differ x front (y ∷ back) parts =
      let whole : line ≡ (front ++ x ∷ []) ++ y ∷ back = parts ∙ sym (append_assoc front (x ∷ []) (y ∷ back)) in
      ap (from_number number (number y)) whole
      ∙ from-through (front ++ x ∷ []) back y (front-differs (front ++ x ∷ []) back y (subst (Differ number) whole differ))

  -- where a walk begins
  pub begins : (line : List X) (found : Option X) → found ≡ first_of line → from_found number line found ≡ line
  begins line found first = ap (from_found number line) first ∙ walk-start line

  pub begins-first : (line : List X) (found : Option X) → found ≡ first_of line → found ≡ first_of (from_found number line found)
  begins-first line found first = first ∙ ap first_of (sym (begins line found first))

  pub goes-on : (line : List X) (found next : Option X) (x : X) → Differ number line → found ≡ Some x → found ≡ first_of (from_found number line found)
      → next ≡ after_in number (number x) line → GoesOn number line found next x
  goes-on line found next x differ is first after =
      let at = stands-at line found x is first in
      let behind : next ≡ first_of at.back = after ∙ ap (after_in number (number x)) at.parts
      ∙ after-through at.front at.back x (front-differs at.front at.back x (subst (Differ number) at.parts differ)) in
      let onward : from_found number line next ≡ at.back = ap (from_found number line) behind ∙ behind-on line differ x at.front at.back at.parts in
      record {
        back = at.back;
        was = ap (from_found number line) is ∙ at.here;
        onward = onward;
        stands = behind ∙ ap first_of (sym onward);
      }

  module _ (line : List X) (found next : Option X) (x : X) (goes : GoesOn number line found next x) where
    -- one item less is left
    pub one-less : length (from_found number line found) ≡ length (from_found number line next) + 1
    one-less =
        let more : length (from_found number line found) ≡ suc (length goes.back) = ap length goes.was in
        let less : length (from_found number line next) ≡ length goes.back = ap length goes.onward in
        omega (arith, more, less)

    pub fewer : length (from_found number line next) < length (from_found number line found)
    fewer = omega (arith, one-less)

    -- and a sum is less by that of the item
    pub sum-less : (f : X → ℕ) → sum_by f (from_found number line found) ≡ f x + sum_by f (from_found number line next)
    sum-less f = ap (sum_by f) goes.was ∙ sum_by-cons f x goes.back ∙ ap (λ back. f x + sum_by f back) (sym goes.onward)
