-- Walks along a line of places, from its first place on and from its last place back.
use Rattle.std.proofs.Common.{◌≡◌, ◌≢◌, ℕ, zero, suc, ◌+◌, ◌<◌, ◌==◌, Bool, true, false, cond, List, [], ◌∷◌, ◌++◌, length, Contains, Option, Some, None, refl, sym, ap, ◌∙◌, subst, arith, append_assoc, if◌then◌else◌, eq-eqb}
use Rattle.std.proofs.lemmas.Bool.{eqb-true}
use Rattle.std.proofs.lemmas.List.{append-nil}
use Rattle.order_pool.specs.Lines.{line_at, first_in, last_in, StandsIn, StandsBetween, StandOnce, IsNext, IsPrevious}
use Rattle.order_pool.proofs.Chains.{Misses, contains_between}
use Rattle.order_pool.proofs.OnceLemmas.{once_front, once_back}

-- a fact of each place of a list
abbrev pub Each : (ℕ → Type 0) → List ℕ → Type 0
Each P [] = Unit {0}
Each P (place ∷ places) = P place × Each P places

pub Each-push : (P : ℕ → Type 0) (places : List ℕ) (place : ℕ) → Each P places → P place → Each P (places ++ place ∷ [])
Each-push P [] place each here = (here, tt)
Each-push P (first ∷ places) place each here = (each.0, Each-push P places place each.1 here)

pub Each-contains : (P : ℕ → Type 0) (places : List ℕ) (place : ℕ) → Each P places → Contains places place → P place
Each-contains P [] place each has = absurd (omega (arith, has.1))
Each-contains P (first ∷ places) place each (zero, within, found) = subst P found each.0
Each-contains P (first ∷ places) place each (suc k, within, found) = Each-contains P places place each.1 (k, omega (arith, within), found)

-- a walk stands at this place of a line, or at its end, and the fact holds of all places ahead of it
pub record IsWalked (P : ℕ → Type 0) (line : List ℕ) (at : Option ℕ) : Type 0 where
  pub front : List ℕ
  pub back : List ℕ
  pub whole : line ≡ front ++ back
  pub now : at ≡ first_in back
  pub passed : Each P front

-- the places of a line from one on
abbrev pub from_place : List ℕ → ℕ → List ℕ
from_place [] place = []
from_place (first ∷ places) place = if first == place then first ∷ places else from_place places place

-- how many places of a line a walk has still before it
abbrev pub left_from : List ℕ → Option ℕ → ℕ
left_from line None = 0
left_from line (Some place) = length (from_place line place)

from_place-between : (place : ℕ) (front back : List ℕ) → Misses place front → from_place (front ++ place ∷ back) place ≡ place ∷ back
from_place-between place [] back misses = ap (λ b. if b then place ∷ back else from_place back place) (eq-eqb place place refl)
from_place-between place (first ∷ front) back misses =
    rw (differs (first == place) refl) (from_place-between place front back misses.1)
  where
    differs : (b : Bool) → (first == place) ≡ b → (first == place) ≡ false
    differs true e = absurd (misses.0 (eqb-true first place e))
    differs false e = e

first-split : (places : List ℕ) (place : ℕ) → Some place ≡ first_in places → (rest : List ℕ) × (places ≡ place ∷ rest)
first-split [] place is = absurd (cc)
first-split (first ∷ places) place is = (places, (let same : place ≡ first = cc in ap (λ p. p ∷ places) (sym same)))

module _ (lines : List (List ℕ)) (once : StandOnce lines) (k : ℕ) (within : k < length lines) (P : ℕ → Type 0) where
  abbrev line : List ℕ
  line = line_at lines k

  -- where a walk ends, the fact holds of all places
  pub walked-all : IsWalked P (line_at lines k) None → (place : ℕ) → Contains (line_at lines k) place → P place
  walked-all walked place has =
      let none : walked.back ≡ [] = empty walked.back walked.now in
      let all : line ≡ walked.front = walked.whole ∙ ap (λ b. walked.front ++ b) none ∙ append-nil walked.front in
      Each-contains P walked.front place walked.passed (subst (λ l. Contains l place) all has)
    where
      empty : (places : List ℕ) → None ≡ first_in places → places ≡ []
      empty [] is = refl
      empty (first ∷ places) is = absurd (cc)

  module _ (place : ℕ) (walked : IsWalked P (line_at lines k) (Some place)) where
    -- a walk stands at a place of the line
    pub walked-between : (back : List ℕ) × StandsBetween lines k walked.front place back
    walked-between =
        let rest = first-split walked.back place walked.now in
        (rest.0, (within, walked.whole ∙ ap (λ b. walked.front ++ b) rest.1))

    pub walked-stands : StandsIn lines k place
    walked-stands =
        let between = walked-between in
        (within, subst (λ l. Contains l place) (sym between.1.1) (contains_between place walked.front between.0))

    -- the walk goes on
    pub IsWalked-next : (next : Option ℕ) → IsNext lines place next → P place → IsWalked P (line_at lines k) next
    IsWalked-next next is here =
        let between = walked-between in
        record {
          front = walked.front ++ place ∷ [];
          back = between.0;
          whole = between.1.1 ∙ sym (append_assoc walked.front (place ∷ []) between.0);
          now = is k walked.front between.0 between.1;
          passed = Each-push P walked.front place walked.passed here;
        }

    -- and has less of the line before it
    pub left_from-next : (next : Option ℕ) → IsNext lines place next → left_from (line_at lines k) next < left_from (line_at lines k) (Some place)
    left_from-next next is =
        let between = walked-between in
        let here : left_from line (Some place) ≡ suc (length between.0) =
        ap length (ap (λ l. from_place l place) between.1.1 ∙ from_place-between place walked.front between.0 (once_front lines once k place walked.front between.0 between.1)) in
        go between.0 between.1 (is k walked.front between.0 between.1) here
      where
        go : (back : List ℕ) → StandsBetween lines k walked.front place back → next ≡ first_in back → left_from line (Some place) ≡ suc (length back) → left_from line next < left_from line (Some place)
        go [] stands end here = rw (end) (omega (arith, here))
        go (after ∷ back) stands at here =
            let whole : line ≡ (walked.front ++ place ∷ []) ++ after ∷ back = stands.1 ∙ sym (append_assoc walked.front (place ∷ []) (after ∷ back)) in
            let there : left_from line (Some after) ≡ suc (length back) =
            ap length (ap (λ l. from_place l after) whole ∙ from_place-between after (walked.front ++ place ∷ []) back (once_front lines once k after (walked.front ++ place ∷ []) back (within, whole))) in
            rw at (omega (arith, here, there))

  -- the same of a walk that is said to stand at a place
  module _ (place : ℕ) (at : Option ℕ) (is : at ≡ Some place) (walked : IsWalked P (line_at lines k) at) where
    here_at : IsWalked P (line_at lines k) (Some place)
    here_at = subst (IsWalked P (line_at lines k)) is walked

    pub walked_at-stands : StandsIn lines k place
    walked_at-stands = walked-stands place here_at

    module _ (next : Option ℕ) (next_is : IsNext lines place next) where
      pub IsWalked_at-next : P place → IsWalked P (line_at lines k) next
      IsWalked_at-next here = IsWalked-next place here_at next next_is here

      pub left_from_at-next : left_from (line_at lines k) next < left_from (line_at lines k) at
      left_from_at-next =
          let less = left_from-next place here_at next next_is in
          subst (λ o. left_from (line_at lines k) next < left_from (line_at lines k) o) (sym is) less

-- a walk back stands at this place of a line, or ahead of its start, and the fact holds of all places
-- behind it
pub record IsWalkedBack (P : ℕ → Type 0) (line : List ℕ) (at : Option ℕ) : Type 0 where
  pub front : List ℕ
  pub back : List ℕ
  pub whole : line ≡ front ++ back
  pub now : at ≡ last_in front
  pub passed : Each P back

last-split : (places : List ℕ) (place : ℕ) → Some place ≡ last_in places → (rest : List ℕ) × (places ≡ rest ++ place ∷ [])
last-split [] place is = absurd (cc)
last-split (only ∷ []) place is = ([], (let same : place ≡ only = cc in ap (λ p. p ∷ []) (sym same)))
last-split (first ∷ second ∷ places) place is =
    let rest = last-split (second ∷ places) place is in
    (first ∷ rest.0, ap (λ l. first ∷ l) rest.1)

module _ (lines : List (List ℕ)) (k : ℕ) (within : k < length lines) (P : ℕ → Type 0) where
  -- where a walk back ends, the fact holds of all places
  pub walked_back-all : IsWalkedBack P (line_at lines k) None → (place : ℕ) → Contains (line_at lines k) place → P place
  walked_back-all walked place has =
      let all : line_at lines k ≡ walked.back = walked.whole ∙ ap (λ f. f ++ walked.back) (empty walked.front walked.now) in
      Each-contains P walked.back place walked.passed (subst (λ l. Contains l place) all has)
    where
      empty : (places : List ℕ) → None ≡ last_in places → places ≡ []
      empty [] is = refl
      empty (only ∷ []) is = absurd (cc)
      empty (first ∷ second ∷ places) is = absurd (let none = empty (second ∷ places) is in cc)

  module _ (place : ℕ) (walked : IsWalkedBack P (line_at lines k) (Some place)) where
    pub walked_back-between : (front : List ℕ) × StandsBetween lines k front place walked.back
    walked_back-between =
        let rest = last-split walked.front place walked.now in
        (rest.0, (within, walked.whole ∙ ap (λ f. f ++ walked.back) rest.1 ∙ append_assoc rest.0 (place ∷ []) walked.back))

    pub walked_back-stands : StandsIn lines k place
    walked_back-stands =
        let between = walked_back-between in
        (within, subst (λ l. Contains l place) (sym between.1.1) (contains_between place between.0 walked.back))

    -- the walk back goes on
    pub IsWalkedBack-previous : (previous : Option ℕ) → IsPrevious lines place previous → P place → IsWalkedBack P (line_at lines k) previous
    IsWalkedBack-previous previous is here =
        let between = walked_back-between in
        record {
          front = between.0;
          back = place ∷ walked.back;
          whole = between.1.1;
          now = is k between.0 walked.back between.1;
          passed = (here, walked.passed);
        }

  -- the same of a walk back that is said to stand at a place
  module _ (place : ℕ) (at : Option ℕ) (is : at ≡ Some place) (walked : IsWalkedBack P (line_at lines k) at) where
    back_at : IsWalkedBack P (line_at lines k) (Some place)
    back_at = subst (IsWalkedBack P (line_at lines k)) is walked

    pub walked_back_at-stands : StandsIn lines k place
    walked_back_at-stands = walked_back-stands place back_at

    pub IsWalkedBack_at-previous : (previous : Option ℕ) → IsPrevious lines place previous → P place → IsWalkedBack P (line_at lines k) previous
    IsWalkedBack_at-previous = IsWalkedBack-previous place back_at
