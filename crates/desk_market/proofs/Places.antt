-- Where among the desks of a day a chosen one stands, looked for from the first hour on.
use Rattle.std.proofs.Common.{◌≡◌, ◌≢◌, ◌∙◌, ℕ, zero, suc, ◌+◌, ◌-◌, ◌<◌, Bool, true, false, if◌then◌else◌, List, [], ◌∷◌, length, drop, Some, refl, sym, ap, subst, arith, add-one, get_or, slice_get, slice_set}
use Rattle.std.proofs.lemmas.Option.{slice_get-get_or}
use Rattle.market_model.specs.declared.hours.Hours.{Hours}
use Rattle.market_model.specs.HourSet.{has_hour}
use Rattle.basket_match.specs.Desk.{DeskState}
use Rattle.desk_market.specs.Day.{DayState, chosen_from, chosen_of, place_from, put_from, with_chosen}

-- what is left of a list from a place on begins with the item there
record BeginsAt (desks : List DeskState) (i : ℕ) : Type 0 where
  pub desk : DeskState
  pub rest : drop i desks ≡ desk ∷ drop (i + 1) desks
  pub there : slice_get desks i ≡ Some desk

begins-suc : (desks : List DeskState) (i : ℕ) → i < length desks → (desk : DeskState) × (drop i desks ≡ desk ∷ drop (suc i) desks) × (slice_get desks i ≡ Some desk)
begins-suc [] i within = absurd (omega arith)
begins-suc (desk ∷ desks) zero within = (desk, refl, refl)
begins-suc (desk ∷ desks) (suc i) within = begins-suc desks i (omega arith)

begins : (desks : List DeskState) (i : ℕ) → i < length desks → BeginsAt desks i
begins desks i within = let found = begins-suc desks i within in record { desk = found.0; rest = rw add-one found.1; there = found.2 }

-- the chosen desk at a place is the one that so many chosen ones are before, of those that are left
pub record IsSought (takes : ℕ → Bool) (desks : List DeskState) (place i before : ℕ) : Type 0 where
  pub within : before < length (chosen_from takes (i + 1) (drop i desks))
  pub place_is : place_from takes 1 desks place ≡ i + place_from takes (i + 1) (drop i desks) before
  pub desk_is : slice_get (chosen_from takes 1 desks) place ≡ slice_get (chosen_from takes (i + 1) (drop i desks)) before

-- behind a chosen desk
place-next : (takes : ℕ → Bool) (hour : ℕ) (desk : DeskState) (desks : List DeskState) (before : ℕ) → takes hour ≡ true
    → place_from takes hour (desk ∷ desks) (suc before) ≡ place_from takes (hour + 1) desks before + 1
place-next takes hour desk desks before chosen = rw chosen refl

-- behind one that is not chosen
place-skip : (takes : ℕ → Bool) (hour : ℕ) (desk : DeskState) (desks : List DeskState) (before : ℕ) → takes hour ≡ false
    → place_from takes hour (desk ∷ desks) before ≡ place_from takes (hour + 1) desks before + 1
place-skip takes hour desk desks zero out = rw out refl
place-skip takes hour desk desks (suc before) out = rw out refl

module _ (takes : ℕ → Bool) (desks : List DeskState) (place : ℕ) where
  -- a desk that is not chosen is passed over
  pub sought-skip : (i before : ℕ) → IsSought takes desks place i before → i < length desks → takes (i + 1) ≡ false → IsSought takes desks place (i + 1) before
  sought-skip i before so_far within out =
      let at = begins desks i within in
      let left : chosen_from takes (i + 1) (drop i desks) ≡ chosen_from takes (i + 1 + 1) (drop (i + 1) desks) =
      ap (chosen_from takes (i + 1)) at.rest
      ∙ ap (λ b. if b then at.desk ∷ chosen_from takes (i + 1 + 1) (drop (i + 1) desks) else chosen_from takes (i + 1 + 1) (drop (i + 1) desks)) out in
      let step : place_from takes (i + 1) (drop i desks) before ≡ place_from takes (i + 1 + 1) (drop (i + 1) desks) before + 1 =
      ap (λ ds. place_from takes (i + 1) ds before) at.rest ∙ place-skip takes (i + 1) at.desk (drop (i + 1) desks) before out in
      let size = ap length left in
      record {
        within = omega (arith, so_far.within, size);
        place_is = omega (arith, so_far.place_is, step);
        desk_is = so_far.desk_is ∙ ap (λ ds. slice_get ds before) left;
      }

  -- of the chosen desks one fewer is before it
  pub sought-next : (i before : ℕ) → IsSought takes desks place i before → i < length desks → takes (i + 1) ≡ true → before ≢ 0 → IsSought takes desks place (i + 1) (before - 1)
  sought-next i zero so_far within chosen some = absurd (some refl)
  sought-next i (suc before) so_far within chosen some =
      let at = begins desks i within in
      let left : chosen_from takes (i + 1) (drop i desks) ≡ at.desk ∷ chosen_from takes (i + 1 + 1) (drop (i + 1) desks) =
      ap (chosen_from takes (i + 1)) at.rest
      ∙ ap (λ b. if b then at.desk ∷ chosen_from takes (i + 1 + 1) (drop (i + 1) desks) else chosen_from takes (i + 1 + 1) (drop (i + 1) desks)) chosen in
      let step : place_from takes (i + 1) (drop i desks) (suc before) ≡ place_from takes (i + 1 + 1) (drop (i + 1) desks) before + 1 =
      ap (λ ds. place_from takes (i + 1) ds (suc before)) at.rest ∙ place-next takes (i + 1) at.desk (drop (i + 1) desks) before chosen in
      let size = ap length left in
      let fewer : suc before - 1 ≡ before = omega arith in
      rw fewer (record {
        within = omega (arith, so_far.within, size);
        place_is = omega (arith, so_far.place_is, step);
        desk_is = so_far.desk_is ∙ ap (λ ds. slice_get ds (suc before)) left;
      })

  -- it is this one
  pub sought-here : (i before : ℕ) → IsSought takes desks place i before → i < length desks → takes (i + 1) ≡ true → before ≡ 0
      → (i ≡ place_from takes 1 desks place) × (slice_get desks i ≡ slice_get (chosen_from takes 1 desks) place)
  sought-here i (suc before) so_far within chosen none = absurd (omega arith)
  sought-here i zero so_far within chosen none =
      let at = begins desks i within in
      let left : chosen_from takes (i + 1) (drop i desks) ≡ at.desk ∷ chosen_from takes (i + 1 + 1) (drop (i + 1) desks) =
      ap (chosen_from takes (i + 1)) at.rest
      ∙ ap (λ b. if b then at.desk ∷ chosen_from takes (i + 1 + 1) (drop (i + 1) desks) else chosen_from takes (i + 1 + 1) (drop (i + 1) desks)) chosen in
      let step : place_from takes (i + 1) (drop i desks) 0 ≡ 0 =
      ap (λ ds. place_from takes (i + 1) ds 0) at.rest
      ∙ ap (λ b. if b then 0 else place_from takes (i + 1 + 1) (drop (i + 1) desks) 0 + 1) chosen in
      (omega (arith, so_far.place_is, step), at.there ∙ sym (so_far.desk_is ∙ ap (λ ds. slice_get ds 0) left))

-- ---- how many are chosen

-- so many of the desks up to an hour are chosen
abbrev pub IsCounted : (takes : ℕ → Bool) → List DeskState → (i count : ℕ) → Type 0
IsCounted takes desks i count = count + length (chosen_from takes (i + 1) (drop i desks)) ≡ length (chosen_from takes 1 desks)

pub counted-skip : (takes : ℕ → Bool) (desks : List DeskState) (i count : ℕ) → IsCounted takes desks i count → i < length desks → takes (i + 1) ≡ false → IsCounted takes desks (i + 1) count
counted-skip takes desks i count so_far within out =
    let at = begins desks i within in
    let left = ap length (ap (chosen_from takes (i + 1)) at.rest
    ∙ ap (λ b. if b then at.desk ∷ chosen_from takes (i + 1 + 1) (drop (i + 1) desks) else chosen_from takes (i + 1 + 1) (drop (i + 1) desks)) out) in
    omega (arith, so_far, left)

pub counted-next : (takes : ℕ → Bool) (desks : List DeskState) (i count : ℕ) → IsCounted takes desks i count → i < length desks → takes (i + 1) ≡ true → IsCounted takes desks (i + 1) (count + 1)
counted-next takes desks i count so_far within chosen =
    let at = begins desks i within in
    let left = ap length (ap (chosen_from takes (i + 1)) at.rest
    ∙ ap (λ b. if b then at.desk ∷ chosen_from takes (i + 1 + 1) (drop (i + 1) desks) else chosen_from takes (i + 1 + 1) (drop (i + 1) desks)) chosen) in
    omega (arith, so_far, left)

-- ---- a desk put in at its place

-- where one is passed over the others are as many
skipped : (takes : ℕ → Bool) (hour : ℕ) (desk : DeskState) (desks : List DeskState) → takes hour ≡ false → (place : ℕ) → place < length (chosen_from takes hour (desk ∷ desks))
    → place < length (chosen_from takes (hour + 1) desks)
skipped takes hour desk desks is place within =
    let size : length (chosen_from takes hour (desk ∷ desks)) ≡ length (chosen_from takes (hour + 1) desks) =
    ap (λ b. length (if b then desk ∷ chosen_from takes (hour + 1) desks else chosen_from takes (hour + 1) desks)) is in
    omega (arith, within, size)

-- behind the first desk
set-behind : (desk : DeskState) (desks : List DeskState) (place : ℕ) (other : DeskState) → slice_set (desk ∷ desks) (place + 1) other ≡ desk ∷ slice_set desks place other
set-behind desk desks place other = rw add-one refl

-- it is put in where it stands
pub put-at-place : (takes : ℕ → Bool) (hour : ℕ) (desks : List DeskState) (place : ℕ) (other : DeskState) → place < length (chosen_from takes hour desks)
    → put_from takes hour desks place other ≡ slice_set desks (place_from takes hour desks place) other
put-at-place takes hour [] place other within = refl
put-at-place takes hour (desk ∷ desks) place other within = by (takes hour) place refl within (λ later inside. put-at-place takes (hour + 1) desks later other inside)
  where
    by : (b : Bool) (place : ℕ) → takes hour ≡ b → place < length (chosen_from takes hour (desk ∷ desks))
        → ((later : ℕ) → later < length (chosen_from takes (hour + 1) desks) → put_from takes (hour + 1) desks later other ≡ slice_set desks (place_from takes (hour + 1) desks later) other)
        → put_from takes hour (desk ∷ desks) place other ≡ slice_set (desk ∷ desks) (place_from takes hour (desk ∷ desks) place) other
    by true zero is within rest = rw is refl
    by true (suc place) is within rest =
        let size : length (chosen_from takes hour (desk ∷ desks)) ≡ length (desk ∷ chosen_from takes (hour + 1) desks) =
        ap (λ b. length (if b then desk ∷ chosen_from takes (hour + 1) desks else chosen_from takes (hour + 1) desks)) is in
        rw is (ap (λ ds. desk ∷ ds) (rest place (omega (arith, within, size))) ∙ sym (set-behind desk desks (place_from takes (hour + 1) desks place) other))
    by false zero is within rest = rw is (ap (λ ds. desk ∷ ds) (rest zero (skipped takes hour desk desks is zero within)) ∙ sym (set-behind desk desks (place_from takes (hour + 1) desks zero) other))
    by false (suc place) is within rest = rw is (ap (λ ds. desk ∷ ds) (rest (suc place) (skipped takes hour desk desks is (suc place) within)) ∙ sym (set-behind desk desks (place_from takes (hour + 1) desks (suc place)) other))

-- the day that a changed desk leaves
pub lent-day : (desks : List DeskState) (chosen : Hours) (day : DayState) → record { desks = desks; chosen = chosen } ≡ day
    → (place : ℕ) (other : DeskState) (at : ℕ) → place < length (chosen_of day) → at ≡ place_from (has_hour chosen) 1 desks place
    → record { desks = slice_set desks at other; chosen = chosen } ≡ with_chosen day place other
lent-day desks chosen day shown place other at within is =
    subst (λ (d : DayState). place < length (chosen_of d) → record { desks = slice_set desks at other; chosen = chosen } ≡ with_chosen d place other) shown
    (λ inside. ap (λ ds. record { desks = ds; chosen = chosen })
    (ap (λ p. slice_set desks p other) is ∙ sym (put-at-place (has_hour chosen) 1 desks place other inside)))
    within

-- the desk that is lent is the chosen one
pub lent-desk : (desks : List DeskState) (chosen : Hours) (day : DayState) → record { desks = desks; chosen = chosen } ≡ day
    → (place at : ℕ) (desk : DeskState) → slice_get desks at ≡ slice_get (chosen_from (has_hour chosen) 1 desks) place → at < length desks → desk ≡ get_or desks at desk
    → slice_get (chosen_of day) place ≡ Some desk
lent-desk desks chosen day shown place at desk same within found =
    ap (λ (d : DayState). slice_get (chosen_of d) place) (sym shown) ∙ sym same ∙ slice_get-get_or desks at desk within ∙ ap Some (sym found)
