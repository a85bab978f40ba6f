-- The desks of a day by hour: those that are chosen, and the others.
use Rattle.std.proofs.Common.{◌≡◌, ◌∙◌, ℕ, zero, suc, ◌+◌, not, Bool, true, false, if◌then◌else◌, List, [], ◌∷◌, filter, map, refl, ap}
use Rattle.std.specs.List.{range_with_len}
use Rattle.basket_match.specs.Desk.{DeskState}
use Rattle.desk_market.specs.Day.{chosen_from, others_from}

-- the chosen desks of a day of which each is made by its hour
pub chosen-made : (takes : ℕ → Bool) (made : ℕ → DeskState) (hour count : ℕ)
    → chosen_from takes hour (map made (range_with_len hour count)) ≡ map made (filter takes (range_with_len hour count))
chosen-made takes made hour zero = refl
chosen-made takes made hour (suc count) = by (takes hour) refl (chosen-made takes made (hour + 1) count)
  where
    by : (b : Bool) → takes hour ≡ b
        → chosen_from takes (hour + 1) (map made (range_with_len (hour + 1) count)) ≡ map made (filter takes (range_with_len (hour + 1) count))
        → chosen_from takes hour (map made (range_with_len hour (suc count))) ≡ map made (filter takes (range_with_len hour (suc count)))
    by true is rest = rw is (ap (λ desks. made hour ∷ desks) rest)
    by false is rest = rw is rest

-- and the others
pub others-made : (takes : ℕ → Bool) (made : ℕ → DeskState) (hour count : ℕ)
    → others_from takes hour (map made (range_with_len hour count)) ≡ map made (filter (λ h. not (takes h)) (range_with_len hour count))
others-made takes made hour zero = refl
others-made takes made hour (suc count) = by (takes hour) refl (others-made takes made (hour + 1) count)
  where
    by : (b : Bool) → takes hour ≡ b
        → others_from takes (hour + 1) (map made (range_with_len (hour + 1) count)) ≡ map made (filter (λ h. not (takes h)) (range_with_len (hour + 1) count))
        → others_from takes hour (map made (range_with_len hour (suc count))) ≡ map made (filter (λ h. not (takes h)) (range_with_len hour (suc count)))
    by true is rest = rw is rest
    by false is rest = rw is (ap (λ desks. made hour ∷ desks) rest)

-- a day is told by its chosen desks and the others
pub day-told : (takes : ℕ → Bool) (hour : ℕ) (desks same : List DeskState)
    → chosen_from takes hour desks ≡ chosen_from takes hour same → others_from takes hour desks ≡ others_from takes hour same → desks ≡ same
day-told takes hour [] [] chosen others = refl
day-told takes hour [] (other ∷ same) chosen others = by (takes hour) chosen others
  where
    by : (b : Bool) → [] ≡ (if b then other ∷ chosen_from takes (hour + 1) same else chosen_from takes (hour + 1) same)
        → [] ≡ (if b then others_from takes (hour + 1) same else other ∷ others_from takes (hour + 1) same) → [] ≡ other ∷ same
    by true one rest = absurd (cc)
    by false one rest = absurd (cc)
day-told takes hour (desk ∷ desks) [] chosen others = by (takes hour) chosen others
  where
    by : (b : Bool) → (if b then desk ∷ chosen_from takes (hour + 1) desks else chosen_from takes (hour + 1) desks) ≡ []
        → (if b then others_from takes (hour + 1) desks else desk ∷ others_from takes (hour + 1) desks) ≡ [] → desk ∷ desks ≡ []
    by true one rest = absurd (cc)
    by false one rest = absurd (cc)
day-told takes hour (desk ∷ desks) (other ∷ same) chosen others = by (takes hour) (day-told takes (hour + 1) desks same) chosen others
  where
    by : (b : Bool) → (chosen_from takes (hour + 1) desks ≡ chosen_from takes (hour + 1) same → others_from takes (hour + 1) desks ≡ others_from takes (hour + 1) same → desks ≡ same)
        → (if b then desk ∷ chosen_from takes (hour + 1) desks else chosen_from takes (hour + 1) desks) ≡ (if b then other ∷ chosen_from takes (hour + 1) same else chosen_from takes (hour + 1) same)
        → (if b then others_from takes (hour + 1) desks else desk ∷ others_from takes (hour + 1) desks) ≡ (if b then others_from takes (hour + 1) same else other ∷ others_from takes (hour + 1) same)
        → desk ∷ desks ≡ other ∷ same
    by true more one rest =
        let first : desk ≡ other = cc in
        let left : chosen_from takes (hour + 1) desks ≡ chosen_from takes (hour + 1) same = cc in
        ap (λ d. d ∷ desks) first ∙ ap (λ ds. other ∷ ds) (more left rest)
    by false more one rest =
        let first : desk ≡ other = cc in
        let left : others_from takes (hour + 1) desks ≡ others_from takes (hour + 1) same = cc in
        ap (λ d. d ∷ desks) first ∙ ap (λ ds. other ∷ ds) (more one left)
