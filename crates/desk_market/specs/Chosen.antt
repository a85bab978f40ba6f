-- Desks that are chosen among those of a day, and the others.
use Rattle.std.proofs.Common.{◌≡◌, ℕ, zero, suc, ◌+◌, Bool, true, false, List, [], ◌∷◌, refl, ap, slice_set}
use Rattle.market_model.specs.HourSet.{has_hour}
use Rattle.basket_match.specs.Desk.{DeskState}
use Rattle.desk_market.specs.Day.{DayState, chosen_from, others_from, others_of, put_from, with_chosen}

-- a chosen desk is put in at its place among them
pub chosen-put : (takes : ℕ → Bool) (hour : ℕ) (desks : List DeskState) (place : ℕ) (other : DeskState)
    → chosen_from takes hour (put_from takes hour desks place other) ≡ slice_set (chosen_from takes hour desks) place other
chosen-put takes hour [] place other = refl
chosen-put takes hour (desk ∷ desks) place other = by (takes hour) place refl (λ later. chosen-put takes (hour + 1) desks later other)
  where
    by : (b : Bool) (place : ℕ) → takes hour ≡ b → ((later : ℕ) → chosen_from takes (hour + 1) (put_from takes (hour + 1) desks later other) ≡ slice_set (chosen_from takes (hour + 1) desks) later other)
        → chosen_from takes hour (put_from takes hour (desk ∷ desks) place other) ≡ slice_set (chosen_from takes hour (desk ∷ desks)) place other
    by true zero is rest = rw is (rw is refl)
    by true (suc place) is rest = rw is (rw is (ap (λ ds. desk ∷ ds) (rest place)))
    by false zero is rest = rw is (rw is (rest zero))
    by false (suc place) is rest = rw is (rw is (rest (suc place)))

-- the others stay
others-put : (takes : ℕ → Bool) (hour : ℕ) (desks : List DeskState) (place : ℕ) (other : DeskState)
    → others_from takes hour (put_from takes hour desks place other) ≡ others_from takes hour desks
others-put takes hour [] place other = refl
others-put takes hour (desk ∷ desks) place other = by (takes hour) place refl (λ later. others-put takes (hour + 1) desks later other)
  where
    by : (b : Bool) (place : ℕ) → takes hour ≡ b → ((later : ℕ) → others_from takes (hour + 1) (put_from takes (hour + 1) desks later other) ≡ others_from takes (hour + 1) desks)
        → others_from takes hour (put_from takes hour (desk ∷ desks) place other) ≡ others_from takes hour (desk ∷ desks)
    by true zero is rest = rw is (rw is refl)
    by true (suc place) is rest = rw is (rw is (rest place))
    by false zero is rest = rw is (rw is (ap (λ ds. desk ∷ ds) (rest zero)))
    by false (suc place) is rest = rw is (rw is (ap (λ ds. desk ∷ ds) (rest (suc place))))

-- so they do beside the hours that are chosen
pub others-stay : (day : DayState) (place : ℕ) (other : DeskState) → others_of (with_chosen day place other) ≡ others_of day
others-stay day place other = ap (λ ds. record { desks = ds; chosen = day.chosen }) (others-put (has_hour day.chosen) 1 day.desks place other)
