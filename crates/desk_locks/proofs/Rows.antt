-- The places of a row.
use Rattle.std.proofs.Common.{◌≡◌, ◌∙◌, ℕ, List, [], ◌∷◌, ◌++◌, map, length, ap, arith, refl}
use Rattle.order_kinds.specs.Period.{hours_from}
use Rattle.journal_front.specs.Fronts.{DeskSeatState, FrontState, desk_of}
use Rattle.desk_locks.specs.Places.{AreFirstSeats, place_at, place_of_seat, row_of}

-- the seats of some hours are at the places of these hours
places-of-seats : (front : FrontState) (hours : List ℕ) → map place_of_seat (map (desk_of front []) hours) ≡ map (place_at front) hours
places-of-seats front [] = refl
places-of-seats front (hour ∷ hours) = ap (λ places. place_at front hour ∷ places) (places-of-seats front hours)

-- the first seats of a front are at the places of its row
pub row-of-seats : (front : FrontState) (seats : List DeskSeatState) → AreFirstSeats front seats → map place_of_seat seats ≡ row_of front
row-of-seats front seats first = ap (map place_of_seat) first ∙ places-of-seats front (hours_from 1 front.setup.hours)

-- what stands between others in a list that was made of hours was made of one of these
made-of : (front : FrontState) (hours : List ℕ) (before : List DeskSeatState) (seat : DeskSeatState) (after : List DeskSeatState)
    → before ++ seat ∷ after ≡ map (desk_of front []) hours → (hour : ℕ) × (seat ≡ desk_of front [] hour)
made-of front [] [] seat after same = cc
made-of front [] (other ∷ before) seat after same = cc
made-of front (hour ∷ hours) [] seat after same = (hour, cc)
made-of front (hour ∷ hours) (other ∷ before) seat after same =
    let rest : before ++ seat ∷ after ≡ map (desk_of front []) hours = cc in made-of front hours before seat after rest

-- so each of the first seats is that of some hour, with the empty list
pub first-seat : (front : FrontState) (seats before : List DeskSeatState) (seat : DeskSeatState) (after : List DeskSeatState)
    → AreFirstSeats front seats → before ++ seat ∷ after ≡ seats → (hour : ℕ) × (seat ≡ desk_of front [] hour)
first-seat front seats before seat after first same = made-of front (hours_from 1 front.setup.hours) before seat after (same ∙ first)

-- a list of no length has nothing
pub no_item : {X : Type 0} (xs : List X) → length xs ≡ 0 → xs ≡ []
no_item [] none = refl
no_item (x ∷ xs) some = absurd (omega arith)
