-- Desks that are held: those of some places of a row, and their seats.
use Rattle.std.specs.Prelude.{◌≡◌, ℕ, List, [], ◌∷◌, filter, slice_set}
use Rattle.market_model.specs.declared.hours.Hours.{Hours}
use Rattle.market_model.specs.HourSet.{has_hour}
use Rattle.joint_plan.specs.Desk.{DeskState}
use Rattle.journal_front.specs.Fronts.{DeskSeatState}
use Rattle.desk_locks.specs.Places.{AreInPlace, Place}

-- the places that were taken, and what is held of each: a desk and a seat
pub record HeldState : Type 0 where
  pub places : List Place
  pub desks : List DeskState
  pub seats : List DeskSeatState

-- the places of a row whose hours are in a set, in the row's order
abbrev pub places_within : Hours → List Place → List Place
places_within hours row = filter (λ place. has_hour hours place.hour) row

-- there is a desk and a seat for each place, and they are in it
abbrev pub AllInPlace : List Place → List DeskState → List DeskSeatState → Type 0
AllInPlace [] [] [] = Unit {0}
AllInPlace (place ∷ places) (desk ∷ desks) (seat ∷ seats) = AreInPlace place desk seat × AllInPlace places desks seats
AllInPlace _ _ _ = ⊥

-- what is held is all in its place
abbrev pub IsAllInPlace : HeldState → Type 0
IsAllInPlace held = AllInPlace held.places held.desks held.seats

-- the places of a row whose hours are in a set are held, and all is in its place
pub record AreHeld (hours : Hours) (row : List Place) (held : HeldState) : Type 0 where
  pub places : held.places ≡ places_within hours row
  pub all_in_place : IsAllInPlace held

-- with another desk at a place, and with another seat
abbrev pub with_desk : HeldState → (place : ℕ) → DeskState → HeldState
with_desk held place desk = record { places = held.places; desks = slice_set held.desks place desk; seats = held.seats }

abbrev pub with_seat : HeldState → (place : ℕ) → DeskSeatState → HeldState
with_seat held place seat = record { places = held.places; desks = held.desks; seats = slice_set held.seats place seat }

-- what there is besides the desks, and besides the seats
abbrev pub without_desks : HeldState → HeldState
without_desks held = record { places = held.places; desks = []; seats = held.seats }

abbrev pub without_seats : HeldState → HeldState
without_seats held = record { places = held.places; desks = held.desks; seats = [] }
