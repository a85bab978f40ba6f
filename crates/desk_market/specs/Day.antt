-- The desks of a delivery day, some of which are chosen.
use Rattle.std.specs.Prelude.{ℕ, zero, suc, ◌+◌, ◌≤◌, Bool, List, [], ◌∷◌, length, map, if◌then◌else◌}
use Rattle.std.specs.List.{range_with_len}
use Rattle.zone_graph.specs.Graph.{Graph}
use Rattle.market_model.specs.declared.hours.Hours.{Hours}
use Rattle.market_model.specs.HourSet.{has_hour}
use Rattle.basket_match.specs.Desk.{DeskState, empty_desk}

-- a desk for each hour, from the first hour on, and the hours that are chosen
pub record DayState : Type 0 where
  pub desks : List DeskState
  pub chosen : Hours

-- no more desks than a set can have hours
abbrev pub IsDay : List DeskState → Type 0
IsDay desks = length desks ≤ 32

-- the desks whose hours are taken, of which the first one is that of an hour
abbrev pub chosen_from : (takes : ℕ → Bool) → (hour : ℕ) → List DeskState → List DeskState
chosen_from takes hour [] = []
chosen_from takes hour (desk ∷ desks) = if takes hour then desk ∷ chosen_from takes (hour + 1) desks else chosen_from takes (hour + 1) desks

abbrev pub chosen_of : DayState → List DeskState
chosen_of day = chosen_from (has_hour day.chosen) 1 day.desks

-- the desks with another one in place of the one that stands at a place among those that are taken
abbrev pub put_from : (takes : ℕ → Bool) → (hour : ℕ) → List DeskState → (place : ℕ) → DeskState → List DeskState
put_from takes hour [] place other = []
put_from takes hour (desk ∷ desks) zero other =
    if takes hour then other ∷ desks else desk ∷ put_from takes (hour + 1) desks zero other
put_from takes hour (desk ∷ desks) (suc place) other =
    if takes hour then desk ∷ put_from takes (hour + 1) desks place other else desk ∷ put_from takes (hour + 1) desks (suc place) other

abbrev pub with_chosen : DayState → (place : ℕ) → DeskState → DayState
with_chosen day place other = record { desks = put_from (has_hour day.chosen) 1 day.desks place other; chosen = day.chosen }

-- those whose hours are not taken
abbrev pub others_from : (takes : ℕ → Bool) → (hour : ℕ) → List DeskState → List DeskState
others_from takes hour [] = []
others_from takes hour (desk ∷ desks) = if takes hour then others_from takes (hour + 1) desks else desk ∷ others_from takes (hour + 1) desks

-- the others, beside which the hours are chosen
abbrev pub others_of : DayState → DayState
others_of day = record { desks = others_from (has_hour day.chosen) 1 day.desks; chosen = day.chosen }

-- where among the desks the one stands that is at a place among those that are taken
abbrev pub place_from : (takes : ℕ → Bool) → (hour : ℕ) → List DeskState → (place : ℕ) → ℕ
place_from takes hour [] place = 0
place_from takes hour (desk ∷ desks) zero = if takes hour then 0 else place_from takes (hour + 1) desks zero + 1
place_from takes hour (desk ∷ desks) (suc place) =
    if takes hour then place_from takes (hour + 1) desks place + 1 else place_from takes (hour + 1) desks (suc place) + 1

-- the desks of a day of so many hours over a grid, without events
abbrev pub empty_desks : Graph → (hours : ℕ) → List DeskState
empty_desks graph hours = map (empty_desk graph) (range_with_len 1 hours)
