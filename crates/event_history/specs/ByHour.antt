-- Lists of events, one for each hour.
use Rattle.std.specs.Prelude.{◌≡◌, ℕ, ◌-◌, ◌<◌, Bool, ◌&&◌, List, [], ◌∷◌, ◌++◌, length, take, nat_le, nat_lt, slice_index_or, if◌then◌else◌}
use Rattle.market_model.specs.declared.event.Event.{Event}
use Rattle.market_model.specs.History.{of_hour}

-- how many lists there are: one for each number up to the last hour of the longest delivery day
abbrev pub hour_count : ℕ
hour_count = 26

-- an hour has a list of its own
abbrev pub has_list : (hour : ℕ) → Bool
has_list hour = nat_lt hour hour_count

-- the list of an hour among some events: those that touch it, or all where it has none of its own
abbrev pub listed : (hour : ℕ) → List Event → List Event
listed hour events = if has_list hour then of_hour hour events else events

-- the list of an hour
abbrev pub at_hour : List (List Event) → (hour : ℕ) → List Event
at_hour lists hour = slice_index_or lists hour []

-- each list has the events that touch its hour, in order
pub record AreByHour (events : List Event) (lists : List (List Event)) : Type 0 where
  pub size : length lists ≡ hour_count
  pub each : (hour : ℕ) → hour < length lists → at_hour lists hour ≡ of_hour hour events

-- an hour is one of those from the first to before the end
abbrev pub is_from : (first end hour : ℕ) → Bool
is_from first end hour = nat_le first hour && nat_lt hour end

-- all but the last event
abbrev pub but_last : List Event → List Event
but_last events = take (length events - 1) events

-- the lists of some hours change, and the others stay
abbrev pub ChangeIn : (takes : ℕ → Bool) (change : List Event → List Event) (lists after : List (List Event)) → Type 0
ChangeIn takes change lists after =
    (hour : ℕ) → hour < length lists → at_hour after hour ≡ (if takes hour then change (at_hour lists hour) else at_hour lists hour)

-- the lists of some hours have one more event
abbrev pub Gain : (takes : ℕ → Bool) (event : Event) (lists after : List (List Event)) → Type 0
Gain takes event lists after = ChangeIn takes (λ events. events ++ event ∷ []) lists after

-- the lists of some hours are without their last event
abbrev pub Lose : (takes : ℕ → Bool) (lists after : List (List Event)) → Type 0
Lose takes lists after = ChangeIn takes but_last lists after
