-- What contracts see of a front and of the seats on it. A front is told by the table that it is made of,
-- and each seat tells which front it is of.
use Rattle.std.specs.Prelude.{◌≡◌, ℕ, Bool, true, List, [], filter, length, map}
use Rattle.std.specs.List.{range_with_len}
use Rattle.order_kinds.specs.Period.{hours_from}
use Rattle.atomic_table.specs.Seated.{TableId}
use Rattle.market_model.specs.declared.entry.Entry.{Entry}
use Rattle.market_model.specs.declared.setup.Setup.{Setup}
use Rattle.market_model.specs.declared.who.Who.TheVariants as who
use Rattle.market_model.specs.Concerned.{concerns}

-- a front: which one it is, and its setup
pub record FrontState : Type 0 where
  pub id : TableId
  pub setup : Setup

-- the journal's seat: its front, the setup, and the journal
pub record JournalSeatState : Type 0 where
  pub front : TableId
  pub setup : Setup
  pub entries : List Entry

-- a desk's seat: its front, the setup, the hour, whether it is in its place (it is not while it is joined
-- into the journal's, and then nothing else but the hour is told of it), and its list
pub record DeskSeatState : Type 0 where
  pub front : TableId
  pub setup : Setup
  pub hour : ℕ
  pub here : Bool
  pub entries : List Entry

-- a pass's seat: its front, the setup, the caller, its list, and the greatest number that it was told
pub record PassSeatState : Type 0 where
  pub front : TableId
  pub setup : Setup
  pub caller : ℕ
  pub entries : List Entry
  pub known : ℕ

-- the seats of a front
pub record IsJournalOf (front : FrontState) (seat : JournalSeatState) : Type 0 where
  pub same_front : seat.front ≡ front.id
  pub same_setup : seat.setup ≡ front.setup

pub record IsDeskOf (front : FrontState) (seat : DeskSeatState) : Type 0 where
  pub same_front : seat.front ≡ front.id
  pub same_setup : seat.setup ≡ front.setup
  pub in_place : seat.here ≡ true

pub record IsPassOf (front : FrontState) (seat : PassSeatState) : Type 0 where
  pub same_front : seat.front ≡ front.id
  pub same_setup : seat.setup ≡ front.setup

-- a desk's seat in its place, and a pass's seat
abbrev pub desk_of : FrontState → List Entry → (hour : ℕ) → DeskSeatState
desk_of front entries hour = record { front = front.id; setup = front.setup; hour = hour; here = true; entries = entries }

abbrev pub pass_of : FrontState → List Entry → (known caller : ℕ) → PassSeatState
pass_of front entries known caller = record { front = front.id; setup = front.setup; caller = caller; entries = entries; known = known }

-- a front of a setup with the seats that it begins with: the journal's, one desk's for each hour, one
-- pass's for each caller, ascending, each with the empty list
pub record IsOpened (setup : Setup) (front : FrontState) (journal : JournalSeatState) (desks : List DeskSeatState) (passes : List PassSeatState) : Type 0 where
  pub same_setup : front.setup ≡ setup
  pub journal_is : journal ≡ record { front = front.id; setup = setup; entries = [] }
  pub desks_are : desks ≡ map (desk_of front []) (hours_from 1 setup.hours)
  pub passes_are : passes ≡ map (pass_of front [] 0) (range_with_len 0 (length setup.callers))

-- a desk's seat with another list
abbrev pub with_entries : List Entry → DeskSeatState → DeskSeatState
with_entries entries seat = record { front = seat.front; setup = seat.setup; hour = seat.hour; here = seat.here; entries = entries }

-- the hours of a setup that an entry touches, ascending
abbrev pub touched_in_order : Setup → Entry → List ℕ
touched_in_order setup entry = filter (λ hour. concerns setup (who.Hour hour) entry) (hours_from 1 setup.hours)
