-- What contracts see of a pass.
use Rattle.std.specs.Prelude.{◌≡◌, ℕ, List}
use Rattle.atomic_table.specs.Seated.{TableId}
use Rattle.market_model.specs.declared.entry.Entry.{Entry}
use Rattle.market_model.specs.declared.setup.Setup.{Setup}
use Rattle.market_model.specs.Concerned.{entries_by}
use Rattle.journal_front.specs.Fronts.{FrontState, PassSeatState}

-- a pass: the front that its seat is of, the setup, the caller, the entries that it has seen, those of
-- them that are the caller's own, and the greatest number of entries that it was told
pub record PassState : Type 0 where
  pub front : TableId
  pub setup : Setup
  pub caller : ℕ
  pub seen : List Entry
  pub mine : List Entry
  pub known : ℕ

-- the pass that has a seat
abbrev pub pass_of_seat : PassSeatState → PassState
pass_of_seat seat = record {
  front = seat.front;
  setup = seat.setup;
  caller = seat.caller;
  seen = seat.entries;
  mine = entries_by seat.caller seat.entries;
  known = seat.known;
}

-- a pass is of a front
pub record IsOf (front : FrontState) (pass : PassState) : Type 0 where
  pub same_front : pass.front ≡ front.id
  pub same_setup : pass.setup ≡ front.setup
