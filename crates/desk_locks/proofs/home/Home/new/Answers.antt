use Rattle.std.proofs.Common.{rules, ◌≡◌, ℕ, [], IfOk, ◌+◌, ◌-◌, ◌*◌, ◌<◌, ◌≤◌, length, List, subst, sym}
use Rattle.trade_journal.specs.Journals.{IsJournal}
use Rattle.trade_journal.proofs.Pushed.{nothing}
use Rattle.journal_front.specs.Fronts.{DeskSeatState, desk_of}
use Rattle.desk_locks.specs.Places.{AreInPlace, place_of_seat}
use Rattle.desk_locks.proofs.home.Home.new.Goals as goal

-- a seat without entries is of the journal that has none
pub new-requires-2 : goal.new-requires-2
new-requires-2 c = record {
  unplanned = search rules;
  desk_hour = search rules;
  seat_hour = search rules;
  own = search rules;
  over = search rules;
  journal = subst (λ (seat : DeskSeatState). IsJournal (record { setup = c.of-first.result.value.setup; entries = seat.entries })) (sym c.requires.2) (nothing c.of-first.result.value.setup);
  left = search rules;
}
