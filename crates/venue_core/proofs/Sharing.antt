-- What one legal journal tells of the seats of desks that were compared with it.
use Rattle.std.proofs.Common.{◌≡◌, List, subst}
use Rattle.zone_graph.specs.Route.{IsIn}
use Rattle.market_model.specs.declared.setup.Setup.{Setup}
use Rattle.market_model.specs.declared.who.Who.TheVariants as who
use Rattle.market_model.specs.Concerned.{IsCurrent}
use Rattle.journal_front.specs.Fronts.{DeskSeatState, FrontState, JournalSeatState}
use Rattle.trade_journal.specs.Journals.{IsJournal, JournalState}
use Rattle.desk_locks.specs.Held.{HeldState, without_seats}
use Rattle.venue_core.specs.Shared.{AreOfOneJournal, IsShared}

-- they are current for the journal as it is
pub one-journal : (front : FrontState) (seat : JournalSeatState) (journal : JournalState) (seats : List DeskSeatState) → IsShared front seat journal → IsJournal journal
    → ((desk : DeskSeatState) → IsIn desk seats → IsCurrent front.setup (who.Hour desk.hour) desk.entries seat.entries) → AreOfOneJournal front seats
one-journal front seat journal seats shared is current = record {
  entries = journal.entries;
  journal = subst (λ (s : Setup). IsJournal (record { setup = s; entries = journal.entries })) shared.same_setup is;
  current = λ desk there. subst (IsCurrent front.setup (who.Hour desk.hour) desk.entries) shared.same_entries (current desk there);
}

-- what is held is the same where its seats are, and all else is
pub same-held : (old new : HeldState) → without_seats new ≡ without_seats old → new.seats ≡ old.seats → new ≡ old
same-held old new rest seats = λ i. record { places = (rest i).places; desks = (rest i).desks; seats = seats i }
