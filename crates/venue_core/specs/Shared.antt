-- What the callers share: the journal, beside the seat whose list it is.
use Rattle.std.specs.Prelude.{◌≡◌, List}
use Rattle.zone_graph.specs.Route.{IsIn}
use Rattle.market_model.specs.declared.entry.Entry.{Entry}
use Rattle.market_model.specs.declared.who.Who.TheVariants as who
use Rattle.market_model.specs.Concerned.{IsCurrent}
use Rattle.journal_front.specs.Fronts.{DeskSeatState, FrontState, IsJournalOf, JournalSeatState}
use Rattle.trade_journal.specs.Journals.{IsJournal, JournalState}

-- the journal of a front: the front's setup is the journal's, and the list of the journal's seat is its entries
pub record IsShared (front : FrontState) (seat : JournalSeatState) (journal : JournalState) : Type 0 where
  pub own : IsJournalOf front seat
  pub same_setup : journal.setup ≡ front.setup
  pub same_entries : seat.entries ≡ journal.entries

-- there is a legal journal of a front for which the lists of some desks' seats are current
pub record AreOfOneJournal (front : FrontState) (seats : List DeskSeatState) : Type 0 where
  pub entries : List Entry
  pub journal : IsJournal (record { setup = front.setup; entries = entries })
  pub current : (seat : DeskSeatState) → IsIn seat seats → IsCurrent front.setup (who.Hour seat.hour) seat.entries entries
