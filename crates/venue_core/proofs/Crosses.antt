-- A venue may be shared by threads.
use denote.Param.Send.{IsSend, IsSync, sendable}
use Rattle.std.proofs.Crossing.{crosses}
use Rattle.zone_graph.proofs.sequence.Sequence.TheSendSync as sequence
use Rattle.zone_graph.proofs.grid.Grid.TheSendSync as grid
use Rattle.journal_front.proofs.front.Front.TheSendSync as front
use Rattle.journal_front.proofs.seats.JournalSeat.TheSendSync as seat
use Rattle.journal_front.proofs.seats.PassSeat.TheSendSync as pass
use Rattle.trade_journal.proofs.journal.Journal.TheSendSync as journal
use Rattle.kept_lock.proofs.lock.KeptLock.TheSendSync as lock
use Rattle.desk_locks.proofs.Crosses.{row_sync}
use Rattle.venue_core.specs.contracts.shared.SharedJournal as shared
use Rattle.venue_core.specs.contracts.venue.Venue as venue

shared_send : IsSend shared.the_row
shared_send = search (seat.the_send, journal.the_send, pass.the_send, crosses, sendable) depth 20

pub venue_sync : IsSync venue.the_row
venue_sync = search (row_sync, shared_send, lock.the_sync, front.the_sync, grid.the_sync, sequence.the_sync, crosses, sendable) depth 20
