-- A row of desks may be shared by threads, and a desk may go from one to another.
use denote.Param.Send.{IsSend, IsSync, sendable}
use Rattle.std.proofs.Crossing.{crosses}
use Rattle.joint_plan.proofs.Crosses.{desk_send}
use Rattle.journal_front.proofs.seats.DeskSeat.TheSendSync as seat
use Rattle.kept_lock.proofs.lock.KeptLock.TheSendSync as lock
use Rattle.desk_locks.specs.contracts.home.Home as home
use Rattle.desk_locks.specs.contracts.home.Seated as seated
use Rattle.desk_locks.specs.contracts.row.DeskRow as row

seated_send : IsSend seated.the_row
seated_send = search (desk_send, seat.the_send, crosses, sendable) depth 20

home_sync : IsSync home.the_row
home_sync = search (seated_send, lock.the_sync, lock.the_send, crosses, sendable) depth 20

pub row_sync : IsSync row.the_row
row_sync = search (home_sync, crosses, sendable) depth 20
