use Rattle.std.proofs.Common.{arith}
use Rattle.kept_lock.proofs.Turns.{sitting}
use Rattle.kept_lock.proofs.lock.KeptLock.take.Goals as goal

pub load_new_seat-requires : goal.load_new_seat-requires
load_new_seat-requires g c =
    let shared = c.self.inside.table.shared in (omega (arith, c.self.invariant), sitting g.T.Kept.keeps shared.key shared.table_id.slots)
