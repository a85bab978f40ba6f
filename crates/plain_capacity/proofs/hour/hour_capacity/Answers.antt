use Rattle.std.proofs.Common.{[], subst, sym}
use Rattle.plain_capacity.specs.Hour.{IsCapacityOf}
use Rattle.plain_capacity.proofs.Hours.{idle-is}
use Rattle.plain_capacity.proofs.hour.hour_capacity.Goals as goal

pub note_from-requires-clause-before : goal.note_from-requires-clause-before
note_from-requires-clause-before c = subst (IsCapacityOf c.args.grid.now [] c.args.hour) (sym c.in_ok-capacity.ensures) (idle-is c.args.grid.now c.args.hour)
