use Rattle.std.proofs.Common.{subst, sym}
use Rattle.plain_capacity.specs.Hour.{rows_in}
use Rattle.plain_capacity.specs.Rows.{CanCarry}
use Rattle.plain_capacity.proofs.HourLegs.{leg-can}
use Rattle.plain_capacity.proofs.hour.HourCapacity.note.Goals as goal

pub carry-requires : goal.carry-requires
carry-requires c = λ number first last.
    subst (λ route. CanCarry (rows_in c.args.self.now number) route c.in-Some.leg.now.lots) (sym c.as_slice.ensures)
    (leg-can c.args.hour c.in-Some.leg.now c.args.event.now c.args.self.now c.in-Some.ensures c.requires number first last)
