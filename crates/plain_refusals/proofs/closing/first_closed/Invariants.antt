use Rattle.std.proofs.Common.{◌≡◌}
use Rattle.std.specs.List.{find}
use Rattle.order_kinds.specs.Period.{hours_from}
use Rattle.market_model.specs.Room.{is_closed_phase, phase_of}
use Rattle.plain_refusals.proofs.closing.first_closed.Given as goal

-- the hours that are left have the first closed one
abbrev pub invariant-loop-hour : goal.invariant-loop-hour
invariant-loop-hour l =
    find (λ hour. is_closed_phase (phase_of l.events hour)) (hours_from l.hour l.last)
    ≡ find (λ hour. is_closed_phase (phase_of l.events hour)) (hours_from l.fn.first l.last)
