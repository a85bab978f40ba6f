use Rattle.std.proofs.Common.{◌≡◌, take}
use Rattle.market_model.specs.Room.{phase_of}
use Rattle.plain_capacity.proofs.phases.phase_of.Given as goal

-- what the gates say so far
abbrev pub invariant-loop-event : goal.invariant-loop-event
invariant-loop-event l = l.phase ≡ phase_of (take l.event-index l.gates) l.hour
