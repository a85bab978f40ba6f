use Rattle.std.proofs.Common.{◌≡◌, take}
use Rattle.market_model.specs.Room.{is_halted}
use Rattle.plain_capacity.proofs.phases.is_halted.Given as goal

-- what the events near the hour say so far
abbrev pub invariant-loop-event : goal.invariant-loop-event
invariant-loop-event l = l.halted ≡ is_halted (take l.event-index l.near) l.border l.hour
