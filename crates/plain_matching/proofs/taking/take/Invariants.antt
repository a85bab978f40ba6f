use Rattle.market_model.specs.Orders.{left}
use Rattle.market_model.specs.Taking.{take}
use Rattle.plain_matching.proofs.Legs.{IsUnderWay}
use Rattle.plain_matching.proofs.taking.take.Given as goal

-- a first part of the legs was made, the history is legal, and what was summed up is of its events
abbrev pub invariant-loop-leg : goal.invariant-loop-leg
invariant-loop-leg l = IsUnderWay l.grid (λ history. take l.grid history l.name) l.name.hour l.initial.events l.initial.sums.capacity l.events l.sums

-- each leg lowers what is left of the order
abbrev pub decreases-loop-leg : goal.decreases-loop-leg
decreases-loop-leg l = left l.events l.name
