use Rattle.market_model.specs.Blocks.{block_legs}
use Rattle.market_model.specs.Orders.{left}
use Rattle.plain_matching.proofs.Legs.{IsSoFar}
use Rattle.plain_matching.proofs.Pours.{IsPouring}
use Rattle.plain_matching.proofs.pouring.pour.Given as goal

-- a first part of the legs was made
abbrev pub invariant-loop-leg : goal.invariant-loop-leg
invariant-loop-leg l = record {
  so_far : IsSoFar (λ history. block_legs l.grid l.taker l.maker history) l.initial.events l.events;
  pouring : IsPouring l.grid l.initial.events l.taker l.maker l.events;
}

-- each leg lowers what is left of the taker
abbrev pub decreases-loop-leg : goal.decreases-loop-leg
decreases-loop-leg l = left l.events l.taker.name
