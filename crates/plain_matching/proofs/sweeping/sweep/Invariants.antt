use Rattle.market_model.specs.Sweep.{all_parts, left_in_hour, sweep}
use Rattle.plain_matching.proofs.Legs.{IsUnderWay}
use Rattle.plain_matching.proofs.sweeping.sweep.Given as goal

-- a first part of the legs was made, the history is legal, and what was summed up is of its events
abbrev pub invariant-loop-leg : goal.invariant-loop-leg
invariant-loop-leg l = IsUnderWay l.grid (λ history. sweep all_parts l.grid l.hour history) l.hour l.initial.events l.initial.sums.capacity l.events l.sums

-- each leg lowers what is left in the hour
abbrev pub decreases-loop-leg : goal.decreases-loop-leg
decreases-loop-leg l = left_in_hour l.events l.hour
