use Rattle.std.proofs.Common.{◌≡◌, length, map}
use Rattle.market_model.specs.Rules.{ascends}
use Rattle.market_model.proofs.early_rules.hours_ascend.Given as goal

-- the hours of all orders ascend where those of the rest do
abbrev pub invariant-loop-order : goal.invariant-loop-order
invariant-loop-order l = ascends (map (λ order. order.contract.hour) l.orders) ≡ ascends (map (λ order. order.contract.hour) l.rest)

abbrev pub decreases-loop-order : goal.decreases-loop-order
decreases-loop-order l = length l.rest
