use Rattle.std.proofs.Common.{◌≡◌, ◌≢◌, ◌+◌, ◌*◌, ◌^◌, ◌<◌, ℕ, get_or}
use Rattle.local_view.specs.Balances.{HasFew, net_of}
use Rattle.local_view.specs.Moved.{flow_in}
use Rattle.local_view.proofs.Standing.{IsBalanced}
use Rattle.local_view.proofs.balance.is_balanced.Given as goal

-- the balance over the borders so far is told
abbrev pub invariant-loop-border : goal.invariant-loop-border
invariant-loop-border l = record { balanced : IsBalanced l.grid l.side (flow_in l.flow) l.border l.balance; few : HasFew l.balance (l.border * 2 ^ 32) }

-- the zones so far pass on what they give
abbrev pub invariant-loop-other : goal.invariant-loop-other
invariant-loop-other l = (k : ℕ) → k < l.other → k ≢ l.zone → net_of l.balance k ≡ 2 ^ 41 + get_or l.given k 0
