use Rattle.std.proofs.Common.{◌≡◌, drop}
use Rattle.std.specs.List.{find}
use Rattle.sweep_core.specs.Meeting.{is_met}
use Rattle.sweep_core.proofs.sells.partner_of.Given as goal

-- the buy can trade with none of the sells so far
abbrev pub invariant-loop-sell : goal.invariant-loop-sell
invariant-loop-sell l = find (is_met l.search l.buy) l.fronts ≡ find (is_met l.search l.buy) (drop l.sell-index l.fronts)
