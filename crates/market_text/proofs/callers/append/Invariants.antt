use Rattle.std.proofs.Common.{◌≡◌, ◌++◌}
use Rattle.market_text.proofs.callers.append.Given as goal

-- the commands so far stand at the end
abbrev pub invariant-loop-command : goal.invariant-loop-command
invariant-loop-command l = l.list ≡ l.initial.list ++ l.yielded
