use Rattle.std.proofs.Common.{take}
use Rattle.session_trade.specs.Working.{GaveAll}
use Rattle.session_trade.proofs.working.work.Given as goal

-- the commands so far were given
abbrev pub invariant-loop-command : goal.invariant-loop-command
invariant-loop-command g l = GaveAll (take l.command-index l.command-items) l.fn.pass l.pass
