use Rattle.std.proofs.Common.{sym}
use Rattle.sweep_core.proofs.Progress.{next-is}
use Rattle.sweep_core.proofs.parts.next_leg.Goals as goal

pub loop-part-init : goal.loop-part-init
loop-part-init g c = record { size = c.requires.size; quiet = c.requires.quiet; onward = sym (next-is (g.B.Board.state c.args.board.now)) }
