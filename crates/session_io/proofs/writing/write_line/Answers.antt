use Rattle.std.proofs.Common.{arith}
use Rattle.session_io.proofs.WritingLemmas.{Wrote-more}
use Rattle.session_io.proofs.writing.write_line.Goals as goal

-- the write took the front of the rest
pub loop-rest-preserved : goal.loop-rest-preserved
loop-rest-preserved g c = (
  rw c.split_at.ensures.back (Wrote-more _ _ _ _ _ _ c.loop-rest.invariant.0 c.in_ok-count.ensures.bytes),
  omega arith,
)
