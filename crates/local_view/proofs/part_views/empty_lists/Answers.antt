use Rattle.std.proofs.Common.{[]}
use Rattle.local_view.proofs.Made.{one_more_of}
use Rattle.local_view.proofs.part_views.empty_lists.Goals as goal

pub loop-preserved : goal.loop-preserved
loop-preserved c = one_more_of [] _ _ _ _ c.loop.invariant c.new.ensures c.in_ok-push.ensures.items
