use Rattle.std.proofs.Common.{None}
use Rattle.local_view.proofs.Chosen.{empty_line}
use Rattle.local_view.proofs.part_views.LineViews.new.Goals as goal

pub returns : goal.returns
returns c = λ i. record { kept = empty_line c.args.zones c.new.result.items c.new.ensures.items i; next = None }
