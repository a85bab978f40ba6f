use Rattle.std.proofs.Common.{◌==◌}
use Rattle.flow_netting.proofs.FlowLemmas.{flow_at-set}
use Rattle.flow_netting.proofs.borders.take.Goals as goal

pub returns-clause-flows : goal.returns-clause-flows
returns-clause-flows c = λ other quarter first last.
    flow_at-set c.args.borders.now c.args.arc other c.index-borders-arc.result c.take.new.self quarter c.args.lots (quarter == c.args.number) c.requires.border (c.take.ensures.rows quarter first last)
