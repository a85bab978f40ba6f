use Rattle.flow_netting.specs.QuarterSet.{has}
use Rattle.flow_netting.proofs.FlowLemmas.{flow_at-set}
use Rattle.flow_netting.proofs.borders.take_in.Goals as goal

pub returns-clause-flows : goal.returns-clause-flows
returns-clause-flows c = λ other number first last.
    flow_at-set c.args.borders.now c.args.arc other c.index-borders-arc.result c.take_in.new.self number c.args.lots (has c.args.set number) c.requires.border (c.take_in.ensures.rows number first last)
