use Rattle.plain_capacity.proofs.Takes.{flow_at-taken}
use Rattle.plain_capacity.proofs.quarter.take.Goals as goal

pub returns-clause-flows : goal.returns-clause-flows
returns-clause-flows c = λ other.
    flow_at-taken c.args.borders.now c.args.arc other c.index-borders-arc.result c.take.new.self c.args.lots c.requires.there c.take.ensures
