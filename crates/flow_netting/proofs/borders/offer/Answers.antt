use Rattle.std.proofs.Common.{◌==◌}
use Rattle.flow_netting.proofs.FlowLemmas.{offered_at-set}
use Rattle.flow_netting.proofs.borders.offer.Goals as goal

pub returns-clause-offers : goal.returns-clause-offers
returns-clause-offers c = λ other quarter first last.
    offered_at-set c.args.borders.now c.args.arc other c.index-borders-arc.result c.offer.new.self quarter c.args.lots (quarter == c.args.number) c.requires.border (c.in_ok-offer.ensures.rows quarter first last)
