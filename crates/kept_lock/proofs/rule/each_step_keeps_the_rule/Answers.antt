use Rattle.kept_lock.proofs.Turns.{making, sitting, taking, asking, giving}
use Rattle.kept_lock.proofs.rule.each_step_keeps_the_rule.Goals as goal

pub returns : goal.returns
returns g c = record {
  making = making g.T.Kept.keeps;
  sitting = sitting g.T.Kept.keeps;
  taking = taking g.T.Kept.keeps;
  asking = asking g.T.Kept.keeps;
  giving = giving g.T.Kept.keeps;
}
