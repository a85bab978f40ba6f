use Rattle.std.proofs.Common.{◌∙◌}
use Rattle.plain_refusals.proofs.Crosses.{has-any}
use Rattle.plain_refusals.proofs.crossing.is_inside.Goals as goal

pub returns : goal.returns
returns c = c.contains.ensures.value ∙ has-any c.args.zone c.args.zones.now
