use Rattle.std.proofs.Common.{◌∙◌}
use Rattle.plain_orders.proofs.Near.{near-entered}
use Rattle.plain_orders.proofs.tally.entered_in.Goals as goal

pub returns : goal.returns
returns c = c.count_entered.ensures ∙ near-entered c.args.hour c.args.events.now c.near.result.now c.near.ensures
