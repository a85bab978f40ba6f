use Rattle.std.proofs.Common.{subst, sym}
use Rattle.plain_orders.specs.DaySums.{AreDaySums}
use Rattle.plain_orders.proofs.Kept.{day_sums-none}
use Rattle.plain_market.proofs.replying.reply.Goals as goal

pub reply_and_append-requires-clause-summed : goal.reply_and_append-requires-clause-summed
reply_and_append-requires-clause-summed c =
    subst (AreDaySums c.in_ok-history.history) (sym c.in_ok-sums.ensures) (day_sums-none c.in_ok-history.history)
