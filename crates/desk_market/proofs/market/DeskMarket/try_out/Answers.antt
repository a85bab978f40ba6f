use Rattle.desk_market.proofs.Grown.{tried_out}
use Rattle.desk_market.proofs.market.DeskMarket.try_out.Goals as goal

-- what is planned is dropped
pub invariant_of-self-2 : goal.invariant_of-self-2
invariant_of-self-2 c =
    let inside = c.self.inside in
    tried_out inside.grid inside.journal.setup inside.journal.entries inside.desks.desks inside.given c.self.invariant c.args.caller c.args.command.now c.in_ok-reply.reply
    c.plan.new.day c.undo_all.new.row c.in_ok-reply.ensures.chosen c.in_ok-reply.ensures.planned c.undo_all.ensures.desks c.undo_all.ensures.rest
