use Rattle.std.proofs.Common.{◌∙◌, sym}
use Rattle.desk_refusals.proofs.Named.{below-is}
use Rattle.desk_refusals.proofs.orders.is_below_left.Goals as goal

pub returns-in-Some : goal.returns-in-Some
returns-in-Some c =
    below-is c.args.hour.now.board.events c.args.caller c.args.to c.args.hour.now.board.hour c.args.name c.in-Some.order c.requires.named
    (sym c.own_limit.ensures ∙ c.in-Some.is)
