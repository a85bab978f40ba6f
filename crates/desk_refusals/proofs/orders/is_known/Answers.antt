use Rattle.std.proofs.Common.{◌∙◌}
use Rattle.desk_refusals.proofs.Named.{cancel-known, reduce-known}
use Rattle.desk_refusals.proofs.orders.is_known.Goals as goal

pub returns-in-Cancel : goal.returns-in-Cancel
returns-in-Cancel c =
    c.is_some.ensures ∙ c.own_of.ensures.known
    ∙ cancel-known c.args.hour.now.board.events c.args.caller c.args.hour.now.board.hour c.args.command.now c.in-Cancel.name c.in-Cancel.is c.requires.concerns

pub returns-in-Reduce : goal.returns-in-Reduce
returns-in-Reduce c =
    let is = reduce-known c.args.hour.now.board.events c.args.caller c.args.hour.now.board.hour c.args.command.now c.in-Reduce.name _ c.in-Reduce.is c.requires.concerns in
    cc
