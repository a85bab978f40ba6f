use Rattle.market_model.specs.declared.reply.Reply.TheVariants as reply
use Rattle.hour_desk.proofs.Planned.{IsAnswered, state-refused}
use Rattle.hour_desk.proofs.replying.reply_in.Goals as goal

refused : (c : goal.In-Some) → IsAnswered c.args.setup.now c.args.hour.now c.args.hour.now c.args.caller c.args.command.now (reply.Refused c.in-Some.refusal)
refused c =
    state-refused c.args.setup.now c.args.hour.now c.args.caller c.args.command.now c.args.grid.now c.refuse_by_state.result c.in-Some.refusal
    c.requires.placed c.requires.early c.requires.grid c.refuse_by_state.ensures c.in-Some.is

pub returns-in-Some-clause-reply : goal.returns-in-Some-clause-reply
returns-in-Some-clause-reply c = (refused c).reply

pub returns-in-Some-clause-planned : goal.returns-in-Some-clause-planned
returns-in-Some-clause-planned c = (refused c).planned
