use Rattle.std.proofs.Common.{◌∙◌, refl, sym, ap}
use Rattle.market_model.specs.StateRules.{state_refusal}
use Rattle.laws_of_market.proofs.Admitting.{early-none, early-some, state-some}
use Rattle.laws_of_market.proofs.Answered.{Answers, refused}
use Rattle.plain_market.proofs.replying.reply_and_append.Goals as goal
use Rattle.market_model.specs.declared.reply.Reply.TheVariants as reply

-- an early refusal
early : (c : goal.In-Some) → Answers c.args.setup.now c.args.events.now c.args.caller c.args.command.now (reply.Refused c.in-Some.refusal) c.args.events.now
early c = refused c.args.setup.now c.args.events.now c.args.events.now c.args.caller c.args.command.now c.in-Some.refusal
    (early-some c.args.setup.now c.args.events.now c.args.caller c.args.command.now c.in-Some.refusal (sym c.refuse_early-early.ensures ∙ c.in-Some.is)) refl

-- a refusal by the state
broken : (c : goal.In-Some-broken) → Answers c.args.setup.now c.args.events.now c.args.caller c.args.command.now (reply.Refused c.in-Some-broken.refusal) c.args.events.now
broken c = refused c.args.setup.now c.args.events.now c.args.events.now c.args.caller c.args.command.now c.in-Some-broken.refusal
    (state-some c.args.setup.now c.args.events.now c.args.caller c.args.command.now c.in-Some-broken.refusal
    (early-none c.args.setup.now c.args.caller c.args.command.now (sym c.refuse_early-early.ensures ∙ c.in_default.is))
    (ap (λ g. state_refusal g c.args.events.now c.args.caller c.args.command.now) (sym c.requires.grid)
    ∙ sym c.in_ok-broken.ensures.refusal ∙ c.in-Some-broken.is)) refl

pub returns-in-Some-clause-reply : goal.returns-in-Some-clause-reply
returns-in-Some-clause-reply c = (early c).reply

pub returns-in-Some-clause-events : goal.returns-in-Some-clause-events
returns-in-Some-clause-events c = (early c).history

pub returns-in-Some-broken-clause-reply : goal.returns-in-Some-broken-clause-reply
returns-in-Some-broken-clause-reply c = (broken c).reply

pub returns-in-Some-broken-clause-events : goal.returns-in-Some-broken-clause-events
returns-in-Some-broken-clause-events c = (broken c).history
