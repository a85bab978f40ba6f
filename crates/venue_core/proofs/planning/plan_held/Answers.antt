use Rattle.std.proofs.Common.{◌≡◌, ◌∙◌, List, IfOk, ap, subst, sym}
use Rattle.market_model.specs.declared.command.Command.{Command}
use Rattle.market_model.specs.declared.entry.Entry.{Entry}
use Rattle.market_model.specs.declared.reply.Reply.{Reply}
use Rattle.market_model.specs.History.{journal_events}
use Rattle.market_model.specs.Market.{reply_to}
use Rattle.market_model.specs.Rules.{touched_hours}
use Rattle.desk_locks.specs.Rows.{IsJournalOf}
use Rattle.desk_locks.proofs.Commands.{is-no_basket}
use Rattle.venue_core.proofs.Plans.{dropped-if, held-hours, held-ready, planned-if}
use Rattle.venue_core.proofs.planning.plan_held.Goals as goal

pub plan_basket-requires-clause-ready : goal.plan_basket-requires-clause-ready
plan_basket-requires-clause-ready c =
    let of_front = c.requires.held in
    held-ready of_front.0 c.args.caller c.args.command.now c.args.held.now of_front.2 c.args.setup.now c.args.grid.now of_front.1 c.requires.grid c.requires.setup of_front.3

pub plan_basket-requires-clause-hours : goal.plan_basket-requires-clause-hours
plan_basket-requires-clause-hours c =
    let of_front = c.requires.held in
    held-hours of_front.0 c.args.caller c.args.command.now c.args.held.now of_front.2 c.args.setup.now of_front.1 c.requires.early
    ∙ ap (touched_hours c.args.setup.now c.args.caller) c.in-EnterBasket.is

pub plan_joint-requires : goal.plan_joint-requires
plan_joint-requires c =
    let of_front = c.requires.held in record {
      ready = held-ready of_front.0 c.args.caller c.args.command.now c.args.held.now of_front.2 c.args.setup.now c.args.grid.now of_front.1 c.requires.grid c.requires.setup of_front.3;
      known = c.requires.known;
      early = c.requires.early;
      kind = is-no_basket c.args.command.now c.in_default.not-EnterBasket;
      hours = held-hours of_front.0 c.args.caller c.args.command.now c.args.held.now of_front.2 c.args.setup.now of_front.1 c.requires.early;
    }

-- each desk plans what the reply has of its hour, and after want of memory nothing is planned
pub returns-in-EnterBasket : goal.returns-in-EnterBasket
returns-in-EnterBasket c =
    let of_front = c.requires.held in
    let setup = c.args.setup.now in
    let desks = c.args.held.now.desks in
    let reply : (entries : List Entry) → IsJournalOf setup desks entries → IfOk c.plan_basket.result (λ (r : Reply). r ≡ reply_to setup (journal_events entries) c.args.caller c.args.command.now) =
    subst (λ (given : Command). (entries : List Entry) → IsJournalOf setup desks entries → IfOk c.plan_basket.result (λ (r : Reply). r ≡ reply_to setup (journal_events entries) c.args.caller given))
    (sym c.in-EnterBasket.is) c.plan_basket.ensures.reply in record {
      planned = λ front same is. planned-if front c.args.caller c.args.command.now c.args.held.now is c.plan_basket.new.row c.plan_basket.ensures.rest c.plan_basket.result setup same
          c.plan_basket.ensures.planned reply;
      failed = dropped-if of_front.0 c.args.caller c.args.command.now c.args.held.now of_front.2 c.plan_basket.new.row c.plan_basket.ensures.rest c.plan_basket.result c.plan_basket.ensures.failed;
    }

pub returns-in_default : goal.returns-in_default
returns-in_default c =
    let of_front = c.requires.held in record {
      planned = λ front same is. planned-if front c.args.caller c.args.command.now c.args.held.now is c.plan_joint.new.row c.plan_joint.ensures.rest c.plan_joint.result c.args.setup.now same
          c.plan_joint.ensures.planned c.plan_joint.ensures.reply;
      failed = dropped-if of_front.0 c.args.caller c.args.command.now c.args.held.now of_front.2 c.plan_joint.new.row c.plan_joint.ensures.rest c.plan_joint.result c.plan_joint.ensures.failed;
    }
