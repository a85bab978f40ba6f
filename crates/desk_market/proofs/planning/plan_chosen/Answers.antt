use Rattle.std.proofs.Common.{◌≡◌, ◌∙◌, ◌<◌, None, IfOk, length, sym, ap, subst}
use Rattle.market_model.specs.declared.command.Command.{Command}
use Rattle.market_model.specs.declared.command.Command.TheVariants as command
use Rattle.market_model.specs.declared.reply.Reply.{Reply}
use Rattle.market_model.specs.declared.setup.Setup.{Setup}
use Rattle.market_model.specs.History.{journal_events}
use Rattle.market_model.specs.Market.{reply_to}
use Rattle.market_model.specs.Rules.{early_refusal, touched_hours}
use Rattle.basket_match.specs.Rows.{IsJournalOf}
use Rattle.desk_market.specs.Day.{chosen_of}
use Rattle.basket_match.proofs.Commands.{is-no_basket}
use Rattle.desk_market.proofs.Chosen.{chosen-hours, chosen-journal, chosen-ready, nothing-planned, reply-planned, still-chosen}
use Rattle.desk_market.proofs.planning.plan_chosen.Goals as goal

pub plan_basket-requires-clause-ready : goal.plan_basket-requires-clause-ready
plan_basket-requires-clause-ready c =
    let journal = c.args.journal.now in
    chosen-ready journal.setup journal.entries c.args.caller c.args.command.now c.args.day.now c.requires.chosen c.args.grid.now c.setup-setup.result.now
    c.requires.grid c.setup-setup.ensures

pub plan_basket-requires-clause-hours : goal.plan_basket-requires-clause-hours
plan_basket-requires-clause-hours c =
    let journal = c.args.journal.now in
    chosen-hours journal.setup journal.entries c.args.caller c.args.command.now c.args.day.now c.requires.chosen c.setup-setup.result.now c.setup-setup.ensures
    ∙ ap (touched_hours c.setup-setup.result.now c.args.caller) c.in-EnterBasket.is

pub plan_joint-requires : goal.plan_joint-requires
plan_joint-requires c =
    let journal = c.args.journal.now in
    let same = sym c.setup-setup.ensures in
    record {
      ready = chosen-ready journal.setup journal.entries c.args.caller c.args.command.now c.args.day.now c.requires.chosen c.args.grid.now c.setup-setup.result.now
          c.requires.grid c.setup-setup.ensures;
      known = subst (λ (s : Setup). c.args.caller < length s.callers) same c.requires.known;
      early = subst (λ (s : Setup). early_refusal s c.args.caller c.args.command.now ≡ None) same c.requires.chosen.early;
      kind = is-no_basket c.args.command.now c.in_default.not-EnterBasket;
      hours = chosen-hours journal.setup journal.entries c.args.caller c.args.command.now c.args.day.now c.requires.chosen c.setup-setup.result.now c.setup-setup.ensures;
    }

-- the reply is that after the journal, and the day plans it
pub returns-in-EnterBasket : goal.returns-in-EnterBasket
returns-in-EnterBasket c =
    let journal = c.args.journal.now in
    let given : Command = command.EnterBasket c.in-EnterBasket.orders in
    let planned : IsJournalOf journal.setup (chosen_of c.args.day.now) journal.entries
    → IfOk c.plan_basket.result (λ (reply : Reply). reply ≡ reply_to journal.setup (journal_events journal.entries) c.args.caller given) =
    subst (λ (s : Setup). IsJournalOf s (chosen_of c.args.day.now) journal.entries → IfOk c.plan_basket.result (λ (reply : Reply). reply ≡ reply_to s (journal_events journal.entries) c.args.caller given))
    c.setup-setup.ensures (c.plan_basket.ensures.reply journal.entries) in
    record {
      reply = subst (λ (g : Command). IfOk c.plan_basket.result (λ (reply : Reply). reply ≡ reply_to journal.setup (journal_events journal.entries) c.args.caller g)) (sym c.in-EnterBasket.is)
          (planned (chosen-journal journal.setup journal.entries c.args.caller c.args.command.now c.args.day.now c.requires.chosen));
      planned = reply-planned journal.setup journal.entries c.args.caller c.args.command.now c.args.day.now c.requires.chosen c.plan_basket.result c.plan_basket.new.row
          c.plan_basket.ensures.rest c.plan_basket.ensures.planned;
      chosen = still-chosen journal.setup journal.entries c.args.caller c.args.command.now c.args.day.now c.requires.chosen c.plan_basket.result c.plan_basket.new.row c.plan_basket.ensures.rest;
      failed = nothing-planned journal.setup journal.entries c.args.caller c.args.command.now c.args.day.now c.requires.chosen c.plan_basket.result c.plan_basket.new.row
          c.plan_basket.ensures.rest c.plan_basket.ensures.failed;
    }

pub returns-in_default : goal.returns-in_default
returns-in_default c =
    let journal = c.args.journal.now in
    let planned : IsJournalOf journal.setup (chosen_of c.args.day.now) journal.entries
    → IfOk c.plan_joint.result (λ (reply : Reply). reply ≡ reply_to journal.setup (journal_events journal.entries) c.args.caller c.args.command.now) =
    subst (λ (s : Setup). IsJournalOf s (chosen_of c.args.day.now) journal.entries → IfOk c.plan_joint.result (λ (reply : Reply). reply ≡ reply_to s (journal_events journal.entries) c.args.caller c.args.command.now))
    c.setup-setup.ensures (c.plan_joint.ensures.reply journal.entries) in
    record {
      reply = planned (chosen-journal journal.setup journal.entries c.args.caller c.args.command.now c.args.day.now c.requires.chosen);
      planned = reply-planned journal.setup journal.entries c.args.caller c.args.command.now c.args.day.now c.requires.chosen c.plan_joint.result c.plan_joint.new.row
          c.plan_joint.ensures.rest c.plan_joint.ensures.planned;
      chosen = still-chosen journal.setup journal.entries c.args.caller c.args.command.now c.args.day.now c.requires.chosen c.plan_joint.result c.plan_joint.new.row c.plan_joint.ensures.rest;
      failed = nothing-planned journal.setup journal.entries c.args.caller c.args.command.now c.args.day.now c.requires.chosen c.plan_joint.result c.plan_joint.new.row
          c.plan_joint.ensures.rest c.plan_joint.ensures.failed;
    }
