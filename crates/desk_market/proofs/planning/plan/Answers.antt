use Rattle.std.proofs.Common.{◌∙◌, sym, ap}
use Rattle.market_model.specs.declared.setup.Setup.{Setup}
use Rattle.market_model.specs.History.{journal_events}
use Rattle.market_model.specs.Rules.{early_refusal}
use Rattle.basket_match.proofs.Commands.{refused-early}
use Rattle.desk_market.proofs.planning.plan.Goals as goal

-- a rule refuses the command by itself
pub returns-in-Some-clause-reply : goal.returns-in-Some-clause-reply
returns-in-Some-clause-reply c =
    sym (refused-early c.args.journal.now.setup c.args.caller c.args.command.now (journal_events c.args.journal.now.entries) c.in-Some.refusal
    (ap (λ (s : Setup). early_refusal s c.args.caller c.args.command.now) (sym c.setup-setup.ensures) ∙ sym c.refuse_early.ensures ∙ c.in-Some.is))
