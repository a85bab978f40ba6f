use Rattle.std.proofs.Common.{◌∙◌, true, false, sym}
use Rattle.market_model.proofs.EarlyRules.{basket_decides, zone_refused}
use Rattle.market_model.proofs.early_rules.refuse_naming.Goals as goal

pub returns-then-not-zones_are_known-clause-refusal : goal.returns-then-not-zones_are_known-clause-refusal
returns-then-not-zones_are_known-clause-refusal c =
    zone_refused c.args.grid.now c.args.setup.now c.args.caller c.args.command.now c.requires.grid
    (sym c.has_right.ensures ∙ c.if-not-has_right.false)
    (sym c.hours_are_known.ensures ∙ c.if-not-hours_are_known.false)
    (sym c.parts_are_known.ensures ∙ c.if-not-parts_are_known.false)
    (sym c.zones_are_known.ensures ∙ c.if-not-zones_are_known.true)

pub returns-then-not-basket_is_good-clause-refusal : goal.returns-then-not-basket_is_good-clause-refusal
returns-then-not-basket_is_good-clause-refusal c =
    basket_decides c.args.grid.now c.args.setup.now c.args.caller c.args.command.now c.requires.grid
    (sym c.has_right.ensures ∙ c.if-not-has_right.false)
    (sym c.hours_are_known.ensures ∙ c.if-not-hours_are_known.false)
    (sym c.parts_are_known.ensures ∙ c.if-not-parts_are_known.false)
    (sym c.zones_are_known.ensures ∙ c.if-not-zones_are_known.false)
    (sym c.border_is_known.ensures ∙ c.if-not-border_is_known.false)
    (sym c.period_is_good.ensures ∙ c.if-not-period_is_good.false)
    false (sym c.basket_is_good.ensures ∙ c.if-not-basket_is_good.true)

pub returns-else-not-basket_is_good-clause-refusal : goal.returns-else-not-basket_is_good-clause-refusal
returns-else-not-basket_is_good-clause-refusal c =
    basket_decides c.args.grid.now c.args.setup.now c.args.caller c.args.command.now c.requires.grid
    (sym c.has_right.ensures ∙ c.if-not-has_right.false)
    (sym c.hours_are_known.ensures ∙ c.if-not-hours_are_known.false)
    (sym c.parts_are_known.ensures ∙ c.if-not-parts_are_known.false)
    (sym c.zones_are_known.ensures ∙ c.if-not-zones_are_known.false)
    (sym c.border_is_known.ensures ∙ c.if-not-border_is_known.false)
    (sym c.period_is_good.ensures ∙ c.if-not-period_is_good.false)
    true (sym c.basket_is_good.ensures ∙ c.if-not-basket_is_good.false)
