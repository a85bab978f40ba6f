use Rattle.market_model.specs.Rules.{hours_named}
use Rattle.market_model.proofs.EarlyRules.{within_more}
use Rattle.market_model.proofs.touched_hours.touches.Goals as goal

pub hours_concerned-requires-clause-known : goal.hours_concerned-requires-clause-known
hours_concerned-requires-clause-known c =
    within_more c.args.setup.now.hours 32 (hours_named c.args.command.now) c.requires.hours c.in-None.ensures.hours
