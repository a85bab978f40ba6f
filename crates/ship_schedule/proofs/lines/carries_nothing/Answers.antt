use Rattle.std.proofs.Common.{◌∙◌}
use Rattle.ship_schedule.proofs.LineTexts.{idle}
use Rattle.ship_schedule.proofs.lines.carries_nothing.Goals as goal

pub returns : goal.returns
returns c = c.is_even.ensures ∙ idle c.args.balance
