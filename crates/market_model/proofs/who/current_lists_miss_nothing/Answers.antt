use Rattle.market_model.proofs.Concerned.{current-callers, current-hours}
use Rattle.market_model.proofs.who.current_lists_miss_nothing.Goals as goal

pub returns : goal.returns
returns c = record { callers = current-callers; hours = current-hours }
