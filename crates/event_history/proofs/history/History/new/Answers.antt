use Rattle.std.proofs.Common.{refl}
use Rattle.event_history.proofs.ByHour.{by_hour-nil}
use Rattle.event_history.proofs.history.History.new.Goals as goal

pub invariant_of-result : goal.invariant_of-result
invariant_of-result c = rw (c.new.ensures, c.in_ok-no_events.ensures, c.new-2.ensures) (by_hour-nil, refl)
