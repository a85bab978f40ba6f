use Rattle.std.proofs.Common.{◌≡◌, take}
use Rattle.std.specs.List.{sum_by}
use Rattle.load_maker.specs.Summary.{lots_of, capped}
use Rattle.load_maker.proofs.totals.lots_in.Given as goal

abbrev pub invariant-loop-event : goal.invariant-loop-event
invariant-loop-event l = l.lots ≡ capped (sum_by lots_of (take l.event-index l.events))
