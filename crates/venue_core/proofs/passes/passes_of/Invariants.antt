use Rattle.std.proofs.Common.{◌≡◌, ◌++◌, map}
use Rattle.trader_pass.specs.Passes.{pass_of_seat}
use Rattle.venue_core.proofs.passes.passes_of.Given as goal

-- a pass of each seat so far
abbrev pub invariant-loop-seat : goal.invariant-loop-seat
invariant-loop-seat l = record {
  can : (goal.iterator-loop-seat).can_next l.seat-iterator;
  finite : (goal.iterator-loop-seat).is_finite l.seat-iterator;
  parts : l.yielded ++ l.seat-iterator.rest.items ≡ l.fn.seats;
  made : l.passes ≡ map pass_of_seat l.yielded;
}
