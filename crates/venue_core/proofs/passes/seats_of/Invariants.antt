use Rattle.std.proofs.Common.{◌≡◌, ◌+◌, ◌≤◌, ◌++◌, length, map}
use Rattle.std.specs.Vec.{vec_capacity}
use Rattle.trader_pass.specs.Passes.{pass_of_seat}
use Rattle.venue_core.proofs.passes.seats_of.Given as goal

-- the seats of the passes so far, with room for the others
abbrev pub invariant-loop-pass : goal.invariant-loop-pass
invariant-loop-pass l = record {
  can : (goal.iterator-loop-pass).can_next l.pass-iterator;
  finite : (goal.iterator-loop-pass).is_finite l.pass-iterator;
  parts : l.yielded ++ l.pass-iterator.rest.items ≡ l.fn.passes;
  given : map pass_of_seat l.seats.items ≡ l.yielded;
  room : length l.seats.items + length l.pass-iterator.rest.items ≤ vec_capacity l.seats;
}
