use Rattle.std.proofs.Common.{◌≡◌, ◌++◌, map}
use Rattle.std.specs.Vec.Iter.{into_iter_items}
use Rattle.desk_market.proofs.waiting.Waiting.new.Given as goal

-- the commands of the callers so far wait
abbrev pub invariant-loop-own : goal.invariant-loop-own
invariant-loop-own l = record {
  can : (goal.iterator-loop-own).can_next l.own-iterator;
  finite : (goal.iterator-loop-own).is_finite l.own-iterator;
  parts : l.yielded ++ l.own-iterator.rest.items ≡ l.fn.commands;
  waits : map into_iter_items l.callers.items ≡ l.yielded;
}
