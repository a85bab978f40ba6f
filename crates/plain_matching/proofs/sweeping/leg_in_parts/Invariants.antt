use Rattle.std.proofs.Common.{◌≡◌, IfSome, drop, length, true}
use Rattle.std.specs.List.{list_all}
use Rattle.order_kinds.specs.Contract.{is_known}
use Rattle.plain_capacity.specs.Sums.{AreCapacitySums}
use Rattle.plain_matching.specs.Over.{leg_in_parts}
use Rattle.plain_matching.specs.Summed.{StaysOrIsAfter}
use Rattle.plain_matching.proofs.sweeping.leg_in_parts.Given as goal

-- the parts so far have no leg, and where the capacity of the hour is summed up it is that of the first events
abbrev pub invariant-loop-part : goal.invariant-loop-part
invariant-loop-part l = record {
  onward : leg_in_parts l.grid l.events l.hour (drop l.part-index l.parts) ≡ leg_in_parts l.grid l.events l.hour l.parts;
  known : list_all is_known (drop l.part-index l.parts) ≡ true;
  summed : IfSome l.capacity (AreCapacitySums l.grid l.events l.hour);
  kept : StaysOrIsAfter (Unit {0}) (length l.events) l.initial.capacity l.capacity;
}
