use Rattle.std.proofs.Common.{◌≡◌, drop, map, take}
use Rattle.kept_hour.specs.Planned.{after_events}
use Rattle.desk_changes.specs.StillOpen.{CanEnd, withdrawal}
use Rattle.desk_changes.proofs.closing.withdraw_all.Given as goal

-- the first of them are withdrawn, and the others can be
abbrev pub invariant-loop-item : goal.invariant-loop-item
invariant-loop-item l = record {
  is : l.hour ≡ after_events l.fn.hour (map (withdrawal l.fn.hour.board.hour) (take l.item-index l.items));
  can : CanEnd l.hour.board (drop l.item-index l.items);
}
