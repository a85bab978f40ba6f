use Rattle.std.proofs.Common.{◌≡◌, ◌<◌, ◌≤◌, ◌||◌, ℕ, [], get_or}
use Rattle.cut_proof.specs.ZoneSet.{holds}
use Rattle.desk_views.specs.Moved.{moves_in}
use Rattle.desk_views.proofs.rooms.move_parts.Given as goal

-- the zones of the parts so far have those that the border joins
abbrev pub invariant-loop-part : goal.invariant-loop-part
invariant-loop-part l = record {
  own : (part zone : ℕ) → part < l.part → zone < 64
      → holds (get_or l.moved part 0) zone ≡ (holds (get_or l.fn.moved part 0) zone || moves_in l.grid (get_or l.old part []) (get_or l.new part []) zone l.border);
  others : (part : ℕ) → l.part ≤ part → get_or l.moved part 0 ≡ get_or l.fn.moved part 0;
}
