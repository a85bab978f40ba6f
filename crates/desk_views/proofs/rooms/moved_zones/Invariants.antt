use Rattle.std.proofs.Common.{◌≡◌, ◌<◌, ℕ, [], get_or, length}
use Rattle.std.specs.List.{list_any, range_with_len}
use Rattle.cut_proof.specs.ZoneSet.{holds}
use Rattle.desk_views.specs.Moved.{moves_in}
use Rattle.desk_views.proofs.rooms.moved_zones.Given as goal

-- the zones of the borders so far
abbrev pub invariant-loop-border : goal.invariant-loop-border
invariant-loop-border l = record {
  many : length l.moved ≡ 7;
  are : (part zone : ℕ) → part < 7 → zone < 64
      → holds (get_or l.moved part 0) zone ≡ list_any (moves_in l.grid (get_or l.old part []) (get_or l.new part []) zone) (range_with_len 0 l.border);
}
