use Rattle.std.proofs.Common.{◌≡◌, ◌<◌, ℕ, [], get_or, length}
use Rattle.desk_views.proofs.rooms.copy_rooms.Given as goal

-- the rows so far are the others
abbrev pub invariant-loop-part : goal.invariant-loop-part
invariant-loop-part l = record {
  size : (part : ℕ) → length (get_or l.into part []) ≡ length (get_or l.fn.into part []);
  same : (part : ℕ) → part < l.part → get_or l.into part [] ≡ get_or l.rooms part [];
}
