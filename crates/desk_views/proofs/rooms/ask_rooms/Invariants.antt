use Rattle.std.proofs.Common.{◌≡◌, ◌<◌, ◌≤◌, ℕ, [], get_or, length}
use Rattle.zone_graph.specs.declared.route.Arc.{Arc}
use Rattle.zone_graph.specs.Rooms.{room_of}
use Rattle.desk_views.specs.Insides.{IsRoomOf}
use Rattle.desk_views.proofs.rooms.ask_rooms.Given as goal

-- those over the borders so far are the rooms, and all others stay
abbrev pub invariant-loop-border : goal.invariant-loop-border
invariant-loop-border l = record {
  size : (part : ℕ) → length (get_or l.into part []) ≡ length (get_or l.fn.into part []);
  own : (part : ℕ) (arc : Arc) → part < 7 → arc.border < l.border → IsRoomOf l.hour.board part arc (room_of (get_or l.into part []) arc);
  others : (part : ℕ) (arc : Arc) → part < 7 → l.border ≤ arc.border → room_of (get_or l.into part []) arc ≡ room_of (get_or l.rooms part []) arc;
}
