use Rattle.std.proofs.Common.{◌≡◌, ◌<◌, ℕ, [], get_or, length}
use Rattle.zone_graph.specs.declared.route.Arc.{Arc}
use Rattle.zone_graph.specs.Rooms.{room_of}
use Rattle.desk_views.specs.Insides.{AreSameBeside, IsRoomOf}
use Rattle.desk_views.proofs.rooms.ask_parts.Given as goal

-- the rows so far have the rooms over the border, and all other rooms stay
abbrev pub invariant-loop-part : goal.invariant-loop-part
invariant-loop-part l = record {
  size : (part : ℕ) → length (get_or l.into part []) ≡ length (get_or l.fn.into part []);
  own : (part : ℕ) (arc : Arc) → part < l.part → arc.border ≡ l.border → IsRoomOf l.hour.board part arc (room_of (get_or l.into part []) arc);
  others : AreSameBeside l.border l.fn.into l.into;
}
