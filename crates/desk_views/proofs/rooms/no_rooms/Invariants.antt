use Rattle.std.proofs.Common.{◌≡◌, ◌<◌, ℕ, [], get_or, length}
use Rattle.desk_views.specs.Insides.{HasNoRoom}
use Rattle.desk_views.proofs.rooms.no_rooms.Given as goal

-- the rows so far have no room
abbrev pub invariant-loop : goal.invariant-loop
invariant-loop l = record {
  many : length l.made.items ≡ l.counter;
  each : (part : ℕ) → part < l.counter → HasNoRoom l.grid (get_or l.made.items part []);
}
