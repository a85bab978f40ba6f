use Rattle.std.proofs.Common.{◌≡◌, ◌<◌, ℕ, Bool, true, false, cond, arith}
use Rattle.zone_graph.specs.Pour.{same_arc}
use Rattle.zone_graph.specs.Rooms.{room_of}
use Rattle.tests_of_shared_grids.proofs.rooms.give.Goals as goal

picked : (b : Bool) (x y n : ℕ) → n ≡ cond b x y → x < 256 → y < 256 → n < 256
picked true x y n e first second = omega (arith, e, first)
picked false x y n e first second = omega (arith, e, second)

pub returns-clause-small : goal.returns-clause-small
returns-clause-small c = λ other.
    picked (same_arc c.args.arc other) c.args.room (room_of c.args.rooms.now other) (room_of c.set.new.self other) (c.set.ensures.rooms other) c.requires.room (c.requires.small other)
