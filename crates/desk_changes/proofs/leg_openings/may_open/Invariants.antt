use Rattle.std.proofs.Common.{◌≡◌, drop}
use Rattle.laws_of_joint_commands.specs.PeriodRooms.{hour_room}
use Rattle.desk_changes.specs.LegOpenings.{may_open}
use Rattle.desk_changes.proofs.leg_openings.may_open.Given as goal

-- none of the legs so far opens an arc
abbrev pub invariant-loop-leg : goal.invariant-loop-leg
invariant-loop-leg l =
    may_open (hour_room l.hour.board.events l.hour.board.hour) l.legs ≡ may_open (hour_room l.hour.board.events l.hour.board.hour) (drop l.leg-index l.legs)
