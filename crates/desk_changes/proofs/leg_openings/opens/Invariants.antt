use Rattle.std.proofs.Common.{◌≡◌, drop}
use Rattle.laws_of_joint_commands.specs.PeriodRooms.{hour_room}
use Rattle.desk_changes.specs.LegOpenings.{opens}
use Rattle.desk_changes.proofs.leg_openings.opens.Given as goal

-- the opposite arcs so far have room
abbrev pub invariant-loop-arc : goal.invariant-loop-arc
invariant-loop-arc l =
    opens (hour_room l.hour.board.events l.hour.board.hour) l.route ≡ opens (hour_room l.hour.board.events l.hour.board.hour) (drop l.arc-index l.route)
