use Rattle.std.proofs.Common.{◌∙◌, nat_lt, not, ap}
use Rattle.laws_of_joint_commands.specs.PeriodRooms.{hour_room}
use Rattle.desk_changes.proofs.leg_openings.is_shut_back.Goals as goal

pub returns : goal.returns
returns c =
    ap not (c.has_room.ensures ∙ ap (λ a. nat_lt 0 (hour_room c.args.hour.now.board.events c.args.hour.now.board.hour a)) c.opposite.ensures)
