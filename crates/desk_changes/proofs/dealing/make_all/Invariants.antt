use Rattle.std.proofs.Common.{◌≡◌, drop, false, take}
use Rattle.laws_of_joint_commands.specs.MatchingBlocks.{legs_of}
use Rattle.kept_hour.specs.Planned.{CanFollow, after_events}
use Rattle.desk_changes.specs.Quiet.{HasNoLeg}
use Rattle.desk_changes.specs.Plans.{CloseInTurn}
use Rattle.desk_changes.proofs.dealing.make_all.Given as goal

-- the first of them are made, and the others can follow
abbrev pub invariant-loop-deal : goal.invariant-loop-deal
invariant-loop-deal l = record {
  made : l.hour ≡ after_events l.fn.hour (legs_of l.first l.last (take l.deal-index l.deals));
  next : CanFollow l.hour (legs_of l.first l.last (drop l.deal-index l.deals));
  whole : l.hour.board.hour ≡ l.first → CloseInTurn l.first l.last l.hour.board.events (drop l.deal-index l.deals);
  quiet : l.opened ≡ false → HasNoLeg l.hour.board.grid l.hour.board.hour l.hour.board.events;
}
