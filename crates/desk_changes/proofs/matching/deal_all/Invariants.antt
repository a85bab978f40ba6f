use Rattle.std.proofs.Common.{◌≡◌, false, length}
use Rattle.laws_of_books.specs.BlocksOf.{blocks_of}
use Rattle.laws_of_joint_commands.specs.MatchingBlocks.{legs_of}
use Rattle.kept_hour.specs.Planned.{after_events}
use Rattle.desk_changes.specs.Quiet.{HasNoLeg}
use Rattle.desk_changes.proofs.Periods.{FoundSoFar}
use Rattle.desk_changes.proofs.matching.deal_all.Given as goal

-- some deals were found and made, and the rooms are those behind them
abbrev pub invariant-loop-deals : goal.invariant-loop-deals
invariant-loop-deals l = record {
  made : l.hour ≡ after_events l.fn.hour (legs_of l.first l.last l.deals.items);
  so_far : FoundSoFar l.grid l.first l.last l.fn.hour.board.events l.fn.rooms l.deals.items l.rooms;
  size : length l.rooms ≡ length l.fn.rooms;
  quiet : l.opened ≡ false → HasNoLeg l.hour.board.grid l.hour.board.hour l.hour.board.events;
}

-- each deal leaves fewer blocks
abbrev pub decreases-loop-deals : goal.decreases-loop-deals
decreases-loop-deals l = length (blocks_of l.hour.board.events l.hour.board.hour)
