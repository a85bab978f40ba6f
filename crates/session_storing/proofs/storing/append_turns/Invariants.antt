use Rattle.std.proofs.Common.{◌≡◌, ◌≤◌, ◌++◌, length, take}
use Rattle.disk_model.specs.Moments.{LeavesOnly}
use Rattle.durable_journal.specs.Appending.{most_stored}
use Rattle.durable_journal.specs.Resting.{HoldsLines, IsAtRest, IsImageOf}
use Rattle.durable_journal.specs.Stored.{image_of}
use Rattle.market_text.specs.declared.session.Session.{Session}
use Rattle.journal_audit.specs.Course.{callers_of}
use Rattle.stored_journal.specs.Lines.{StoresFront}
use Rattle.session_storing.specs.Playing.{IsPlaying, PlaysSession, lines_in_order, lines_played}
use Rattle.session_storing.proofs.storing.append_turns.Given as goal

-- the turns so far are played, and their lines stored
abbrev pub invariant-loop-turn : goal.invariant-loop-turn
invariant-loop-turn g l = record {
  plays : PlaysSession (g.P.Player.state l.player);
  played : (session : Session) → IsPlaying session (g.P.Player.state l.fn.player) → IsPlaying session (g.P.Player.state l.player);
  callers : callers_of (g.P.Player.state l.player).entries ≡ callers_of (g.P.Player.state l.fn.player).entries ++ take l.turn-index l.turns;
  rest : IsAtRest (g.D.Disk.size l.disk) (g.D.Disk.contents l.disk) l.end;
  stored : HoldsLines (g.D.Disk.contents l.fn.disk) (lines_played (g.P.Player.state l.fn.player)) l.fn.at → HoldsLines (g.D.Disk.contents l.disk) (lines_played (g.P.Player.state l.player)) l.end;
  image : HoldsLines (g.D.Disk.contents l.fn.disk) (lines_played (g.P.Player.state l.fn.player)) l.fn.at
      → IsImageOf (g.D.Disk.contents l.fn.disk) (lines_played (g.P.Player.state l.fn.player)) → IsImageOf (g.D.Disk.contents l.disk) (lines_played (g.P.Player.state l.player));
  fits : HoldsLines (g.D.Disk.contents l.fn.disk) (lines_played (g.P.Player.state l.fn.player)) l.fn.at
      → length (image_of (lines_played (g.P.Player.state l.fn.player))) ≤ most_stored → length (image_of (lines_played (g.P.Player.state l.player))) ≤ most_stored;
  any_moment : (session : Session) → IsPlaying session (g.P.Player.state l.fn.player)
      → HoldsLines (g.D.Disk.contents l.fn.disk) (lines_played (g.P.Player.state l.fn.player)) l.fn.at
      → LeavesOnly g.D.Disk.moment g.D.Disk.left_since l.fn.disk l.disk (StoresFront (lines_in_order session (callers_of (g.P.Player.state l.fn.player).entries ++ l.turns)));
  count : g.D.Disk.faults l.fn.disk ≤ g.D.Disk.faults l.disk;
}
