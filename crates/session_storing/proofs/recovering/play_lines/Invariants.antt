use Rattle.market_text.specs.declared.session.Session.{Session}
use Rattle.session_storing.specs.Playing.{IsPlaying, PlaysSession}
use Rattle.session_storing.proofs.Recovers.{HasPlayed}
use Rattle.session_storing.proofs.recovering.play_lines.Given as goal

-- the lines so far are right, and played
abbrev pub invariant-loop-index : goal.invariant-loop-index
invariant-loop-index g l = record {
  plays : PlaysSession (g.P.Player.state l.player);
  played : (session : Session) → IsPlaying session (g.P.Player.state l.fn.player) → HasPlayed session l.lines l.index (g.P.Player.state l.player);
}
