use Rattle.std.proofs.Common.{◌≡◌, ◌++◌, drop, length, take}
use Rattle.session_journal.proofs.Turns.{CountsTurns}
use Rattle.journal_audit.specs.Course.{callers_of}
use Rattle.session_storing.specs.Recovering.{left_behind, turns_left}
use Rattle.session_storing.proofs.left.turns_left.Given as goal

-- the turns so far are past, and those of them that are left were found
abbrev pub invariant-loop-turn : goal.invariant-loop-turn
invariant-loop-turn l = record {
  size : length l.past ≡ l.fn.callers;
  counted : CountsTurns l.past l.turns l.turn-index;
  so_far : l.left.items ++ left_behind (take l.turn-index l.turns) (callers_of l.fn.entries) (drop l.turn-index l.turns) ≡ turns_left (callers_of l.fn.entries) l.turns;
}
