use Rattle.std.proofs.Common.{◌≡◌, ◌++◌, replicate}
use Rattle.market_text.proofs.reader.add_turns.Given as goal

-- the turns so far stand at the end
abbrev pub invariant-loop-turn : goal.invariant-loop-turn
invariant-loop-turn l = l.turns ≡ l.initial.turns ++ replicate l.turn l.caller
