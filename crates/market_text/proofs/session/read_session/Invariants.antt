use Rattle.std.proofs.Common.{◌≡◌, ◌+◌, ◌≤◌, length}
use Rattle.market_text.specs.Reading.{IsReading}
use Rattle.market_text.specs.Text.{lines_of, text_from, session_of_text}
use Rattle.market_text.proofs.session.read_session.Given as goal

-- the rest decides on the answer, and there were at most as many lines as bytes
abbrev pub invariant-loop-text : goal.invariant-loop-text
invariant-loop-text l = record {
  reading : IsReading l.reader;
  decided : text_from l.reader l.line (lines_of l.rest) ≡ session_of_text l.bytes;
  counted : l.line + length l.rest ≤ length l.bytes + 1;
}

-- each line is shorter than what was left before it
abbrev pub decreases-loop-text : goal.decreases-loop-text
decreases-loop-text l = length l.rest
