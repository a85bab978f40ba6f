use Rattle.std.proofs.Common.{◌≡◌, ◌*◌, ◌≤◌, All, length}
use Rattle.market_model.specs.History.{entered_count}
use Rattle.market_model.specs.Naming.{IsEntryIn}
use Rattle.plain_orders.specs.DaySums.{AreDaySums}
use Rattle.session_journal.proofs.Journals.{IsPlayed}
use Rattle.session_journal.proofs.Turns.{CountsTurns}
use Rattle.engine_comparison.proofs.journal.play.Given as goal

-- each caller has given as many commands as it has had turns, the journal is that of these, and the sums are of its events
abbrev pub invariant-loop-turn : goal.invariant-loop-turn
invariant-loop-turn l = record {
  matched : length l.given ≡ length l.commands;
  counted : CountsTurns l.given l.turns l.turn-index;
  played : IsPlayed l.setup l.commands l.turns l.turn-index l.entries l.history;
  few : entered_count l.history ≤ 8 * l.turn-index;
  named : All (IsEntryIn l.setup) l.entries;
  summed : AreDaySums l.history l.sums;
}
