use Rattle.std.proofs.Common.{◌≡◌}
use Rattle.market_model.specs.History.{journal_events}
use Rattle.session_journal.proofs.Journals.{IsPlayed}
use Rattle.desk_market.proofs.Waits.{AreWaiting}
use Rattle.desk_market.proofs.playing.play.Given as goal

-- the journal is that of the turns so far, and what comes behind these waits
abbrev pub invariant-loop-turn : goal.invariant-loop-turn
invariant-loop-turn l = record {
  setup : l.market.setup ≡ l.fn.market.setup;
  played : IsPlayed l.fn.market.setup l.fn.waiting l.turns l.turn-index l.market.entries (journal_events l.market.entries);
  waits : AreWaiting l.fn.waiting l.turns l.turn-index l.waiting;
}
