use Rattle.std.proofs.Common.{ap}
use Rattle.trade_journal.specs.Journals.{JournalState}
use Rattle.stored_journal.proofs.Results.{on-ok}
use Rattle.session_run.proofs.players.DeskPlayerPlayer.give_next.Goals as goal

-- the command is no longer waiting, and its entry is behind the others
pub returns : goal.returns
returns c = on-ok c.give.result _ _ (λ given. record {
  command = c.next-command.result;
  next = c.next-command.ensures.next;
  others = c.next-command.ensures.others;
  setup = ap (λ (j : JournalState). j.setup) given;
  entries = ap (λ (j : JournalState). j.entries) given;
}) c.give.ensures.given
