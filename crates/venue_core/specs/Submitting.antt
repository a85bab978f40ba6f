-- What a command that is submitted does to its caller's pass, and why it may fail.
use Rattle.std.specs.Prelude.{◌≡◌, ◌≢◌, ◌+◌, List, [], ◌∷◌, ◌++◌, length}
use Rattle.market_model.specs.declared.command.Command.{Command}
use Rattle.market_model.specs.declared.entry.Entry.{Entry}
use Rattle.market_model.specs.declared.reply.Reply.{Reply}
use Rattle.market_model.specs.Concerned.{entries_by}
use Rattle.market_model.specs.History.{journal_events}
use Rattle.market_model.specs.Market.{reply_to}
use Rattle.trade_journal.specs.Journals.{IsJournal, room_of_caller}
use Rattle.trader_pass.specs.Passes.{PassState}
use Rattle.venue_core.specs.declared.faults.SubmitFault.{SubmitFault}
use Rattle.venue_core.specs.declared.faults.SubmitFault.TheVariants as fault
use Rattle.venue_core.specs.declared.venue.Receipt.{Receipt}

-- the entry of a command and its reply: the next one of the pass's caller
abbrev pub entry_of_pass : PassState → Command → Reply → Entry
entry_of_pass pass given reply = record { caller = pass.caller; nth = length pass.mine + 1; command = given; reply = reply }

-- the pass once it has seen a list of entries
abbrev pub having_seen : PassState → List Entry → PassState
having_seen pass entries = record {
  front = pass.front;
  setup = pass.setup;
  caller = pass.caller;
  seen = entries;
  mine = entries_by pass.caller entries;
  known = pass.known;
}

-- a command got its receipt: entries of other callers came since the pass looked last, and then the command's; the
-- pass has seen them all, and its own grew by that one alone; they are a legal journal, and the reply is the
-- market's at that place
pub record IsSubmitted (given : Command) (receipt : Receipt) (old new : PassState) : Type 0 where
  pub others : List Entry
  pub pass : new ≡ having_seen old ((old.seen ++ others) ++ entry_of_pass old given receipt.reply ∷ [])
  pub mine : new.mine ≡ old.mine ++ entry_of_pass old given receipt.reply ∷ []
  pub last : receipt.place ≡ length new.seen
  pub legal : IsJournal (record { setup = old.setup; entries = new.seen })
  pub market : receipt.reply ≡ reply_to old.setup (journal_events (old.seen ++ others)) old.caller given
  pub had_room : length old.mine ≢ room_of_caller old.setup old.caller

-- the cause of a fault: the pass has as many entries of its own as its caller may have, and the fault tells how
-- many; of want of memory nothing is said
abbrev pub IsCause : PassState → SubmitFault → Type 0
IsCause pass (fault.JournalFull entries) = (entries ≡ length pass.mine) × (length pass.mine ≡ room_of_caller pass.setup pass.caller)
IsCause pass fault.NoMemory = Unit {0}
