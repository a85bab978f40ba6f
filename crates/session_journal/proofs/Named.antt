-- Each entry of a journal names what the setup has.
use Rattle.std.proofs.Common.{◌≡◌, ℕ, ◌<◌, List, [], ◌∷◌, ◌++◌, All, length, map, sym, subst}
use Rattle.std.proofs.lemmas.List.Elements.{All-cons, All-head, All-nil, All-tail}
use Rattle.market_model.specs.declared.entry.Entry.{Entry}
use Rattle.market_model.specs.declared.setup.Setup.{Setup}
use Rattle.market_model.specs.History.{journal_events}
use Rattle.market_model.specs.Market.{Turn, entry_of, in_turn, run_after}
use Rattle.market_model.specs.Naming.{IsEntryIn, IsReplyIn}
use Rattle.market_model.specs.Sweep.{all_parts}
use Rattle.market_model.specs.WellFormed.{IsHistory, IsMarketSetup}
use Rattle.laws_of_market.proofs.Journals.{journal_events-more, run-history}
use Rattle.laws_of_market.proofs.Replies.{reply-history}
use Rattle.laws_of_market.proofs.ReplyNames.{reply-names}
use Rattle.session_journal.specs.Laws.{EntriesNameTheSetup}
use Rattle.session_journal.proofs.Once.{each-command-once}

module _ (setup : Setup) (is_setup : IsMarketSetup setup) where
  -- the replies do, whoever gives the commands
  replies-name : (before : List Entry) (turns : List Turn) → IsHistory setup (journal_events before)
      → All (λ (entry : Entry). IsReplyIn setup entry.reply) (run_after all_parts setup before turns)
  unfolding run_after
  replies-name before [] history = All-nil (λ (entry : Entry). IsReplyIn setup entry.reply)
  replies-name before (turn ∷ turns) history =
      let entry = entry_of all_parts setup before turn in
      All-cons (λ (e : Entry). IsReplyIn setup e.reply) entry (run_after all_parts setup (before ++ entry ∷ []) turns)
      (reply-names setup (journal_events before) turn.caller turn.command is_setup history)
      (replies-name (before ++ entry ∷ []) turns
      (subst (IsHistory setup) (sym (journal_events-more before entry)) (reply-history setup is_setup all_parts (journal_events before) turn.caller history turn.command)))

-- with callers of the setup the entries do
entries-name : (setup : Setup) (entries : List Entry) → All (λ caller. caller < length setup.callers) (map (λ (entry : Entry). entry.caller) entries)
    → All (λ (entry : Entry). IsReplyIn setup entry.reply) entries → All (IsEntryIn setup) entries
entries-name setup [] callers replies = All-nil (IsEntryIn setup)
entries-name setup (entry ∷ entries) callers replies =
    let known : ℕ → Type 0 = λ caller. caller < length setup.callers in
    let rest = map (λ (e : Entry). e.caller) entries in
    All-cons (IsEntryIn setup) entry entries
    (record { caller = All-head known entry.caller rest callers; reply = All-head (λ (e : Entry). IsReplyIn setup e.reply) entry entries replies })
    (entries-name setup entries (All-tail known entry.caller rest callers) (All-tail (λ (e : Entry). IsReplyIn setup e.reply) entry entries replies))

pub entries-name-the-setup : EntriesNameTheSetup
unfolding run_after
entries-name-the-setup session is is_setup =
    let turns = in_turn session.commands session.turns in
    let entries = run_after all_parts session.setup [] turns in
    entries-name session.setup entries
    (subst (λ callers. All (λ caller. caller < length session.setup.callers) callers) (sym (each-command-once session is).0) is.known)
    (replies-name session.setup is_setup [] turns (run-history session.setup is_setup all_parts []))
