-- The history of every journal is well-formed.
use Rattle.std.proofs.Common.{◌≡◌, ◌∙◌, ℕ, List, [], ◌∷◌, ◌++◌, append_assoc, sym, ap, subst}
use Rattle.std.proofs.lemmas.List.{append-nil}
use Rattle.std.proofs.lemmas.List.Concat.{flat_map-append}
use Rattle.order_kinds.specs.declared.contract.Part.{Part}
use Rattle.market_model.specs.declared.command.Command.{Command}
use Rattle.market_model.specs.declared.entry.Entry.{Entry}
use Rattle.market_model.specs.declared.event.Event.{Event}
use Rattle.market_model.specs.declared.setup.Setup.{Setup}
use Rattle.market_model.specs.History.{events_of, journal_events}
use Rattle.market_model.specs.Market.{Turn, entry_of, reply_by, run_after, run_by}
use Rattle.market_model.specs.WellFormed.{IsHistory, IsMarketSetup}
use Rattle.laws_of_market.proofs.Replies.{reply-history}

-- one more entry puts its reply's events behind
pub journal_events-more : (before : List Entry) (entry : Entry) → journal_events (before ++ entry ∷ []) ≡ journal_events before ++ events_of entry.reply
journal_events-more before entry =
    flat_map-append (λ (e : Entry). events_of e.reply) before (entry ∷ []) ∙ ap (λ es. journal_events before ++ es) (append-nil (events_of entry.reply))

module _ (setup : Setup) (is_setup : IsMarketSetup setup) (parts : List Part) where
  -- every reply after a well-formed history keeps something of it
  abbrev pub RepliesKeep : (List Event → Type 0) → Type 0
  RepliesKeep P = (events : List Event) (caller : ℕ) (given : Command) → IsHistory setup events → P events
      → P (events ++ events_of (reply_by parts setup events caller given))

  run_after-keeps : (P : List Event → Type 0) → RepliesKeep P → (turns : List Turn) (before : List Entry) → IsHistory setup (journal_events before)
      → P (journal_events before) → P (journal_events (before ++ run_after parts setup before turns))
  unfolding run_after
  run_after-keeps P keep [] before history own = subst (λ es. P (journal_events es)) (sym (append-nil before)) own
  run_after-keeps P keep (turn ∷ turns) before history own =
      let entry : Entry = entry_of parts setup before turn in
      let more = sym (journal_events-more before entry) in
      let next = subst (IsHistory setup) more (reply-history setup is_setup parts (journal_events before) turn.caller history turn.command) in
      subst (λ es. P (journal_events es)) (append_assoc before (entry ∷ []) (run_after parts setup (before ++ entry ∷ []) turns))
      (run_after-keeps P keep turns (before ++ entry ∷ []) next (subst P more (keep (journal_events before) turn.caller turn.command history own)))

  nothing-history : IsHistory setup []
  nothing-history = record { fit = tt; whole = λ block h opened. absurd h }

  -- what replies keep, and what holds before any event, holds of the history of a journal
  pub run-keeps : (P : List Event → Type 0) → RepliesKeep P → P [] → (turns : List Turn) → P (journal_events (run_by parts setup turns))
  run-keeps P keep own turns = run_after-keeps P keep turns [] nothing-history own

  -- the history of a journal is well-formed
  pub run-history : (turns : List Turn) → IsHistory setup (journal_events (run_by parts setup turns))
  run-history = run-keeps (IsHistory setup)
      (λ events caller given history own. reply-history setup is_setup parts events caller history given) nothing-history

-- one more turn, one more entry
pub run_after-more : (parts : List Part) (setup : Setup) (before : List Entry) (turns : List Turn) (turn : Turn)
    → run_after parts setup before (turns ++ turn ∷ [])
    ≡ run_after parts setup before turns ++ entry_of parts setup (before ++ run_after parts setup before turns) turn ∷ []
unfolding run_after
run_after-more parts setup before [] turn = ap (λ es. entry_of parts setup es turn ∷ []) (sym (append-nil before))
run_after-more parts setup before (first ∷ turns) turn =
    let entry : Entry = entry_of parts setup before first in
    let rest : List Entry = run_after parts setup (before ++ entry ∷ []) turns in
    ap (λ es. entry ∷ es) (run_after-more parts setup (before ++ entry ∷ []) turns turn)
    ∙ ap (λ es. entry ∷ (rest ++ entry_of parts setup es turn ∷ [])) (append_assoc before (entry ∷ []) rest)
