-- The entries of a journal keep to the hours that their commands touch.
use Rattle.std.proofs.Common.{◌≡◌, ◌∙◌, inl, inr, Bool, true, false, cond, List, [], ◌∷◌, ◌++◌, filter, refl, sym, subst}
use Rattle.std.proofs.lemmas.Bool.{true≢false}
use Rattle.order_kinds.specs.declared.contract.Part.{Part}
use Rattle.zone_graph.specs.Route.{IsIn}
use Rattle.zone_graph.proofs.Membership.{has-IsIn}
use Rattle.market_model.specs.declared.entry.Entry.{Entry}
use Rattle.market_model.specs.declared.setup.Setup.{Setup}
use Rattle.market_model.specs.Concerned.{KeepsToItsHours}
use Rattle.market_model.specs.History.{events_of, journal_events, touches}
use Rattle.market_model.specs.Market.{Turn, entry_of, run_after, run_by}
use Rattle.market_model.specs.Rules.{touched_hours}
use Rattle.market_model.specs.WellFormed.{IsHistory, IsMarketSetup}
use Rattle.laws_of_market.proofs.Journals.{journal_events-more, run-history}
use Rattle.laws_of_market.proofs.Replies.{reply-history}
use Rattle.laws_of_market.proofs.NamedByHour.{history-named}
use Rattle.laws_of_market.proofs.WithinHours.{reply-within}

-- a filter that no item passes keeps nothing
filter-nothing : {X : Type 0} (p : X → Bool) (xs : List X) → ((x : X) → IsIn x xs → p x ≡ true → ⊥) → filter p xs ≡ []
filter-nothing p [] none = refl
filter-nothing p (x ∷ xs) none = elim (p x) as (λ b. p x ≡ b → cond b (x ∷ filter p xs) (filter p xs) ≡ []) [
  | true ↦ λ passes. absurd (none x (inl refl) passes)
  | false ↦ λ fails. filter-nothing p xs (λ y there. none y (inr there))
] refl

module _ (setup : Setup) (is_setup : IsMarketSetup setup) (parts : List Part) where
  entry-keeps : (before : List Entry) (turn : Turn) → IsHistory setup (journal_events before) → KeepsToItsHours setup (entry_of parts setup before turn)
  entry-keeps before turn history hour other =
      let entry : Entry = entry_of parts setup before turn in
      filter-nothing (touches hour) (events_of entry.reply) (λ event there touched.
      true≢false (sym (has-IsIn hour (touched_hours setup turn.caller turn.command)
      (reply-within parts setup (journal_events before) turn.caller turn.command (history-named setup (journal_events before) history.fit) event there hour touched)) ∙ other))

  -- the entries after a well-formed history
  run_after-keeping : (turns : List Turn) (before : List Entry) → IsHistory setup (journal_events before)
      → (entry : Entry) → IsIn entry (run_after parts setup before turns) → KeepsToItsHours setup entry
  unfolding run_after
  run_after-keeping [] before history entry there = absurd there
  run_after-keeping (turn ∷ turns) before history entry there =
      let own : Entry = entry_of parts setup before turn in
      let next = subst (IsHistory setup) (sym (journal_events-more before own)) (reply-history setup is_setup parts (journal_events before) turn.caller history turn.command) in
      elim there [
        | inl here ↦ subst (KeepsToItsHours setup) (sym here) (entry-keeps before turn history)
        | inr later ↦ run_after-keeping turns (before ++ own ∷ []) next entry later
      ]

  -- the entries of a journal
  pub run-keeping : (turns : List Turn) (entry : Entry) → IsIn entry (run_by parts setup turns) → KeepsToItsHours setup entry
  unfolding run_after
  run-keeping turns entry there = run_after-keeping turns [] (run-history setup is_setup parts []) entry there
