-- An entry of a journal is the reply to its command after the entries before it, which are a well-formed
-- history.
use Rattle.std.proofs.Common.{◌≡◌, ◌∙◌, List, [], ◌∷◌, ◌++◌, append_assoc, refl, sym, ap, subst}
use Rattle.std.proofs.lemmas.List.{append-nil}
use Rattle.market_model.specs.declared.entry.Entry.{Entry}
use Rattle.market_model.specs.declared.setup.Setup.{Setup}
use Rattle.market_model.specs.History.{journal_events}
use Rattle.market_model.specs.Market.{Turn, entry_of, reply_to, run_after, run_of}
use Rattle.market_model.specs.Sweep.{all_parts}
use Rattle.market_model.specs.WellFormed.{IsHistory, IsMarketSetup}
use Rattle.laws_of_market.proofs.Journals.{journal_events-more, run-history}
use Rattle.laws_of_market.proofs.Replies.{reply-history}
use Rattle.laws_of_maximum.specs.Unfilled.{JournalsRefuseAsCertified, JournalsRefuseBasketsAsCertified}
use Rattle.laws_of_maximum.proofs.Certified.{basket_certified, unfilled_certified}

pub record IsEntryAfter (setup : Setup) (before : List Entry) (entry : Entry) : Type 0 where
  pub history : IsHistory setup (journal_events before)
  pub reply_is : entry.reply ≡ reply_to setup (journal_events before) entry.caller entry.command

module _ (setup : Setup) (is_setup : IsMarketSetup setup) where
  first-after : (prior : List Entry) (turn : Turn) → IsHistory setup (journal_events prior)
      → IsEntryAfter setup (prior ++ []) (entry_of all_parts setup prior turn)
  first-after prior turn history =
      subst (λ es. IsEntryAfter setup es (entry_of all_parts setup prior turn)) (sym (append-nil prior)) (record { history = history; reply_is = refl })

  after-prior : (turns : List Turn) (prior before after : List Entry) (entry : Entry) → IsHistory setup (journal_events prior)
      → run_after all_parts setup prior turns ≡ before ++ (entry ∷ after) → IsEntryAfter setup (prior ++ before) entry
  unfolding run_after
  after-prior [] prior [] after entry history e = cc
  after-prior [] prior (other ∷ before) after entry history e = cc
  after-prior (turn ∷ turns) prior [] after entry history e =
      let same : entry_of all_parts setup prior turn ≡ entry = cc in
      subst (IsEntryAfter setup (prior ++ [])) same (first-after prior turn history)
  after-prior (turn ∷ turns) prior (first ∷ before) after entry history e =
      let made : Entry = entry_of all_parts setup prior turn in
      let head : made ≡ first = cc in
      let rest : run_after all_parts setup (prior ++ made ∷ []) turns ≡ before ++ (entry ∷ after) = cc in
      let next = subst (IsHistory setup) (sym (journal_events-more prior made)) (reply-history setup is_setup all_parts (journal_events prior) turn.caller history turn.command) in
      subst (λ es. IsEntryAfter setup es entry) (append_assoc prior (made ∷ []) before ∙ ap (λ x. prior ++ (x ∷ before)) head)
      (after-prior turns (prior ++ made ∷ []) before after entry next rest)

  pub entry_after : (turns : List Turn) (before after : List Entry) (entry : Entry) → run_of setup turns ≡ before ++ (entry ∷ after) → IsEntryAfter setup before entry
  unfolding run_after
  entry_after turns before after entry is = after-prior turns [] before after entry (run-history setup is_setup all_parts []) is

pub journals_certified : JournalsRefuseAsCertified
journals_certified setup turns before after entry zones bound is_setup is refused =
    let at = entry_after setup is_setup turns before after entry is in
    unfilled_certified setup (journal_events before) entry.caller entry.command zones bound is_setup at.history (sym at.reply_is ∙ refused)

pub journals_certified_baskets : JournalsRefuseBasketsAsCertified
journals_certified_baskets setup turns before after entry hour zones bound is_setup is refused =
    let at = entry_after setup is_setup turns before after entry is in
    basket_certified setup (journal_events before) entry.caller entry.command hour zones bound is_setup at.history (sym at.reply_is ∙ refused)
