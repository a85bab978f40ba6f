-- A journal with one more entry is one.
use Rattle.std.proofs.Common.{◌≡◌, ◌∙◌, inl, inr, ℕ, ◌+◌, ◌<◌, ◌≤◌, Bool, true, false, cond, List, [], ◌∷◌, ◌++◌, length, map, nat_eq, eqb-true, eq-eqb, refl, sym, ap, subst, arith}
use Rattle.std.proofs.lemmas.Bool.{true≢false}
use Rattle.std.proofs.lemmas.List.{length-append, map-append}
use Rattle.std.proofs.lemmas.List.Sums.{sum_by-append}
use Rattle.zone_graph.specs.Route.{IsIn}
use Rattle.zone_graph.proofs.Membership.{IsIn-append}
use Rattle.market_model.specs.declared.entry.Entry.{Entry}
use Rattle.market_model.specs.declared.setup.Setup.{Setup}
use Rattle.market_model.specs.Market.{IsLegal, Turn, entry_of, run_after, run_of, turn_of}
use Rattle.market_model.specs.Sweep.{all_parts}
use Rattle.laws_of_market.proofs.Journals.{run_after-more}
use Rattle.trade_journal.specs.Inside.{IsInside}
use Rattle.trade_journal.specs.Journals.{IsJournal, JournalState, MayFollow, all_rooms, made_by, room_of_caller, with_entry}
use Rattle.trade_journal.proofs.Rooms.{entries-fit, made_by-more, one-other, one-own, one_if, room-there}

module _ (journal : JournalState) (is : IsJournal journal) (entry : Entry) (may : MayFollow journal entry) where
  abbrev turns : List Turn
  turns = map turn_of journal.entries

  its_caller : entry.caller < length journal.setup.callers
  its_caller = let room = may.has_room in room-there journal.setup entry.caller (omega (arith, room))

  entry-is : entry_of all_parts journal.setup journal.entries (turn_of entry) ≡ entry
  entry-is = λ i. record {
    caller = entry.caller;
    nth = sym may.next i;
    command = entry.command;
    reply = sym may.reply i;
  }

  legal : IsLegal journal.setup (journal.entries ++ entry ∷ [])
  legal =
      ap (λ es. es ++ entry ∷ []) is.legal
      ∙ ap (λ e. run_of journal.setup turns ++ e ∷ []) (sym entry-is ∙ ap (λ es. entry_of all_parts journal.setup es (turn_of entry)) is.legal)
      ∙ sym (run_after-more all_parts journal.setup [] turns (turn_of entry))
      ∙ ap (run_of journal.setup) (sym (map-append turn_of journal.entries (entry ∷ [])))

  callers : (other : Entry) → IsIn other (journal.entries ++ entry ∷ []) → other.caller < length journal.setup.callers
  callers other i = elim (IsIn-append other journal.entries (entry ∷ []) i) [
    | inl j ↦ is.callers other j
    | inr j ↦ elim j [ inl same ↦ subst (λ (e : Entry). e.caller < length journal.setup.callers) (sym same) its_caller | inr none ↦ absurd none ]
  ]

  made-more : (caller : ℕ) → made_by (journal.entries ++ entry ∷ []) caller ≡ made_by journal.entries caller + one_if entry caller
  made-more caller =
      let both = sum_by-append (λ (e : Entry). cond (nat_eq e.caller caller) 1 0) journal.entries (entry ∷ []) in
      let one = made_by-more entry [] caller in
      omega (arith, both, one)

  within : (caller : ℕ) → made_by (journal.entries ++ entry ∷ []) caller ≤ room_of_caller journal.setup caller
  within caller = go (nat_eq entry.caller caller) refl
    where
      before : made_by journal.entries caller ≤ room_of_caller journal.setup caller
      before = is.within caller

      more : made_by (journal.entries ++ entry ∷ []) caller ≡ made_by journal.entries caller + one_if entry caller
      more = made-more caller

      go : (t : Bool) → nat_eq entry.caller caller ≡ t → made_by (journal.entries ++ entry ∷ []) caller ≤ room_of_caller journal.setup caller
      go true e =
          let room : made_by journal.entries caller < room_of_caller journal.setup caller =
          subst (λ c. made_by journal.entries c < room_of_caller journal.setup c) (eqb-true entry.caller caller e) may.has_room in
          let one = one-own entry caller (eqb-true entry.caller caller e) in
          omega (arith, more, room, one)
      go false e =
          let none = one-other entry caller (λ same. true≢false (sym (eq-eqb entry.caller caller same) ∙ e)) in
          omega (arith, more, before, none)

  pub pushed : IsJournal (with_entry journal entry)
  pushed = record { legal = legal; callers = callers; within = within }

  -- and there was room for it
  pub has_place : length journal.entries < all_rooms journal.setup
  has_place =
      let fit = entries-fit journal.setup (journal.entries ++ entry ∷ []) callers within in
      let longer = length-append journal.entries (entry ∷ []) in
      omega (arith, fit, longer)

-- the journal without an entry is one
pub nothing : (setup : Setup) → IsJournal (record { setup = setup; entries = [] })
unfolding run_after
nothing setup = record { legal = refl; callers = λ entry none. absurd none; within = λ caller. omega arith }
