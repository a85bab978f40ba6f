-- Lists of seats that are current in a legal journal, and the journal with one more entry.
use Rattle.std.proofs.Common.{◌≡◌, ◌≢◌, ◌∙◌, ℕ, ◌+◌, ◌<◌, ◌≤◌, cond, filter, ◌==◌, List, [], ◌∷◌, ◌++◌, length, map, eq-eqb, sym, ap, arith, subst}
use Rattle.std.proofs.lemmas.List.{length-append}
use Rattle.std.proofs.lemmas.List.Elements.{filter-append}
use Rattle.std.proofs.lemmas.List.Sums.{count_by-le-length, length-filter}
use Rattle.zone_graph.specs.Route.{IsIn}
use Rattle.market_model.specs.declared.entry.Entry.{Entry}
use Rattle.market_model.specs.declared.setup.Setup.{Setup}
use Rattle.market_model.specs.declared.who.Who.{Who}
use Rattle.market_model.specs.declared.who.Who.TheVariants as who
use Rattle.market_model.specs.Concerned.{IsCurrent, KeepsToItsHours, entries_by, left_for}
use Rattle.market_model.specs.History.{journal_events}
use Rattle.market_model.specs.Market.{IsLegal, reply_to, turn_of}
use Rattle.market_model.specs.Sweep.{all_parts}
use Rattle.market_model.specs.WellFormed.{IsMarketSetup}
use Rattle.market_model.proofs.Concerned.{current-callers, current-hours}
use Rattle.laws_of_market.proofs.Keeping.{run-keeping}
use Rattle.trade_journal.specs.Journals.{IsJournal, JournalState, MayFollow, made_by, room_of_caller}

-- a caller has no more of some entries than there are
pub mine-few : (caller : ℕ) (entries : List Entry) → length (entries_by caller entries) ≤ length entries
mine-few caller entries =
    let all = length-filter (λ (e : Entry). e.caller == caller) entries in
    let few = count_by-le-length (λ (e : Entry). e.caller == caller) entries in
    omega (arith, all, few)

pub current-length : (setup : Setup) (someone : Who) (entries journal : List Entry) → IsCurrent setup someone entries journal → length entries ≤ length journal
current-length setup someone entries journal current =
    let whole = ap length current.whole in
    let both = length-append entries current.later in
    omega (arith, whole, both)

module _ (setup : Setup) (is_setup : IsMarketSetup setup) (journal : List Entry) (legal : IsLegal setup journal) where
  journal-keeps : (entry : Entry) → IsIn entry journal → KeepsToItsHours setup entry
  journal-keeps entry there = run-keeping setup is_setup all_parts (map turn_of journal) entry (subst (IsIn entry) legal there)

  -- a list that is current for an hour leaves the hour the same events as the journal
  pub current-left : (hour : ℕ) (entries : List Entry) → IsCurrent setup (who.Hour hour) entries journal → left_for hour entries ≡ left_for hour journal
  current-left hour entries current = current-hours setup hour entries journal current journal-keeps

-- the entry of a caller who has seen a list that is current for it
module _ (journal : JournalState) (is : IsJournal journal) (caller : ℕ) (seen : List Entry) (current : IsCurrent journal.setup (who.Caller caller) seen journal.entries) (entry : Entry) (own : entry.caller ≡ caller) where
  pub same-mine : entries_by caller seen ≡ entries_by caller journal.entries
  same-mine = current-callers journal.setup caller seen journal.entries current

  -- it may go behind the others, where the caller has fewer entries of its own than its room, it has the next number,
  -- and its reply is the market's
  pub may-follow : entry.nth ≡ length (entries_by caller seen) + 1 → length (entries_by caller seen) ≢ room_of_caller journal.setup caller
      → entry.reply ≡ reply_to journal.setup (journal_events journal.entries) entry.caller entry.command → MayFollow journal entry
  may-follow next room reply =
      let count : length (entries_by caller seen) ≡ made_by journal.entries caller = ap length same-mine ∙ length-filter (λ (e : Entry). e.caller == caller) journal.entries in
      let within = is.within caller in
      let has_room : made_by journal.entries caller < room_of_caller journal.setup caller = omega (arith, count, within, room) in record {
        has_room = subst (λ (c : ℕ). made_by journal.entries c < room_of_caller journal.setup c) (sym own) has_room;
        next = next ∙ ap (λ n. n + 1) count ∙ ap (λ c. made_by journal.entries c + 1) (sym own);
        reply = reply;
      }

  -- and then the caller has it besides
  pub mine-more : entries_by caller (journal.entries ++ entry ∷ []) ≡ entries_by caller seen ++ entry ∷ []
  mine-more =
      filter-append (λ (e : Entry). e.caller == caller) journal.entries (entry ∷ [])
      ∙ ap (λ es. es ++ filter (λ (e : Entry). e.caller == caller) (entry ∷ [])) (sym same-mine)
      ∙ ap (λ b. entries_by caller seen ++ cond b (entry ∷ []) []) (eq-eqb entry.caller caller own)
