-- Lists that are current for someone in a journal.
use Rattle.std.proofs.Common.{◌≡◌, ◌∙◌, inl, inr, ℕ, Bool, true, false, cond, List, [], ◌∷◌, ◌++◌, filter, append_assoc, refl, sym, ap, subst}
use Rattle.std.proofs.lemmas.List.{append-nil}
use Rattle.std.proofs.lemmas.List.Concat.{flat_map-append}
use Rattle.std.proofs.lemmas.List.Elements.{filter-append}
use Rattle.zone_graph.specs.Route.{IsIn}
use Rattle.zone_graph.proofs.Membership.{IsIn-right}
use Rattle.market_model.specs.declared.entry.Entry.{Entry}
use Rattle.market_model.specs.declared.event.Event.{Event}
use Rattle.market_model.specs.declared.setup.Setup.{Setup}
use Rattle.market_model.specs.declared.who.Who.{Who}
use Rattle.market_model.specs.declared.who.Who.TheVariants as who
use Rattle.market_model.specs.Concerned.{concerns, entries_for, left_for, CurrentForCallers, CurrentForHours, IsCurrent, KeepsToItsHours}
use Rattle.market_model.specs.History.{events_of, journal_events, of_hour, touches}

-- a list from which a filter keeps nothing
filter-none : {X : Type 0} (p : X → Bool) (x : X) (xs : List X) → filter p (x ∷ xs) ≡ [] → (p x ≡ false) × (filter p xs ≡ [])
filter-none p x xs none =
    elim (p x) as (λ b. cond b (x ∷ filter p xs) (filter p xs) ≡ [] → (b ≡ false) × (filter p xs ≡ [])) [ true ↦ λ some. cc | false ↦ λ rest. (refl, rest) ] none

-- a list has all entries of the journal that concern whom it is current for
pub current-entries : (setup : Setup) (someone : Who) (entries journal : List Entry) → IsCurrent setup someone entries journal
    → entries_for setup someone entries ≡ entries_for setup someone journal
current-entries setup someone entries journal current =
    let own : List Entry = entries_for setup someone entries in
    sym (ap (entries_for setup someone) current.whole ∙ filter-append (concerns setup someone) entries current.later
    ∙ ap (λ later. own ++ later) current.quiet ∙ append-nil own)

pub current-callers : CurrentForCallers
current-callers setup caller entries journal current = current-entries setup (who.Caller caller) entries journal current

-- what is left for an hour by two lists, one after the other
left_for-append : (hour : ℕ) (entries later : List Entry) → left_for hour (entries ++ later) ≡ left_for hour entries ++ left_for hour later
left_for-append hour entries later =
    ap (of_hour hour) (flat_map-append (λ (entry : Entry). events_of entry.reply) entries later)
    ∙ filter-append (touches hour) (journal_events entries) (journal_events later)

-- entries that keep to their hours and do not concern an hour leave it no event
none_left : (setup : Setup) (hour : ℕ) (later : List Entry) → entries_for setup (who.Hour hour) later ≡ []
    → ((entry : Entry) → IsIn entry later → KeepsToItsHours setup entry) → left_for hour later ≡ []
none_left setup hour [] quiet keep = refl
none_left setup hour (entry ∷ later) quiet keep =
    let none = filter-none (concerns setup (who.Hour hour)) entry later quiet in
    filter-append (touches hour) (events_of entry.reply) (journal_events later)
    ∙ ap (λ events. events ++ left_for hour later) (keep entry (inl refl) hour none.0)
    ∙ none_left setup hour later none.1 (λ other there. keep other (inr there))

pub current-hours : CurrentForHours
current-hours setup hour entries journal current keep =
    let own : List Event = left_for hour entries in
    let kept : (entry : Entry) → IsIn entry current.later → KeepsToItsHours setup entry =
    λ entry there. keep entry (subst (IsIn entry) (sym current.whole) (IsIn-right entry entries current.later there)) in
    sym (ap (left_for hour) current.whole ∙ left_for-append hour entries current.later
    ∙ ap (λ later. own ++ later) (none_left setup hour current.later current.quiet kept) ∙ append-nil own)

-- a list stays current where the journal grows by an entry that does not concern them
pub current-grows : (setup : Setup) (someone : Who) (entries journal : List Entry) (entry : Entry) → IsCurrent setup someone entries journal
    → concerns setup someone entry ≡ false → IsCurrent setup someone entries (journal ++ entry ∷ [])
current-grows setup someone entries journal entry current other = record {
  later = current.later ++ entry ∷ [];
  whole = ap (λ whole. whole ++ entry ∷ []) current.whole ∙ append_assoc entries current.later (entry ∷ []);
  quiet =
      filter-append (concerns setup someone) current.later (entry ∷ [])
      ∙ ap (λ quiet. quiet ++ filter (concerns setup someone) (entry ∷ [])) current.quiet
      ∙ ap (λ b. cond b (entry ∷ []) []) other;
}

-- a journal is current for everyone in itself
pub current-self : (setup : Setup) (someone : Who) (journal : List Entry) → IsCurrent setup someone journal journal
current-self setup someone journal = record { later = []; whole = sym (append-nil journal); quiet = refl }
