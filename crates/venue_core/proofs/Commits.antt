-- An entry goes behind the others, with the desks on which its reply is planned and the seat of its caller's pass.
use Rattle.std.proofs.Common.{◌≡◌, ◌≢◌, ◌∙◌, ℕ, ◌+◌, List, [], ◌∷◌, ◌++◌, length, map, refl, sym, ap, subst}
use Rattle.zone_graph.specs.Route.{IsIn}
use Rattle.market_model.specs.declared.entry.Entry.{Entry}
use Rattle.market_model.specs.declared.setup.Setup.{Setup}
use Rattle.market_model.specs.declared.who.Who.TheVariants as who
use Rattle.market_model.specs.Concerned.{IsCurrent, entries_by}
use Rattle.market_model.specs.History.{events_of, journal_events}
use Rattle.market_model.specs.Market.{IsLegal, reply_to}
use Rattle.desk_locks.specs.Desk.{DeskState, carried}
use Rattle.journal_front.specs.Fronts.{DeskSeatState, FrontState, IsDeskOf, IsPassOf, JournalSeatState, PassSeatState, touched_in_order, with_entries}
use Rattle.journal_front.specs.Seats as seats
use Rattle.desk_locks.specs.Rows.{planning_all}
use Rattle.trade_journal.specs.Journals.{IsJournal, JournalState, MayFollow, room_of_caller, with_entry}
use Rattle.trader_pass.specs.Passes.{IsOf, PassState, pass_of_seat}
use Rattle.desk_locks.specs.Held.{AllInPlace, HeldState, IsAllInPlace, without_desks, without_seats}
use Rattle.desk_locks.specs.Places.{Place, place_at}
use Rattle.venue_core.specs.Planning.{IsPlannedFor, hours_asked}
use Rattle.venue_core.specs.Setups.{IsOpenSetup}
use Rattle.venue_core.specs.Shared.{IsShared}
use Rattle.venue_core.specs.Submitting.{IsSubmitted, entry_of_pass, having_seen}
use Rattle.venue_core.proofs.InPlace.{after-journal, seats-hours, seats-own, settled-in-place}
use Rattle.venue_core.proofs.Journals.{may-follow, mine-more}

-- ---- the desks that plan the reply

module _ (front : FrontState) (entry : Entry) (held : HeldState) (planned : IsPlannedFor front entry.caller entry.command entry.reply held) where
  abbrev asked : List ℕ
  asked = hours_asked front.setup entry.caller entry.command

  were-in-place : AllInPlace (map (place_at front) asked) planned.before held.seats
  were-in-place = subst (λ (places : List Place). AllInPlace places planned.before held.seats) planned.places planned.were_in_place

  pub planned-seats : (seat : DeskSeatState) → IsIn seat held.seats → IsDeskOf front seat
  planned-seats = seats-own front asked planned.before held.seats were-in-place

  pub planned-hours : seats.hours_of held.seats ≡ touched_in_order front.setup entry
  planned-hours = seats-hours front asked planned.before held.seats were-in-place

-- ---- the pass

-- a pass has its seat's front
pub seat-of : (front : FrontState) (pass : PassState) (own : PassSeatState) → pass ≡ pass_of_seat own → IsOf front pass → IsPassOf front own
seat-of front pass own told is = record {
  same_front = ap (λ (p : PassState). p.front) (sym told) ∙ is.same_front;
  same_setup = ap (λ (p : PassState). p.setup) (sym told) ∙ is.same_setup;
}

-- ---- the commit

module _ (front : FrontState) (is_open : IsOpenSetup front.setup) (seat : JournalSeatState) (journal : JournalState)
    (shared : IsShared front seat journal) (is : IsJournal journal) (pass : PassState) (own : PassSeatState) (told : pass ≡ pass_of_seat own)
    (of_front : IsOf front pass) (entry : Entry) (its_caller : entry.caller ≡ pass.caller) (next : entry.nth ≡ length pass.mine + 1)
    (room : length pass.mine ≢ room_of_caller pass.setup pass.caller) (held : HeldState)
    (planned : IsPlannedFor front entry.caller entry.command entry.reply held)
    (pass_current : IsCurrent front.setup (who.Caller own.caller) own.entries seat.entries)
    (desks_current : (desk : DeskSeatState) → IsIn desk held.seats → IsCurrent front.setup (who.Hour desk.hour) desk.entries seat.entries) where
  legal : IsLegal front.setup journal.entries
  legal = subst (λ (s : Setup). IsLegal s journal.entries) shared.same_setup is.legal

  current : IsCurrent journal.setup (who.Caller pass.caller) pass.seen journal.entries
  current =
      subst (λ (p : PassState). IsCurrent journal.setup (who.Caller p.caller) p.seen journal.entries) (sym told)
      (subst (λ (s : Setup). IsCurrent s (who.Caller own.caller) own.entries journal.entries) (sym shared.same_setup)
      (subst (IsCurrent front.setup (who.Caller own.caller) own.entries) shared.same_entries pass_current))

  desks-now : (desk : DeskSeatState) → IsIn desk held.seats → IsCurrent front.setup (who.Hour desk.hour) desk.entries journal.entries
  desks-now desk there = subst (IsCurrent front.setup (who.Hour desk.hour) desk.entries) shared.same_entries (desks_current desk there)

  mine-is : pass.mine ≡ entries_by pass.caller pass.seen
  mine-is = subst (λ (p : PassState). p.mine ≡ entries_by p.caller p.seen) (sym told) refl

  hours : List ℕ
  hours = hours_asked front.setup entry.caller entry.command

  were : AllInPlace (map (place_at front) hours) planned.before held.seats
  unfolding hours
  were = subst (λ (places : List Place). AllInPlace places planned.before held.seats) planned.places planned.were_in_place

  places-are : held.places ≡ map (place_at front) hours
  unfolding hours
  places-are = planned.places

  -- the reply is the market's at the end of the journal
  reply-is : entry.reply ≡ reply_to front.setup (journal_events journal.entries) entry.caller entry.command
  reply-is = planned.fresh journal.entries (after-journal front hours planned.before held.seats were journal.entries legal is_open.is_setup desks-now)

  -- so the entry may go there
  pub follows : MayFollow journal entry
  follows =
      may-follow journal is pass.caller pass.seen current entry its_caller
      (next ∙ ap (λ (es : List Entry). length es + 1) mine-is)
      (λ same. room (ap length mine-is ∙ same ∙ ap (λ (s : Setup). room_of_caller s pass.caller) (shared.same_setup ∙ sym of_front.same_setup)))
      (reply-is ∙ ap (λ (s : Setup). reply_to s (journal_events journal.entries) entry.caller entry.command) (sym shared.same_setup))

  -- ---- and when it is there

  abbrev longer : List Entry
  longer = seat.entries ++ entry ∷ []

  module _ (after : JournalState) (grown : after ≡ with_entry journal entry) (still : IsJournal after) where
    entries-are : after.entries ≡ longer
    entries-are = ap (λ (j : JournalState). j.entries) grown ∙ ap (λ (es : List Entry). es ++ entry ∷ []) (sym shared.same_entries)

    setup-is : after.setup ≡ front.setup
    setup-is = ap (λ (j : JournalState). j.setup) grown ∙ shared.same_setup

    pub shared-after : (seat_after : JournalSeatState) → seat_after ≡ record { front = seat.front; setup = seat.setup; entries = longer } → IsShared front seat_after after
    shared-after seat_after same = record {
      own = record {
        same_front = ap (λ (s : JournalSeatState). s.front) same ∙ shared.own.same_front;
        same_setup = ap (λ (s : JournalSeatState). s.setup) same ∙ shared.own.same_setup;
      };
      same_setup = setup-is;
      same_entries = ap (λ (s : JournalSeatState). s.entries) same ∙ sym entries-are;
    }

    -- the desks are in their places again
    pub held-after : (committed new : HeldState) → committed.seats ≡ map (with_entries longer) held.seats → without_seats committed ≡ without_seats held
        → new.desks ≡ map carried committed.desks → without_desks new ≡ without_desks committed → IsAllInPlace new
    held-after committed new seats_are rest desks_are others =
        let now : AllInPlace (map (place_at front) hours) (map carried (planning_all planned.before (events_of entry.reply))) (map (with_entries longer) held.seats) =
        subst (λ (es : List Entry). AllInPlace (map (place_at front) hours) (map carried (planning_all planned.before (events_of entry.reply))) (map (with_entries (es ++ entry ∷ [])) held.seats))
        (sym shared.same_entries)
        (settled-in-place front journal.entries entry is_open.is_setup legal longer-journal hours planned.before held.seats were desks-now) in
        let places : new.places ≡ map (place_at front) hours =
        ap (λ (h : HeldState). h.places) others ∙ ap (λ (h : HeldState). h.places) rest ∙ places-are in
        let desks : new.desks ≡ map carried (planning_all planned.before (events_of entry.reply)) =
        desks_are ∙ ap (λ (h : HeldState). map carried h.desks) rest ∙ ap (map carried) planned.desks in
        let own_seats : new.seats ≡ map (with_entries longer) held.seats = ap (λ (h : HeldState). h.seats) others ∙ seats_are in
        subst (λ (ps : List Place). AllInPlace ps new.desks new.seats) (sym places)
        (subst (λ (ds : List DeskState). AllInPlace (map (place_at front) hours) ds new.seats) (sym desks)
        (subst (AllInPlace (map (place_at front) hours) (map carried (planning_all planned.before (events_of entry.reply)))) (sym own_seats) now))
      where
        after-is : after ≡ record { setup = front.setup; entries = journal.entries ++ entry ∷ [] }
        after-is = λ i. record { setup = setup-is i; entries = (grown i).entries }

        longer-journal : IsJournal (record { setup = front.setup; entries = journal.entries ++ entry ∷ [] })
        longer-journal = subst IsJournal after-is still

    -- and the pass has got its receipt
    pub submitted : (new : PassState) (own_after : PassSeatState) (place : ℕ) → new ≡ pass_of_seat own_after
        → own_after ≡ record { front = own.front; setup = own.setup; caller = own.caller; entries = longer; known = own.known }
        → place ≡ length after.entries → IsSubmitted entry.command (record { place = place; reply = entry.reply }) pass new
    submitted new own_after place new_told own_is last = record {
      others = current.later;
      pass = new-is ∙ ap (having_seen pass) all-seen;
      mine = ap (λ (p : PassState). p.mine) new-is ∙ ap (entries_by pass.caller) longer-is
          ∙ mine-more journal is pass.caller pass.seen current entry its_caller
          ∙ ap (λ (es : List Entry). es ++ entry ∷ []) (sym mine-is) ∙ ap (λ (e : Entry). pass.mine ++ e ∷ []) entry-is;
      last = last ∙ ap length (entries-are ∙ sym seen-is);
      legal = subst (λ (j : JournalState). IsJournal j) after-is still;
      market = reply-is ∙ ap (λ (s : Setup). reply_to s (journal_events journal.entries) entry.caller entry.command) (sym of_front.same_setup)
          ∙ ap (λ (es : List Entry). reply_to pass.setup (journal_events es) entry.caller entry.command) current.whole
          ∙ ap (λ (c : ℕ). reply_to pass.setup (journal_events (pass.seen ++ current.later)) c entry.command) its_caller;
      had_room = room;
    }
      where
        entry-is : entry ≡ entry_of_pass pass entry.command entry.reply
        entry-is = λ i. record { caller = its_caller i; nth = next i; command = entry.command; reply = entry.reply }

        longer-is : longer ≡ journal.entries ++ entry ∷ []
        longer-is = ap (λ (es : List Entry). es ++ entry ∷ []) shared.same_entries

        new-is : new ≡ having_seen pass longer
        new-is =
            new_told ∙ ap pass_of_seat own_is
            ∙ subst (λ (p : PassState). having_seen (pass_of_seat own) longer ≡ having_seen p longer) (sym told) refl

        seen-is : new.seen ≡ longer
        seen-is = ap (λ (p : PassState). p.seen) new-is

        all-seen : longer ≡ (pass.seen ++ current.later) ++ entry_of_pass pass entry.command entry.reply ∷ []
        all-seen =
            longer-is ∙ ap (λ (es : List Entry). es ++ entry ∷ []) current.whole
            ∙ ap (λ (e : Entry). (pass.seen ++ current.later) ++ e ∷ []) entry-is

        after-is : after ≡ record { setup = pass.setup; entries = new.seen }
        after-is = λ i. record { setup = (setup-is ∙ sym of_front.same_setup) i; entries = (entries-are ∙ sym seen-is) i }
