-- Desks that are held in their places, and their seats: what they stand after, what they plan, and what they are once
-- it is settled.
use Rattle.std.proofs.Common.{◌≡◌, ◌∙◌, inl, inr, ℕ, ◌≤◌, List, [], ◌∷◌, ◌++◌, filter, length, map, refl, sym, ap, arith, subst}
use Rattle.std.proofs.lemmas.List.{append-nil}
use Rattle.std.proofs.lemmas.List.Elements.{filter-append}
use Rattle.order_kinds.specs.Period.{hours_from}
use Rattle.zone_graph.specs.Graph.{Graph}
use Rattle.zone_graph.specs.Route.{IsIn, has}
use Rattle.market_model.specs.declared.command.Command.{Command}
use Rattle.market_model.specs.declared.entry.Entry.{Entry}
use Rattle.market_model.specs.declared.event.Event.{Event}
use Rattle.market_model.specs.declared.hours.Hours.{Hours}
use Rattle.market_model.specs.declared.who.Who.TheVariants as who
use Rattle.market_model.specs.Concerned.{IsCurrent, left_for}
use Rattle.market_model.specs.Grid.{graph_of}
use Rattle.market_model.specs.History.{entered_count, events_of, journal_events, of_hour, touches}
use Rattle.market_model.specs.HourSet.{IsSetOf, has_hour}
use Rattle.market_model.specs.Market.{IsLegal}
use Rattle.market_model.specs.Rules.{touched_hours}
use Rattle.market_model.specs.WellFormed.{IsMarketSetup}
use Rattle.laws_of_market.proofs.Journals.{journal_events-more}
use Rattle.laws_of_market.proofs.Restrict.{filter-same, filter-map}
use Rattle.laws_of_market.proofs.Names.{entered_in-few}
use Rattle.desk_locks.specs.Desk.{DeskState, carried, planning, with_nothing_planned}
use Rattle.journal_front.specs.Fronts.{DeskSeatState, FrontState, IsDeskOf, with_entries}
use Rattle.journal_front.specs.Seats as seats
use Rattle.desk_locks.specs.Rows as rows
use Rattle.desk_locks.specs.Rows.{AreReady, IsJournalOf, dropped, planning_all}
use Rattle.trade_journal.proofs.Rooms.{entries-fit}
use Rattle.desk_locks.specs.Held.{AllInPlace, AreHeld, HeldState}
use Rattle.desk_locks.specs.Places.{AreInPlace, Place, place_at, row_of}
use Rattle.venue_core.specs.Planning.{ArePlaced, IsHeldFor}
use Rattle.venue_core.specs.Setups.{IsOpenSetup}
use Rattle.venue_core.specs.Shared.{AreOfOneJournal}
use Rattle.venue_core.proofs.Counted.{left-few}
use Rattle.trade_journal.specs.Journals.{IsJournal}
use Rattle.venue_core.proofs.Journals.{current-left, current-length}

-- ---- the places that are held

-- the desks of the hours that a command touches are held
pub held-for : (front : FrontState) (caller : ℕ) (given : Command) (set : Hours) (row : List Place) (held : HeldState) → row ≡ row_of front
    → IsSetOf (touched_hours front.setup caller given) set → AreHeld set row held → IsHeldFor front caller given held
held-for front caller given set row held same is_set are = record {
  places =
      are.places
      ∙ ap (filter (λ (place : Place). has_hour set place.hour)) same
      ∙ filter-map (λ (place : Place). has_hour set place.hour) (place_at front) day
      ∙ ap (map (place_at front)) (filter-same (has_hour set) (λ hour. has hour (touched_hours front.setup caller given)) day (λ hour there. is_set hour));
  all_in_place = are.all_in_place;
}
  where
    day : List ℕ
    day = hours_from 1 front.setup.hours

module _ (front : FrontState) where
  abbrev places_of : List ℕ → List Place
  places_of hours = map (place_at front) hours

  -- ---- the seats, and the desks beside them

  pub seats-own : (hours : List ℕ) (desks : List DeskState) (own : List DeskSeatState) → AllInPlace (places_of hours) desks own
      → (seat : DeskSeatState) → IsIn seat own → IsDeskOf front seat
  seats-own [] [] [] all seat there = absurd there
  seats-own (hour ∷ hours) (desk ∷ desks) (first ∷ own) all seat (inl same) = subst (IsDeskOf front) (sym same) all.0.own
  seats-own (hour ∷ hours) (desk ∷ desks) (first ∷ own) all seat (inr later) = seats-own hours desks own all.1 seat later
  seats-own _ _ _ all seat there = absurd all

  pub seats-hours : (hours : List ℕ) (desks : List DeskState) (own : List DeskSeatState) → AllInPlace (places_of hours) desks own → seats.hours_of own ≡ hours
  seats-hours [] [] [] all = refl
  seats-hours (hour ∷ hours) (desk ∷ desks) (seat ∷ own) all =
      ap (λ h. h ∷ seats.hours_of own) all.0.seat_hour ∙ ap (λ hs. hour ∷ hs) (seats-hours hours desks own all.1)
  seats-hours _ _ _ all = absurd all

  pub desks-hours : (hours : List ℕ) (desks : List DeskState) (own : List DeskSeatState) → AllInPlace (places_of hours) desks own → rows.hours_of desks ≡ hours
  desks-hours [] [] [] all = refl
  desks-hours (hour ∷ hours) (desk ∷ desks) (seat ∷ own) all =
      ap (λ h. h ∷ rows.hours_of desks) all.0.desk_hour ∙ ap (λ hs. hour ∷ hs) (desks-hours hours desks own all.1)
  desks-hours _ _ _ all = absurd all

  -- beside each desk is a seat of its hour
  seat-beside : (hours : List ℕ) (desks : List DeskState) (own : List DeskSeatState) → AllInPlace (places_of hours) desks own
      → (desk : DeskState) → IsIn desk desks → (seat : DeskSeatState) × IsIn seat own × (seat.hour ≡ desk.hour) × AreInPlace (place_at front desk.hour) desk seat
  seat-beside [] [] [] all desk there = absurd there
  seat-beside (hour ∷ hours) (first ∷ desks) (seat ∷ own) all desk (inl same) =
      let here : AreInPlace (place_at front first.hour) first seat = subst (λ (h : ℕ). AreInPlace (place_at front h) first seat) (sym all.0.desk_hour) all.0 in
      (seat, inl refl, here.seat_hour ∙ ap (λ (d : DeskState). d.hour) (sym same), subst (λ (d : DeskState). AreInPlace (place_at front d.hour) d seat) (sym same) here)
  seat-beside (hour ∷ hours) (first ∷ desks) (seat ∷ own) all desk (inr later) =
      let rest = seat-beside hours desks own all.1 desk later in (rest.0, inr rest.1, rest.2, rest.3)
  seat-beside _ _ _ all desk there = absurd all

  -- ---- they stand after a legal journal for which the seats are current

  module _ (hours : List ℕ) (desks : List DeskState) (own : List DeskSeatState) (all : AllInPlace (places_of hours) desks own)
      (entries : List Entry) (legal : IsLegal front.setup entries) (is_setup : IsMarketSetup front.setup)
      (current : (seat : DeskSeatState) → IsIn seat own → IsCurrent front.setup (who.Hour seat.hour) seat.entries entries) where
    pub after-journal : IsJournalOf front.setup desks entries
    after-journal = record {
      is_setup = is_setup;
      legal = legal;
      left = λ desk there.
          let beside = seat-beside hours desks own all desk there in
          let now : IsCurrent front.setup (who.Hour desk.hour) beside.0.entries entries =
          subst (λ (h : ℕ). IsCurrent front.setup (who.Hour h) beside.0.entries entries) beside.2 (current beside.0 beside.1) in
          sym (beside.3.left ∙ current-left front.setup is_setup entries legal desk.hour beside.0.entries now);
    }

  -- a desk alone stands after the journal in its seat's list
  alone : (hours : List ℕ) (desks : List DeskState) (own : List DeskSeatState) → AllInPlace (places_of hours) desks own → length desks ≡ 1
      → AreOfOneJournal front own
  alone (hour ∷ []) (desk ∷ []) (seat ∷ []) all one = record {
    entries = seat.entries;
    journal = all.0.journal;
    current = λ other there. elim there [
      | inl same ↦ subst (λ (s : DeskSeatState). IsCurrent front.setup (who.Hour s.hour) s.entries seat.entries) (sym same)
          (record { later = []; whole = sym (append-nil seat.entries); quiet = refl })
      | inr none ↦ absurd none
    ];
  }
  alone (hour ∷ []) (desk ∷ []) [] all one = absurd all
  alone (hour ∷ []) (desk ∷ []) (seat ∷ other ∷ own) all one = absurd all.1
  alone (hour ∷ next ∷ hours) (desk ∷ []) [] all one = absurd all
  alone (hour ∷ next ∷ hours) (desk ∷ []) (seat ∷ own) all one = absurd all.1
  alone hours [] own all one = absurd (omega (arith, one))
  alone hours (desk ∷ other ∷ desks) own all one = absurd (omega (arith, one))
  alone [] (desk ∷ []) own all one = absurd all

  -- so a command may be planned on them
  pub are-ready : (hours : List ℕ) (desks : List DeskState) (own : List DeskSeatState) (graph : Graph) → AllInPlace (places_of hours) desks own
      → graph ≡ graph_of front.setup → IsOpenSetup front.setup → AreOfOneJournal front own → AreReady front.setup graph desks
  are-ready hours desks own graph all over is_open one = record {
    over_setup = sym over;
    over = λ desk there. (seat-beside hours desks own all desk there).3.over ∙ sym over;
    numbers = λ desk there.
        let beside = seat-beside hours desks own all desk there in
        let few = subst (λ (es : List Event). entered_count es ≤ length beside.0.entries) (sym beside.3.left)
        (left-few desk.hour front.setup beside.0.entries beside.3.journal.legal) in
        let named = entered_in-few desk.settled desk.hour in
        let long = current-length front.setup (who.Hour beside.0.hour) beside.0.entries one.entries (one.current beside.0 beside.1) in
        let most = entries-fit front.setup one.entries one.journal.callers one.journal.within in
        let rooms = is_open.asked.few_entries in
        omega (arith, few, named, long, most, rooms);
    place = record { entries = one.entries; journal = after-journal hours desks own all one.entries one.journal.legal is_open.is_setup one.current };
  }

  -- ---- what is held, whatever its hours

  placed : (held : HeldState) → (is : ArePlaced front held) → AllInPlace (places_of is.hours) held.desks held.seats
  placed held is = subst (λ (places : List Place). AllInPlace places held.desks held.seats) is.places is.all_in_place

  pub placed-own : (held : HeldState) → ArePlaced front held → (seat : DeskSeatState) → IsIn seat held.seats → IsDeskOf front seat
  placed-own held is = seats-own is.hours held.desks held.seats (placed held is)

  pub placed-alone : (held : HeldState) → ArePlaced front held → length held.desks ≡ 1 → AreOfOneJournal front held.seats
  placed-alone held is = alone is.hours held.desks held.seats (placed held is)

  -- ---- what they plan is dropped

  pub dropped-in-place : (hours : List ℕ) (desks : List DeskState) (own : List DeskSeatState) → AllInPlace (places_of hours) desks own
      → AllInPlace (places_of hours) (dropped desks) own
  dropped-in-place [] [] [] all = tt
  dropped-in-place (hour ∷ hours) (desk ∷ desks) (seat ∷ own) all =
      let was = all.0 in
      let here : AreInPlace (place_at front hour) (with_nothing_planned desk) seat = record {
        unplanned = refl;
        desk_hour = was.desk_hour;
        seat_hour = was.seat_hour;
        own = was.own;
        over = was.over;
        journal = was.journal;
        left = was.left;
      } in
      (here, dropped-in-place hours desks own all.1)
  dropped-in-place _ _ _ all = absurd all

  dropped-plans : (desks : List DeskState) (events : List Event) → dropped (planning_all desks events) ≡ dropped desks
  dropped-plans [] events = refl
  dropped-plans (desk ∷ desks) events = ap (λ ds. with_nothing_planned desk ∷ ds) (dropped-plans desks events)

  pub undone-in-place : (hours : List ℕ) (desks : List DeskState) (own : List DeskSeatState) (events : List Event) → AllInPlace (places_of hours) desks own
      → AllInPlace (places_of hours) (dropped (planning_all desks events)) own
  undone-in-place hours desks own events all =
      subst (λ (ds : List DeskState). AllInPlace (places_of hours) ds own) (sym (dropped-plans desks events)) (dropped-in-place hours desks own all)

  -- ---- what they plan is settled, by an entry that goes behind the others

  -- what one more entry leaves for an hour
  left-more : (entries : List Entry) (entry : Entry) (hour : ℕ) → left_for hour (entries ++ entry ∷ []) ≡ left_for hour entries ++ of_hour hour (events_of entry.reply)
  left-more entries entry hour =
      ap (of_hour hour) (journal_events-more entries entry) ∙ filter-append (touches hour) (journal_events entries) (events_of entry.reply)

  module _ (entries : List Entry) (entry : Entry) (is_setup : IsMarketSetup front.setup) (legal : IsLegal front.setup entries)
      (longer : IsJournal (record { setup = front.setup; entries = entries ++ entry ∷ [] })) where
    abbrev whole : List Entry
    whole = entries ++ entry ∷ []

    pub settled-in-place : (hours : List ℕ) (desks : List DeskState) (own : List DeskSeatState) → AllInPlace (places_of hours) desks own
        → ((seat : DeskSeatState) → IsIn seat own → IsCurrent front.setup (who.Hour seat.hour) seat.entries entries)
        → AllInPlace (places_of hours) (map carried (planning_all desks (events_of entry.reply))) (map (with_entries whole) own)
    settled-in-place [] [] [] all current = tt
    settled-in-place (hour ∷ hours) (desk ∷ desks) (seat ∷ own) all current =
        let was = all.0 in
        let events : List Event = events_of entry.reply in
        let now : IsCurrent front.setup (who.Hour hour) seat.entries entries =
        subst (λ (h : ℕ). IsCurrent front.setup (who.Hour h) seat.entries entries) was.seat_hour (current seat (inl refl)) in
        let left : desk.settled ++ of_hour desk.hour events ≡ left_for hour whole =
        ap (λ h. desk.settled ++ of_hour h events) was.desk_hour
        ∙ ap (λ es. es ++ of_hour hour events) (was.left ∙ current-left front.setup is_setup entries legal hour seat.entries now)
        ∙ sym (left-more entries entry hour) in
        let here : AreInPlace (place_at front hour) (carried (planning desk (of_hour desk.hour events))) (with_entries whole seat) = record {
          unplanned = refl;
          desk_hour = was.desk_hour;
          seat_hour = was.seat_hour;
          own = record { same_front = was.own.same_front; same_setup = was.own.same_setup; in_place = was.own.in_place };
          over = was.over;
          journal = longer;
          left = left;
        } in
        (here, settled-in-place hours desks own all.1 (λ other there. current other (inr there)))
    settled-in-place _ _ _ all current = absurd all
