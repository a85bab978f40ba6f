-- The desks of a day that stand after a journal: those that are chosen for a command, what they plan, and what
-- they are once it is settled.
use Rattle.std.proofs.Common.{◌≡◌, ◌∙◌, ℕ, ◌-◌, ◌<◌, ◌≤◌, ◌^◌, not, Bool, true, false, if◌then◌else◌, List, [], ◌∷◌, ◌++◌, count_by, filter, length, map, None, refl, sym, ap, subst}
use Rattle.std.specs.List.{range_with_len}
use Rattle.std.proofs.lemmas.List.{append-nil}
use Rattle.std.proofs.lemmas.List.Elements.{filter-append}
use Rattle.zone_graph.specs.Graph.{Graph}
use Rattle.zone_graph.specs.Route.{IsIn, has}
use Rattle.zone_graph.proofs.Membership.{from_filter, from_map, has-IsIn}
use Rattle.market_model.specs.declared.entry.Entry.{Entry}
use Rattle.market_model.specs.declared.event.Event.{Event}
use Rattle.market_model.specs.declared.hours.Hours.{Hours}
use Rattle.market_model.specs.declared.setup.Setup.{Setup}
use Rattle.market_model.specs.Concerned.{left_for}
use Rattle.market_model.specs.Grid.{graph_of}
use Rattle.market_model.specs.History.{enters_in, events_of, journal_events, of_hour, touches}
use Rattle.market_model.specs.HourSet.{IsSetOf, has_hour}
use Rattle.market_model.specs.Market.{IsLegal}
use Rattle.market_model.specs.WellFormed.{IsMarketSetup}
use Rattle.laws_of_market.proofs.Journals.{journal_events-more}
use Rattle.laws_of_market.proofs.Restrict.{filter-same, map-same}
use Rattle.trade_journal.specs.Journals.{all_rooms}
use Rattle.basket_match.specs.Desk.{DeskState, carried, planning, with_nothing_planned}
use Rattle.basket_match.specs.Rows.{AreReady, IsJournalOf, dropped, hours_of, planning_all}
use Rattle.desk_market.specs.Day.{DayState, chosen_from, chosen_of, others_from, others_of}
use Rattle.desk_market.specs.Standing.{IsOfDay, planned_desk, planned_desks, settled_desk, settled_desks}
use Rattle.desk_market.proofs.Days.{chosen-made, day-told, others-made}
use Rattle.desk_market.proofs.Numbers.{numbers-left}
use Rattle.basket_match.proofs.TouchedHours.{AreHoursOf, filter-has}

map-map : {X : Type 0} (f : DeskState → X) (g : ℕ → DeskState) (xs : List ℕ) → map f (map g xs) ≡ map (λ x. f (g x)) xs
map-map f g [] = refl
map-map f g (x ∷ xs) = ap (λ ys. f (g x) ∷ ys) (map-map f g xs)

not-true : (b : Bool) → not b ≡ true → b ≡ false
not-true true is = absurd (cc)
not-true false is = refl

-- ---- the desks that are chosen

module _ (setup : Setup) (hours : List ℕ) (are : AreHoursOf setup hours) where
  abbrev day_hours : List ℕ
  day_hours = range_with_len 1 setup.hours

  -- of desks that are made by their hours
  pub chosen-are : (chosen : Hours) → IsSetOf hours chosen → (made : ℕ → DeskState) → chosen_from (has_hour chosen) 1 (map made day_hours) ≡ map made hours
  chosen-are chosen set made =
      chosen-made (has_hour chosen) made 1 setup.hours
      ∙ ap (map made) (filter-same (has_hour chosen) (λ hour. has hour hours) day_hours (λ hour is. set hour) ∙ filter-has 1 setup.hours hours are.up are.within)

  -- the others are made alike where those of other hours are
  others-are : (chosen : Hours) → IsSetOf hours chosen → (made other : ℕ → DeskState) → ((hour : ℕ) → has hour hours ≡ false → made hour ≡ other hour)
      → others_from (has_hour chosen) 1 (map made day_hours) ≡ others_from (has_hour chosen) 1 (map other day_hours)
  others-are chosen set made other same =
      let left : List ℕ = filter (λ hour. not (has_hour chosen hour)) day_hours in
      others-made (has_hour chosen) made 1 setup.hours
      ∙ map-same made other left
      (λ hour is. same hour (sym (set hour) ∙ not-true (has_hour chosen hour) (from_filter (λ h. not (has_hour chosen h)) hour day_hours is).1))
      ∙ sym (others-made (has_hour chosen) other 1 setup.hours)

  -- a day whose chosen desks are others now, and whose others are the same
  pub day-now : (made other : ℕ → DeskState) (old new : DayState) → IsSetOf hours old.chosen → old.desks ≡ map made day_hours
      → chosen_of new ≡ map other hours → others_of new ≡ others_of old → ((hour : ℕ) → has hour hours ≡ false → made hour ≡ other hour)
      → new.desks ≡ map other day_hours
  day-now made other old new set were now rest same =
      let takes = has_hour old.chosen in
      let kept : new.chosen ≡ old.chosen = ap (λ (d : DayState). d.chosen) rest in
      let chosen_now : chosen_from takes 1 new.desks ≡ map other hours =
      ap (λ (h : Hours). chosen_from (has_hour h) 1 new.desks) (sym kept) ∙ now in
      let others_now : others_from takes 1 new.desks ≡ others_from takes 1 old.desks =
      ap (λ (h : Hours). others_from (has_hour h) 1 new.desks) (sym kept) ∙ ap (λ (d : DayState). d.desks) rest in
      day-told takes 1 new.desks (map other day_hours)
      (chosen_now ∙ sym (chosen-are old.chosen set other))
      (others_now ∙ ap (others_from takes 1) were ∙ others-are old.chosen set made other same)

  -- ---- a command is planned on them, and dropped or settled

  module _ (entries : List Entry) where
    abbrev own : ℕ → DeskState
    own = settled_desk (graph_of setup) entries

    pub settled-chosen : (day : DayState) → IsSetOf hours day.chosen → day.desks ≡ settled_desks setup entries → chosen_of day ≡ map own hours
    settled-chosen day set stand = ap (chosen_from (has_hour day.chosen) 1) stand ∙ chosen-are day.chosen set own

    pub settled-hours : (day : DayState) → IsSetOf hours day.chosen → day.desks ≡ settled_desks setup entries → hours_of (chosen_of day) ≡ hours
    settled-hours day set stand = ap hours_of (settled-chosen day set stand) ∙ map-map (λ (desk : DeskState). desk.hour) own hours ∙ same hours
      where
        same : (hs : List ℕ) → map (λ (hour : ℕ). hour) hs ≡ hs
        same [] = refl
        same (h ∷ hs) = ap (λ l. h ∷ l) (same hs)

    -- each stands after the journal
    pub settled-journal : (day : DayState) → IsSetOf hours day.chosen → day.desks ≡ settled_desks setup entries → IsMarketSetup setup → IsLegal setup entries
        → IsJournalOf setup (chosen_of day) entries
    settled-journal day set stand is_setup legal =
        subst (λ (desks : List DeskState). IsJournalOf setup desks entries) (sym (settled-chosen day set stand)) (record {
          is_setup = is_setup;
          legal = legal;
          left = λ desk i. (let made = from_map own desk hours i in subst (λ (d : DeskState). left_for d.hour entries ≡ d.settled) (sym made.2) refl);
        })

    pub settled-ready : (graph : Graph) (day : DayState) → IsSetOf hours day.chosen → day.desks ≡ settled_desks setup entries → graph ≡ graph_of setup
        → IsOfDay setup → IsLegal setup entries → length entries ≤ all_rooms setup → AreReady setup graph (chosen_of day)
    settled-ready graph day set stand over of_day legal within =
        let journal = settled-journal day set stand of_day.is_setup legal in
        let each : (desk : DeskState) → IsIn desk (chosen_of day) → (hour : ℕ) × (desk ≡ own hour) =
        λ desk i. (let made = from_map own desk hours (subst (IsIn desk) (settled-chosen day set stand) i) in (made.0, made.2)) in
        record {
          over_setup = sym over;
          over = λ desk i. ap (λ (d : DeskState). d.grid) (each desk i).1 ∙ sym over;
          numbers = λ desk i. subst (λ (d : DeskState). count_by (enters_in d.hour) d.settled < 2 ^ 32 - 1) (sym (each desk i).1) (numbers-left setup entries (each desk i).0 (all_rooms setup) legal within of_day.few);
          place = record { entries = entries; journal = journal };
        }

    -- a day that plans some events
    pub day-planned : (old new : DayState) (events : List Event) → IsSetOf hours old.chosen → old.desks ≡ settled_desks setup entries
        → chosen_of new ≡ planning_all (chosen_of old) events → others_of new ≡ others_of old → new.desks ≡ planned_desks setup entries hours events
    day-planned old new events set stand now rest =
        let plans : ℕ → DeskState = planned_desk (graph_of setup) entries hours events in
        day-now own plans old new set stand
        (now ∙ ap (λ desks. planning_all desks events) (settled-chosen old set stand)
        ∙ map-map (λ (desk : DeskState). planning desk (of_hour desk.hour events)) own hours
        ∙ map-same (λ hour. planning (own hour) (of_hour hour events)) plans hours
        (λ hour is. ap (λ b. if b then planning (own hour) (of_hour hour events) else own hour) (sym (has-IsIn hour hours is))))
        rest
        (λ hour out. ap (λ b. if b then planning (own hour) (of_hour hour events) else own hour) (sym out))

    -- it is dropped again
    pub day-dropped : (old new : DayState) (events : List Event) → IsSetOf hours old.chosen → old.desks ≡ planned_desks setup entries hours events
        → chosen_of new ≡ dropped (chosen_of old) → others_of new ≡ others_of old → new.desks ≡ settled_desks setup entries
    day-dropped old new events set stand now rest =
        let plans : ℕ → DeskState = planned_desk (graph_of setup) entries hours events in
        day-now plans own old new set stand
        (now ∙ ap dropped (ap (chosen_from (has_hour old.chosen) 1) stand ∙ chosen-are old.chosen set plans)
        ∙ map-map with_nothing_planned plans hours
        ∙ map-same (λ hour. with_nothing_planned (plans hour)) own hours (λ hour is. without hour (has hour hours)))
        rest
        (λ hour out. ap (λ b. if b then planning (own hour) (of_hour hour events) else own hour) out)
      where
        without : (hour : ℕ) (b : Bool) → with_nothing_planned (if b then planning (own hour) (of_hour hour events) else own hour) ≡ own hour
        without hour true = refl
        without hour false = refl

    -- nothing was planned
    pub day-failed : (old new : DayState) → IsSetOf hours old.chosen → old.desks ≡ settled_desks setup entries
        → chosen_of new ≡ dropped (chosen_of old) → others_of new ≡ others_of old → new.desks ≡ old.desks
    day-failed old new set stand now rest =
        day-now own own old new set stand
        (now ∙ ap dropped (settled-chosen old set stand) ∙ map-map with_nothing_planned own hours)
        rest (λ hour out. refl)
        ∙ sym stand

    -- what one more entry leaves for an hour
    left-more : (entry : Entry) (hour : ℕ) → left_for hour (entries ++ entry ∷ []) ≡ left_for hour entries ++ of_hour hour (events_of entry.reply)
    left-more entry hour =
        ap (of_hour hour) (journal_events-more entries entry) ∙ filter-append (touches hour) (journal_events entries) (events_of entry.reply)

    -- it is settled, by an entry that has events of no other hour
    pub day-carried : (old new : DayState) (entry : Entry) → IsSetOf hours old.chosen → old.desks ≡ planned_desks setup entries hours (events_of entry.reply)
        → chosen_of new ≡ map carried (chosen_of old) → others_of new ≡ others_of old
        → ((hour : ℕ) → has hour hours ≡ false → of_hour hour (events_of entry.reply) ≡ [])
        → new.desks ≡ settled_desks setup (entries ++ entry ∷ [])
    day-carried old new entry set stand now rest none =
        let events : List Event = events_of entry.reply in
        let plans : ℕ → DeskState = planned_desk (graph_of setup) entries hours events in
        let later : ℕ → DeskState = settled_desk (graph_of setup) (entries ++ entry ∷ []) in
        let with_settled : ℕ → List Event → DeskState = λ hour settled. record { hour = hour; grid = graph_of setup; settled = settled; planned = None } in
        day-now plans later old new set stand
        (now ∙ ap (map carried) (ap (chosen_from (has_hour old.chosen) 1) stand ∙ chosen-are old.chosen set plans)
        ∙ map-map carried plans hours
        ∙ map-same (λ hour. carried (plans hour)) later hours
        (λ hour is. ap (λ b. carried (if b then planning (own hour) (of_hour hour events) else own hour)) (has-IsIn hour hours is)
        ∙ ap (with_settled hour) (sym (left-more entry hour))))
        rest
        (λ hour out. ap (λ b. if b then planning (own hour) (of_hour hour events) else own hour) out
        ∙ ap (with_settled hour) (sym (left-more entry hour ∙ ap (λ es. left_for hour entries ++ es) (none hour out) ∙ append-nil (left_for hour entries))))
