-- What a commit joins into the journal's place, and what comes back from it.
use Rattle.std.proofs.Common.{◌≡◌, ◌∙◌, inl, inr, ℕ, zero, suc, ◌+◌, ◌-◌, ◌<◌, ◌≤◌, ◌^◌, ◌==◌, Bool, true, false, cond, List, [], ◌∷◌, ◌++◌, filter, map, length, count_by, sum_by, refl, sym, ap, subst, arith, eqb-true, eq-eqb, ne_eqb, length-append}
use Rattle.std.specs.List.{range_with_len}
use Rattle.std.proofs.lemmas.Bool.{true≢false}
use Rattle.std.proofs.lemmas.List.Elements.{filter-append}
use Rattle.std.proofs.lemmas.List.Sums.{count_by-le-length, length-filter, sum_by-append, sum_by-cons}
use Rattle.order_kinds.specs.Period.{hours_from}
use Rattle.zone_graph.specs.Route.{IsIn}
use Rattle.zone_graph.proofs.Membership.{from_filter, from_range}
use Rattle.atomic_table.specs.Seated.{TableId}
use Rattle.atomic_table.specs.Table.{Me}
use Rattle.market_model.specs.declared.entry.Entry.{Entry}
use Rattle.market_model.specs.declared.setup.Setup.{Setup}
use Rattle.market_model.specs.declared.who.Who.{Who}
use Rattle.market_model.specs.declared.who.Who.TheVariants as who
use Rattle.market_model.specs.Concerned.{concerns, entries_by, IsCurrent}
use Rattle.market_model.proofs.Concerned.{current-callers}
use Rattle.journal_front.specs.declared.view.Standing.{Standing}
use Rattle.journal_front.specs.declared.view.View.{View}
use Rattle.journal_front.specs.Fronts.{DeskSeatState, FrontState, IsDeskOf, JournalSeatState, PassSeatState, desk_of, touched_in_order, with_entries}
use Rattle.journal_front.specs.Seats.{IsJournalPlace, IsPassPlace, desk_standing, hours_of, journal_state, pass_standing, pass_state, standing_in, standing_of_desk, view_in}
use Rattle.journal_front.specs.Steps.{HasConcerned}
use Rattle.journal_front.specs.Views.{everyone, is_same, lead_view, seat_view, times_in, view_dealt, view_grown, view_joined, view_left, with_standings}
use Rattle.journal_front.proofs.Sums.{is_same-refl, sum-map}

-- the standing of a pass
abbrev pub standing_of_pass : PassSeatState → Standing
standing_of_pass pass = pass_standing pass.caller pass.entries pass.known

-- ---- the journal's place, step by step

-- the view of the journal's place
pub journal-view : (id : TableId) (me : Me ℕ View) (journal : JournalSeatState) → IsJournalPlace me → journal_state id me ≡ journal
    → me ≡ (lead_view journal.setup journal.entries [], [])
journal-view id me journal place is =
    place.seated ∙ ap (λ (j : JournalSeatState). (lead_view j.setup j.entries [], [])) is

-- the view of a pass's place
pub pass-view : (id : TableId) (caller made : ℕ) (views : List View) (pass : PassSeatState) → IsPassPlace caller made views → pass_state id caller views ≡ pass
    → view_in views ≡ seat_view pass.setup (standing_of_pass pass)
pass-view id caller made views pass place is =
    place.seated ∙ ap (λ (p : PassSeatState). seat_view p.setup (standing_of_pass p)) is

-- the pass and the desks are joined in
pub gathered : (journal : JournalSeatState) (pass : PassSeatState) (seats : List DeskSeatState) (before joined after : Me ℕ View) (view : View)
    → before ≡ (lead_view journal.setup journal.entries [], []) → view ≡ seat_view pass.setup (standing_of_pass pass)
    → joined ≡ (view_joined before.0 view, []) → after ≡ (with_standings joined.0 (joined.0.standings ++ map standing_of_desk seats), [])
    → after ≡ (lead_view journal.setup journal.entries (standing_of_pass pass ∷ map standing_of_desk seats), [])
gathered journal pass seats before joined after view before_is view_is joined_is after_is =
    let one = joined_is ∙ ap (λ (m : Me ℕ View). (view_joined m.0 view, [])) before_is
    ∙ ap (λ (v : View). (view_joined (lead_view journal.setup journal.entries []) v, [])) view_is in
    after_is ∙ ap (λ (m : Me ℕ View). (with_standings m.0 (m.0.standings ++ map standing_of_desk seats), [])) one

-- a standing with another list
abbrev grow : List Entry → Standing → Standing
grow entries standing = record { who = standing.who; entries = entries; known = standing.known }

grow-desks : (entries : List Entry) (seats : List DeskSeatState) → map (grow entries) (map standing_of_desk seats) ≡ map (λ hour. desk_standing hour entries) (hours_of seats)
grow-desks entries [] = refl
grow-desks entries (seat ∷ seats) = ap (λ l. desk_standing seat.hour entries ∷ l) (grow-desks entries seats)

module _ (journal : JournalSeatState) (pass : PassSeatState) (seats : List DeskSeatState) (entry : Entry) (before grown : Me ℕ View)
    (before_is : before ≡ (lead_view journal.setup journal.entries (standing_of_pass pass ∷ map standing_of_desk seats), []))
    (grown_is : grown ≡ (view_grown entry before.0, [])) where
  abbrev longer : List Entry
  longer = journal.entries ++ entry ∷ []

  all-grown : grown ≡ (lead_view journal.setup longer (pass_standing pass.caller longer pass.known ∷ map (λ hour. desk_standing hour longer) (hours_of seats)), [])
  all-grown =
      grown_is ∙ ap (λ (m : Me ℕ View). (view_grown entry m.0, [])) before_is
      ∙ ap (λ l. (lead_view journal.setup longer (pass_standing pass.caller longer pass.known ∷ l), [])) (grow-desks longer seats)

  -- what the pass gets back
  pub pass-back : (views : List View) → views ≡ view_dealt grown.0 ∷ [] → views ≡ seat_view journal.setup (pass_standing pass.caller longer pass.known) ∷ []
  pass-back views dealt = dealt ∙ ap (λ (m : Me ℕ View). view_dealt m.0 ∷ []) all-grown

  -- and what is left for the desks
  pub desks-left : (left : Me ℕ View) → left ≡ (view_left grown.0, []) → left ≡ (lead_view journal.setup longer (map (λ hour. desk_standing hour longer) (hours_of seats)), [])
  desks-left left is = is ∙ ap (λ (m : Me ℕ View). (view_left m.0, [])) all-grown

-- ---- everyone whom the entry concerns is there

-- a sum over what a filter keeps, where the rest adds nothing
sum-filter : {X : Type 0} (f : X → ℕ) (p : X → Bool) (xs : List X) → ((x : X) → p x ≡ false → f x ≡ 0) → sum_by f (filter p xs) ≡ sum_by f xs
sum-filter f p [] none = refl
sum-filter f p (x ∷ xs) none = elim (p x) as (λ b. p x ≡ b → sum_by f (cond b (x ∷ filter p xs) (filter p xs)) ≡ sum_by f (x ∷ xs)) [
  | true ↦ λ passes. omega (arith, sum_by-cons f x (filter p xs), sum_by-cons f x xs, sum-filter f p xs none)
  | false ↦ λ fails. omega (arith, sum_by-cons f x xs, none x fails, sum-filter f p xs none)
] refl

sum-nothing : {X : Type 0} (f : X → ℕ) (xs : List X) → ((x : X) → f x ≡ 0) → sum_by f xs ≡ 0
sum-nothing f [] none = refl
sum-nothing f (x ∷ xs) none = omega (arith, sum_by-cons f x xs, none x, sum-nothing f xs none)

-- 1 for a number, and 0 for every other
abbrev one_for : (number other : ℕ) → ℕ
one_for number other = cond (number == other) 1 0

none-after : (number first many : ℕ) → number < first → sum_by (one_for number) (range_with_len first many) ≡ 0
none-after number first zero low = refl
none-after number first (suc many) low =
    let other : one_for number first ≡ 0 = ap (λ b. cond b 1 0) (ne_eqb number first (λ same. absurd (omega arith))) in
    omega (arith, sum_by-cons (one_for number) first (range_with_len (first + 1) many), other, none-after number (first + 1) many (omega arith))

once-at-most : (number first many : ℕ) → sum_by (one_for number) (range_with_len first many) ≤ 1
once-at-most number first zero = omega arith
once-at-most number first (suc many) =
    let more = sum_by-cons (one_for number) first (range_with_len (first + 1) many) in
    elim (number == first) as (λ b. number == first ≡ b → sum_by (one_for number) (range_with_len first (suc many)) ≤ 1) [
      | true ↦ λ same.
          let own : one_for number first ≡ 1 = ap (λ b. cond b 1 0) same in
          omega (arith, more, own, none-after number (first + 1) many (let equal = eqb-true number first same in omega arith))
      | false ↦ λ other.
          let own : one_for number first ≡ 0 = ap (λ b. cond b 1 0) other in
          omega (arith, more, own, once-at-most number (first + 1) many)
    ] refl

module _ (setup : Setup) (entry : Entry) (view : View) (pass : Standing) (seats : List DeskSeatState)
    (all : view.standings ≡ pass ∷ map standing_of_desk seats) (own : pass.who ≡ who.Caller entry.caller) (hours : hours_of seats ≡ touched_in_order setup entry) where
  -- how often an hour stands in the setup, and in the view
  hour-in-setup : (hour : ℕ) → count_by (is_same (who.Hour hour)) (everyone setup) ≡ sum_by (one_for hour) (hours_from 1 setup.hours)
  hour-in-setup hour =
      let weight : Who → ℕ = λ someone. cond (is_same (who.Hour hour) someone) 1 0 in
      omega (
        arith,
        sum_by-append weight (map who.Hour (hours_from 1 setup.hours)) (map who.Caller (range_with_len 0 (length setup.callers))),
        sum-map weight who.Hour (hours_from 1 setup.hours),
        sum-map weight who.Caller (range_with_len 0 (length setup.callers)),
        sum-nothing (λ caller. weight (who.Caller caller)) (range_with_len 0 (length setup.callers)) (λ caller. refl),
      )

  hour-in-view : (hour : ℕ) → sum_by (one_for hour) (hours_of seats) ≤ times_in (who.Hour hour) view
  hour-in-view hour =
      let weight : Standing → ℕ = λ standing. cond (is_same (who.Hour hour) standing.who) 1 0 in
      omega (
        arith,
        ap (sum_by weight) all,
        sum_by-cons weight pass (map standing_of_desk seats),
        sum-map weight standing_of_desk seats,
        sum-map (one_for hour) (λ (seat : DeskSeatState). seat.hour) seats,
      )

  caller-in-setup : (caller : ℕ) → count_by (is_same (who.Caller caller)) (everyone setup) ≤ 1
  caller-in-setup caller =
      let weight : Who → ℕ = λ someone. cond (is_same (who.Caller caller) someone) 1 0 in
      omega (
        arith,
        sum_by-append weight (map who.Hour (hours_from 1 setup.hours)) (map who.Caller (range_with_len 0 (length setup.callers))),
        sum-map weight who.Hour (hours_from 1 setup.hours),
        sum-nothing (λ hour. weight (who.Hour hour)) (hours_from 1 setup.hours) (λ hour. refl),
        sum-map weight who.Caller (range_with_len 0 (length setup.callers)),
        once-at-most caller 0 (length setup.callers),
      )

  caller-in-view : (caller : ℕ) → entry.caller == caller ≡ true → 1 ≤ times_in (who.Caller caller) view
  caller-in-view caller same =
      let weight : Standing → ℕ = λ standing. cond (is_same (who.Caller caller) standing.who) 1 0 in
      let mine : weight pass ≡ 1 =
      ap (λ someone. cond (is_same (who.Caller caller) someone) 1 0) (own ∙ ap who.Caller (eqb-true entry.caller caller same))
      ∙ ap (λ b. cond b 1 0) (is_same-refl (who.Caller caller)) in
      omega (arith, ap (sum_by weight) all, sum_by-cons weight pass (map standing_of_desk seats), mine)

  -- an hour that the entry does not touch is another one
  hour-untouched : (hour other : ℕ) → concerns setup (who.Hour hour) entry ≡ true → concerns setup (who.Hour other) entry ≡ false → one_for hour other ≡ 0
  hour-untouched hour other touched untouched = elim (hour == other) as (λ b. hour == other ≡ b → ◌≡◌ {A = ℕ} (cond b 1 0) 0) [
    | true ↦ λ same. absurd (true≢false (sym touched ∙ ap (λ h. concerns setup (who.Hour h) entry) (eqb-true hour other same) ∙ untouched))
    | false ↦ λ apart. refl
  ] refl

  pub has-concerned : HasConcerned setup entry view
  has-concerned (who.Hour hour) concerned =
      let touched : ℕ → Bool = λ other. concerns setup (who.Hour other) entry in
      omega (
        arith,
        hour-in-setup hour,
        sum-filter (one_for hour) touched (hours_from 1 setup.hours) (λ other. hour-untouched hour other concerned),
        ap (sum_by (one_for hour)) hours,
        hour-in-view hour,
      )
  has-concerned (who.Caller caller) concerned = omega (arith, caller-in-setup caller, caller-in-view caller concerned)

-- ---- what the seats are afterwards

-- the hours of the desks are the setup's
pub hours-within : (setup : Setup) (entry : Entry) (hours : List ℕ) → hours ≡ touched_in_order setup entry → (hour : ℕ) → IsIn hour hours
    → (1 ≤ hour) × (hour ≤ setup.hours)
hours-within setup entry hours are hour inside =
    let touched = from_filter (λ h. concerns setup (who.Hour h) entry) hour (hours_from 1 setup.hours) (subst (IsIn hour) are inside) in
    let within = from_range hour 1 (setup.hours + 1 - 1) touched.0 in
    (omega (arith, within.0), omega (arith, within.1))

-- the desks have the longer list
pub desks-after : (front : FrontState) (entries : List Entry) (seats : List DeskSeatState) → ((seat : DeskSeatState) → IsIn seat seats → IsDeskOf front seat)
    → map (desk_of front entries) (hours_of seats) ≡ map (with_entries entries) seats
desks-after front entries [] of_front = refl
desks-after front entries (seat ∷ seats) of_front =
    let own = of_front seat (inl refl) in
    ap (λ l. desk_of front entries seat.hour ∷ l) (desks-after front entries seats (λ other there. of_front other (inr there)))
    ∙ ap (λ (s : DeskSeatState). s ∷ map (with_entries entries) seats)
    (λ i. record { front = sym own.same_front i; setup = sym own.same_setup i; hour = seat.hour; here = sym own.in_place i; entries = entries })

-- the pass has one entry of its caller more
pub one-more : (setup : Setup) (caller : ℕ) (entries journal : List Entry) (entry : Entry) → IsCurrent setup (who.Caller caller) entries journal → caller ≡ entry.caller
    → length (entries_by caller entries) + 1 ≡ length (entries_by caller (journal ++ entry ∷ []))
one-more setup caller entries journal entry current own =
    let mine : Entry → Bool = λ e. e.caller == caller in
    let here : filter mine (entry ∷ []) ≡ entry ∷ [] = ap (λ b. cond b (entry ∷ []) []) (eq-eqb entry.caller caller (sym own)) in
    omega (
      arith,
      ap (λ (l : List Entry). length l) (current-callers setup caller entries journal current),
      ap (λ (l : List Entry). length l) (filter-append mine journal (entry ∷ [])),
      length-append (filter mine journal) (filter mine (entry ∷ [])),
      ap (λ (l : List Entry). length l) here,
    )

-- a pass has made no more entries than its list has
pub few-made : (caller made : ℕ) (views : List View) → IsPassPlace caller made views → made ≤ 2 ^ 31
few-made caller made views place =
    let mine : Entry → Bool = λ e. e.caller == caller in
    let entries : List Entry = (standing_in (view_in views)).entries in
    omega (arith, place.counted, length-filter mine entries, count_by-le-length mine entries, place.short)

-- the pass's place once it has come back
pub pass-after : (journal : JournalSeatState) (entry : Entry) (id : TableId) (caller made : ℕ) (before : List View) (pass : PassSeatState) (views : List View)
    → IsPassPlace caller made before → pass_state id caller before ≡ pass → pass.caller ≡ entry.caller → pass.setup ≡ journal.setup
    → IsCurrent journal.setup (who.Caller pass.caller) pass.entries journal.entries → length journal.entries < 2 ^ 31
    → views ≡ seat_view journal.setup (pass_standing pass.caller (journal.entries ++ entry ∷ []) pass.known) ∷ [] → IsPassPlace caller (made + 1) views
pass-after journal entry id caller made before pass views place is = subst (λ (p : PassSeatState). p.caller ≡ entry.caller → p.setup ≡ journal.setup
    → IsCurrent journal.setup (who.Caller p.caller) p.entries journal.entries → length journal.entries < 2 ^ 31
    → views ≡ seat_view journal.setup (pass_standing p.caller (journal.entries ++ entry ∷ []) p.known) ∷ [] → IsPassPlace caller (made + 1) views) is
    (λ own same current room are.
    let more = one-more journal.setup caller (standing_in (view_in before)).entries journal.entries entry current own in
    subst (IsPassPlace caller (made + 1)) (sym are) (record {
      one = refl;
      seated = refl;
      known = omega (arith, place.known, ap (λ (s : Setup). length s.callers) same);
      counted = omega (arith, place.counted, more);
      short = omega (arith, length-append journal.entries (entry ∷ []));
    }))

-- the desks once they have come back
pub desks-back : (front : FrontState) (seats : List DeskSeatState) (hours : List ℕ) (id : TableId) (setup : Setup) (entries : List Entry) (standings : List Standing) (me : Me ℕ View)
    → id ≡ front.id → setup ≡ front.setup → hours ≡ hours_of seats → me ≡ (lead_view setup entries standings, [])
    → ((seat : DeskSeatState) → IsIn seat seats → IsDeskOf front seat)
    → map (desk_of (record { id = id; setup = me.0.setup }) me.0.entries) hours ≡ map (with_entries entries) seats
desks-back front seats hours id setup entries standings me same_front same_setup hours_are me_is of_front =
    ap (map (desk_of (record { id = id; setup = me.0.setup }) me.0.entries)) hours_are
    ∙ ap (λ (m : Me ℕ View). map (desk_of (record { id = id; setup = m.0.setup }) m.0.entries) (hours_of seats)) me_is
    ∙ ap (λ (f : FrontState). map (desk_of f entries) (hours_of seats)) (λ i. record { id = same_front i; setup = same_setup i })
    ∙ desks-after front entries seats of_front
