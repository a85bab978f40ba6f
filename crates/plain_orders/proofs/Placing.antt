-- The places of the events that enter orders and blocks by an hour.
use Rattle.std.proofs.Common.{◌≡◌, ◌∙◌, inl, inr, ℕ, zero, suc, ◌+◌, ◌-◌, ◌<◌, ◌≤◌, Bool, true, false, cond, List, [], ◌∷◌, ◌++◌, drop, eqb-true, filter, get_or, length, length-append, length-drop, map, nat_eq, eq-eqb, Option, Some, None, refl, sym, ap, subst, take, if◌then◌else◌, arith}
use Rattle.std.proofs.lemmas.Bool.{cases_lt, false_from_ne_true, true≢false}
use Rattle.std.proofs.lemmas.List.{append-nil, get_or_append_left, get_or_push, length-take-le, length_push, take_all, take_more, take-append-drop, take_at}
use Rattle.std.proofs.lemmas.List.Elements.{filter-append}
use Rattle.std.proofs.lemmas.List.Sums.{length-filter}
use Rattle.std.specs.List.{filter_map}
use Rattle.order_kinds.specs.declared.order.OrderName.{OrderName}
use Rattle.zone_graph.specs.Route.{IsIn}
use Rattle.zone_graph.proofs.Membership.{from_filter}
use Rattle.zone_graph.proofs.Places.{item_at_place}
use Rattle.market_model.specs.declared.event.Event.{Event}
use Rattle.market_model.specs.declared.event.Event.TheVariants as event
use Rattle.market_model.specs.History.{and_then, enters_in, of_hour, touches}
use Rattle.market_model.specs.Orders.{Placed, Standing, name_given, names, next_name, placed_by, standing}
use Rattle.market_model.specs.declared.setup.Setup.{Setup}
use Rattle.market_model.specs.WellFormed.{FitAfter, Fits}
use Rattle.laws_of_market.proofs.Growing.{fit-front}
use Rattle.laws_of_market.proofs.Members.{IsIn-filter_map}
use Rattle.laws_of_market.proofs.Names.{enters_as}
use Rattle.laws_of_market.proofs.Tests.{same_name-eq}
use Rattle.event_history.specs.ByHour.{has_list, listed}
use Rattle.event_history.specs.Near.{IsNear}
use Rattle.event_history.proofs.ByHour.{listed-append, listed_near}
use Rattle.order_kinds.specs.Same.{same_name}
use Rattle.plain_orders.specs.Histories.{HasSoundNumbers, IsSomeHistory}
use Rattle.plain_orders.specs.Listed.{is_order_of, open_orders, order_given, stands_open}
use Rattle.plain_orders.specs.declared.tally.OrderSums.{OrderSums}
use Rattle.plain_orders.specs.declared.tally.Tally.{Tally}
use Rattle.plain_orders.specs.Tallies.{ArePlaces, AreSums, AreSumsOf, AreTallies, CanTakeIn, IsPlaceOf, Tells, after_event, entered_in, entries, name_in, nothing, standing_by, with_place}
use Rattle.plain_orders.proofs.Histories.{IsAt, at_place}
use Rattle.plain_orders.proofs.Listing.{OrderAt, filtered-listed-more, filtered-same, kept-filter, listed-same, order-in}
use Rattle.plain_orders.proofs.Near.{IsNearAt, StandsAt, enters-elsewhere, near-agree, near-can, near-entered, near-entries, near-passed, near-placed_more, near-size, near-size_same, near-taken, near-tallies, picked-kept, stands-at, tallies-agree}
use Rattle.plain_orders.proofs.Taken.{count-more, count-same}

-- ---- the place that a tally tells

-- one of two tallies that tell the same place
either-place : (b : Bool) (one other : Tally) → one.place ≡ other.place → (if b then one else other).place ≡ other.place
either-place true one other is = is
either-place false one other is = refl

-- it stays where an event enters another order or block
place-kept : (name : OrderName) (moment at : ℕ) (e : Event) (tally : Tally) → enters_as name e ≡ false → (after_event name moment at e tally).place ≡ tally.place
place-kept name moment at (event.Entered given caller order) tally h = rw h refl
place-kept name moment at (event.EnteredBlock given caller order) tally h = rw h refl
place-kept name moment at (event.Leg contract leg) tally h = either-place (names leg name) _ tally refl
place-kept name moment at (event.BlockLeg first last leg) tally h = either-place (names leg name) _ tally refl
place-kept name moment at (event.Withdrawn given lots) tally h = either-place (same_name given name) _ tally refl
place-kept name moment at (event.Reduced given by) tally h = either-place (same_name given name) _ tally refl
place-kept name moment at _ tally h = refl

-- and is the event's where it enters this one
place-new : (name : OrderName) (moment at : ℕ) (e : Event) (tally : Tally) → enters_as name e ≡ true → (after_event name moment at e tally).place ≡ at
place-new name moment at (event.Entered given caller order) tally h = rw h refl
place-new name moment at (event.EnteredBlock given caller order) tally h = rw h refl
place-new name moment at _ tally h = absurd (true≢false (sym h))

-- an event that can be taken in enters the last number and no other
of-last : (given : OrderName) (hour number size : ℕ) → (given.hour ≡ hour → given.number + 1 ≡ size) → same_name given (name_in hour number) ≡ true
    → (nat_eq given.hour hour ≡ true) × (number + 1 ≡ size)
of-last given hour number size can h =
    let same = same_name-eq given (name_in hour number) h in
    let own : given.hour ≡ hour = ap (λ (n : OrderName). n.hour) same in
    let number_is : given.number ≡ number = ap (λ (n : OrderName). n.number) same in
    let last = can own in (eq-eqb given.hour hour own, omega (arith, number_is, last))

enters-only : (hour number : ℕ) (e : Event) (tallies : List Tally) → CanTakeIn hour e tallies → enters_as (name_in hour number) e ≡ true
    → (enters_in hour e ≡ true) × (number + 1 ≡ length tallies)
enters-only hour number (event.Entered given caller order) tallies can h = of-last given hour number (length tallies) can h
enters-only hour number (event.EnteredBlock given caller order) tallies can h = of-last given hour number (length tallies) can h
enters-only hour number _ tallies can h = absurd (true≢false (sym h))

-- a name of the hour and the number
named : (given : OrderName) (hour number : ℕ) → nat_eq given.hour hour ≡ true → given.number ≡ number → same_name given (name_in hour number) ≡ true
named given hour number h is = rw h (eq-eqb given.number number is)

enters-last : (hour number : ℕ) (e : Event) (tallies : List Tally) → CanTakeIn hour e tallies → enters_in hour e ≡ true → number + 1 ≡ length tallies
    → enters_as (name_in hour number) e ≡ true
enters-last hour number (event.Entered given caller order) tallies can h is = named given hour number h (omega (arith, can (eqb-true given.hour hour h), is))
enters-last hour number (event.EnteredBlock given caller order) tallies can h is = named given hour number h (omega (arith, can (eqb-true given.hour hour h), is))
enters-last hour number _ tallies can h is = absurd (true≢false (sym h))

-- one event more: the tallies of those that entered before keep their places, and a new one tells the place behind them
module _ (hour moment : ℕ) (before : List Event) (e : Event) (old new : List Tally) (size : length old ≡ length (entries hour before) + 1)
    (can : CanTakeIn hour e (with_place hour e old))
    (changes : (number : ℕ) (d : Tally) → number < length (with_place hour e old)
    → get_or new number d ≡ after_event (name_in hour number) moment (length before) e (get_or (with_place hour e old) number d))
    (were : ArePlaces before hour old) where
  -- a place that was told of an entry stays
  still : (number : ℕ) (d : Tally) (entering : List Event) → number < length (entries hour before) → number + 1 < length (with_place hour e old)
      → enters_as (name_in hour (number + 1)) e ≡ false → get_or (with_place hour e old) (number + 1) d ≡ get_or old (number + 1) d
      → IsPlaceOf (and_then before e) (entries hour before ++ entering) number (get_or new (number + 1) d).place
  still number d entering within there other is =
      let was = were number d within in
      let same : (get_or new (number + 1) d).place ≡ (get_or old (number + 1) d).place =
      ap (λ (t : Tally). t.place) (changes (number + 1) d there)
      ∙ place-kept (name_in hour (number + 1)) moment (length before) e (get_or (with_place hour e old) (number + 1) d) other
      ∙ ap (λ (t : Tally). t.place) is in
      subst (IsPlaceOf (and_then before e) (entries hour before ++ entering) number) (sym same) (record {
        within = (let low = was.within in let all = length-append before (e ∷ []) in omega (arith, low, all));
        is = λ x. get_or_append_left before (e ∷ []) x (get_or old (number + 1) d).place was.within ∙ was.is x
            ∙ sym (get_or_append_left (entries hour before) entering x number within);
      })

  places-more : ArePlaces (and_then before e) hour new
  places-more number d within = go (enters_in hour e) refl (filter-append (enters_in hour) before (e ∷ []))
    where
      go : (b : Bool) → enters_in hour e ≡ b → entries hour (and_then before e) ≡ entries hour before ++ cond b (e ∷ []) []
          → IsPlaceOf (and_then before e) (entries hour (and_then before e)) number (get_or new (number + 1) d).place
      go false own all =
          let same : with_place hour e old ≡ old = ap (λ b. if b then old ++ nothing ∷ [] else old) own in
          let low : number < length (entries hour before) = subst (λ es. number < length es) (all ∙ append-nil (entries hour before)) within in
          subst (λ es. IsPlaceOf (and_then before e) es number (get_or new (number + 1) d).place) (sym all)
          (still number d [] low (subst (λ ts. number + 1 < length ts) (sym same) (omega (arith, size, low)))
          (false_from_ne_true (enters_as (name_in hour (number + 1)) e)
          (λ h. true≢false (sym (enters-only hour (number + 1) e (with_place hour e old) can h).0 ∙ own)))
          (ap (λ ts. get_or ts (number + 1) d) same))
      go true own all =
          let same : with_place hour e old ≡ old ++ nothing ∷ [] = ap (λ b. if b then old ++ nothing ∷ [] else old) own in
          let long : length (with_place hour e old) ≡ length old + 1 = ap length same ∙ length_push old nothing in
          let count = length_push (entries hour before) e in
          let at_most : number < length (entries hour before ++ e ∷ []) = subst (λ es. number < length es) all within in
          subst (λ es. IsPlaceOf (and_then before e) es number (get_or new (number + 1) d).place) (sym all)
          (elim (cases_lt number (length (entries hour before))) [
            | inl low ↦
                still number d (e ∷ []) low (omega (arith, size, low, long))
                (false_from_ne_true (enters_as (name_in hour (number + 1)) e)
                (λ h. let last = (enters-only hour (number + 1) e (with_place hour e old) can h).1 in absurd (omega (arith, last, long, size, low))))
                (ap (λ ts. get_or ts (number + 1) d) same ∙ get_or_append_left old (nothing ∷ []) d (number + 1) (omega (arith, size, low)))
            | inr high ↦
                let is : length (entries hour before) ≡ number = omega (arith, at_most, count, high) in
                let told : (get_or new (number + 1) d).place ≡ length before =
                ap (λ (t : Tally). t.place) (changes (number + 1) d (omega (arith, size, is, long)))
                ∙ place-new (name_in hour (number + 1)) moment (length before) e (get_or (with_place hour e old) (number + 1) d)
                (enters-last hour (number + 1) e (with_place hour e old) can own (omega (arith, size, is, long))) in
                subst (IsPlaceOf (and_then before e) (entries hour before ++ e ∷ []) number) (sym told) (record {
                  within = (let more = length_push before e in omega (arith, more));
                  is = λ x. get_or_push before e x (length before) refl ∙ sym (get_or_push (entries hour before) e x number is);
                })
          ])

-- so they do where it enters nothing
places-same : (hour : ℕ) (before : List Event) (e : Event) (tallies : List Tally) → enters_in hour e ≡ false → ArePlaces before hour tallies
    → ArePlaces (and_then before e) hour tallies
places-same hour before e tallies none were number d within =
    let all : entries hour (and_then before e) ≡ entries hour before =
    filter-append (enters_in hour) before (e ∷ []) ∙ ap (λ b. entries hour before ++ cond b (e ∷ []) []) none ∙ append-nil (entries hour before) in
    let was = were number d (subst (λ es. number < length es) all within) in
    record {
      within = (let low = was.within in let more = length_push before e in omega (arith, low, more));
      is = λ x. get_or_append_left before (e ∷ []) x (get_or tallies (number + 1) d).place was.within ∙ was.is x ∙ sym (ap (λ es. get_or es number x) all);
    }

-- ---- the list of an hour

-- the first part of the list of an hour
pub listed-first : (hour count : ℕ) (events : List Event) → take (length (listed hour (take count events))) (listed hour events) ≡ listed hour (take count events)
listed-first hour count events =
    ap (λ es. take (length (listed hour (take count events))) (listed hour es)) (sym (take-append-drop count events))
    ∙ ap (take (length (listed hour (take count events)))) (listed-append hour (take count events) (drop count events))
    ∙ take_at (listed hour (take count events)) (listed hour (drop count events)) (length (listed hour (take count events))) refl

-- each event of a list of its own touches the hour
pub listed-touches : (hour place : ℕ) (events list : List Event) (e : Event) → has_list hour ≡ true → list ≡ listed hour events → place < length list → e ≡ get_or list place e
    → touches hour e ≡ true
listed-touches hour place events list e own is within at =
    (from_filter (touches hour) e events
    (subst (IsIn e) (is ∙ ap (λ b. if b then of_hour hour events else events) own) (item_at_place list place e within at))).1

-- a first part of a history is one
pub first-history : (count : ℕ) (events : List Event) → IsSomeHistory events → IsSomeHistory (take count events)
first-history count events history = record {
  setup = history.setup;
  fit = fit-front history.setup [] (take count events) (drop count events) (subst (FitAfter history.setup []) (sym (take-append-drop count events)) history.fit);
}

-- the sums over the events of a list
pub record SumsSoFar (list : List Event) (hour : ℕ) (tallies : List Tally) (moment : ℕ) : Type 0 where
  pub size : length tallies ≡ entered_in list hour + 1
  pub tell : AreTallies list hour tallies
  pub places : ArePlaces list hour tallies
  pub moment_is : moment ≡ length (of_hour hour list)

module _ (events : List Event) (hour : ℕ) (tallies : List Tally) (moment : ℕ) (history : IsSomeHistory events) where
  list-near : IsNear hour events (listed hour events)
  list-near = listed_near hour events (listed hour events) refl

  -- are those over all events, and those over all events are these
  pub sums-of : SumsSoFar (listed hour events) hour tallies moment → AreSumsOf events hour tallies moment (length (listed hour events))
  sums-of so_far = record {
    size = so_far.size ∙ ap (λ n. n + 1) (near-entered hour events (listed hour events) list-near);
    tell = near-tallies hour events (listed hour events) history list-near tallies so_far.tell;
    places = so_far.places;
    moment_is = so_far.moment_is ∙ ap length ((near-agree hour events (listed hour events) history list-near).same hour (inl refl));
    place_is = refl;
  }

  pub sums-on : (place : ℕ) → AreSumsOf events hour tallies moment place → SumsSoFar (listed hour events) hour tallies moment
  sums-on place sums = record {
    size = sums.size ∙ ap (λ n. n + 1) (sym (near-entered hour events (listed hour events) list-near));
    tell = tallies-agree hour (listed hour events) events tallies (near-agree hour events (listed hour events) history list-near) sums.tell;
    places = sums.places;
    moment_is = sums.moment_is ∙ sym (ap length ((near-agree hour events (listed hour events) history list-near).same hour (inl refl)));
  }

-- those that were summed up before, over the first part of the list
pub sums-begun : (events : List Event) (hour : ℕ) (sums : OrderSums) → IsSomeHistory events → AreSums events hour sums
    → SumsSoFar (take sums.place (listed hour events)) hour sums.tallies.items sums.moment
sums-begun events hour sums history are =
    subst (λ list. SumsSoFar list hour sums.tallies.items sums.moment)
    (sym (ap (λ n. take n (listed hour events)) are.of_first.place_is ∙ listed-first hour sums.count events))
    (sums-on (take sums.count events) hour sums.tallies.items sums.moment (first-history sums.count events history) sums.place are.of_first)

-- one event more of the list
module _ (hour : ℕ) (events list : List Event) (place : ℕ) (e : Event) (here : IsNearAt hour events list place e) (within : place < length list)
    (old : List Tally) (moment : ℕ) (so_far : SumsSoFar (take place list) hour old moment) where
  counted : length old ≡ length (entries hour (take place list)) + 1
  counted = so_far.size ∙ ap (λ n. n + 1) (sym (length-filter (enters_in hour) (take place list)))

  pub sums-can : CanTakeIn hour e (with_place hour e old)
  sums-can =
      near-can hour events list place e here (with_place hour e old) (near-placed_more hour events list place e here old so_far.size so_far.tell)
      (near-size hour events list place e here old so_far.size)

  -- it is taken in where it touches the hour
  pub sums-taken : (new : List Tally) → touches hour e ≡ true → length new ≡ length (with_place hour e old)
      → ((number : ℕ) (d : Tally) → number < length (with_place hour e old)
      → get_or new number d ≡ after_event (record { hour = hour; number = number }) (moment + 1) place e (get_or (with_place hour e old) number d))
      → SumsSoFar (take (place + 1) list) hour new (moment + 1)
  sums-taken new touch size changes = record {
    size = size ∙ near-size hour events list place e here old so_far.size;
    tell = near-taken hour events list place e here (moment + 1) place (with_place hour e old) new touch (ap (λ n. n + 1) so_far.moment_is) size changes
        (near-placed_more hour events list place e here old so_far.size so_far.tell);
    places = subst (λ es. ArePlaces es hour new) (sym here.more)
        (places-more hour (moment + 1) (take place list) e old new counted sums-can
        (λ number d low. changes number d low ∙ ap (λ at. after_event (name_in hour number) (moment + 1) at e (get_or (with_place hour e old) number d))
        (sym (length-take-le place list (omega (arith, within))))) so_far.places);
    moment_is = ap (λ n. n + 1) so_far.moment_is ∙ sym (count-more hour (take place list) e touch) ∙ ap (λ es. length (of_hour hour es)) (sym here.more);
  }

  -- and passed over where it does not
  pub sums-passed : touches hour e ≡ false → SumsSoFar (take (place + 1) list) hour old moment
  sums-passed touch = record {
    size = near-size_same hour events list place e here old touch so_far.size;
    tell = near-passed hour events list place e here old touch so_far.tell;
    places = subst (λ es. ArePlaces es hour old) (sym here.more) (places-same hour (take place list) e old (enters-elsewhere hour e touch) so_far.places);
    moment_is = so_far.moment_is ∙ sym (count-same hour (take place list) e touch) ∙ ap (λ es. length (of_hour hour es)) (sym here.more);
  }

-- ---- the orders at these places

given-name : (hour : ℕ) (e : Event) (order : Placed) → order_given hour e ≡ Some order → name_given hour e ≡ Some order.name
given-name hour (event.Entered given caller entering) order is = go (nat_eq given.hour hour) is
  where
    go : (b : Bool) → (if b then Some (record { name = given; caller = caller; order = entering }) else None) ≡ Some order → (if b then Some given else None) ≡ Some order.name
    go true is = let same : record { name = given; caller = caller; order = entering } ≡ order = cc in ap (λ (o : Placed). Some o.name) same
    go false is = absurd (cc)
given-name hour _ order is = absurd (cc)

-- the next name by an hour after so many
next : (setup : Setup) (before : List Event) (hour number : ℕ) (given : OrderName) (own : ℕ) (name : OrderName) → given ≡ next_name before own
    → entered_in before hour ≡ number → (b : Bool) → nat_eq given.hour hour ≡ b → (if b then Some given else None) ≡ Some name → name.number ≡ number + 1
next setup before hour number given own name named count true h is =
    let same : given ≡ name = cc in
    let there : own ≡ hour = sym (ap (λ (n : OrderName). n.hour) named) ∙ eqb-true given.hour hour h in
    let number_is : given.number ≡ entered_in before own + 1 = ap (λ (n : OrderName). n.number) named in
    sym (ap (λ (n : OrderName). n.number) same) ∙ number_is ∙ ap (λ n. n + 1) (ap (entered_in before) there ∙ count)
next setup before hour number given own name named count false h is = absurd (cc)

-- an event that gives a name after so many others gives the next number
numbered : (setup : Setup) (before : List Event) (hour number : ℕ) (e : Event) (name : OrderName) → Fits setup before e → entered_in before hour ≡ number
    → name_given hour e ≡ Some name → name.number ≡ number + 1
numbered setup before hour number (event.Entered given caller order) name fits count is =
    next setup before hour number given order.contract.hour name fits.named count (nat_eq given.hour hour) refl is
numbered setup before hour number (event.EnteredBlock given caller order) name fits count is =
    next setup before hour number given order.first name fits.named count (nat_eq given.hour hour) refl is
numbered setup before hour number _ name fits count is = absurd (cc)

-- the order that the event of a number among those that enter by an hour enters
pub entry-order : (events : List Event) (hour number : ℕ) (e : Event) (order : Placed) → IsSomeHistory events → number < length (entries hour events)
    → e ≡ get_or (entries hour events) number e → order_given hour e ≡ Some order → OrderAt events hour order × (order.name.number ≡ number + 1)
entry-order events hour number e order history within is given =
    let found : StandsAt (enters_in hour) events number e = stands-at (enters_in hour) events number e within is in
    let at : IsAt events found.there e = at_place events found.there e history found.within found.is in
    let count : entered_in (take found.there events) hour ≡ number =
    sym (length-filter (enters_in hour) (take found.there events)) ∙ ap length (sym found.before) ∙ length-take-le number (entries hour events) (omega (arith, within)) in (
      order-in events hour order history (IsIn-filter_map (order_given hour) e order events (item_at_place events found.there e found.within found.is) given),
      numbered at.setup (take found.there events) hour number e order.name at.fits count (given-name hour e order given),
    )

-- ---- the open orders among those that entered

-- the orders of some entries that are open, as they stand
abbrev pub open_among : (events : List Event) (hour : ℕ) (entering : List Event) → List Standing
open_among events hour entering = map (standing events) (filter (stands_open events) (filter_map (order_given hour) entering))

-- of all entries they are the open orders of the hour
pub open-all : (events : List Event) (hour : ℕ) → open_among events hour (entries hour events) ≡ open_orders events hour
open-all events hour =
    ap (λ orders. map (standing events) (filter (stands_open events) orders)) (picked-kept (order_given hour) (enters_in hour) events none ∙ kept-filter placed_by (is_order_of hour) events)
  where
    none : (e : Event) → enters_in hour e ≡ false → order_given hour e ≡ None
    none (event.Entered given caller order) h = rw h refl
    none _ h = refl

module _ (events : List Event) (hour number : ℕ) (e : Event) (tally : Tally) (history : IsSomeHistory events) (within : number < length (entries hour events))
    (is : e ≡ get_or (entries hour events) number e) (tells : Tells events (name_in hour (number + 1)) tally) where
  one-more : take (number + 1) (entries hour events) ≡ and_then (take number (entries hour events)) e
  one-more = take_more (entries hour events) number e within ∙ ap (λ x. take number (entries hour events) ++ x ∷ []) (sym is)

  told-of : (order : Placed) → order.name.number ≡ number + 1 → Tells events (name_in hour order.name.number) tally
  told-of order same = subst (λ n. Tells events (name_in hour n) tally) (sym same) tells

  -- the next entry: an order of which something is left
  pub open-next : (order : Placed) → order_given hour e ≡ Some order → 0 < tally.left → (HasSoundNumbers order.order) × (tally.filled ≤ order.order.quantity.0)
      × (open_among events hour (take (number + 1) (entries hour events)) ≡ open_among events hour (take number (entries hour events)) ++ standing_by tally order ∷ [])
  open-next order given some =
      let (at, same) = entry-order events hour number e order history within is given in
      let stands = at.stands tally (told-of order same) in (
        at.sound,
        stands.1,
        filtered-listed-more (order_given hour) (stands_open events) (standing events) (take (number + 1) (entries hour events)) (take number (entries hour events)) e order
            one-more given (at.opens tally (told-of order same) some)
            ∙ ap (λ s. open_among events hour (take number (entries hour events)) ++ s ∷ []) (sym stands.0),
      )

  -- no order
  pub none-next : order_given hour e ≡ None
      → open_among events hour (take (number + 1) (entries hour events)) ≡ open_among events hour (take number (entries hour events))
  none-next none =
      ap (λ orders. map (standing events) (filter (stands_open events) orders))
      (listed-same (order_given hour) (take (number + 1) (entries hour events)) (take number (entries hour events)) e one-more none)

  -- nothing is left of it
  pub closed-next : tally.left ≤ 0 → open_among events hour (take (number + 1) (entries hour events)) ≡ open_among events hour (take number (entries hour events))
  closed-next closed = go (order_given hour e) refl
    where
      go : (o : Option Placed) → order_given hour e ≡ o
          → open_among events hour (take (number + 1) (entries hour events)) ≡ open_among events hour (take number (entries hour events))
      go None none = none-next none
      go (Some order) given =
          let (at, same) = entry-order events hour number e order history within is given in
          ap (map (standing events))
          (filtered-same (order_given hour) (stands_open events) (take (number + 1) (entries hour events)) (take number (entries hour events)) e order one-more given
          (at.closes tally (told-of order same) closed))

-- ---- the tallies of the entries: all but the first

-- an item that is there
some-item : {X : Type 0} (xs : List X) (i : ℕ) → i < length xs → (x : X) × (x ≡ get_or xs i x)
some-item [] i within = absurd (omega arith)
some-item (x ∷ xs) zero within = (x, refl)
some-item (x ∷ xs) (suc i) within = some-item xs i (omega arith)

but-first : (tallies : List Tally) → length (take (length tallies - 1) (drop 1 tallies)) ≡ length tallies - 1
but-first tallies = let rest = length-drop 1 tallies in length-take-le (length tallies - 1) (drop 1 tallies) (omega (arith, rest))

but-first-at : (tallies : List Tally) (i : ℕ) (d : Tally) → get_or (take (length tallies - 1) (drop 1 tallies)) i d ≡ get_or tallies (i + 1) d
but-first-at [] i d = refl
but-first-at (t ∷ tallies) i d =
    let next : suc i ≡ i + 1 = omega arith in
    ap (λ ts. get_or ts i d) (take_all (length (t ∷ tallies) - 1) tallies (omega arith)) ∙ ap (λ n. get_or (t ∷ tallies) n d) next

-- one of them, with the event that entered its order or block
pub record IsEntryAt (events list : List Event) (hour number : ℕ) (tally : Tally) : Type 0 where
  pub entry : Event
  pub low : number < length (entries hour events)
  pub entry_is : entry ≡ get_or (entries hour events) number entry
  pub within : tally.place < length list
  pub is : (e : Event) → get_or list tally.place e ≡ get_or (entries hour events) number e
  pub tells : Tells events (name_in hour (number + 1)) tally

module _ (events list : List Event) (hour : ℕ) (tallies lent : List Tally) (moment place number : ℕ) where
  pub entry-at : (d : Tally) → list ≡ listed hour events → lent ≡ tallies → AreSumsOf events hour tallies moment place
      → number < length (take (length lent - 1) (drop 1 lent)) → IsEntryAt events list hour number (get_or (take (length lent - 1) (drop 1 lent)) number d)
  entry-at d is same sums within =
      let size = sums.size in
      let count = length-filter (enters_in hour) events in
      let shorter = but-first lent in
      let long : length lent ≡ length tallies = ap length same in
      let low : number < length (entries hour events) = omega (arith, size, count, shorter, long, within) in
      let there = near-entries hour events (listed hour events) (listed_near hour events (listed hour events) refl) in
      let told = sums.places number d (subst (λ es. number < length es) (sym there) low) in
      let tally_is : get_or (take (length lent - 1) (drop 1 lent)) number d ≡ get_or tallies (number + 1) d =
      but-first-at lent number d ∙ ap (λ ts. get_or ts (number + 1) d) same in
      let some = some-item (entries hour events) number low in
      subst (IsEntryAt events list hour number) (sym tally_is) (record {
        entry = some.0;
        low = low;
        entry_is = some.1;
        within = subst (λ es. (get_or tallies (number + 1) d).place < length es) (sym is) told.within;
        is = λ e. ap (λ es. get_or es (get_or tallies (number + 1) d).place e) is ∙ told.is e ∙ ap (λ es. get_or es number e) there;
        tells = sums.tell (number + 1) d (omega (arith, size, count, low));
      })

  pub all-entries : lent ≡ tallies → AreSumsOf events hour tallies moment place → length (take (length lent - 1) (drop 1 lent)) ≤ number
      → open_among events hour (take number (entries hour events)) ≡ open_among events hour (entries hour events)
  all-entries same sums past =
      let size = sums.size in
      let count = length-filter (enters_in hour) events in
      let shorter = but-first lent in
      let long : length lent ≡ length tallies = ap length same in
      ap (open_among events hour) (take_all number (entries hour events) (omega (arith, size, count, shorter, long, past)))
