-- Moments are kept until a peak is emptied, and nobody who comes later gets an earlier one.
use Rattle.std.proofs.Common.{◌≡◌, ◌∙◌, ◌⊎◌, inl, inr, ℕ, ◌+◌, ◌<◌, ◌≤◌, Bool, true, false, List, [], ◌∷◌, ◌++◌, length, length-append, Some, eq-eqb, refl, sym, ap, subst, if◌then◌else◌, arith}
use Rattle.std.proofs.lemmas.Bool.{true≢false, and_parts}
use Rattle.std.proofs.lemmas.List.{append-nil}
use Rattle.std.proofs.Math.Seq.{append_snoc}
use Rattle.order_kinds.specs.declared.contract.Contract.{Contract}
use Rattle.zone_graph.specs.Route.{IsIn}
use Rattle.market_model.specs.declared.event.Event.{Event}
use Rattle.market_model.specs.declared.event.Event.TheVariants as event
use Rattle.market_model.specs.declared.event.Leg.{Leg}
use Rattle.market_model.specs.declared.setup.Setup.{Setup}
use Rattle.market_model.specs.History.{and_then, of_hour, touches}
use Rattle.market_model.specs.Orders.{Placed, ends_peak, filled, gives_moment, last_place, last_place_from, moment, names, placed, placed_by}
use Rattle.market_model.specs.WellFormed.{FitAfter, Fits}
use Rattle.laws_of_market.proofs.Members.{from_filter_map}
use Rattle.laws_of_market.proofs.Names.{names-once, order_name-new, times_entered}
use Rattle.laws_of_market.proofs.Placed.{all_are_sound, from_picked-more, picked-stays}
use Rattle.laws_of_market.proofs.Repeats.{fit-more}
use Rattle.laws_of_market.proofs.Tests.{same_name-eq, same_name-refl}
use Rattle.laws_of_market.proofs.Unique.{enters-placed, times-some}
use Rattle.laws_of_market.proofs.LocalMoments.{filled-hour, hour-more, hour-same, moment-more}
use Rattle.laws_of_market.specs.QueueOrder.{EmptiesAPeak, KeepsMoment}

-- an event is a leg that empties a peak of an order
record EmptiesBy (before : List Event) (e : Event) (order : Placed) : Type 0 where
  contract : Contract
  leg : Leg
  is : e ≡ event.Leg contract leg
  is_of : names leg order.name ≡ true
  ends : ends_peak order.order.kind (filled (and_then before (event.Leg contract leg)) order.name) ≡ true

-- an order that entered has a name that was given
pub given_order : (events : List Event) (order : Placed) → IsIn order (placed events) → 1 ≤ times_entered events order.name
given_order events order h = let x = from_filter_map placed_by order events h in times-some order.name x.0 events x.1 (enters-placed order x.0 x.2)

module _ (setup : Setup) (before : List Event) (fit : FitAfter setup [] before) (order : Placed) (there : IsIn order (placed before)) where
  -- what gives an order that is there a moment empties a peak of it
  empties : (e : Event) → Fits setup before e → gives_moment order (of_hour order.name.hour before) e ≡ true → EmptiesBy before e order
  empties (event.Entered given caller entering) fits gives =
      let some = given_order before order there in
      let new = order_name-new setup before given caller entering (names-once setup before fit) fits in
      let none : times_entered before order.name ≡ 0 = subst (λ n. times_entered before n ≡ 0) (same_name-eq given order.name gives) new in
      absurd (omega (arith, some, none))
  empties (event.Leg contract leg) fits gives =
      let e : Event = event.Leg contract leg in
      let both = and_parts (names leg order.name) (ends_peak order.order.kind (filled (and_then (of_hour order.name.hour before) e) order.name)) gives in
      record {
        contract = contract;
        leg = leg;
        is = refl;
        is_of = both.0;
        ends = ap (ends_peak order.order.kind) (sym (filled-hour setup order.name.hour before e order.name fit (fit-more setup before e fit fits) refl)) ∙ both.1;
      }
  empties _ fits gives = absurd (true≢false (sym gives))

  -- so one more event keeps the moment of an order, or empties a peak of it
  kept-by : (e : Event) → Fits setup before e → (moment (and_then before e) order ≡ moment before order) ⊎ EmptiesBy before e order
  kept-by e fits = go (touches order.name.hour e) refl
    where
      at_its_hour : touches order.name.hour e ≡ true → (g : Bool) → gives_moment order (of_hour order.name.hour before) e ≡ g
          → (moment (and_then before e) order ≡ moment before order) ⊎ EmptiesBy before e order
      at_its_hour t true gives = inr (empties e fits gives)
      at_its_hour t false gives =
          inl (moment-more order.name.hour before e order t refl
          ∙ ap (λ b. if b then length (of_hour order.name.hour before) + 1 else moment before order) gives)

      go : (t : Bool) → touches order.name.hour e ≡ t → (moment (and_then before e) order ≡ moment before order) ⊎ EmptiesBy before e order
      go true t = at_its_hour t (gives_moment order (of_hour order.name.hour before) e) refl
      go false t = inl (ap (last_place (gives_moment order)) (hour-same order.name.hour before e t))

-- a peak that is emptied by the first of some events, or by a later one
empties-now : (before : List Event) (e : Event) (more : List Event) (order : Placed) → EmptiesBy before e order → EmptiesAPeak before (e ∷ more) order
empties-now before e more order is = record {
  front = [];
  back = more;
  contract = is.contract;
  leg = is.leg;
  split = ap (λ x. x ∷ more) is.is;
  is_of = is.is_of;
  ends = subst (λ b. ends_peak order.order.kind (filled (and_then b (event.Leg is.contract is.leg)) order.name) ≡ true) (sym (append-nil before)) is.ends;
}

empties-later : (before : List Event) (e : Event) (more : List Event) (order : Placed) → EmptiesAPeak (and_then before e) more order → EmptiesAPeak before (e ∷ more) order
empties-later before e more order is = record {
  front = e ∷ is.front;
  back = is.back;
  contract = is.contract;
  leg = is.leg;
  split = ap (λ es. e ∷ es) is.split;
  is_of = is.is_of;
  ends = subst (λ b. ends_peak order.order.kind (filled (and_then b (event.Leg is.contract is.leg)) order.name) ≡ true) (append_snoc before e is.front) is.ends;
}

pub moments-kept : (setup : Setup) (before more : List Event) (order : Placed) → FitAfter setup [] before → FitAfter setup before more → IsIn order (placed before)
    → KeepsMoment before more order
moments-kept setup before [] order fit fits there = inl (ap (λ b. moment b order) (append-nil before))
moments-kept setup before (e ∷ more) order fit fits there =
    elim (kept-by setup before fit order there e fits.0) [
      | inr is ↦ inr (empties-now before e more order is)
      | inl same ↦ elim (moments-kept setup (and_then before e) more order (fit-more setup before e fit fits.0) fits.1 (picked-stays placed_by order before (e ∷ []) there)) [
        | inr later ↦ inr (empties-later before e more order later)
        | inl kept ↦ inl (ap (λ b. moment b order) (sym (append_snoc before e more)) ∙ kept ∙ same)
      ]
    ]

-- ---- who has an earlier moment

-- a moment is no later than the last event of its hour
last_place-most : (test : List Event → Event → Bool) (before : List Event) (found : ℕ) (events : List Event) → found ≤ length before
    → last_place_from test before found events ≤ length before + length events
last_place-most test before found [] most = omega (arith, most)
last_place-most test before found (e ∷ events) most =
    let size = length-append before (e ∷ []) in
    let rest = last_place-most test (and_then before e) (if test before e then length before + 1 else found) events (by (test before e)) in
    omega (arith, rest, size)
  where
    by : (b : Bool) → (if b then length before + 1 else found) ≤ length (and_then before e)
    by true = let size = length-append before (e ∷ []) in omega (arith, size)
    by false = let size = length-append before (e ∷ []) in omega (arith, size, most)

pub moment-most : (events : List Event) (order : Placed) → moment events order ≤ length (of_hour order.name.hour events)
moment-most events order = let most = last_place-most (gives_moment order) [] 0 (of_hour order.name.hour events) (omega arith) in omega (arith, most)

-- an order was there at the start with the moment that it has, or has a later one than all that were
abbrev IsLater : (before V : List Event) → Placed → Type 0
IsLater before V other = (IsIn other (placed before) × (moment V other ≡ moment before other)) ⊎ (length (of_hour other.name.hour before) < moment V other)

-- the event that enters an order gives it a moment in its hour
entry-gives : (e : Event) (other : Placed) (before : List Event) → placed_by e ≡ Some other → (touches other.name.hour e ≡ true) × (gives_moment other before e ≡ true)
entry-gives (event.Entered given caller entering) other before is =
    let same : record { name = given; caller = caller; order = entering } ≡ other = cc in
    subst (λ (o : Placed). (touches o.name.hour (event.Entered given caller entering) ≡ true) × (gives_moment o before (event.Entered given caller entering) ≡ true)) same
    (eq-eqb given.hour given.hour refl, same_name-refl given)
entry-gives _ other before is = absurd (cc)

-- the events of an hour do not become fewer
hour-grows : (hour : ℕ) (V : List Event) (e : Event) → length (of_hour hour V) ≤ length (of_hour hour (and_then V e))
hour-grows hour V e = go (touches hour e) refl
  where
    go : (t : Bool) → touches hour e ≡ t → length (of_hour hour V) ≤ length (of_hour hour (and_then V e))
    go true t = let size = length-append (of_hour hour V) (e ∷ []) in rw (hour-more hour V e t) (omega (arith, size))
    go false t = rw (hour-same hour V e t) (omega arith)

later-step : (before V : List Event) (e : Event) (other : Placed) → length (of_hour other.name.hour before) ≤ length (of_hour other.name.hour V)
    → (IsIn other (placed V) → IsLater before V other) → IsIn other (placed (and_then V e)) → IsLater before (and_then V e) other
later-step before V e other size so_far there = go (touches other.name.hour e) refl
  where
    stays : (moment (and_then V e) other ≡ moment V other) → (placed_by e ≡ Some other → ⊥) → IsLater before (and_then V e) other
    stays same old = elim (from_picked-more placed_by other V e there) [
      | inr new ↦ absurd (old new)
      | inl i ↦ elim (so_far i) [
        | inl was ↦ inl (was.0, same ∙ was.1)
        | inr late ↦ inr (omega (arith, same, late))
      ]
    ]

    at_its_hour : touches other.name.hour e ≡ true → (g : Bool) → gives_moment other (of_hour other.name.hour V) e ≡ g → IsLater before (and_then V e) other
    at_its_hour t true gives =
        let now : moment (and_then V e) other ≡ length (of_hour other.name.hour V) + 1 =
        moment-more other.name.hour V e other t refl ∙ ap (λ b. if b then length (of_hour other.name.hour V) + 1 else moment V other) gives in
        inr (omega (arith, now, size))
    at_its_hour t false gives =
        stays (moment-more other.name.hour V e other t refl ∙ ap (λ b. if b then length (of_hour other.name.hour V) + 1 else moment V other) gives)
        (λ new. true≢false (sym (entry-gives e other (of_hour other.name.hour V) new).1 ∙ gives))

    go : (t : Bool) → touches other.name.hour e ≡ t → IsLater before (and_then V e) other
    go true t = at_its_hour t (gives_moment other (of_hour other.name.hour V) e) refl
    go false t = stays (ap (last_place (gives_moment other)) (hour-same other.name.hour V e t)) (λ new. true≢false (sym (entry-gives e other [] new).0 ∙ t))

later : (before V more : List Event) (other : Placed) → length (of_hour other.name.hour before) ≤ length (of_hour other.name.hour V)
    → (IsIn other (placed V) → IsLater before V other) → IsIn other (placed (V ++ more)) → IsLater before (V ++ more) other
later before V [] other size so_far there =
    subst (λ v. IsLater before v other) (sym (append-nil V)) (so_far (subst (λ v. IsIn other (placed v)) (append-nil V) there))
later before V (e ∷ more) other size so_far there =
    let grows = hour-grows other.name.hour V e in
    subst (λ v. IsLater before v other) (append_snoc V e more)
    (later before (and_then V e) more other (omega (arith, size, grows)) (later-step before V e other size so_far)
    (subst (λ v. IsIn other (placed v)) (sym (append_snoc V e more)) there))

pub none-overtakes : (setup : Setup) (before more : List Event) (order other : Placed) → FitAfter setup [] (before ++ more) → IsIn order (placed before)
    → IsIn other (placed (before ++ more)) → order.order.contract.hour ≡ other.order.contract.hour
    → (IsIn other (placed before) → moment before order ≤ moment before other)
    → moment (before ++ more) order ≡ moment before order → moment (before ++ more) order ≤ moment (before ++ more) other
none-overtakes setup before more order other fit there other_there same_hour first kept =
    let sound = all_are_sound setup (before ++ more) fit in
    let hour : order.name.hour ≡ other.name.hour =
    (sound.orders order (picked-stays placed_by order before more there)).named ∙ same_hour ∙ sym (sound.orders other other_there).named in
    let most : moment before order ≤ length (of_hour other.name.hour before) =
    subst (λ h. moment before order ≤ length (of_hour h before)) hour (moment-most before order) in
    elim (later before before more other (omega arith) (λ i. inl (i, refl)) other_there) [
      | inl was ↦ let least = first was.0 in let same = was.1 in omega (arith, least, same, kept)
      | inr late ↦ omega (arith, late, most, kept)
    ]
