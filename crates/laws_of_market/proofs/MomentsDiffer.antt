-- No two orders of one line have one moment.
use Rattle.std.proofs.Common.{◌≡◌, ◌∙◌, ◌≢◌, ◌⊎◌, inl, inr, ℕ, ◌+◌, Bool, true, false, List, [], ◌∷◌, ◌++◌, length, length-append, Some, append_assoc, eq-eqb, refl, sym, ap, subst, if◌then◌else◌, arith}
use Rattle.std.proofs.lemmas.Bool.{true≢false, and_parts, or_cases}
use Rattle.std.proofs.lemmas.List.{append-nil}
use Rattle.order_kinds.specs.declared.contract.Contract.{Contract}
use Rattle.order_kinds.specs.declared.side.Side.{Side}
use Rattle.order_kinds.specs.declared.side.Side.TheVariants.{Buy, Sell}
use Rattle.order_kinds.specs.Same.{same_name}
use Rattle.order_kinds.specs.Side.{opposite}
use Rattle.zone_graph.specs.Route.{IsIn}
use Rattle.zone_graph.proofs.Membership.{from_filter, IsIn-filter, IsIn-right}
use Rattle.market_model.specs.declared.event.Event.{Event}
use Rattle.market_model.specs.declared.event.Event.TheVariants as event
use Rattle.market_model.specs.declared.event.Leg.{Leg}
use Rattle.market_model.specs.declared.setup.Setup.{Setup}
use Rattle.market_model.specs.History.{and_then, of_hour, touches}
use Rattle.market_model.specs.Orders.{Placed, gives_moment, last_place_from, moment, names, placed, placed_by}
use Rattle.market_model.specs.WellFormed.{FitAfter, LegFits}
use Rattle.laws_of_market.proofs.Growing.{fit-back}
use Rattle.laws_of_market.proofs.Members.{from_filter_map}
use Rattle.laws_of_market.proofs.Names.{names-once}
use Rattle.laws_of_market.proofs.Placed.{all_are_sound, picked-stays}
use Rattle.laws_of_market.proofs.Tests.{same_name-eq, same_name-refl}
use Rattle.laws_of_market.proofs.Unique.{one_order}

-- a place, counted from 1 behind what comes before, at which an event passes a test
record IsPlace (test : List Event → Event → Bool) (before events : List Event) (place : ℕ) : Type 0 where
  front : List Event
  at : Event
  back : List Event
  split : events ≡ front ++ (at ∷ back)
  passes : test (before ++ front) at ≡ true
  counted : place ≡ length before + length front + 1

-- one more event in front
place-behind : (test : List Event → Event → Bool) (before : List Event) (e : Event) (events : List Event) (place : ℕ)
    → IsPlace test (and_then before e) events place → IsPlace test before (e ∷ events) place
place-behind test before e events place is = record {
  front = e ∷ is.front;
  at = is.at;
  back = is.back;
  split = ap (λ es. e ∷ es) is.split;
  passes = subst (λ b. test b is.at ≡ true) (append_assoc before (e ∷ []) is.front) is.passes;
  counted = let more = length-append before (e ∷ []) in let own = is.counted in omega (arith, more, own);
}

-- the last place is what was found before, or such a place
last_place-is : (test : List Event → Event → Bool) (before : List Event) (found : ℕ) (events : List Event)
    → (last_place_from test before found events ≡ found) ⊎ IsPlace test before events (last_place_from test before found events)
last_place-is test before found [] = inl refl
last_place-is test before found (e ∷ events) = go (λ n. last_place-is test (and_then before e) n events) (test before e) refl
  where
    rest : ℕ → ℕ
    rest n = last_place_from test (and_then before e) n events

    go : ((n : ℕ) → (rest n ≡ n) ⊎ IsPlace test (and_then before e) events (rest n)) → (t : Bool) → test before e ≡ t
        → (rest (if t then length before + 1 else found) ≡ found) ⊎ IsPlace test before (e ∷ events) (rest (if t then length before + 1 else found))
    go later true is = elim (later (length before + 1)) [
      | inl same ↦ inr (record { front = []; at = e; back = events; split = refl; passes = subst (λ b. test b e ≡ true) (sym (append-nil before)) is; counted = omega (arith, same) })
      | inr place ↦ inr (place-behind test before e events (rest (length before + 1)) place)
    ]
    go later false is = elim (later found) [
      | inl same ↦ inl same
      | inr place ↦ inr (place-behind test before e events (rest found) place)
    ]

-- where an event passes a test after any events, there is such a place
place-some : (test : List Event → Event → Bool) (before : List Event) (found : ℕ) (events : List Event) (some : Event) → IsIn some events
    → ((b : List Event) → test b some ≡ true) → IsPlace test before events (last_place_from test before found events)
place-some test before found [] some h always = absurd h
place-some test before found (e ∷ events) some h always =
    elim h [
      | inl s ↦ first (subst (λ x. test before x ≡ true) s (always before))
      | inr i ↦ place-behind test before e events _ (place-some test (and_then before e) _ events some i always)
    ]
  where
    first : test before e ≡ true → IsPlace test before (e ∷ events) (last_place_from test before found (e ∷ events))
    first is = rw is (elim (last_place-is test (and_then before e) (length before + 1) events) [
      | inl same ↦ record { front = []; at = e; back = events; split = refl; passes = subst (λ b. test b e ≡ true) (sym (append-nil before)) is; counted = omega (arith, same) }
      | inr place ↦ place-behind test before e events (last_place_from test (and_then before e) (length before + 1) events) place
    ])

-- at one place there is one event
one_place : (xs : List Event) (x : Event) (xs_back : List Event) (ys : List Event) (y : Event) (ys_back : List Event)
    → xs ++ (x ∷ xs_back) ≡ ys ++ (y ∷ ys_back) → length xs ≡ length ys → (xs ≡ ys) × (x ≡ y)
one_place [] x xs_back [] y ys_back same sizes = (refl, let heads : x ≡ y = cc in heads)
one_place [] x xs_back (w ∷ ys) y ys_back same sizes = absurd (omega (arith, sizes))
one_place (v ∷ xs) x xs_back [] y ys_back same sizes = absurd (omega (arith, sizes))
one_place (v ∷ xs) x xs_back (w ∷ ys) y ys_back same sizes =
    let heads : v ≡ w = cc in
    let tails : xs ++ (x ∷ xs_back) ≡ ys ++ (y ∷ ys_back) = cc in
    let rest = one_place xs x xs_back ys y ys_back tails (omega (arith, sizes)) in
    (ap (λ z. z ∷ xs) heads ∙ ap (λ zs. w ∷ zs) rest.0, rest.1)

opposite-other : (side : Side) → side ≢ opposite side
opposite-other Buy is = absurd (cc)
opposite-other Sell is = absurd (cc)

-- an order in a history has the event of its entry, which gives it a moment
record HasEntry (events : List Event) (order : Placed) : Type 0 where
  at : Event
  is_there : IsIn at (of_hour order.name.hour events)
  gives : (before : List Event) → gives_moment order before at ≡ true

entry-of : (events : List Event) (order : Placed) → IsIn order (placed events) → HasEntry events order
entry-of events order h =
    let x = from_filter_map placed_by order events h in by_event x.0 order x.1 x.2
  where
    by_event : (e : Event) (found : Placed) → IsIn e events → placed_by e ≡ Some found → HasEntry events found
    by_event (event.Entered given caller entering) found i is =
        let same : record { name = given; caller = caller; order = entering } ≡ found = cc in
        subst (HasEntry events) same (record {
          at = event.Entered given caller entering;
          is_there = IsIn-filter (touches given.hour) (event.Entered given caller entering) events i (eq-eqb given.hour given.hour refl);
          gives = λ before. same_name-refl given;
        })
    by_event _ found i is = absurd (cc)

-- where an event stands in a history
record Stands (e : Event) (events : List Event) : Type 0 where
  front : List Event
  back : List Event
  split : events ≡ front ++ (e ∷ back)

stands : (e : Event) (events : List Event) → IsIn e events → Stands e events
stands e [] h = absurd h
stands e (x ∷ events) h = elim h [
  | inl s ↦ record { front = []; back = events; split = ap (λ y. y ∷ events) (sym s) }
  | inr i ↦ let rest = stands e events i in record { front = x ∷ rest.front; back = rest.back; split = ap (λ es. x ∷ es) rest.split }
]

module _ (setup : Setup) (events : List Event) (fit : FitAfter setup [] events) where
  -- the two sides of a leg are of opposite sides
  leg-opposed : (contract : Contract) (leg : Leg) → IsIn (event.Leg contract leg) events → (taker maker : Placed) → IsIn taker (placed events) → IsIn maker (placed events)
      → leg.taker ≡ taker.name → leg.maker ≡ maker.name → maker.order.side ≡ opposite taker.order.side
  leg-opposed contract leg i taker maker taker_placed maker_placed is_taker is_maker =
      let at = stands (event.Leg contract leg) events i in
      let fits : LegFits setup at.front contract leg = (fit-back setup [] at.front (event.Leg contract leg ∷ at.back) (subst (FitAfter setup []) at.split fit)).0 in
      let stays : (order : Placed) → IsIn order (placed at.front) → IsIn order (placed events) =
      λ order p. subst (λ es. IsIn order (placed es)) (sym at.split) (picked-stays placed_by order at.front (event.Leg contract leg ∷ at.back) p) in
      let one = one_order events (names-once setup events fit) in
      let its_taker : fits.taker ≡ taker = one fits.taker taker (stays fits.taker fits.taker_open.is_placed) taker_placed (fits.taker_open.is_named ∙ is_taker) in
      let its_maker : fits.maker ≡ maker = one fits.maker maker (stays fits.maker fits.maker_open.is_placed) maker_placed (fits.maker_open.is_named ∙ is_maker) in
      ap (λ (p : Placed). p.order.side) (sym its_maker) ∙ fits.opposed ∙ ap (λ (p : Placed). opposite p.order.side) its_taker

  -- one event gives a moment to one order of a side alone
  one-moment : (one other : Placed) → IsIn one (placed events) → IsIn other (placed events) → one.order.side ≡ other.order.side → (before : List Event) (e : Event)
      → IsIn e events → gives_moment one before e ≡ true → gives_moment other before e ≡ true → one.name ≡ other.name
  one-moment one other one_placed other_placed side before (event.Entered given caller entering) i of_one of_other =
      sym (same_name-eq given one.name of_one) ∙ same_name-eq given other.name of_other
  one-moment one other one_placed other_placed side before (event.Leg contract leg) i of_one of_other =
      let names_one = (and_parts (names leg one.name) _ of_one).0 in
      let names_other = (and_parts (names leg other.name) _ of_other).0 in
      elim (or_cases (same_name leg.taker one.name) (same_name leg.maker one.name) names_one) [
        | inl t ↦ elim (or_cases (same_name leg.taker other.name) (same_name leg.maker other.name) names_other) [
          | inl u ↦ sym (same_name-eq leg.taker one.name t) ∙ same_name-eq leg.taker other.name u
          | inr m ↦ absurd (opposite-other one.order.side (side ∙ leg-opposed contract leg i one other one_placed other_placed
              (same_name-eq leg.taker one.name t) (same_name-eq leg.maker other.name m)))
        ]
        | inr m ↦ elim (or_cases (same_name leg.taker other.name) (same_name leg.maker other.name) names_other) [
          | inl u ↦ absurd (opposite-other other.order.side (sym side ∙ leg-opposed contract leg i other one other_placed one_placed
              (same_name-eq leg.taker other.name u) (same_name-eq leg.maker one.name m)))
          | inr n ↦ sym (same_name-eq leg.maker one.name m) ∙ same_name-eq leg.maker other.name n
        ]
      ]
  one-moment one other one_placed other_placed side before _ i of_one of_other = absurd (true≢false (sym of_one))

  -- where an order's moment is
  moment-place : (order : Placed) → IsIn order (placed events) → IsPlace (gives_moment order) [] (of_hour order.name.hour events) (moment events order)
  moment-place order h =
      let entry = entry-of events order h in
      place-some (gives_moment order) [] 0 (of_hour order.name.hour events) entry.at entry.is_there entry.gives

  pub moments-differ : (one other : Placed) → IsIn one (placed events) → IsIn other (placed events) → one.order.contract ≡ other.order.contract
      → one.order.side ≡ other.order.side → moment events one ≡ moment events other → one ≡ other
  moments-differ one other one_placed other_placed contract side same =
      let sound = all_are_sound setup events fit in
      let hour : one.name.hour ≡ other.name.hour = (sound.orders one one_placed).named ∙ ap (λ (c : Contract). c.hour) contract ∙ sym (sound.orders other other_placed).named in
      let a = moment-place one one_placed in
      let b = moment-place other other_placed in
      let splits : a.front ++ (a.at ∷ a.back) ≡ b.front ++ (b.at ∷ b.back) = sym a.split ∙ ap (λ h. of_hour h events) hour ∙ b.split in
      let counts : length a.front ≡ length b.front = let first = a.counted in let second = b.counted in omega (arith, first, second, same) in
      let one_at = one_place a.front a.at a.back b.front b.at b.back splits counts in
      let there : IsIn a.at (of_hour one.name.hour events) = subst (IsIn a.at) (sym a.split) (IsIn-right a.at a.front (a.at ∷ a.back) (inl refl)) in
      let passes : gives_moment other ([] ++ a.front) a.at ≡ true = subst (λ e. gives_moment other a.front e ≡ true) (sym one_at.1)
      (subst (λ front. gives_moment other front b.at ≡ true) (sym one_at.0) b.passes) in
      one_order events (names-once setup events fit) one other one_placed other_placed
      (one-moment one other one_placed other_placed side a.front a.at (from_filter (touches one.name.hour) a.at events there).0 a.passes passes)
