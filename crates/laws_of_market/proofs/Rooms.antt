-- The rooms after a leg that they have room for.
use Rattle.std.proofs.Common.{◌≡◌, ◌∙◌, ◌⊎◌, inl, inr, ℕ, zero, suc, ◌+◌, ◌-◌, ◌≤◌, Bool, true, false, ◌&&◌, not, List, [], ◌∷◌, fold, map, min, ◌*◌, ◌||◌, nat_eq, nat_le, flat_map, None, unwrap_or, ℤ, eq-eqb, refl, sym, ap, ap₂, subst, if◌then◌else◌, arith}
use Rattle.std.proofs.lemmas.Bool.{le-leb, leb-true, true≢false, and_parts, and_from}
use Rattle.std.specs.List.{list_any, range_with_len}
use Rattle.order_kinds.specs.declared.contract.Contract.{Contract}
use Rattle.order_kinds.specs.declared.contract.Part.{Part}
use Rattle.order_kinds.specs.declared.contract.Part.TheVariants as part
use Rattle.order_kinds.specs.declared.contract.Quarter.{Quarter}
use Rattle.order_kinds.specs.declared.phase.Phase.{Phase}
use Rattle.order_kinds.specs.Contract.{covers, is_known, quarters}
use Rattle.order_kinds.specs.Period.{EachQuarter, block_has, block_quarters, contract_has, contract_quarters, hour_quarters, hours_from, is_quarter, is_within, quarter_of}
use Rattle.zone_graph.specs.declared.route.Arc.{Arc}
use Rattle.zone_graph.specs.Pour.{lots_if, opposite_arc, room_after, uses}
use Rattle.zone_graph.specs.Route.{IsIn}
use Rattle.zone_graph.proofs.Membership.{from_flat_map, from_map, from_range}
use Rattle.zone_graph.proofs.Arcs.{opposite-twice, IsIn-uses, if_free}
use Rattle.market_model.specs.declared.event.Event.{Event}
use Rattle.market_model.specs.declared.event.Event.TheVariants as event
use Rattle.market_model.specs.declared.event.Leg.{Leg}
use Rattle.market_model.specs.Capacity.{allocated, allocated_by, offered, offered_by, remaining}
use Rattle.market_model.specs.History.{and_then}
use Rattle.market_model.specs.Room.{halt_by, is_halted, is_open_phase, phase_by, least, lots_of, phase_of, quarter_room, room}
use Rattle.laws_of_market.proofs.Capacities.{allocated-more, last_said-more, offered-more}
use Rattle.laws_of_market.proofs.Uses.{IsWithinOffers, block_has-is, contract_has-is, free, lots_of-remaining, quarter_room-le, room-le}
use Rattle.order_kinds.specs.declared.phase.Phase.TheVariants as phase

-- a border is not halted and the hour is open
abbrev is_free : List Event → Arc → Quarter → Bool
is_free events arc quarter = is_open_phase (phase_of events quarter.hour) && not (is_halted events arc.border quarter.hour)

quarter_room-is : (events : List Event) (arc : Arc) (quarter : Quarter)
    → quarter_room events arc quarter ≡ (if is_free events arc quarter then free events quarter arc else 0)
quarter_room-is events arc quarter =
    ap (λ n. if is_free events arc quarter then n else 0)
    (lots_of-remaining (offered events quarter arc) (allocated events quarter arc) (allocated events quarter (opposite_arc arc)))

any-in : (n : ℕ) (ns : List ℕ) → IsIn n ns → list_any (λ m. nat_eq m n) ns ≡ true
any-in n [] h = absurd h
any-in n (m ∷ ns) h = go (nat_eq m n) refl h (λ i. any-in n ns i)
  where
    go : (b : Bool) → nat_eq m n ≡ b → (n ≡ m) ⊎ IsIn n ns → (IsIn n ns → list_any (λ k. nat_eq k n) ns ≡ true) → (b || list_any (λ k. nat_eq k n) ns) ≡ true
    go true e i rest = refl
    go false e i rest = elim i [ inl s ↦ absurd (true≢false (sym (eq-eqb m n (sym s)) ∙ e)) | inr j ↦ rest j ]

-- a contract delivers in its quarters
pub quarter-of_contract : (contract : Contract) (quarter : Quarter) → IsIn quarter (contract_quarters contract) → contract_has contract quarter ≡ true
quarter-of_contract contract quarter i =
    let x = from_map (quarter_of contract.hour) quarter (quarters contract.part) i in
    subst (λ (q : Quarter). contract_has contract q ≡ true) (sym x.2)
    (and_from (nat_eq contract.hour contract.hour) (covers contract.part x.0) (eq-eqb contract.hour contract.hour refl) (any-in x.0 (quarters contract.part) x.1))

-- a contract has a quarter
some_quarter : (p : Part) → (first : ℕ) × (rest : List ℕ) × (quarters p ≡ first ∷ rest)
some_quarter part.Hour = (1, 2 ∷ 3 ∷ 4 ∷ [], refl)
some_quarter (part.Quarter number) = (number, [], refl)
some_quarter (part.Half number) = (2 * number - 1, (2 * number) ∷ [], refl)

-- the least of numbers that all rise and fall by the same
fold-shift : (f g : Quarter → ℕ) (more less n m : ℕ) (qs : List Quarter) → m ≡ (n + more) - less
    → ((q : Quarter) → IsIn q qs → g q ≡ (f q + more) - less) → fold min m (map g qs) ≡ (fold min n (map f qs) + more) - less
fold-shift f g more less n m [] first each = first
fold-shift f g more less n m (q ∷ qs) first each =
    let own = each q (inl refl) in
    fold-shift f g more less (min n (f q)) (min m (g q)) qs (omega (arith, first, own)) (λ x i. each x (inr i))

least-shift : (f g : Quarter → ℕ) (more less : ℕ) (q : Quarter) (qs : List Quarter)
    → ((x : Quarter) → IsIn x (q ∷ qs) → g x ≡ (f x + more) - less) → least (map g (q ∷ qs)) ≡ (least (map f (q ∷ qs)) + more) - less
least-shift f g more less q qs each = fold-shift f g more less (f q) (g q) qs (each q (inl refl)) (λ x i. each x (inr i))

-- an event by which a route carries lots in some quarters, and which changes nothing else of capacity
record IsCarriedBy (e : Event) (quarters : List Quarter) (route : List Arc) (lots : ℕ) : Type 0 where
  delivers : Quarter → Bool
  delivers-in : (quarter : Quarter) → delivers quarter ≡ true → IsIn quarter quarters
  in-delivers : (quarter : Quarter) → IsIn quarter quarters → delivers quarter ≡ true
  uses-is : (quarter : Quarter) (arc : Arc) → allocated_by quarter arc e ≡ lots_if (delivers quarter && uses route arc) lots
  offers_none : (quarter : Quarter) (arc : Arc) → offered_by quarter arc e ≡ None
  gates_none : (hour : ℕ) → phase_by hour e ≡ None
  halts_none : (border hour : ℕ) → halt_by border hour e ≡ None
  first : Quarter
  others : List Quarter
  are : quarters ≡ first ∷ others

module _ (events : List Event) (e : Event) (quarters : List Quarter) (route : List Arc) (lots : ℕ) (carries : IsCarriedBy e quarters route lots)
    (within : IsWithinOffers events) (some : 1 ≤ lots) (has : (arc : Arc) → IsIn arc route → lots ≤ room events quarters arc) where
  uses-free : (quarter : Quarter) (arc : Arc) → allocated_by quarter arc e ≤ free events quarter arc
  uses-free quarter arc =
      let most = if_free (carries.delivers quarter && uses route arc) lots (free events quarter arc) (λ h.
      let both = and_parts (carries.delivers quarter) (uses route arc) h in
      let most = has arc (IsIn-uses route arc both.1) in
      let in_quarter = room-le events quarters arc quarter (carries.delivers-in quarter both.0) in
      let in_free = quarter_room-le events arc quarter in omega arith) in
      omega (arith, most, carries.uses-is quarter arc)

  offered-same : (quarter : Quarter) (arc : Arc) → offered (and_then events e) quarter arc ≡ offered events quarter arc
  offered-same quarter arc = offered-more events e quarter arc ∙ ap (λ o. unwrap_or o (offered events quarter arc)) (carries.offers_none quarter arc)

  -- no more than is offered is used after it
  within-carried : IsWithinOffers (and_then events e)
  within-carried = record {
    covered = λ quarter arc.
        let had = within.covered quarter arc in
        let used = uses-free quarter arc in
        rw (allocated-more events e quarter arc, allocated-more events e quarter (opposite_arc arc), offered-same quarter arc) (omega arith);
    most = λ quarter arc. rw (offered-same quarter arc) (within.most quarter arc);
  }

  free-carried : (quarter : Quarter) (arc : Arc) → carries.delivers quarter ≡ true
      → free (and_then events e) quarter arc ≡ (free events quarter arc + lots_if (uses route (opposite_arc arc)) lots) - lots_if (uses route arc) lots
  free-carried quarter arc in_quarter =
      let had = within.covered quarter arc in
      let own : allocated_by quarter arc e ≡ lots_if (uses route arc) lots = carries.uses-is quarter arc ∙ ap (λ b. lots_if (b && uses route arc) lots) in_quarter in
      let back : allocated_by quarter (opposite_arc arc) e ≡ lots_if (uses route (opposite_arc arc)) lots =
      carries.uses-is quarter (opposite_arc arc) ∙ ap (λ b. lots_if (b && uses route (opposite_arc arc)) lots) in_quarter in
      rw (allocated-more events e quarter arc, allocated-more events e quarter (opposite_arc arc), offered-same quarter arc, own, back) (omega (arith, had))

  is_free-carried : (arc : Arc) (quarter : Quarter) → is_free (and_then events e) arc quarter ≡ is_free events arc quarter
  is_free-carried arc quarter =
      ap (λ p. is_open_phase p && not (is_halted (and_then events e) arc.border quarter.hour))
      (last_said-more (phase_by quarter.hour) phase.Open events e ∙ ap (λ o. unwrap_or o (phase_of events quarter.hour)) (carries.gates_none quarter.hour))
      ∙ ap (λ h. is_open_phase (phase_of events quarter.hour) && not h)
      (last_said-more (halt_by arc.border quarter.hour) false events e ∙ ap (λ o. unwrap_or o (is_halted events arc.border quarter.hour)) (carries.halts_none arc.border quarter.hour))

  quarter_room-carried : (arc : Arc) (quarter : Quarter) → IsIn quarter quarters
      → quarter_room (and_then events e) arc quarter ≡ (quarter_room events arc quarter + lots_if (uses route (opposite_arc arc)) lots) - lots_if (uses route arc) lots
  quarter_room-carried arc quarter i =
      quarter_room-is (and_then events e) arc quarter
      ∙ ap (λ b. if b then free (and_then events e) quarter arc else 0) (is_free-carried arc quarter)
      ∙ by (is_free events arc quarter) refl
      ∙ ap (λ n. (n + lots_if (uses route (opposite_arc arc)) lots) - lots_if (uses route arc) lots) (sym (quarter_room-is events arc quarter))
    where
      by : (b : Bool) → is_free events arc quarter ≡ b → (if b then free (and_then events e) quarter arc else 0)
          ≡ ((if b then free events quarter arc else 0) + lots_if (uses route (opposite_arc arc)) lots) - lots_if (uses route arc) lots
      by true is = free-carried quarter arc (carries.in-delivers quarter i)
      by false is = back (uses route (opposite_arc arc)) refl
        where
          back : (u : Bool) → uses route (opposite_arc arc) ≡ u → 0 ≡ (0 + lots_if u lots) - lots_if (uses route arc) lots
          back false u = omega arith
          back true u =
              let most = has (opposite_arc arc) (IsIn-uses route (opposite_arc arc) u) in
              let in_quarter = room-le events quarters (opposite_arc arc) quarter i in
              let none : quarter_room events (opposite_arc arc) quarter ≡ 0 =
              quarter_room-is events (opposite_arc arc) quarter ∙ ap (λ b. if b then free events quarter (opposite_arc arc) else 0) is in
              absurd (omega (arith, most, in_quarter, none, some))

  room-carried : (arc : Arc) → room (and_then events e) quarters arc ≡ room_after (room events quarters) (record { route = route; lots = lots }) arc
  room-carried arc =
      ap (λ qs. least (map (quarter_room (and_then events e) arc) qs)) carries.are
      ∙ least-shift (quarter_room events arc) (quarter_room (and_then events e) arc) (lots_if (uses route (opposite_arc arc)) lots) (lots_if (uses route arc) lots)
      carries.first carries.others (λ x i. quarter_room-carried arc x (subst (IsIn x) (sym carries.are) i))
      ∙ ap (λ qs. (least (map (quarter_room events arc) qs) + lots_if (uses route (opposite_arc arc)) lots) - lots_if (uses route arc) lots) (sym carries.are)

-- ---- a leg of orders

leg-carries : (contract : Contract) (leg : Leg) → IsCarriedBy (event.Leg contract leg) (contract_quarters contract) leg.route leg.lots
leg-carries contract leg =
    let q = some_quarter contract.part in
    record {
      delivers = contract_has contract;
      delivers-in = contract_has-is contract;
      in-delivers = quarter-of_contract contract;
      uses-is = λ quarter arc. refl;
      offers_none = λ quarter arc. refl;
      gates_none = λ hour. refl;
      halts_none = λ border hour. refl;
      first = quarter_of contract.hour q.0;
      others = map (quarter_of contract.hour) q.1;
      are = ap (map (quarter_of contract.hour)) q.2;
    }

module _ (events : List Event) (contract : Contract) (leg : Leg) (within : IsWithinOffers events) (some : 1 ≤ leg.lots)
    (has : (arc : Arc) → IsIn arc leg.route → leg.lots ≤ room events (contract_quarters contract) arc) where
  -- no more than is offered is used after it
  pub within-leg : IsWithinOffers (and_then events (event.Leg contract leg))
  within-leg = within-carried events (event.Leg contract leg) (contract_quarters contract) leg.route leg.lots (leg-carries contract leg) within some has

  -- the leg lowers the rooms of its arcs and raises those of the opposite ones
  pub room-leg : (arc : Arc) → room (and_then events (event.Leg contract leg)) (contract_quarters contract) arc
      ≡ room_after (room events (contract_quarters contract)) (record { route = leg.route; lots = leg.lots }) arc
  room-leg = room-carried events (event.Leg contract leg) (contract_quarters contract) leg.route leg.lots (leg-carries contract leg) within some has

-- ---- a leg of blocks

-- a block delivers in its quarters
one_of_four : (number : ℕ) → IsIn number (1 ∷ 2 ∷ 3 ∷ 4 ∷ []) → (1 ≤ number) × (number ≤ 4)
one_of_four number i = let within = from_range number 1 4 i in (within.0, omega (arith, within.1))

quarter-of_block : (first last : ℕ) (quarter : Quarter) → IsIn quarter (block_quarters first last) → block_has first last quarter ≡ true
quarter-of_block first last quarter i =
    let of_hour = from_flat_map hour_quarters quarter (hours_from first last) i in
    let hour = from_range of_hour.0 first (last + 1 - first) of_hour.1 in
    let of_number = from_map (quarter_of of_hour.0) quarter (1 ∷ 2 ∷ 3 ∷ 4 ∷ []) of_hour.2 in
    let number = one_of_four of_number.0 of_number.1 in
    subst (λ q. block_has first last q ≡ true) (sym of_number.2)
    (and_from (is_within first last of_hour.0) (is_quarter (quarter_of of_hour.0 of_number.0))
    (and_from (nat_le first of_hour.0) (nat_le of_hour.0 last) (le-leb first of_hour.0 hour.0) (le-leb of_hour.0 last (omega (arith, hour.0, hour.1))))
    (and_from (nat_le 1 of_number.0) (nat_le of_number.0 4) (le-leb 1 of_number.0 number.0) (le-leb of_number.0 4 number.1)))

-- and has a quarter
some_block_quarter : (first last : ℕ) → first ≤ last → (quarter : Quarter) × (others : List Quarter) × (block_quarters first last ≡ quarter ∷ others)
some_block_quarter first last most = by (last + 1 - first) (omega (arith, most))
  where
    by : (count : ℕ) → 1 ≤ count → (quarter : Quarter) × (others : List Quarter) × (flat_map hour_quarters (range_with_len first count) ≡ quarter ∷ others)
    by zero some = absurd (omega (arith, some))
    by (suc more) some = (quarter_of first 1, quarter_of first 2 ∷ quarter_of first 3 ∷ quarter_of first 4 ∷ flat_map hour_quarters (range_with_len (first + 1) more), refl)

block_leg-carries : (first last : ℕ) (leg : Leg) → first ≤ last → IsCarriedBy (event.BlockLeg first last leg) (block_quarters first last) leg.route leg.lots
block_leg-carries first last leg most =
    let q = some_block_quarter first last most in
    record {
      delivers = block_has first last;
      delivers-in = block_has-is first last;
      in-delivers = quarter-of_block first last;
      uses-is = λ quarter arc. refl;
      offers_none = λ quarter arc. refl;
      gates_none = λ hour. refl;
      halts_none = λ border hour. refl;
      first = q.0;
      others = q.1;
      are = q.2;
    }

-- the leg lowers the rooms of its arcs over the block's quarters and raises those of the opposite ones
pub room-block_leg : (events : List Event) (first last : ℕ) (leg : Leg) → first ≤ last → IsWithinOffers events → 1 ≤ leg.lots
    → ((arc : Arc) → IsIn arc leg.route → leg.lots ≤ room events (block_quarters first last) arc) → (arc : Arc)
    → room (and_then events (event.BlockLeg first last leg)) (block_quarters first last) arc
    ≡ room_after (room events (block_quarters first last)) (record { route = leg.route; lots = leg.lots }) arc
room-block_leg events first last leg most within some has =
    room-carried events (event.BlockLeg first last leg) (block_quarters first last) leg.route leg.lots (block_leg-carries first last leg most) within some has

-- ---- rooms that are kept

-- what is kept of an hour: its phase, whether a border is halted, and what remains of each quarter
module _ (events : List Event) (hour : ℕ) (arc : Arc) (at : Phase) (halted : Bool) (remains : ℕ → ℤ) (same_phase : at ≡ phase_of events hour)
    (same_halt : halted ≡ is_halted events arc.border hour) (same_rest : EachQuarter (λ number. remains number ≡ remaining events (quarter_of hour number) arc)) where
  abbrev kept_room : (number : ℕ) → ℕ
  kept_room number = if is_open_phase at && not halted then lots_of (remains number) else 0

  -- the room of a quarter is the one that the events leave
  pub kept_quarter-is : EachQuarter (λ number. kept_room number ≡ quarter_room events arc (quarter_of hour number))
  kept_quarter-is number first last =
      ap (λ p. given p halted (remains number)) same_phase
      ∙ ap (λ h. given (phase_of events hour) h (remains number)) same_halt
      ∙ ap (given (phase_of events hour) (is_halted events arc.border hour)) (same_rest number first last)
    where
      given : Phase → Bool → ℤ → ℕ
      given p h z = if is_open_phase p && not h then lots_of z else 0

  -- and so is that of a part of the hour
  pub kept_part-is : (p : Part) → is_known p ≡ true → least (map kept_room (quarters p)) ≡ room events (map (quarter_of hour) (quarters p)) arc
  kept_part-is part.Hour e =
      ap₂ min (ap₂ min (ap₂ min (kept_quarter-is 1 (omega arith) (omega arith)) (kept_quarter-is 2 (omega arith) (omega arith))) (kept_quarter-is 3 (omega arith) (omega arith)))
      (kept_quarter-is 4 (omega arith) (omega arith))
  kept_part-is (part.Quarter number) e =
      let both = and_parts (nat_le 1 number) (nat_le number 4) e in
      kept_quarter-is number (leb-true 1 number both.0) (leb-true number 4 both.1)
  kept_part-is (part.Half number) e =
      let both = and_parts (nat_le 1 number) (nat_le number 2) e in
      let low = leb-true 1 number both.0 in
      let high = leb-true number 2 both.1 in
      ap₂ min (kept_quarter-is (2 * number - 1) (omega arith) (omega arith)) (kept_quarter-is (2 * number) (omega arith) (omega arith))

-- ---- rooms together

-- the two rooms of a border come to no more than what is offered on both
pub rooms-together : (events : List Event) (contract : Contract) (arc : Arc) → IsWithinOffers events
    → room events (contract_quarters contract) arc + room events (contract_quarters contract) (opposite_arc arc) ≤ 2000000
rooms-together events contract arc within =
    let q = some_quarter contract.part in
    let first : Quarter = quarter_of contract.hour q.0 in
    let there : IsIn first (contract_quarters contract) = subst (IsIn first) (sym (ap (map (quarter_of contract.hour)) q.2)) (inl refl) in
    let own = room-le events (contract_quarters contract) arc first there in
    let back = room-le events (contract_quarters contract) (opposite_arc arc) first there in
    let own_free = quarter_room-le events arc first in
    let back_free = quarter_room-le events (opposite_arc arc) first in
    let own_most = within.most first arc in
    let back_most = within.most first (opposite_arc arc) in
    let twice : opposite_arc (opposite_arc arc) ≡ arc = opposite-twice arc in
    let same : allocated events first (opposite_arc (opposite_arc arc)) ≡ allocated events first arc = ap (allocated events first) twice in
    omega (arith, own, back, own_free, back_free, own_most, back_most, same)
