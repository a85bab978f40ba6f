-- Each event uses no more capacity than remained before it, so that something from nothing on
-- remains.
use Rattle.std.proofs.Common.{◌≡◌, ◌⊎◌, inl, inr, ℕ, ◌+◌, ◌-◌, ◌≤◌, ◌&&◌, Bool, true, false, not, List, [], ◌∷◌, fold, map, min, nat_eq, nat_le, nat_lt, ℤ, pos, negsuc, ◌-ℤ◌, ◌≤ℤ◌, eqb-true, refl, sym, subst, if◌then◌else◌, arith}
use Rattle.std.proofs.lemmas.Bool.{le-leb, leb-true, ltb-true, true≢false, and_parts, and_from, or_cases}
use Rattle.std.proofs.lemmas.Int.{ints}
use Rattle.std.specs.List.{list_any}
use Rattle.order_kinds.specs.declared.contract.Contract.{Contract}
use Rattle.order_kinds.specs.declared.contract.Quarter.{Quarter}
use Rattle.order_kinds.specs.Contract.{covers, quarters}
use Rattle.order_kinds.specs.Period.{block_has, block_quarters, contract_has, contract_quarters, hour_quarters, hours_from, is_not_after, is_quarter, is_within, quarter_of, range_has, range_quarters}
use Rattle.quarter_capacity.specs.Capacity.{flow_of, remaining_of}
use Rattle.zone_graph.specs.declared.route.Arc.{Arc}
use Rattle.zone_graph.specs.Pour.{opposite_arc, same_arc, uses}
use Rattle.zone_graph.specs.Route.{IsIn}
use Rattle.zone_graph.proofs.Membership.{IsIn-filter, IsIn-flat_map, IsIn-map, IsIn-range}
use Rattle.zone_graph.proofs.Arcs.{same_arc-is, IsIn-uses, opposite-twice, if_free}
use Rattle.market_model.specs.declared.event.Event.{Event}
use Rattle.market_model.specs.declared.event.Event.TheVariants as event
use Rattle.market_model.specs.declared.setup.Setup.{Setup}
use Rattle.market_model.specs.Capacity.{allocated, allocated_by, flow, offered, remaining}
use Rattle.market_model.specs.History.{and_then}
use Rattle.market_model.specs.Room.{is_halted, is_open_phase, least, lots_of, phase_of, quarter_room, room}
use Rattle.market_model.specs.WellFormed.{Fits, FitAfter}
use Rattle.laws_of_market.proofs.Capacities.{allocated-more, offered-more}
use Rattle.laws_of_market.proofs.Growing.{grows}

-- ---- what the tests of arcs and quarters tell

any-is : {X : Type 0} (p : X → Bool) (xs : List X) → list_any p xs ≡ true → (x : X) × IsIn x xs × (p x ≡ true)
any-is p [] e = absurd (true≢false (sym e))
any-is p (x ∷ xs) e = elim (or_cases (p x) (list_any p xs) e) [
  | inl h ↦ (x, inl refl, h)
  | inr h ↦ let r = any-is p xs h in (r.0, inr r.1, r.2)
]

quarter-eta : (quarter : Quarter) (hour number : ℕ) → hour ≡ quarter.hour → number ≡ quarter.number → quarter_of hour number ≡ quarter
quarter-eta quarter hour number h n = λ i. record { hour = h i; number = n i }

-- a quarter in which a contract delivers is one of its quarters
pub contract_has-is : (contract : Contract) (quarter : Quarter) → contract_has contract quarter ≡ true → IsIn quarter (contract_quarters contract)
contract_has-is contract quarter h =
    let both = and_parts (nat_eq contract.hour quarter.hour) (covers contract.part quarter.number) h in
    let hour : contract.hour ≡ quarter.hour = eqb-true contract.hour quarter.hour both.0 in
    let found = any-is (λ number. nat_eq number quarter.number) (quarters contract.part) both.1 in
    let number : found.0 ≡ quarter.number = eqb-true found.0 quarter.number found.2 in
    subst (λ q. IsIn q (contract_quarters contract)) (quarter-eta quarter contract.hour found.0 hour number)
    (IsIn-map (quarter_of contract.hour) found.0 (quarters contract.part) found.1)

-- one of an hour's four quarters is listed among them
hour_quarters-is : (quarter : Quarter) → is_quarter quarter ≡ true → IsIn quarter (hour_quarters quarter.hour)
hour_quarters-is quarter h =
    let both = and_parts (nat_le 1 quarter.number) (nat_le quarter.number 4) h in
    go quarter.number refl (leb-true 1 quarter.number both.0) (leb-true quarter.number 4 both.1)
  where
    go : (n : ℕ) → quarter.number ≡ n → 1 ≤ n → n ≤ 4 → IsIn quarter (hour_quarters quarter.hour)
    go n e low high =
        subst (λ q. IsIn q (hour_quarters quarter.hour)) (quarter-eta quarter quarter.hour n refl (sym e))
        (IsIn-map (quarter_of quarter.hour) n (1 ∷ 2 ∷ 3 ∷ 4 ∷ []) (listed n low high))
      where
        listed : (n : ℕ) → 1 ≤ n → n ≤ 4 → IsIn n (1 ∷ 2 ∷ 3 ∷ 4 ∷ [])
        listed n low high = IsIn-range n 1 4 low (omega arith)

-- a quarter of hours of a period is one of the period's
block_quarters-is : (first last : ℕ) (quarter : Quarter) → is_within first last quarter.hour ≡ true → is_quarter quarter ≡ true → IsIn quarter (block_quarters first last)
block_quarters-is first last quarter within quartered =
    let both = and_parts (nat_le first quarter.hour) (nat_le quarter.hour last) within in
    let low = leb-true first quarter.hour both.0 in
    let high = leb-true quarter.hour last both.1 in
    IsIn-flat_map hour_quarters quarter.hour quarter (hours_from first last)
    (IsIn-range quarter.hour first (last + 1 - first) low (omega arith)) (hour_quarters-is quarter quartered)

pub block_has-is : (first last : ℕ) (quarter : Quarter) → block_has first last quarter ≡ true → IsIn quarter (block_quarters first last)
block_has-is first last quarter h =
    let both = and_parts (is_within first last quarter.hour) (is_quarter quarter) h in block_quarters-is first last quarter both.0 both.1

-- the hour of a quarter that is not after another is not either
pub not_after-hours : (a b : Quarter) → is_not_after a b ≡ true → a.hour ≤ b.hour
not_after-hours a b h = elim (or_cases (nat_lt a.hour b.hour) (nat_eq a.hour b.hour && nat_le a.number b.number) h) [
  | inl l ↦ let less = ltb-true a.hour b.hour l in omega arith
  | inr e ↦ let both = and_parts (nat_eq a.hour b.hour) (nat_le a.number b.number) e in
      let same : a.hour ≡ b.hour = eqb-true a.hour b.hour both.0 in omega arith
]

pub range_has-is : (first last quarter : Quarter) → range_has first last quarter ≡ true → IsIn quarter (range_quarters first last)
range_has-is first last quarter h =
    let both = and_parts (is_quarter quarter && is_not_after first quarter) (is_not_after quarter last) h in
    let front = and_parts (is_quarter quarter) (is_not_after first quarter) both.0 in
    let low = not_after-hours first quarter front.1 in
    let high = not_after-hours quarter last both.1 in
    let within : is_within first.hour last.hour quarter.hour ≡ true =
    and_from (nat_le first.hour quarter.hour) (nat_le quarter.hour last.hour) (le-leb first.hour quarter.hour low) (le-leb quarter.hour last.hour high) in
    IsIn-filter (λ q. is_not_after first q && is_not_after q last) quarter (block_quarters first.hour last.hour)
    (block_quarters-is first.hour last.hour quarter within front.0)
    (and_from (is_not_after first quarter) (is_not_after quarter last) front.1 both.1)

-- ---- what remains, as a difference of numbers

-- the lots that remain
abbrev pub free : List Event → Quarter → Arc → ℕ
free events quarter arc = offered events quarter arc + allocated events quarter (opposite_arc arc) - allocated events quarter arc

pub lots_of-is : (z : ℤ) (more less : ℕ) → z ≡ pos more -ℤ pos less → lots_of z ≡ more - less
lots_of-is (pos n) more less e = omega (arith, ints)
lots_of-is (negsuc n) more less e = omega (arith, ints)

pub lots_of-remaining : (offer there back : ℕ) → lots_of (remaining_of offer (flow_of there back)) ≡ offer + back - there
lots_of-remaining offer there back =
    let same : remaining_of offer (flow_of there back) ≡ pos (offer + back) -ℤ pos there = omega (arith, ints) in
    lots_of-is (remaining_of offer (flow_of there back)) (offer + back) there same

-- no room is more than what remains
pub quarter_room-le : (events : List Event) (arc : Arc) (quarter : Quarter) → quarter_room events arc quarter ≤ free events quarter arc
quarter_room-le events arc quarter =
    let lots = lots_of-remaining (offered events quarter arc) (allocated events quarter arc) (allocated events quarter (opposite_arc arc)) in
    go (is_open_phase (phase_of events quarter.hour) && not (is_halted events arc.border quarter.hour)) lots
  where
    go : (b : Bool) → lots_of (remaining events quarter arc) ≡ free events quarter arc
        → (if b then lots_of (remaining events quarter arc) else 0) ≤ free events quarter arc
    go true e = omega arith
    go false e = omega arith

least-from : (n : ℕ) (ns : List ℕ) → (fold min n ns ≤ n) × ((m : ℕ) → IsIn m ns → fold min n ns ≤ m)
least-from n [] = (omega arith, λ m h. absurd h)
least-from n (k ∷ ns) =
    let rest = least-from (min n k) ns in (
      let most = rest.0 in omega arith,
      λ m h. elim h [
        | inl e ↦ (let most = rest.0 in omega arith)
        | inr i ↦ rest.1 m i
      ],
    )

-- the least is none of the others' more
least-le : (ns : List ℕ) (m : ℕ) → IsIn m ns → least ns ≤ m
least-le [] m h = absurd h
least-le (n ∷ ns) m h = elim h [ inl e ↦ (let most = (least-from n ns).0 in omega arith) | inr i ↦ (least-from n ns).1 m i ]

-- the room over several quarters is no more than that in any of them
pub room-le : (events : List Event) (quarters : List Quarter) (arc : Arc) (quarter : Quarter) → IsIn quarter quarters → room events quarters arc ≤ quarter_room events arc quarter
room-le events quarters arc quarter h =
    least-le (map (quarter_room events arc) quarters) (quarter_room events arc quarter) (IsIn-map (quarter_room events arc) quarter quarters h)

-- ---- what an event uses

-- an event that fits uses no more than is free
pub uses-free : (setup : Setup) (before : List Event) (e : Event) → Fits setup before e → (quarter : Quarter) (arc : Arc)
    → allocated_by quarter arc e ≤ free before quarter arc
uses-free setup before (event.Leg contract leg) fits quarter arc =
    if_free (contract_has contract quarter && uses leg.route arc) leg.lots (free before quarter arc) (λ h.
    let both = and_parts (contract_has contract quarter) (uses leg.route arc) h in
    let has = fits.carried.has_room arc (IsIn-uses leg.route arc both.1) in
    let in_quarter = room-le before (contract_quarters contract) arc quarter (contract_has-is contract quarter both.0) in
    let most = quarter_room-le before arc quarter in omega arith)
uses-free setup before (event.BlockLeg first last leg) fits quarter arc =
    if_free (block_has first last quarter && uses leg.route arc) leg.lots (free before quarter arc) (λ h.
    let both = and_parts (block_has first last quarter) (uses leg.route arc) h in
    let has = fits.carried.has_room arc (IsIn-uses leg.route arc both.1) in
    let in_quarter = room-le before (block_quarters first last) arc quarter (block_has-is first last quarter both.0) in
    let most = quarter_room-le before arc quarter in omega arith)
uses-free setup before (event.Granted granted first last lots) fits quarter arc =
    if_free (range_has first last quarter && same_arc granted arc) lots (free before quarter arc) (λ h.
    let both = and_parts (range_has first last quarter) (same_arc granted arc) h in
    let same : granted ≡ arc = same_arc-is granted arc both.1 in
    let has : lots ≤ quarter_room before arc quarter = subst (λ a. lots ≤ quarter_room before a quarter) same (fits.has_room quarter (range_has-is first last quarter both.0)) in
    let most = quarter_room-le before arc quarter in omega arith)
uses-free setup before _ fits quarter arc = omega arith

-- ---- nothing is oversold

-- on each arc and in each quarter no more is allocated than is offered and allocated the other way,
-- and no more is offered than may be
pub record IsWithinOffers (events : List Event) : Type 0 where
  pub covered : (quarter : Quarter) (arc : Arc) → allocated events quarter arc ≤ offered events quarter arc + allocated events quarter (opposite_arc arc)
  pub most : (quarter : Quarter) (arc : Arc) → offered events quarter arc ≤ 1000000

covers_flow-lots : (there back lots : ℕ) → flow_of there back ≤ℤ pos lots → there ≤ lots + back
covers_flow-lots there back lots h = omega (arith, ints)

-- what is offered after one more event: its own offer, which covers the flow, or what was offered
offer_after : (setup : Setup) (before : List Event) (e : Event) → Fits setup before e → (quarter : Quarter) (arc : Arc)
    → (offered (and_then before e) quarter arc ≡ offered before quarter arc)
    ⊎ ((allocated_by quarter arc e ≡ 0) × (allocated before quarter arc ≤ offered (and_then before e) quarter arc + allocated before quarter (opposite_arc arc))
    × (offered (and_then before e) quarter arc ≤ 1000000))
offer_after setup before (event.Offered given first last lots) fits quarter arc =
    go (range_has first last quarter && same_arc given arc) refl
  where
    go : (b : Bool) → (range_has first last quarter && same_arc given arc) ≡ b
        → (offered (and_then before (event.Offered given first last lots)) quarter arc ≡ offered before quarter arc)
        ⊎ ((◌≡◌ {A = ℕ} 0 0) × (allocated before quarter arc ≤ offered (and_then before (event.Offered given first last lots)) quarter arc + allocated before quarter (opposite_arc arc))
        × (offered (and_then before (event.Offered given first last lots)) quarter arc ≤ 1000000))
    go false e = inl (rw (offered-more before (event.Offered given first last lots) quarter arc, e) refl)
    go true e =
        let both = and_parts (range_has first last quarter) (same_arc given arc) e in
        let same : given ≡ arc = same_arc-is given arc both.1 in
        let now : offered (and_then before (event.Offered given first last lots)) quarter arc ≡ lots =
        rw (offered-more before (event.Offered given first last lots) quarter arc, e) refl in
        let flows = subst (λ a. flow before quarter a ≤ℤ pos lots) same (fits.covers_flow quarter (range_has-is first last quarter both.0)) in
        let within = covers_flow-lots (allocated before quarter arc) (allocated before quarter (opposite_arc arc)) lots flows in
        let most = fits.most in
        inr (refl, omega arith, omega arith)
offer_after setup before e fits quarter arc = inl (offered-more before e quarter arc)

within-fit : (setup : Setup) (before : List Event) (e : Event) → IsWithinOffers before → Fits setup before e → IsWithinOffers (and_then before e)
within-fit setup before e within fits = record {
  covered = λ quarter arc.
      let had = within.covered quarter arc in
      let used = uses-free setup before e fits quarter arc in
      rw (allocated-more before e quarter arc, allocated-more before e quarter (opposite_arc arc)) (elim (offer_after setup before e fits quarter arc) [
        | inl same ↦ omega arith
        | inr new ↦ (let none = new.0 in let covers = new.1 in omega arith)
      ]);
  most = λ quarter arc. elim (offer_after setup before e fits quarter arc) [
    | inl same ↦ (let had = within.most quarter arc in omega arith)
    | inr new ↦ new.2
  ];
}

-- a history whose events fit stays within the offers
pub within_offers : (setup : Setup) (events : List Event) → FitAfter setup [] events → IsWithinOffers events
within_offers setup events fit =
    grows setup IsWithinOffers (within-fit setup) [] events fit (record { covered = λ quarter arc. omega arith; most = λ quarter arc. omega arith })

remaining-bounds : (offer other there back : ℕ) → there ≤ offer + back → back ≤ other + there → offer ≤ 1000000 → other ≤ 1000000
    → (pos 0 ≤ℤ remaining_of offer (flow_of there back)) × (remaining_of offer (flow_of there back) ≤ℤ pos 2000000)
remaining-bounds offer other there back covered back_covered most other_most = (omega (arith, ints), omega (arith, ints))

-- so something from nothing to 200000.0 MW remains on each arc in each quarter
pub remaining-within : (events : List Event) → IsWithinOffers events → (quarter : Quarter) (arc : Arc)
    → (pos 0 ≤ℤ remaining events quarter arc) × (remaining events quarter arc ≤ℤ pos 2000000)
remaining-within events within quarter arc =
    let back : allocated events quarter (opposite_arc arc) ≤ offered events quarter (opposite_arc arc) + allocated events quarter arc =
    subst (λ a. allocated events quarter (opposite_arc arc) ≤ offered events quarter (opposite_arc arc) + allocated events quarter a) (opposite-twice arc) (within.covered quarter (opposite_arc arc)) in
    remaining-bounds (offered events quarter arc) (offered events quarter (opposite_arc arc)) (allocated events quarter arc) (allocated events quarter (opposite_arc arc))
    (within.covered quarter arc) back (within.most quarter arc) (within.most quarter (opposite_arc arc))

-- and what is free is what remains
free-remaining : (offer there back lots : ℕ) → there ≤ offer + back → lots ≤ offer + back - there → pos lots ≤ℤ remaining_of offer (flow_of there back)
free-remaining offer there back lots covered most = omega (arith, ints)

-- each event uses no more than remained
pub uses-remaining : (setup : Setup) (before : List Event) (e : Event) → IsWithinOffers before → Fits setup before e → (quarter : Quarter) (arc : Arc)
    → pos (allocated_by quarter arc e) ≤ℤ remaining before quarter arc
uses-remaining setup before e within fits quarter arc =
    free-remaining (offered before quarter arc) (allocated before quarter arc) (allocated before quarter (opposite_arc arc)) (allocated_by quarter arc e)
    (within.covered quarter arc) (uses-free setup before e fits quarter arc)
