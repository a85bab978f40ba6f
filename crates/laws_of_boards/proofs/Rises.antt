-- Which rooms an event can raise.
use Rattle.std.proofs.Common.{◌≡◌, ◌∙◌, inl, inr, ℕ, ◌-◌, ◌*◌, ◌<◌, ◌≤◌, ◌&&◌, Bool, true, false, not, List, [], ◌∷◌, fold, map, min, nat_eq, Some, None, unwrap_or, refl, sym, ap, if◌then◌else◌, arith}
use Rattle.std.proofs.lemmas.Bool.{and_from, and_parts, ltb-true, true≢false}
use Rattle.order_kinds.specs.declared.contract.Contract.{Contract}
use Rattle.order_kinds.specs.declared.contract.Part.{Part}
use Rattle.order_kinds.specs.declared.contract.Part.TheVariants as part
use Rattle.order_kinds.specs.declared.contract.Quarter.{Quarter}
use Rattle.order_kinds.specs.declared.phase.Phase.{Phase}
use Rattle.order_kinds.specs.declared.phase.Phase.TheVariants as phase
use Rattle.order_kinds.specs.Contract.{quarters}
use Rattle.order_kinds.specs.Period.{contract_quarters, is_within, quarter_of}
use Rattle.order_kinds.specs.Phase.{is_later}
use Rattle.zone_graph.specs.declared.route.Arc.{Arc}
use Rattle.zone_graph.specs.Graph.{HasArc}
use Rattle.zone_graph.specs.Pour.{lots_if, opposite_arc}
use Rattle.zone_graph.specs.Route.{IsIn}
use Rattle.market_model.specs.declared.event.Event.{Event}
use Rattle.market_model.specs.declared.event.Event.TheVariants as event
use Rattle.market_model.specs.declared.setup.Setup.{Setup}
use Rattle.market_model.specs.Capacity.{allocated, allocated_by, offered, offered_by, remaining}
use Rattle.market_model.specs.Grid.{graph_of}
use Rattle.market_model.specs.History.{and_then}
use Rattle.market_model.specs.Room.{halt_by, is_halted, is_open_phase, least, lots_of, phase_by, phase_of, quarter_room}
use Rattle.market_model.specs.WellFormed.{Fits}
use Rattle.laws_of_market.proofs.Capacities.{allocated-more, last_said-more, offered-more}
use Rattle.laws_of_market.proofs.Uses.{free, lots_of-remaining, room-le}
use Rattle.laws_of_boards.specs.Fronts.{OpensNoArc}
use Rattle.laws_of_boards.specs.Quiet.{EventsRaiseTheirArcsAlone, HasRoomWhere, raises}

-- ---- one event and one arc in one quarter

module _ (quarter : Quarter) (arc : Arc) where
  -- what cannot raise a room allocates nothing on the opposite arc
  none_back : (e : Event) → raises e quarter arc ≡ false → allocated_by quarter (opposite_arc arc) e ≡ 0
  none_back (event.Leg contract leg) never = ap (λ b. lots_if b leg.lots) never
  none_back (event.BlockLeg first last leg) never = ap (λ b. lots_if b leg.lots) never
  none_back (event.Granted granted first last lots) never = ap (λ b. lots_if b lots) never
  none_back _ never = refl

  -- offers nothing on the arc
  none_offered : (e : Event) → raises e quarter arc ≡ false → offered_by quarter arc e ≡ None
  none_offered (event.Offered given first last lots) never = ap (λ b. if b then Some lots else None) never
  none_offered _ never = refl

  -- and resumes its border in no hour
  none_resumed : (before : List Event) (e : Event) → raises e quarter arc ≡ false → is_halted (and_then before e) arc.border quarter.hour ≡ false
      → is_halted before arc.border quarter.hour ≡ false
  none_resumed before (event.Halted border first last) never after =
      go (nat_eq border arc.border && is_within first last quarter.hour) (sym (last_said-more (halt_by arc.border quarter.hour) false before (event.Halted border first last)) ∙ after)
    where
      go : (b : Bool) → unwrap_or (if b then Some true else None) (is_halted before arc.border quarter.hour) ≡ false → is_halted before arc.border quarter.hour ≡ false
      go true is = absurd (true≢false is)
      go false is = is
  none_resumed before (event.Resumed border first last) never after =
      ap (λ b. unwrap_or (if b then Some false else None) (is_halted before arc.border quarter.hour)) (sym never)
      ∙ sym (last_said-more (halt_by arc.border quarter.hour) false before (event.Resumed border first last)) ∙ after
  none_resumed before (event.Gated hour asked) never after = sym (last_said-more (halt_by arc.border quarter.hour) false before (event.Gated hour asked)) ∙ after
  none_resumed before e never after = sym (last_said-more (halt_by arc.border quarter.hour) false before e) ∙ after

-- no phase comes before the first
never_open : (asked now : Phase) → is_later asked now ≡ true → is_open_phase asked ≡ false
never_open phase.Open now later = absurd (let less = ltb-true _ 0 later in let none : ⊥ = omega arith in none)
never_open phase.Local now later = refl
never_open phase.Closed now later = refl

-- no event opens an hour
none_opens : (setup : Setup) (before : List Event) (e : Event) (hour : ℕ) → Fits setup before e → is_open_phase (phase_of (and_then before e) hour) ≡ true
    → is_open_phase (phase_of before hour) ≡ true
none_opens setup before (event.Gated gated asked) hour fits after =
    go (nat_eq gated hour) (ap is_open_phase (sym (last_said-more (phase_by hour) phase.Open before (event.Gated gated asked))) ∙ after)
  where
    go : (b : Bool) → is_open_phase (unwrap_or (if b then Some asked else None) (phase_of before hour)) ≡ true → is_open_phase (phase_of before hour) ≡ true
    go true is = absurd (true≢false (sym is ∙ never_open asked (phase_of before gated) fits.later))
    go false is = is
none_opens setup before e hour fits after = ap is_open_phase (sym (last_said-more (phase_by hour) phase.Open before e)) ∙ after

-- what is free does not rise
free-falls : (before : List Event) (e : Event) (quarter : Quarter) (arc : Arc) → raises e quarter arc ≡ false
    → free (and_then before e) quarter arc ≤ free before quarter arc
free-falls before e quarter arc never =
    let same : offered (and_then before e) quarter arc ≡ offered before quarter arc =
    offered-more before e quarter arc ∙ ap (λ o. unwrap_or o (offered before quarter arc)) (none_offered quarter arc e never) in
    rw (same, allocated-more before e quarter arc, allocated-more before e quarter (opposite_arc arc), none_back quarter arc e never) (omega arith)

-- rooms of lots that count where an hour is open and a border is not halted
counts-less : (now was : Bool) (lots most : ℕ) → (now ≡ true → was ≡ true) → lots ≤ most → (if now then lots else 0) ≤ (if was then most else 0)
counts-less false was lots most only less = omega arith
counts-less true true lots most only less = less
counts-less true false lots most only less = absurd (true≢false (sym (only refl)))

-- an hour is open and a border is not halted
abbrev is_free : List Event → Quarter → Arc → Bool
is_free events quarter arc = is_open_phase (phase_of events quarter.hour) && not (is_halted events arc.border quarter.hour)

pub rise-alone : EventsRaiseTheirArcsAlone
rise-alone setup before e quarter arc fits never =
    counts-less (is_free (and_then before e) quarter arc) (is_free before quarter arc) (lots_of (remaining (and_then before e) quarter arc)) (lots_of (remaining before quarter arc)) was_free
    (rw (
      lots_of-remaining (offered (and_then before e) quarter arc) (allocated (and_then before e) quarter arc) (allocated (and_then before e) quarter (opposite_arc arc)),
      lots_of-remaining (offered before quarter arc) (allocated before quarter arc) (allocated before quarter (opposite_arc arc)),
    ) (free-falls before e quarter arc never))
  where
    not-true : (b : Bool) → not b ≡ true → b ≡ false
    not-true true is = sym is
    not-true false is = refl

    was_free : is_free (and_then before e) quarter arc ≡ true → is_free before quarter arc ≡ true
    was_free is =
        let both = and_parts (is_open_phase (phase_of (and_then before e) quarter.hour)) (not (is_halted (and_then before e) arc.border quarter.hour)) is in
        let goes_on = none_resumed quarter arc before e never (not-true (is_halted (and_then before e) arc.border quarter.hour) both.1) in
        and_from (is_open_phase (phase_of before quarter.hour)) (not (is_halted before arc.border quarter.hour))
        (none_opens setup before e quarter.hour fits both.0) (ap not goes_on)

-- ---- the quarters of a contract

-- the least of numbers that are all some is some
fold-some : (f : Quarter → ℕ) (n : ℕ) (qs : List Quarter) → 0 < n → ((q : Quarter) → IsIn q qs → 0 < f q) → 0 < fold min n (map f qs)
fold-some f n [] some each = some
fold-some f n (q ∷ qs) some each = let own = each q (inl refl) in fold-some f (min n (f q)) qs (omega (arith, some, own)) (λ x i. each x (inr i))

pub least-some : (f : Quarter → ℕ) (hour : ℕ) (p : Part) → ((q : Quarter) → IsIn q (map (quarter_of hour) (quarters p)) → 0 < f q)
    → 0 < least (map f (map (quarter_of hour) (quarters p)))
least-some f hour part.Hour each =
    fold-some f (f (quarter_of hour 1)) (quarter_of hour 2 ∷ quarter_of hour 3 ∷ quarter_of hour 4 ∷ []) (each (quarter_of hour 1) (inl refl)) (λ q i. each q (inr i))
least-some f hour (part.Quarter number) each = each (quarter_of hour number) (inl refl)
least-some f hour (part.Half number) each =
    fold-some f (f (quarter_of hour (2 * number - 1))) (quarter_of hour (2 * number) ∷ []) (each (quarter_of hour (2 * number - 1)) (inl refl)) (λ q i. each q (inr i))

-- the least of some numbers is some where others are whose least is
fold-follows : (f g : Quarter → ℕ) (n m : ℕ) (qs : List Quarter) → (0 < m → 0 < n) → ((q : Quarter) → IsIn q qs → 0 < g q → 0 < f q)
    → 0 < fold min m (map g qs) → 0 < fold min n (map f qs)
fold-follows f g n m [] first each some = first some
fold-follows f g n m (q ∷ qs) first each some =
    fold-follows f g (min n (f q)) (min m (g q)) qs
    (λ h. let own = first (omega (arith, h)) in let other = each q (inl refl) (omega (arith, h)) in omega (arith, own, other)) (λ x i. each x (inr i)) some

pub least-follows : (f g : Quarter → ℕ) (qs : List Quarter) → ((q : Quarter) → IsIn q qs → 0 < g q → 0 < f q) → 0 < least (map g qs) → 0 < least (map f qs)
least-follows f g [] each some = some
least-follows f g (q ∷ qs) each some = fold-follows f g (f q) (g q) qs (each q (inl refl)) (λ x i. each x (inr i)) some

-- where each arc had room already in the quarters in which it can be raised, none gets its first room
pub none_opened : (setup : Setup) (before : List Event) (e : Event) (contract : Contract) → Fits setup before e
    → ((arc : Arc) → HasArc (graph_of setup) arc → HasRoomWhere before contract arc (λ quarter. raises e quarter arc))
    → OpensNoArc (graph_of setup) contract before (and_then before e)
none_opened setup before e contract fits had arc has some =
    least-some (quarter_room before arc) contract.hour contract.part (λ quarter i. by quarter i (raises e quarter arc) refl)
  where
    by : (quarter : Quarter) → IsIn quarter (contract_quarters contract) → (b : Bool) → raises e quarter arc ≡ b → 0 < quarter_room before arc quarter
    by quarter i true is = had arc has quarter i is
    by quarter i false is =
        let most = room-le (and_then before e) (contract_quarters contract) arc quarter i in
        let falls = rise-alone setup before e quarter arc fits is in
        omega (arith, some, most, falls)
