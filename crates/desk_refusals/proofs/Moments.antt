-- The event at the moment of an order is its entry, or a leg of it that ended a peak.
use Rattle.std.proofs.Common.{◌≡◌, ◌∙◌, ◌⊎◌, inl, inr, ℕ, ◌+◌, ◌≤◌, Bool, true, false, List, [], ◌∷◌, ◌++◌, append_assoc, length, length-append, Some, refl, sym, ap, subst, if◌then◌else◌, arith}
use Rattle.std.proofs.Math.Seq.{get_or-append_seam}
use Rattle.std.proofs.lemmas.Bool.{and_parts, or_cases, true≢false}
use Rattle.std.proofs.lemmas.List.{append-nil}
use Rattle.std.proofs.lemmas.Option.{slice_get_read}
use Rattle.std.specs.Prelude.{slice_get}
use Rattle.order_kinds.specs.declared.contract.Contract.{Contract}
use Rattle.order_kinds.specs.declared.order.Kind.{Kind}
use Rattle.order_kinds.specs.declared.order.Kind.TheVariants as kind
use Rattle.order_kinds.specs.Order.{is_limit}
use Rattle.order_kinds.specs.Same.{same_name}
use Rattle.zone_graph.specs.Graph.{Graph}
use Rattle.zone_graph.specs.Route.{IsIn}
use Rattle.zone_graph.proofs.Membership.{from_filter}
use Rattle.market_model.specs.declared.event.Event.{Event}
use Rattle.market_model.specs.declared.event.Event.TheVariants as event
use Rattle.market_model.specs.declared.event.Leg.{Leg}
use Rattle.market_model.specs.declared.setup.Setup.{Setup}
use Rattle.market_model.specs.Board.{IsHourOf}
use Rattle.market_model.specs.History.{and_then, of_hour, touches}
use Rattle.market_model.specs.Orders.{Placed, ends_peak, gives_moment, last_place_from, moment, names, placed, placed_by}
use Rattle.market_model.specs.WellFormed.{FitAfter, Fits, LegFits}
use Rattle.laws_of_market.proofs.Members.{IsIn-filter_map, from_filter_map}
use Rattle.laws_of_market.proofs.Names.{names-once}
use Rattle.laws_of_market.proofs.Placed.{picked-stays}
use Rattle.laws_of_market.proofs.Tests.{same_name-eq, same_name-refl}
use Rattle.laws_of_market.proofs.Unique.{one_order}
use Rattle.laws_of_hours.proofs.NextEvents.{agrees, placed-too}
use Rattle.desk_refusals.specs.Told.{Tells, contract_told, enters_limit, event_at}

-- ---- the last place at which an event passes a test

-- at a place of a list, counted from 1, there is an event of which something holds
record StandsAt (P : Event → Type 0) (all : List Event) (place : ℕ) : Type 0 where
  at : Event
  some : 1 ≤ place
  found : event_at all place ≡ Some at
  holds : P at

at_seam : (front : List Event) (e : Event) (back : List Event) → slice_get (front ++ (e ∷ back)) (length front) ≡ Some e
at_seam front e back =
    let size = length-append front (e ∷ back) in
    slice_get_read (front ++ (e ∷ back)) (length (front ++ (e ∷ back))) (length front) e refl (omega (arith, size)) (sym (get_or-append_seam front e back e))

module _ (test : List Event → Event → Bool) (P : Event → Type 0) (all : List Event)
    (told : (before : List Event) (e : Event) → IsIn e all → test before e ≡ true → P e) where
  -- what is found so far stands at its place, or some event to come passes after any others
  last-stands : (before : List Event) (found : ℕ) (events : List Event) → before ++ events ≡ all → ((e : Event) → IsIn e events → IsIn e all)
      → StandsAt P all found ⊎ ((some : Event) × IsIn some events × ((b : List Event) → test b some ≡ true))
      → StandsAt P all (last_place_from test before found events)
  last-stands before found [] split within there = elim there [ inl stands ↦ stands | inr later ↦ absurd later.1 ]
  last-stands before found (e ∷ events) split within there =
      go (λ n. last-stands (and_then before e) n events (append_assoc before (e ∷ []) events ∙ split) (λ x i. within x (inr i))) (test before e) refl
    where
      here : test before e ≡ true → StandsAt P all (length before + 1)
      here passes = record {
        at = e;
        some = omega arith;
        found = ap (slice_get all) (omega arith) ∙ subst (λ es. slice_get es (length before) ≡ Some e) split (at_seam before e events);
        holds = told before e (within e (inl refl)) passes;
      }

      go : ((n : ℕ) → StandsAt P all n ⊎ ((some : Event) × IsIn some events × ((b : List Event) → test b some ≡ true))
          → StandsAt P all (last_place_from test (and_then before e) n events))
          → (t : Bool) → test before e ≡ t → StandsAt P all (last_place_from test (and_then before e) (if t then length before + 1 else found) events)
      go onward true passes = onward (length before + 1) (inl (here passes))
      go onward false fails = onward found (elim there [
        | inl stands ↦ inl stands
        | inr later ↦ elim later.1 [
          | inl same ↦ absurd (true≢false (sym (later.2 before) ∙ subst (λ x. test before x ≡ false) (sym same) fails))
          | inr i ↦ inr (later.0, i, later.2)
        ]
      ])

-- ---- what an event that gives an order its moment tells

-- the event of its entry does, after any events
entry-gives : (e : Event) (order : Placed) (before : List Event) → placed_by e ≡ Some order → gives_moment order before e ≡ true
entry-gives (event.Entered given caller entering) order before is =
    let same : record { name = given; caller = caller; order = entering } ≡ order = cc in
    subst (λ (o : Placed). same_name given o.name ≡ true) same (same_name-refl given)
entry-gives _ order before is = absurd (cc)

-- peaks are of icebergs
no_limit : (kind : Kind) (filled : ℕ) → ends_peak kind filled ≡ true → is_limit kind ≡ false
no_limit kind.Limit filled ends = absurd (true≢false (sym ends))
no_limit (kind.Iceberg peak delta) filled ends = refl
no_limit kind.Ioc filled ends = absurd (true≢false (sym ends))
no_limit kind.Fok filled ends = absurd (true≢false (sym ends))

-- an event tells of an order
record TellsOf (order : Placed) (e : Event) : Type 0 where
  contract : contract_told (Some e) ≡ Some order.order.contract
  limit : enters_limit (Some e) ≡ is_limit order.order.kind

-- an event of a history fits the events before it
fits-there : (setup : Setup) (before events : List Event) (e : Event) → FitAfter setup before events → IsIn e events
    → (front : List Event) × (back : List Event) × (events ≡ front ++ (e ∷ back)) × Fits setup (before ++ front) e
fits-there setup before [] e fit i = absurd i
fits-there setup before (x ∷ events) e fit i = elim i [
  | inl same ↦ (
    [],
    events,
    ap (λ y. y ∷ events) (sym same),
    subst (λ b. Fits setup b e) (sym (append-nil before)) (subst (λ y. Fits setup before y) (sym same) fit.0),
  )
  | inr later ↦
      let rest = fits-there setup (and_then before x) events e fit.1 later in (
        x ∷ rest.0,
        rest.1,
        ap (λ es. x ∷ es) rest.2,
        subst (λ b. Fits setup b e) (append_assoc before (x ∷ []) rest.0) rest.3,
      )
]

module _ (setup : Setup) (history : List Event) (fit : FitAfter setup [] history) (order : Placed) (there : IsIn order (placed history)) where
  -- the orders of a leg are of its contract
  leg-tells : (contract : Contract) (leg : Leg) → IsIn (event.Leg contract leg) history → names leg order.name ≡ true → contract ≡ order.order.contract
  leg-tells contract leg i named =
      let at = fits-there setup [] history (event.Leg contract leg) fit i in
      let fits : LegFits setup at.0 contract leg = at.3 in
      let one : (found : Placed) → IsIn found (placed at.0) → found.name ≡ order.name → found ≡ order =
      λ found p same. one_order history (names-once setup history fit) found order
      (subst (λ es. IsIn found (placed es)) (sym at.2) (picked-stays placed_by found at.0 (event.Leg contract leg ∷ at.1) p)) there same in
      elim (or_cases (same_name leg.taker order.name) (same_name leg.maker order.name) named) [
        | inl t ↦ sym fits.taker_contract ∙ ap (λ (p : Placed). p.order.contract)
            (one fits.taker fits.taker_open.is_placed (fits.taker_open.is_named ∙ same_name-eq leg.taker order.name t))
        | inr m ↦ sym fits.maker_contract ∙ ap (λ (p : Placed). p.order.contract)
            (one fits.maker fits.maker_open.is_placed (fits.maker_open.is_named ∙ same_name-eq leg.maker order.name m))
      ]

  tells-of : (before : List Event) (e : Event) → IsIn e history → gives_moment order before e ≡ true → TellsOf order e
  tells-of before (event.Entered given caller entering) i gives =
      let own : Placed = record { name = given; caller = caller; order = entering } in
      let entered = IsIn-filter_map placed_by (event.Entered given caller entering) own history i refl in
      let same : own ≡ order = one_order history (names-once setup history fit) own order entered there (same_name-eq given order.name gives) in
      record {
        contract = ap (λ (p : Placed). Some p.order.contract) same;
        limit = ap (λ (p : Placed). is_limit p.order.kind) same;
      }
  tells-of before (event.Leg contract leg) i gives =
      let both = and_parts (names leg order.name) _ gives in
      record {
        contract = ap Some (leg-tells contract leg i both.0);
        limit = sym (no_limit order.order.kind _ both.1);
      }
  tells-of before _ i gives = absurd (true≢false (sym gives))

-- ---- the orders of an hour

pub tells : (graph : Graph) (hour : ℕ) (events : List Event) → IsHourOf graph hour events → (order : Placed) → IsIn order (placed events) → order.name.hour ≡ hour
    → Tells events (moment events order) order
tells graph hour events is order there named =
    let own : of_hour order.name.hour events ≡ events =
    ap (λ h. of_hour h events) named ∙ (agrees graph hour events is).same hour (inl refl) ∙ is.in_hour in
    let entry = from_filter_map placed_by order events there in
    let in_history : (e : Event) → IsIn e events → IsIn e is.history =
    λ e i. (from_filter (touches hour) e is.history (subst (IsIn e) (sym is.in_hour) i)).0 in
    let stands : StandsAt (TellsOf order) events (last_place_from (gives_moment order) [] 0 events) =
    last-stands (gives_moment order) (TellsOf order) events
    (λ before e i gives. tells-of is.setup is.history is.fit order (placed-too graph hour events is order named there) before e (in_history e i) gives)
    [] 0 events refl (λ e i. i) (inr (entry.0, entry.1, λ before. entry-gives entry.0 order before entry.2)) in
    subst (λ place. Tells events place order) (sym (ap (last_place_from (gives_moment order) [] 0) own)) (record {
      some = stands.some;
      contract = ap contract_told stands.found ∙ stands.holds.contract;
      limit = ap enters_limit stands.found ∙ stands.holds.limit;
    })
