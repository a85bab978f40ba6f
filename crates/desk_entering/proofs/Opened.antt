-- What an order that enters leaves without a leg: its own contract, and each other one where no leg of it
-- went over an arc whose opposite arc had no room.
use Rattle.std.proofs.Common.{◌≡◌, ◌≢◌, ◌∙◌, inl, inr, ◌⊎◌, ℕ, zero, suc, ◌<◌, ◌==◌, ◌||◌, Bool, true, false, List, [], ◌∷◌, ◌++◌, append_assoc, refl, sym, ap, subst, arith}
use Rattle.std.proofs.lemmas.Bool.{and_parts, true≢false}
use Rattle.std.proofs.lemmas.List.{append-nil}
use Rattle.std.specs.List.{list_any}
use Rattle.order_kinds.specs.declared.contract.Contract.{Contract}
use Rattle.order_kinds.specs.declared.order.Kind.{Kind}
use Rattle.order_kinds.specs.declared.order.Kind.TheVariants as kind
use Rattle.order_kinds.specs.declared.order.Order.{Order}
use Rattle.order_kinds.specs.declared.order.OrderName.{OrderName}
use Rattle.order_kinds.specs.Period.{contract_has, contract_quarters}
use Rattle.zone_graph.specs.declared.route.Arc.{Arc}
use Rattle.zone_graph.specs.Graph.{Graph, HasArc}
use Rattle.zone_graph.specs.Pour.{opposite_arc, uses}
use Rattle.zone_graph.specs.Route.{IsIn}
use Rattle.zone_graph.specs.Steps.{IsRun}
use Rattle.zone_graph.proofs.Arcs.{IsIn-uses, opposite-twice}
use Rattle.zone_graph.proofs.Membership.{IsIn-right}
use Rattle.market_model.specs.declared.event.Event.{Event}
use Rattle.market_model.specs.declared.event.Event.TheVariants as event
use Rattle.market_model.specs.declared.event.Leg.{Leg}
use Rattle.market_model.specs.declared.setup.Setup.{Setup}
use Rattle.market_model.specs.Entering.{after_taking, legs_taken, name_of_next, rest_of, rest_withdrawn}
use Rattle.market_model.specs.Grid.{graph_of}
use Rattle.market_model.specs.History.{and_then}
use Rattle.market_model.specs.Orders.{Placed, left, placed, placed_by}
use Rattle.market_model.specs.Room.{room}
use Rattle.market_model.specs.Taking.{IsTaking, next_leg}
use Rattle.market_model.specs.WellFormed.{FitAfter, IsMarketSetup, OrderEnters}
use Rattle.laws_of_market.proofs.Falls.{IsLegIn, take-run}
use Rattle.laws_of_market.proofs.Growing.{fit-append}
use Rattle.laws_of_market.proofs.Legs.{next_leg-fits, take-fits}
use Rattle.laws_of_market.proofs.Members.{IsIn-filter_map}
use Rattle.laws_of_market.proofs.Placed.{picked-stays}
use Rattle.laws_of_market.proofs.Repeats.{fit-more}
use Rattle.laws_of_market.proofs.Uses.{contract_has-is, room-le}
use Rattle.laws_of_maximum.proofs.Obtained.{fit-can_take}
use Rattle.laws_of_maximum.proofs.Takers.{takers-leg}
use Rattle.sweep_core.specs.Sweeping.{may_open}
use Rattle.laws_of_boards.specs.Quiet.{IsAside, IsQuiet}
use Rattle.laws_of_boards.proofs.Stays.{never-quiet}
use Rattle.laws_of_boards.proofs.Taking.{taker-quiet}
use Rattle.desk_entering.specs.Opening.{opens}
use Rattle.desk_entering.proofs.Staying.{HadRoom, stays-quiet}

-- where no item passes a test none of them does
none-any : {X : Type 0} (p : X → Bool) (xs : List X) → list_any p xs ≡ false → (x : X) → IsIn x xs → p x ≡ false
none-any p [] none x i = absurd i
none-any {X} p (y ∷ ys) none x i = go (p y) refl none i (λ k j. none-any p ys k x j)
  where
    go : (b : Bool) → p y ≡ b → (b || list_any p ys) ≡ false → (x ≡ y) ⊎ IsIn x ys → (list_any p ys ≡ false → IsIn x ys → p x ≡ false) → p x ≡ false
    go true is k j later = absurd (true≢false k)
    go false is k j later = elim j [ inl same ↦ ap p same ∙ is | inr i ↦ later k i ]

pub none-opens : (room : Arc → ℕ) (events : List Event) → list_any (opens room) events ≡ false → (e : Event) → IsIn e events → opens room e ≡ false
none-opens room events none e i = none-any (opens room) events none e i

-- some room
not-none : (n : ℕ) → (n == 0) ≡ false → 0 < n
not-none zero none = absurd (true≢false none)
not-none (suc n) none = omega arith

-- ---- the legs of a taking

module _ (setup : Setup) (is_setup : IsMarketSetup setup) (taker : Placed) where
  -- they are legs of the contract of the order
  run-legs : (events : List Event) → FitAfter setup [] events → IsIn taker (placed events) → (legs : List Event)
      → IsRun (next_leg (graph_of setup) taker.name) and_then events legs → (e : Event) → IsIn e legs → IsLegIn taker.order.contract e
  run-legs events fit there [] run e i = absurd i
  run-legs events fit there (x ∷ legs) run e i = elim i [
    | inl same ↦
        let made = takers-leg (graph_of setup) is_setup events (fit-can_take setup events fit) taker x there run.0 in
        record { leg = made.leg; is = made.is ∙ sym same }
    | inr later ↦
        run-legs (and_then events x) (fit-more setup events x fit (next_leg-fits setup is_setup events fit taker.name x run.0))
        (picked-stays placed_by taker events (x ∷ []) there) legs run.1 e later
  ]

-- ---- an order that enters after some events, each of which fits those before it

module _ (setup : Setup) (is_setup : IsMarketSetup setup) (before : List Event) (fit : FitAfter setup [] before) (caller : ℕ) (order : Order)
    (enters : OrderEnters setup before (name_of_next before order) caller order) where
  abbrev graph : Graph
  graph = graph_of setup

  abbrev name : OrderName
  name = name_of_next before order

  abbrev entry : Event
  entry = event.Entered name caller order

  abbrev legs : List Event
  legs = legs_taken graph before caller order

  abbrev taken : List Event
  taken = after_taking graph before caller order

  abbrev own : Placed
  own = record { name = name; caller = caller; order = order }

  fit-entered : FitAfter setup [] (and_then before entry)
  fit-entered = fit-more setup before entry fit enters

  legs-fit : FitAfter setup (and_then before entry) legs
  legs-fit = take-fits setup is_setup (and_then before entry) fit-entered name

  pub fit-taken : FitAfter setup [] taken
  fit-taken = fit-append setup [] (and_then before entry) legs fit-entered legs-fit

  run : IsTaking graph (and_then before entry) name legs
  run = take-run setup is_setup (and_then before entry) fit-entered name

  there : IsIn own (placed (and_then before entry))
  there = IsIn-filter_map placed_by entry own (and_then before entry) (IsIn-right entry before (entry ∷ []) (inl refl)) refl

  leg-in : (e : Event) → IsIn e legs → IsLegIn order.contract e
  leg-in = run-legs setup is_setup own (and_then before entry) fit-entered there legs run

  -- ---- its own contract

  own-quiet : IsQuiet setup before order.contract → IsQuiet setup taken order.contract
  own-quiet quiet = taker-quiet setup before name caller order legs is_setup fit enters run quiet

  -- ---- another one

  module _ (rooms : Arc → ℕ) (same : (arc : Arc) → HasArc graph arc → rooms arc ≡ room before (contract_quarters order.contract) arc)
      (none : (e : Event) → IsIn e legs → opens rooms e ≡ false) where
    leg-had : (leg : Leg) → may_open rooms leg.route ≡ false → HadRoom setup before (event.Leg order.contract leg)
    leg-had leg shut arc quarter has is =
        let both = and_parts (contract_has order.contract quarter) (uses leg.route (opposite_arc arc)) is in
        let some = none-any (λ a. rooms (opposite_arc a) == 0) leg.route shut (opposite_arc arc) (IsIn-uses leg.route (opposite_arc arc) both.1) in
        let back : (rooms arc == 0) ≡ false = subst (λ a. (rooms a == 0) ≡ false) (opposite-twice arc) some in
        let had : 0 < room before (contract_quarters order.contract) arc = subst (λ n. 0 < n) (same arc has) (not-none (rooms arc) back) in
        let most = room-le before (contract_quarters order.contract) arc quarter (contract_has-is order.contract quarter both.0) in
        omega (arith, had, most)

    event-had : (e : Event) → IsIn e (entry ∷ legs) → HadRoom setup before e
    event-had e i = elim i [
      | inl is ↦ subst (HadRoom setup before) (sym is) (λ arc quarter has k. absurd (true≢false (sym k)))
      | inr j ↦
          let made = leg-in e j in
          let shut : may_open rooms made.leg.route ≡ false = subst (λ x. opens rooms x ≡ false) (sym made.is) (none e j) in
          subst (HadRoom setup before) made.is (leg-had made.leg shut)
    ]

    other-quiet : (contract : Contract) → order.contract ≢ contract → IsQuiet setup before contract → IsQuiet setup taken contract
    other-quiet contract apart quiet =
        subst (λ es. IsQuiet setup es contract) (sym (append_assoc before (entry ∷ []) legs))
        (stays-quiet setup before contract is_setup fit (entry ∷ legs) (enters, legs-fit) aside event-had quiet)
      where
        aside : (e : Event) → IsIn e (entry ∷ legs) → IsAside contract e
        aside e i = elim i [
          | inl is ↦ subst (IsAside contract) (sym is) apart
          | inr j ↦ let made = leg-in e j in subst (IsAside contract) made.is apart
        ]

  -- ---- the withdrawal of an immediate-or-cancel order's rest

  rest-quiet : (given : Kind) (rest : ℕ) (contract : Contract) → rest ≡ left taken name → IsQuiet setup taken contract
      → IsQuiet setup (taken ++ rest_withdrawn given name rest) contract
  rest-quiet kind.Ioc zero contract is quiet = subst (λ es. IsQuiet setup es contract) (sym (append-nil taken)) quiet
  rest-quiet kind.Ioc (suc more) contract is quiet =
      never-quiet setup taken (event.Withdrawn name (suc more)) contract tt (λ quarter arc. refl) is_setup fit-taken (record { some = omega arith; all_left = is }) quiet
  rest-quiet kind.Limit rest contract is quiet = subst (λ es. IsQuiet setup es contract) (sym (append-nil taken)) quiet
  rest-quiet kind.Fok rest contract is quiet = subst (λ es. IsQuiet setup es contract) (sym (append-nil taken)) quiet
  rest-quiet (kind.Iceberg peak delta) rest contract is quiet = subst (λ es. IsQuiet setup es contract) (sym (append-nil taken)) quiet

  abbrev ended : List Event
  ended = taken ++ rest_withdrawn order.kind name (rest_of graph before caller order)

  -- ---- both

  pub own-ended : IsQuiet setup before order.contract → IsQuiet setup ended order.contract
  own-ended quiet = rest-quiet order.kind (rest_of graph before caller order) order.contract refl (own-quiet quiet)

  pub other-ended : (rooms : Arc → ℕ) → ((arc : Arc) → HasArc graph arc → rooms arc ≡ room before (contract_quarters order.contract) arc)
      → ((e : Event) → IsIn e legs → opens rooms e ≡ false) → (contract : Contract) → order.contract ≢ contract
      → IsQuiet setup before contract → IsQuiet setup ended contract
  other-ended rooms same none contract apart quiet =
      rest-quiet order.kind (rest_of graph before caller order) contract refl (other-quiet rooms same none contract apart quiet)
