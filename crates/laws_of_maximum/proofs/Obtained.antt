-- What an order obtains as it enters is its whole quantity, or the bound of the zones in reach.
use Rattle.std.proofs.Common.{◌≡◌, ◌∙◌, ◌⊎◌, inl, inr, ℕ, ◌+◌, true, List, [], ◌∷◌, fold, None, refl, sym, ap, subst, arith}
use Rattle.order_kinds.specs.declared.order.Kind.{Kind}
use Rattle.order_kinds.specs.declared.order.Kind.TheVariants as kind
use Rattle.order_kinds.specs.declared.order.Order.{Order}
use Rattle.order_kinds.specs.declared.order.OrderName.{OrderName}
use Rattle.order_kinds.specs.Order.{order_fault}
use Rattle.order_kinds.specs.Period.{contract_quarters}
use Rattle.zone_graph.specs.Graph.{Graph}
use Rattle.zone_graph.specs.Route.{IsIn, has}
use Rattle.zone_graph.proofs.Membership.{IsIn-right}
use Rattle.market_model.specs.declared.event.Event.{Event}
use Rattle.market_model.specs.declared.event.Event.TheVariants as event
use Rattle.market_model.specs.declared.setup.Setup.{Setup}
use Rattle.market_model.specs.Certificate.{bound_of, unfilled_zones, zones_in_reach}
use Rattle.market_model.specs.Entering.{after_taking, legs_taken, name_of_next, rest_of, with_order}
use Rattle.market_model.specs.Grid.{graph_of}
use Rattle.market_model.specs.History.{and_then}
use Rattle.market_model.specs.Orders.{Placed, left, placed, placed_by}
use Rattle.market_model.specs.Room.{room}
use Rattle.market_model.specs.Taking.{next_leg}
use Rattle.market_model.specs.WellFormed.{FitAfter, IsMarketSetup, OrderEnters}
use Rattle.laws_of_market.proofs.Balances.{covered}
use Rattle.laws_of_market.proofs.Falls.{take-run}
use Rattle.laws_of_market.proofs.Members.{IsIn-filter_map}
use Rattle.laws_of_market.proofs.Names.{names-once, order_name-new}
use Rattle.laws_of_market.proofs.Placed.{all_are_sound}
use Rattle.laws_of_market.proofs.Repeats.{fit-more, fold-and_then, run-end}
use Rattle.laws_of_market.proofs.Soundness.{order_fault-none, peak-some}
use Rattle.laws_of_market.proofs.States.{filled-more, taken_off-more}
use Rattle.laws_of_market.proofs.Unique.{entered-none, entered-order}
use Rattle.laws_of_market.proofs.Uses.{within_offers}
use Rattle.laws_of_maximum.specs.Takings.{HasNoDelta, obtained}
use Rattle.laws_of_maximum.proofs.BoundsFall.{left_bound}
use Rattle.laws_of_maximum.proofs.CrossingPeaks.{HasPeaks}
use Rattle.laws_of_maximum.proofs.Runs.{HasTaken, ended, own_reached, taken-by}
use Rattle.laws_of_maximum.proofs.Takers.{CanTake}

-- an order with sound numbers has peaks of a lot at least
pub sound-peaks : (order : Order) → order_fault order ≡ None → HasPeaks order.kind
sound-peaks order sound = go order.kind refl
  where
    go : (k : Kind) → order.kind ≡ k → HasPeaks order.kind
    go kind.Limit is = rw is tt
    go kind.Ioc is = rw is tt
    go kind.Fok is = rw is tt
    go (kind.Iceberg peak delta) is = let some = peak-some order peak delta is (order_fault-none order sound).peaks in rw is some

-- a history whose events fit is one in which takings go on
pub fit-can_take : (setup : Setup) (V : List Event) → FitAfter setup [] V → CanTake V
fit-can_take setup V fit = record {
  within = within_offers setup V fit;
  names = names-once setup V fit;
  peaks = λ p i. sound-peaks p.order ((all_are_sound setup V fit).orders p i).sound;
}

pub bound-left : (setup : Setup) (events : List Event) (caller : ℕ) (order : Order) (zones : List ℕ)
    → bound_of (graph_of setup) events caller order zones ≡ left_bound (graph_of setup) (with_order events caller order) order zones
unfolding bound_of
bound-left setup events caller order zones = refl

module _ (setup : Setup) (is_setup : IsMarketSetup setup) (events : List Event) (fit : FitAfter setup [] events) (caller : ℕ) (order : Order)
    (enters : OrderEnters setup events (name_of_next events order) caller order) (flat : HasNoDelta order.kind) where
  abbrev graph : Graph
  graph = graph_of setup

  abbrev start : List Event
  start = with_order events caller order

  abbrev name : OrderName
  name = name_of_next events order

  abbrev taker : Placed
  taker = record { name = name_of_next events order; caller = caller; order = order }

  abbrev entry : Event
  entry = event.Entered (name_of_next events order) caller order

  pub fit_start : FitAfter setup [] start
  fit_start = fit-more setup events entry fit enters

  there : IsIn taker (placed start)
  there = IsIn-filter_map placed_by entry taker start (IsIn-right entry events (entry ∷ []) (inl refl)) refl

  abbrev after : List Event
  after = after_taking graph events caller order

  ends : fold and_then start (legs_taken graph events caller order) ≡ after
  ends = fold-and_then start (legs_taken graph events caller order)

  -- the taking
  pub taking : (zones : List ℕ) → HasTaken graph (is_setup) taker flat start (legs_taken graph events caller order) zones
  taking zones = taken-by graph is_setup taker flat start (legs_taken graph events caller order) zones (fit-can_take setup start fit_start) there (take-run setup is_setup start fit_start name)

  -- as it starts all of the order is left
  pub all-left : left start name ≡ order.quantity.0
  all-left =
      let quantity = entered-order start taker (names-once setup start fit_start) there in
      let new = order_name-new setup events name caller order (names-once setup events fit) enters in
      let nothing = entered-none name events new in
      let most = covered setup events fit name in
      let fills = filled-more events entry name in
      let takes = taken_off-more events entry name in
      omega (arith, quantity, nothing, most, fills, takes)

  -- what it obtains and what is left of it is its quantity
  pub obtained-rest : obtained graph events caller order + rest_of graph events caller order ≡ order.quantity.0
  obtained-rest =
      let taken = (taking []).from_left in
      let same : left (fold and_then start (legs_taken graph events caller order)) name ≡ rest_of graph events caller order = ap (λ V. left V name) ends in
      omega (arith, taken, same, all-left)

  -- the zones in reach when it ends have the order's
  pub zones_have_own : has order.zone (unfilled_zones graph events caller order) ≡ true
  unfolding unfilled_zones
  zones_have_own =
      subst (λ V. has order.zone (zones_in_reach graph (room V (contract_quarters order.contract)) order.side order.zone) ≡ true) ends
      (own_reached graph is_setup taker flat (fold and_then start (legs_taken graph events caller order)) (taking []).can (taking []).there enters.in_zone)

  -- it is filled, or it obtained the bound
  pub filled_or_bound : (rest_of graph events caller order ≡ 0) ⊎ (obtained graph events caller order ≡ bound_of graph events caller order (unfilled_zones graph events caller order))
  unfolding unfilled_zones
  filled_or_bound =
      let Vend : List Event = fold and_then start (legs_taken graph events caller order) in
      let zones : List ℕ = unfilled_zones graph events caller order in
      let taken = taking zones in
      let none = run-end (next_leg graph name) and_then start (legs_taken graph events caller order) (take-run setup is_setup start fit_start name) in
      elim (ended graph is_setup taker flat Vend taken.can taken.there enters.in_zone none) [
        | inl filled_up ↦ inl (ap (λ V. left V name) (sym ends) ∙ filled_up)
        | inr nothing ↦
            let no_more : left_bound graph Vend order zones ≡ 0 =
            ap (λ V. left_bound graph Vend order (zones_in_reach graph (room V (contract_quarters order.contract)) order.side order.zone)) (sym ends) ∙ nothing in
            let from = taken.from_bound zones_have_own in
            let told = bound-left setup events caller order zones in
            inr (omega (arith, from, no_more, told))
      ]

  pub reach-bound : (obtained graph events caller order ≡ order.quantity.0) ⊎ (obtained graph events caller order ≡ bound_of graph events caller order (unfilled_zones graph events caller order))
  reach-bound = elim filled_or_bound [
    | inl none ↦ inl (let all = obtained-rest in omega (arith, all, none))
    | inr bound ↦ inr bound
  ]
