-- Each leg lowers what can still be traded, so that takings and sweeps end: with the fuel that the
-- definitions give them they are runs to the end.
use Rattle.std.proofs.Common.{◌≡◌, ◌∙◌, inl, inr, if◌then◌else◌, ℕ, ◌<◌, ◌≤◌, Bool, true, false, List, [], ◌∷◌, filter, sum_by, Some, nat_eq, eq-eqb, refl, sym, ap, subst, arith}
use Rattle.std.proofs.lemmas.List.Sums.{sum_by-cons}
use Rattle.std.specs.Ordering.{is_lt}
use Rattle.order_kinds.specs.declared.contract.Contract.{Contract}
use Rattle.order_kinds.specs.declared.contract.Part.{Part}
use Rattle.order_kinds.specs.declared.order.OrderName.{OrderName}
use Rattle.order_kinds.specs.declared.side.Side.TheVariants.{Buy}
use Rattle.zone_graph.specs.declared.route.Arc.{Arc}
use Rattle.zone_graph.specs.Graph.{Graph}
use Rattle.zone_graph.specs.Route.{IsIn, best_route}
use Rattle.zone_graph.proofs.Membership.{IsIn-filter}
use Rattle.market_model.specs.declared.event.Event.{Event}
use Rattle.market_model.specs.declared.event.Event.TheVariants as event
use Rattle.market_model.specs.declared.event.Leg.{Leg}
use Rattle.market_model.specs.declared.setup.Setup.{Setup}
use Rattle.market_model.specs.Grid.{graph_of}
use Rattle.market_model.specs.History.{and_then}
use Rattle.market_model.specs.Lines.{buyer_zone, line, partner, rooms_for, seller_zone, time_cmp}
use Rattle.market_model.specs.Orders.{Placed, Standing, left, open_order, placed, placed_by, standing}
use Rattle.market_model.specs.Sweep.{IsSweep, left_in_hour, leg_in, leg_of_buy, resting_trade, sweep, sweep_leg}
use Rattle.market_model.specs.Taking.{IsTaking, leg_over, next_leg, standing_order, take, trade}
use Rattle.market_model.specs.WellFormed.{FitAfter, Fits, IsMarketSetup, LegFits}
use Rattle.laws_of_market.proofs.Balances.{left-leg, names-taker, taker_has-leg}
use Rattle.laws_of_market.proofs.Legs.{next_leg-fits, open_order-is, sweep_leg-fits}
use Rattle.laws_of_market.proofs.Members.{from_first_answer}
use Rattle.laws_of_market.proofs.Placed.{all_are_sound, picked-same}
use Rattle.laws_of_market.proofs.Repeats.{bind-some, fit-more, map-some, run-kept}
use Rattle.laws_of_market.proofs.States.{left-more}
use Rattle.laws_of_market.proofs.Trades.{IsInLine, from_line, partner-is}

-- a trade is a leg of the two orders over some route
pub record IsLegOf (events : List Event) (taker maker : Standing) (e : Event) : Type 0 where
  pub route : List Arc
  pub is : leg_over (rooms_for events taker) taker maker route ≡ e

pub trade-leg : (graph : Graph) (events : List Event) (taker maker : Standing) (e : Event) → trade graph events taker maker ≡ Some e → IsLegOf events taker maker e
unfolding trade
trade-leg graph events taker maker e is =
    let found = map-some (leg_over (rooms_for events taker) taker maker)
    (best_route graph (rooms_for events taker) (seller_zone taker maker) (buyer_zone taker maker)) e is in
    record { route = found.0; is = found.2 }

-- ---- takings

-- a leg that fits lowers what is left of its taker
lowers-taker : (setup : Setup) (events : List Event) (contract : Contract) (leg : Leg) → LegFits setup events contract leg
    → left (and_then events (event.Leg contract leg)) leg.taker < left events leg.taker
lowers-taker setup events contract leg fits =
    let has = taker_has-leg setup events contract leg fits in
    let some = fits.some in
    rw (left-leg events contract leg leg.taker (names-taker leg)) (omega arith)

module _ (setup : Setup) (is_setup : IsMarketSetup setup) (events : List Event) (fit : FitAfter setup [] events) where
  -- the next leg of an order lowers what is left of it
  pub next_leg-lowers : (name : OrderName) (e : Event) → next_leg (graph_of setup) name events ≡ Some e → left (and_then events e) name < left events name
  unfolding next_leg
  next_leg-lowers name e is =
      let own = bind-some _ (standing_order events name) e is in
      let found = map-some (standing events) (open_order events name) own.0 own.1 in
      let order = open_order-is events name found.0 found.1 in
      let other = bind-some _ (partner (graph_of setup) events own.0) e own.2 in
      let leg = trade-leg (graph_of setup) events own.0 other.0 e other.2 in
      let its_name : own.0.name ≡ name = ap (λ (s : Standing). s.name) (sym found.2) ∙ order.is_named in
      let fits = subst (Fits setup events) (sym leg.is) (next_leg-fits setup is_setup events fit name e is) in
      let made : Event = leg_over (rooms_for events own.0) own.0 other.0 leg.route in
      let lower : left (and_then events made) own.0.name < left events own.0.name = lowers-taker setup events own.0.order.contract _ fits in
      let named = subst (λ n. left (and_then events made) n < left events n) its_name lower in
      subst (λ v. left (and_then events v) name < left events name) leg.is named

-- the legs of a taking are a run: each is the next one, and after the last there is none
pub take-run : (setup : Setup) → IsMarketSetup setup → (events : List Event) → FitAfter setup [] events → (name : OrderName)
    → IsTaking (graph_of setup) events name (take (graph_of setup) events name)
unfolding take
take-run setup is_setup events fit name =
    run-kept (left events name) (next_leg (graph_of setup) name) and_then (λ state. left state name) (λ state. FitAfter setup [] state)
    (λ state e kept is. (fit-more setup state e kept (next_leg-fits setup is_setup state kept name e is), next_leg-lowers setup is_setup state kept name e is))
    events fit (omega arith)

-- ---- sweeps

-- an event is a leg of a contract
pub record IsLegIn (contract : Contract) (e : Event) : Type 0 where
  pub leg : Leg
  pub is : event.Leg contract leg ≡ e

trade-contract : (graph : Graph) (events : List Event) (taker maker : Standing) (contract : Contract) (e : Event) → taker.order.contract ≡ contract
    → trade graph events taker maker ≡ Some e → IsLegIn contract e
trade-contract graph events taker maker contract e same is =
    let made = trade-leg graph events taker maker e is in
    subst (λ c. IsLegIn c e) same (record { leg = _; is = made.is })

pub leg_of_buy-contract : (graph : Graph) (events : List Event) (contract : Contract) (buy : Standing) (e : Event) → IsInLine events contract Buy buy
    → leg_of_buy graph events buy ≡ Some e → IsLegIn contract e
leg_of_buy-contract graph events contract buy e in_line is =
    let other = bind-some (resting_trade graph events buy) (partner graph events buy) e is in
    let found = partner-is graph events buy other.0 other.1 in
    let own : buy.order.contract ≡ contract = ap (λ (s : Standing). s.order.contract) in_line.is ∙ in_line.of_contract in
    let its : other.0.order.contract ≡ contract = ap (λ (s : Standing). s.order.contract) found.in_line.is ∙ found.in_line.of_contract ∙ own in
    elim (is_lt (time_cmp buy other.0))
    as (λ b. (if b then trade graph events other.0 buy else trade graph events buy other.0) ≡ Some e → IsLegIn contract e) [
      | true ↦ λ k. trade-contract graph events other.0 buy contract e its k
      | false ↦ λ k. trade-contract graph events buy other.0 contract e own k
    ] other.2

-- the leg of a sweep is of a contract of its hour
pub record IsLegInHour (hour : ℕ) (e : Event) : Type 0 where
  pub contract : Contract
  pub in_hour : contract.hour ≡ hour
  pub leg_in : IsLegIn contract e

pub sweep_leg-hour : (parts : List Part) (graph : Graph) (hour : ℕ) (events : List Event) (e : Event) → sweep_leg parts graph hour events ≡ Some e → IsLegInHour hour e
unfolding sweep_leg
sweep_leg-hour parts graph hour events e is =
    let part = from_first_answer (λ part. leg_in graph events (record { hour = hour; part = part })) e parts is in
    let contract : Contract = record { hour = hour; part = part.0 } in
    let buy = from_first_answer (leg_of_buy graph events) e (line events contract Buy) part.2 in
    record { contract = contract; in_hour = refl; leg_in = leg_of_buy-contract graph events contract buy.0 e (from_line events contract Buy buy.0 buy.1) buy.2 }

-- a sum is lower where no term is higher and one is lower
sum-le : {X : Type 0} (f g : X → ℕ) (xs : List X) → ((x : X) → f x ≤ g x) → sum_by f xs ≤ sum_by g xs
sum-le f g [] le = omega arith
sum-le f g (x ∷ xs) le = rw (sum_by-cons f x xs, sum_by-cons g x xs) (let rest = sum-le f g xs le in let here = le x in omega arith)

pub sum-lt : {X : Type 0} (f g : X → ℕ) (xs : List X) (x : X) → IsIn x xs → f x < g x → ((x : X) → f x ≤ g x) → sum_by f xs < sum_by g xs
sum-lt f g [] x h lt le = absurd h
sum-lt f g (y ∷ xs) x h lt le = rw (sum_by-cons f y xs, sum_by-cons g y xs) (elim h [
  | inl e ↦ let here : f y < g y = subst (λ z. f z < g z) e lt in let rest = sum-le f g xs le in omega arith
  | inr i ↦ let rest = sum-lt f g xs x i lt le in let here = le y in omega arith
])

-- a leg raises what is left of nothing
pub leg-lowers : (events : List Event) (contract : Contract) (leg : Leg) (name : OrderName) → left (and_then events (event.Leg contract leg)) name ≤ left events name
leg-lowers events contract leg name = let same = left-more events (event.Leg contract leg) name refl in omega arith

-- a leg that fits lowers what is left in its contract's hour
pub lowers-hour : (setup : Setup) (events : List Event) (contract : Contract) (leg : Leg) → FitAfter setup [] events → LegFits setup events contract leg
    → left_in_hour (and_then events (event.Leg contract leg)) contract.hour < left_in_hour events contract.hour
lowers-hour setup events contract leg fit fits =
    let after : List Event = and_then events (event.Leg contract leg) in
    let in_hour : Placed → Bool = λ order. nat_eq order.name.hour contract.hour in
    let same : placed after ≡ placed events = picked-same placed_by events (event.Leg contract leg) refl in
    let sound = (all_are_sound setup events fit).orders fits.taker fits.taker_open.is_placed in
    let hour : fits.taker.name.hour ≡ contract.hour = sound.named ∙ ap (λ (c : Contract). c.hour) fits.taker_contract in
    let there = IsIn-filter in_hour fits.taker (placed events) fits.taker_open.is_placed (eq-eqb fits.taker.name.hour contract.hour hour) in
    let lower = subst (λ n. left after n < left events n) (sym fits.taker_open.is_named) (lowers-taker setup events contract leg fits) in
    subst (λ orders. sum_by (λ order. left after order.name) (filter in_hour orders) < left_in_hour events contract.hour) (sym same)
    (sum-lt (λ (order : Placed). left after order.name) (λ order. left events order.name) (filter in_hour (placed events)) fits.taker there lower
    (λ order. leg-lowers events contract leg order.name))

module _ (setup : Setup) (is_setup : IsMarketSetup setup) (events : List Event) (fit : FitAfter setup [] events) where
  -- the next leg of a sweep lowers what is left in its hour
  pub sweep_leg-lowers : (parts : List Part) (hour : ℕ) (e : Event) → sweep_leg parts (graph_of setup) hour events ≡ Some e
      → left_in_hour (and_then events e) hour < left_in_hour events hour
  sweep_leg-lowers parts hour e is =
      let made = sweep_leg-hour parts (graph_of setup) hour events e is in
      let fits = subst (Fits setup events) (sym made.leg_in.is) (sweep_leg-fits setup is_setup events fit parts hour e is) in
      let lower = lowers-hour setup events made.contract made.leg_in.leg fit fits in
      let hours = subst (λ h. left_in_hour (and_then events (event.Leg made.contract made.leg_in.leg)) h < left_in_hour events h) made.in_hour lower in
      subst (λ v. left_in_hour (and_then events v) hour < left_in_hour events hour) made.leg_in.is hours

-- the legs of a sweep are a run: each is the next one, and after the last there is none
pub sweep-run : (setup : Setup) → IsMarketSetup setup → (parts : List Part) (hour : ℕ) (events : List Event) → FitAfter setup [] events
    → IsSweep parts (graph_of setup) hour events (sweep parts (graph_of setup) hour events)
unfolding sweep
sweep-run setup is_setup parts hour events fit =
    run-kept (left_in_hour events hour) (sweep_leg parts (graph_of setup) hour) and_then (λ state. left_in_hour state hour) (λ state. FitAfter setup [] state)
    (λ state e kept is. (fit-more setup state e kept (sweep_leg-fits setup is_setup state kept parts hour e is), sweep_leg-lowers setup is_setup state kept parts hour e is))
    events fit (omega arith)
