-- What happens as orders enter leaves a history well-formed.
use Rattle.std.proofs.Common.{◌≡◌, ◌∙◌, inl, inr, ℕ, zero, suc, ◌<◌, true, List, [], ◌∷◌, ◌++◌, append_assoc, length, Some, None, refl, sym, ap, subst, arith}
use Rattle.std.proofs.lemmas.List.{append-nil}
use Rattle.order_kinds.specs.declared.contract.Part.{Part}
use Rattle.order_kinds.specs.declared.order.Kind.{Kind}
use Rattle.order_kinds.specs.declared.order.Kind.TheVariants as kind
use Rattle.order_kinds.specs.declared.order.Order.{Order}
use Rattle.order_kinds.specs.declared.order.OrderName.{OrderName}
use Rattle.order_kinds.specs.Contract.{is_known}
use Rattle.order_kinds.specs.Order.{order_fault}
use Rattle.order_kinds.specs.Period.{is_within}
use Rattle.zone_graph.specs.Graph.{Graph, HasZone}
use Rattle.zone_graph.specs.Route.{IsIn}
use Rattle.market_model.specs.declared.event.Event.{Event}
use Rattle.market_model.specs.declared.event.Event.TheVariants as event
use Rattle.market_model.specs.declared.setup.Setup.{Setup}
use Rattle.market_model.specs.Entering.{enter, enter_all, name_of_next, rest_withdrawn}
use Rattle.market_model.specs.Grid.{graph_of}
use Rattle.market_model.specs.Lines.{partner}
use Rattle.market_model.specs.Orders.{left}
use Rattle.market_model.specs.Sweep.{sweep, sweep_leg, sweeps}
use Rattle.market_model.specs.Taking.{next_leg, standing_order, take}
use Rattle.market_model.specs.WellFormed.{IsHistory, IsMarketSetup, OrderEnters}
use Rattle.laws_of_market.proofs.Falls.{sweep_leg-hour, trade-leg}
use Rattle.laws_of_market.proofs.Legs.{next_leg-fits, sweep_leg-fits}
use Rattle.laws_of_market.proofs.Repeats.{bind-some, history-keep}
use Rattle.laws_of_market.proofs.Wholes.{IsNoBlockLeg, history-more}

-- a leg of orders is no leg of blocks
pub next_leg-plain : (graph : Graph) (name : OrderName) (events : List Event) (e : Event) → next_leg graph name events ≡ Some e → IsNoBlockLeg e
unfolding next_leg
next_leg-plain graph name events e is =
    let own = bind-some _ (standing_order events name) e is in
    let other = bind-some _ (partner graph events own.0) e own.2 in
    subst IsNoBlockLeg (trade-leg graph events own.0 other.0 e other.2).is tt

pub sweep_leg-plain : (parts : List Part) (graph : Graph) (hour : ℕ) (events : List Event) (e : Event) → sweep_leg parts graph hour events ≡ Some e → IsNoBlockLeg e
sweep_leg-plain parts graph hour events e is = subst IsNoBlockLeg (sweep_leg-hour parts graph hour events e is).leg_in.is tt

-- what an order needs to enter, besides its name
pub record MayEnter (setup : Setup) (caller : ℕ) (order : Order) : Type 0 where
  pub of_caller : caller < length setup.callers
  pub in_hour : is_within 1 setup.hours order.contract.hour ≡ true
  pub in_part : is_known order.contract.part ≡ true
  pub in_zone : HasZone (graph_of setup) order.zone
  pub sound : order_fault order ≡ None

-- so it enters under its next name
pub may-enters : (setup : Setup) (caller : ℕ) (order : Order) (events : List Event) → MayEnter setup caller order → OrderEnters setup events (name_of_next events order) caller order
may-enters setup caller order events may = record {
  named = refl;
  of_caller = may.of_caller;
  in_hour = may.in_hour;
  in_part = may.in_part;
  in_zone = may.in_zone;
  sound = may.sound;
}

module _ (setup : Setup) (is_setup : IsMarketSetup setup) where
  -- a taking leaves a history well-formed
  pub take-history : (events : List Event) (name : OrderName) → IsHistory setup events → IsHistory setup (events ++ take (graph_of setup) events name)
  unfolding take
  take-history events name history =
      history-keep (left events name) (next_leg (graph_of setup) name) (IsHistory setup)
      (λ before e kept is. history-more setup before e kept (next_leg-fits setup is_setup before kept.fit name e is) (next_leg-plain (graph_of setup) name before e is))
      events history

  -- so does a sweep
  pub sweep-history : (parts : List Part) (hour : ℕ) (events : List Event) → IsHistory setup events → IsHistory setup (events ++ sweep parts (graph_of setup) hour events)
  unfolding sweep
  sweep-history parts hour events history =
      history-keep _ (sweep_leg parts (graph_of setup) hour) (IsHistory setup)
      (λ before e kept is. history-more setup before e kept (sweep_leg-fits setup is_setup before kept.fit parts hour e is) (sweep_leg-plain parts (graph_of setup) hour before e is))
      events history

  pub sweeps-history : (parts : List Part) (hours : List ℕ) (events : List Event) → IsHistory setup events → IsHistory setup (events ++ sweeps parts (graph_of setup) hours events)
  sweeps-history parts [] events history = subst (IsHistory setup) (sym (append-nil events)) history
  sweeps-history parts (hour ∷ hours) events history =
      let legs : List Event = sweep parts (graph_of setup) hour events in
      subst (IsHistory setup) (append_assoc events legs (sweeps parts (graph_of setup) hours (events ++ legs)))
      (sweeps-history parts hours (events ++ legs) (sweep-history parts hour events history))

  -- the withdrawal of an immediate-or-cancel order's rest
  rest-history : (kind : Kind) (events : List Event) (name : OrderName) (rest : ℕ) → rest ≡ left events name → IsHistory setup events
      → IsHistory setup (events ++ rest_withdrawn kind name rest)
  rest-history kind.Ioc events name zero same history = subst (IsHistory setup) (sym (append-nil events)) history
  rest-history kind.Ioc events name (suc more) same history =
      history-more setup events (event.Withdrawn name (suc more)) history (record { some = omega arith; all_left = same }) tt
  rest-history kind.Limit events name rest same history = subst (IsHistory setup) (sym (append-nil events)) history
  rest-history kind.Fok events name rest same history = subst (IsHistory setup) (sym (append-nil events)) history
  rest-history (kind.Iceberg peak delta) events name rest same history = subst (IsHistory setup) (sym (append-nil events)) history

  -- an order that enters leaves a history well-formed
  pub enter-history : (parts : List Part) (caller : ℕ) (order : Order) (events : List Event) → MayEnter setup caller order → IsHistory setup events
      → IsHistory setup (events ++ enter parts (graph_of setup) caller order events)
  unfolding enter
  enter-history parts caller order events may history =
      let name : OrderName = name_of_next events order in
      let entered : Event = event.Entered name caller order in
      let entry : List Event = entered ∷ [] in
      let start = history-more setup events entered history (may-enters setup caller order events may) tt in
      let legs : List Event = take (graph_of setup) (events ++ entry) name in
      let taken = take-history (events ++ entry) name start in
      let rest : List Event = rest_withdrawn order.kind name (left (events ++ entry ++ legs) name) in
      let withdrawn = rest-history order.kind (events ++ entry ++ legs) name (left (events ++ entry ++ legs) name) refl taken in
      let done : List Event = entry ++ legs ++ rest in
      let same : (events ++ entry ++ legs) ++ rest ≡ events ++ done =
      ap (λ xs. xs ++ rest) (append_assoc events entry legs) ∙ append_assoc events (entry ++ legs) rest in
      let all = subst (IsHistory setup) same withdrawn in
      subst (IsHistory setup) (append_assoc events done (sweep parts (graph_of setup) order.contract.hour (events ++ done)))
      (sweep-history parts order.contract.hour (events ++ done) all)

  -- so do several, one after the other
  pub enter_all-history : (parts : List Part) (caller : ℕ) (orders : List Order) (events : List Event) → ((order : Order) → IsIn order orders → MayEnter setup caller order)
      → IsHistory setup events → IsHistory setup (events ++ enter_all parts (graph_of setup) caller orders events)
  enter_all-history parts caller [] events may history = subst (IsHistory setup) (sym (append-nil events)) history
  enter_all-history parts caller (order ∷ orders) events may history =
      let done : List Event = enter parts (graph_of setup) caller order events in
      subst (IsHistory setup) (append_assoc events done (enter_all parts (graph_of setup) caller orders (events ++ done)))
      (enter_all-history parts caller orders (events ++ done) (λ o i. may o (inr i)) (enter-history parts caller order events (may order (inl refl)) history))
