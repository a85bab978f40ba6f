-- Histories in which orders enter stay legal.
use Rattle.std.proofs.Common.{◌≡◌, ◌∙◌, inl, inr, ℕ, zero, suc, true, List, [], ◌∷◌, ◌++◌, refl, sym, ap, subst, arith}
use Rattle.std.proofs.lemmas.List.{append-nil}
use Rattle.order_kinds.specs.declared.contract.Part.{Part}
use Rattle.order_kinds.specs.declared.order.Kind.{Kind}
use Rattle.order_kinds.specs.declared.order.Kind.TheVariants as kind
use Rattle.order_kinds.specs.declared.order.Order.{Order}
use Rattle.order_kinds.specs.declared.order.OrderName.{OrderName}
use Rattle.order_kinds.specs.Contract.{is_known}
use Rattle.zone_graph.specs.Graph.{Graph, HasZone, IsGraph}
use Rattle.zone_graph.specs.Route.{IsIn}
use Rattle.market_model.specs.declared.event.Event.{Event}
use Rattle.market_model.specs.declared.event.Event.TheVariants as event
use Rattle.market_model.specs.declared.setup.Setup.{Setup}
use Rattle.market_model.specs.Entering.{after_taking, enter, legs_taken, name_of_next, rest_withdrawn, with_order}
use Rattle.market_model.specs.Grid.{graph_of}
use Rattle.market_model.specs.Orders.{left, next_name}
use Rattle.market_model.specs.Sweep.{sweep}
use Rattle.market_model.specs.WellFormed.{FitAfter, IsMarketSetup, OrderEnters, IsLegalOver}
use Rattle.laws_of_market.proofs.Growing.{fit-append}
use Rattle.laws_of_market.proofs.Legs.{sweep-fits, take-fits}
use Rattle.laws_of_market.proofs.Repeats.{fit-more}
use Rattle.plain_market.specs.Entering.{CanEnter}
use Rattle.plain_market.proofs.Parts.{IsTaken, enter-is}

-- the only order of a list
module _ (graph : Graph) (events : List Event) (caller : ℕ) (order : Order) (can : CanEnter graph events caller (order ∷ [])) where
  enters : OrderEnters can.setup events (name_of_next events order) caller order
  enters = can.each events order (inl refl)

  pub start-legal : IsLegalOver graph (with_order events caller order)
  start-legal = record {
    setup = can.setup;
    over = can.over;
    fit = fit-more can.setup events (event.Entered (name_of_next events order) caller order) can.fit enters;
  }

  pub can-part : is_known order.contract.part ≡ true
  can-part = enters.in_part

  pub can-zone : HasZone graph order.zone
  can-zone = subst (λ g. HasZone g order.zone) (sym can.over) enters.in_zone

-- one of several orders can enter
pub can-one : (graph : Graph) (events : List Event) (caller : ℕ) (orders : List Order) (order : Order) → CanEnter graph events caller orders → IsIn order orders
    → CanEnter graph events caller (order ∷ [])
can-one graph events caller orders order can i = record {
  setup = can.setup;
  over = can.over;
  fit = can.fit;
  each = λ before other h. elim h [ inl s ↦ can.each before other (subst (λ o. IsIn o orders) (sym s) i) | inr j ↦ absurd j ];
}

module _ (setup : Setup) (is_setup : IsMarketSetup setup) where
  -- the withdrawal of an immediate-or-cancel order's rest
  pub rest-fits : (kind : Kind) (events : List Event) (name : OrderName) (rest : ℕ) → rest ≡ left events name → FitAfter setup [] events
      → FitAfter setup [] (events ++ rest_withdrawn kind name rest)
  rest-fits kind.Ioc events name zero same fit = subst (FitAfter setup []) (sym (append-nil events)) fit
  rest-fits kind.Ioc events name (suc more) same fit =
      fit-more setup events (event.Withdrawn name (suc more)) fit (record { some = omega arith; all_left = same })
  rest-fits kind.Limit events name rest same fit = subst (FitAfter setup []) (sym (append-nil events)) fit
  rest-fits kind.Fok events name rest same fit = subst (FitAfter setup []) (sym (append-nil events)) fit
  rest-fits (kind.Iceberg peak delta) events name rest same fit = subst (FitAfter setup []) (sym (append-nil events)) fit

  -- an order that enters
  enter-fits : (parts : List Part) (caller : ℕ) (order : Order) (events : List Event) → OrderEnters setup events (name_of_next events order) caller order
      → FitAfter setup [] events → FitAfter setup [] (events ++ enter parts (graph_of setup) caller order events)
  enter-fits parts caller order events enters fit =
      let name : OrderName = name_of_next events order in
      let start : List Event = with_order events caller order in
      let after : List Event = after_taking (graph_of setup) events caller order in
      let rested : List Event = after ++ rest_withdrawn order.kind name (left after name) in
      let start_fit = fit-more setup events (event.Entered name caller order) fit enters in
      let after_fit : FitAfter setup [] after =
      fit-append setup [] start (legs_taken (graph_of setup) events caller order) start_fit (take-fits setup is_setup start start_fit name) in
      let rested_fit : FitAfter setup [] rested = rest-fits order.kind after name (left after name) refl after_fit in
      subst (FitAfter setup []) (enter-is parts (graph_of setup) events caller order)
      (fit-append setup [] rested (sweep parts (graph_of setup) order.contract.hour rested) rested_fit
      (sweep-fits setup is_setup parts order.contract.hour rested rested_fit))

-- what could enter before an order still can after it
pub can-still : (parts : List Part) (graph : Graph) (events : List Event) (caller : ℕ) (orders : List Order) (order : Order) → IsGraph graph
    → CanEnter graph events caller orders → IsIn order orders → CanEnter graph (events ++ enter parts graph caller order events) caller orders
can-still parts graph events caller orders order is can i = record {
  setup = can.setup;
  over = can.over;
  fit = subst (λ g. FitAfter can.setup [] (events ++ enter parts g caller order events)) (sym can.over)
      (enter-fits can.setup (subst IsGraph can.over is) parts caller order events (can.each events order i) can.fit);
  each = can.each;
}

-- the history is legal where the rest of an order is withdrawn
pub rested-legal : (graph : Graph) (events : List Event) (kind : Kind) (name : OrderName) → IsGraph graph → IsLegalOver graph events
    → IsLegalOver graph (events ++ rest_withdrawn kind name (left events name))
rested-legal graph events kind name is legal = record {
  setup = legal.setup;
  over = legal.over;
  fit = rest-fits legal.setup (subst IsGraph legal.over is) kind events name (left events name) refl legal.fit;
}

-- the history with an order entered under the next name is legal
pub entered-legal : (graph : Graph) (events new : List Event) (caller : ℕ) (order : Order) (name : OrderName) → CanEnter graph events caller (order ∷ [])
    → name ≡ next_name events order.contract.hour → new ≡ events ++ event.Entered name caller order ∷ [] → IsLegalOver graph new
entered-legal graph events new caller order name can is_name is_new =
    subst (IsLegalOver graph) (sym (is_new ∙ ap (λ n. events ++ event.Entered n caller order ∷ []) is_name))
    (start-legal graph events caller order can)

pub taken-legal : (graph : Graph) (events : List Event) (caller : ℕ) (order : Order) (start after : List Event) (name : OrderName)
    → CanEnter graph events caller (order ∷ []) → IsTaken graph events caller order start after name → IsLegalOver graph start
taken-legal graph events caller order start after name can is_taken =
    subst (IsLegalOver graph) (sym is_taken.start_is) (start-legal graph events caller order can)
