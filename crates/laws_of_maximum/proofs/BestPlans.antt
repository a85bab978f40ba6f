-- No flow plan for an order that enters is worth more than the bound of a set of zones that has its
-- zone.
use Rattle.std.proofs.Common.{◌≡◌, ◌≤◌, ◌⊎◌, inl, inr, ℕ, List, [], subst, sym}
use Rattle.order_kinds.specs.declared.order.Order.{Order}
use Rattle.order_kinds.specs.Period.{contract_quarters}
use Rattle.market_model.specs.declared.event.Event.{Event}
use Rattle.market_model.specs.declared.setup.Setup.{Setup}
use Rattle.market_model.specs.Certificate.{bound_of, crossing_lots, unfilled_zones}
use Rattle.market_model.specs.Entering.{name_of_next, with_order}
use Rattle.market_model.specs.Grid.{graph_of}
use Rattle.market_model.specs.Room.{room}
use Rattle.market_model.specs.WellFormed.{FitAfter, IsMarketSetup, OrderEnters}
use Rattle.laws_of_maximum.specs.FlowPlan.{FlowPlan, IsPlanFor, NoPlanBeatsTheBound, orders_met, value_of}
use Rattle.laws_of_maximum.specs.Takings.{HasNoDelta, obtained}
use Rattle.laws_of_maximum.proofs.Duality.{no_plan_more}
use Rattle.laws_of_maximum.proofs.OrdersMet.{met-known}
use Rattle.laws_of_maximum.proofs.Obtained.{reach-bound, zones_have_own}

pub no_plan_beats_it : NoPlanBeatsTheBound
unfolding bound_of
no_plan_beats_it setup events caller order plan zones is_setup fit planned inside =
    no_plan_more (graph_of setup) (room (with_order events caller order) (contract_quarters order.contract)) order.side order.zone
    (orders_met events caller order) (crossing_lots order) plan zones is_setup (met-known setup events fit caller order) planned inside

pub obtain-most : (setup : Setup) (events : List Event) (caller : ℕ) (order : Order) (plan : FlowPlan) → IsMarketSetup setup → FitAfter setup [] events
    → OrderEnters setup events (name_of_next events order) caller order → HasNoDelta order.kind
    → IsPlanFor (graph_of setup) events caller order plan
    → (obtained (graph_of setup) events caller order ≡ order.quantity.0)
    ⊎ (value_of (orders_met events caller order) plan ≤ obtained (graph_of setup) events caller order)
obtain-most setup events caller order plan is_setup fit enters flat planned =
    elim (reach-bound setup is_setup events fit caller order enters flat) [
      | inl all ↦ inl all
      | inr bound ↦ inr (subst (λ n. value_of (orders_met events caller order) plan ≤ n) (sym bound)
          (no_plan_beats_it setup events caller order plan (unfilled_zones (graph_of setup) events caller order) is_setup fit planned
          (zones_have_own setup is_setup events fit caller order enters flat)))
    ]
