-- The orders that an order meets as it enters.
use Rattle.std.proofs.Common.{◌≡◌, ◌∙◌, inl, inr, ℕ, List, [], sym, ap, subst}
use Rattle.order_kinds.specs.declared.order.Order.{Order}
use Rattle.order_kinds.specs.declared.side.Side.{Side}
use Rattle.order_kinds.specs.declared.side.Side.TheVariants.{Buy, Sell}
use Rattle.order_kinds.specs.Side.{opposite}
use Rattle.zone_graph.specs.Graph.{HasZone}
use Rattle.zone_graph.specs.Route.{IsIn}
use Rattle.market_model.specs.declared.event.Event.{Event}
use Rattle.market_model.specs.declared.event.Event.TheVariants as event
use Rattle.market_model.specs.declared.setup.Setup.{Setup}
use Rattle.market_model.specs.Entering.{name_of_next, with_order}
use Rattle.market_model.specs.Grid.{graph_of}
use Rattle.market_model.specs.Orders.{Placed, Standing, placed, placed_by}
use Rattle.market_model.specs.WellFormed.{FitAfter}
use Rattle.laws_of_market.proofs.Placed.{OrderIsSound, all_are_sound, from_picked-more}
use Rattle.laws_of_market.proofs.Trades.{IsInLine, from_line}
use Rattle.laws_of_maximum.specs.FlowPlan.{orders_met}

opposite-apart : (side : Side) → opposite side ≡ side → ⊥
opposite-apart Buy e = cc
opposite-apart Sell e = cc

-- an order that is met entered before
pub record IsMet (setup : Setup) (events : List Event) (caller : ℕ) (order : Order) (found : Standing) : Type 0 where
  pub in_line : IsInLine (with_order events caller order) order.contract (opposite order.side) found
  pub was : IsIn in_line.order (placed events)
  pub sound : OrderIsSound setup in_line.order

pub met : (setup : Setup) (events : List Event) → FitAfter setup [] events → (caller : ℕ) (order : Order) (found : Standing) → IsIn found (orders_met events caller order)
    → IsMet setup events caller order found
met setup events fit caller order found i =
    let line = from_line (with_order events caller order) order.contract (opposite order.side) found i in
    let there : IsIn line.order (placed events) = elim (from_picked-more placed_by line.order events (event.Entered (name_of_next events order) caller order) line.is_open.is_placed) [
      | inl h ↦ h
      | inr new ↦
          let same : record { name = name_of_next events order; caller = caller; order = order } ≡ line.order = cc in
          absurd (opposite-apart order.side (sym line.on_side ∙ ap (λ (p : Placed). p.order.side) (sym same)))
    ] in
    record { in_line = line; was = there; sound = (all_are_sound setup events fit).orders line.order there }

-- so it stands in a zone that there is
pub met-known : (setup : Setup) (events : List Event) → FitAfter setup [] events → (caller : ℕ) (order : Order) (found : Standing) → IsIn found (orders_met events caller order)
    → HasZone (graph_of setup) found.order.zone
met-known setup events fit caller order found i =
    let is = met setup events fit caller order found i in
    subst (λ (s : Standing). HasZone (graph_of setup) s.order.zone) (sym is.in_line.is) is.sound.in_zone
