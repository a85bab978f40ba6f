-- What an order obtains on a board whose events end with its entry.
use Rattle.std.proofs.Common.{◌≡◌, ◌∙◌, inl, inr, ℕ, ◌≤◌, List, [], ◌∷◌, sym, ap, subst}
use Rattle.order_kinds.specs.declared.order.Order.{Order}
use Rattle.order_kinds.specs.Period.{contract_quarters}
use Rattle.order_kinds.specs.Side.{opposite}
use Rattle.zone_graph.specs.declared.route.Arc.{Arc}
use Rattle.zone_graph.specs.Graph.{Graph}
use Rattle.market_model.specs.declared.event.Event.{Event}
use Rattle.market_model.specs.declared.event.Event.TheVariants as event
use Rattle.market_model.specs.declared.setup.Setup.{Setup}
use Rattle.market_model.specs.Certificate.{bound_of, crossing_lots, unfilled_zones}
use Rattle.market_model.specs.Entering.{name_of_next, with_order}
use Rattle.market_model.specs.Grid.{graph_of}
use Rattle.market_model.specs.Orders.{Placed}
use Rattle.market_model.specs.Room.{room}
use Rattle.market_model.specs.WellFormed.{FitAfter, IsMarketSetup, OrderEnters}
use Rattle.laws_of_market.proofs.LastOfHour.{before-last}
use Rattle.laws_of_market.proofs.LocalAnswers.{bound_of-agree, unfilled_zones-agree}
use Rattle.laws_of_market.proofs.LocalEntries.{legs_taken-agree, with_order-agree}
use Rattle.laws_of_market.proofs.LocalLines.{contract-hours, line-agree}
use Rattle.laws_of_market.proofs.LocalStates.{Agree, room-agree}
use Rattle.laws_of_maximum.specs.FlowPlan.{FlowPlan, IsFlowPlan, IsPlanFor, orders_met, value_of}
use Rattle.laws_of_maximum.specs.Takings.{lots_traded, obtained}
use Rattle.laws_of_maximum.proofs.BestPlans.{obtain-most}
use Rattle.laws_of_maximum.proofs.Obtained.{reach-bound}
use Rattle.laws_of_boards.specs.Takers.{BoardTakingsObtainTheMost, ObtainsTheMost}

-- what an order obtains that enters after some events, it obtains after others that agree with them on
-- its hour
module _ (setup : Setup) (is_setup : IsMarketSetup setup) (hour : ℕ) (before events : List Event) (fit : FitAfter setup [] events) (agree : Agree (hour ∷ []) before events)
    (placed : Placed) (in_hour : placed.order.contract.hour ≡ hour) (enters : OrderEnters setup events (name_of_next events placed.order) placed.caller placed.order) where
  abbrev graph : Graph
  graph = graph_of setup

  abbrev order : Order
  order = placed.order

  abbrev caller : ℕ
  caller = placed.caller

  entered : Agree (hour ∷ []) (with_order before caller order) (with_order events caller order)
  entered = with_order-agree (hour ∷ []) before events agree graph caller order (inl in_hour)

  same_lots : obtained graph before caller order ≡ obtained graph events caller order
  same_lots = ap lots_traded (legs_taken-agree (hour ∷ []) before events agree graph caller order (inl in_hour))

  same_zones : unfilled_zones graph before caller order ≡ unfilled_zones graph events caller order
  same_zones = unfilled_zones-agree (hour ∷ []) before events agree graph caller order (inl in_hour)

  same_bound : bound_of graph before caller order (unfilled_zones graph before caller order) ≡ bound_of graph events caller order (unfilled_zones graph events caller order)
  same_bound =
      bound_of-agree (hour ∷ []) before events agree graph caller order (inl in_hour) (unfilled_zones graph before caller order)
      ∙ ap (bound_of graph events caller order) same_zones

  same_met : orders_met before caller order ≡ orders_met events caller order
  same_met = line-agree (hour ∷ []) (with_order before caller order) (with_order events caller order) entered order.contract (opposite order.side) (inl in_hour)

  same_rooms : room (with_order before caller order) (contract_quarters order.contract) ≡ room (with_order events caller order) (contract_quarters order.contract)
  same_rooms =
      room-agree (hour ∷ []) (with_order before caller order) (with_order events caller order) entered (contract_quarters order.contract)
      (contract-hours (hour ∷ []) order.contract (inl in_hour))

  planned-too : (plan : FlowPlan) → IsPlanFor graph before caller order plan → IsPlanFor graph events caller order plan
  planned-too plan planned =
      subst (λ os. IsFlowPlan graph (room (with_order events caller order) (contract_quarters order.contract)) order.side order.zone os (crossing_lots order) plan) same_met
      (subst (λ (r : Arc → ℕ). IsFlowPlan graph r order.side order.zone (orders_met before caller order) (crossing_lots order) plan) same_rooms planned)

  obtains-most : ObtainsTheMost graph before placed
  obtains-most = record {
    reached = λ flat. elim (reach-bound setup is_setup events fit caller order enters flat) [
      | inl all ↦ inl (same_lots ∙ all)
      | inr bound ↦ inr (same_lots ∙ bound ∙ sym same_bound)
    ];
    most = λ plan flat planned. elim (obtain-most setup events caller order plan is_setup fit enters flat (planned-too plan planned)) [
      | inl all ↦ inl (same_lots ∙ all)
      | inr least ↦ inr (subst (λ n. value_of (orders_met before caller order) plan ≤ n) (sym same_lots)
          (subst (λ os. value_of os plan ≤ obtained graph events caller order) (sym same_met) least))
    ];
  }

pub obtains : BoardTakingsObtainTheMost
obtains board before order is_board ends in_hour =
    let whole = is_board.stands in
    let entry : Event = event.Entered order.name order.caller order.order in
    let last = before-last whole.setup board.hour whole.history before entry whole.fit (whole.in_hour ∙ ends.is) in
    let enters : OrderEnters whole.setup last.history order.name order.caller order.order = last.fits in
    subst (λ g. ObtainsTheMost g before order) whole.over_grid
    (obtains-most whole.setup whole.is_setup board.hour before last.history last.fit last.agree order in_hour
    (subst (λ n. OrderEnters whole.setup last.history n order.caller order.order) enters.named enters))
