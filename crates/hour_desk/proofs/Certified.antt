-- A refusal as unfilled of a command that touches one hour alone is certified by the events of the hour.
use Rattle.std.proofs.Common.{◌≡◌, ◌∙◌, inl, ℕ, ◌<◌, ◌==◌, false, List, [], ◌∷◌, Option, None, is_none, sym, ap, subst, if◌then◌else◌}
use Rattle.order_kinds.specs.declared.order.Order.{Order}
use Rattle.order_kinds.specs.Period.{contract_quarters}
use Rattle.order_kinds.specs.Side.{opposite}
use Rattle.zone_graph.specs.declared.route.Arc.{Arc}
use Rattle.zone_graph.specs.Graph.{Graph}
use Rattle.market_model.specs.declared.command.Command.{Command}
use Rattle.market_model.specs.declared.event.Event.{Event}
use Rattle.market_model.specs.declared.event.Event.TheVariants as event
use Rattle.market_model.specs.declared.refusal.Refusal.{Refusal}
use Rattle.market_model.specs.declared.refusal.Refusal.TheVariants as refusal
use Rattle.market_model.specs.declared.reply.Reply.TheVariants as reply
use Rattle.market_model.specs.declared.setup.Setup.{Setup}
use Rattle.market_model.specs.Board.{IsHourOf}
use Rattle.market_model.specs.Certificate.{bound_of, crossing_lots, unfilled_zones}
use Rattle.market_model.specs.Entering.{name_of_next, with_order}
use Rattle.market_model.specs.Grid.{graph_of}
use Rattle.market_model.specs.Market.{reply_to}
use Rattle.market_model.specs.Refusals.{is_filled}
use Rattle.market_model.specs.Room.{room}
use Rattle.market_model.specs.Rules.{early_refusal, hours_concerned, touched_hours}
use Rattle.market_model.specs.WellFormed.{OrderEnters}
use Rattle.laws_of_market.proofs.LocalAnswers.{bound_of-agree, unfilled_zones-agree}
use Rattle.laws_of_market.proofs.LocalEntries.{legs_taken-agree, rest_of-agree, with_order-agree}
use Rattle.laws_of_market.proofs.LocalLines.{contract-hours, line-agree}
use Rattle.laws_of_market.proofs.LocalStates.{Agree, room-agree}
use Rattle.laws_of_market.proofs.Admitting.{IsNamed, early-none}
use Rattle.laws_of_maximum.specs.FlowPlan.{FlowPlan, IsFlowPlan, IsPlanFor, orders_met, value_of}
use Rattle.laws_of_maximum.specs.Takings.{lots_traded}
use Rattle.laws_of_maximum.specs.Unfilled.{IsCertified, IsUnfilledOrder}
use Rattle.laws_of_maximum.proofs.Certified.{bound-is, certify, order-unfilled, zones-are}
use Rattle.laws_of_boards.proofs.Admitting as entering
use Rattle.laws_of_boards.proofs.Fitting.{hour-in-agrees}
use Rattle.hour_desk.proofs.Histories.{stands-wider}

-- events that agree on an order's hour certify the same of it
module _ (hour : ℕ) (a b : List Event) (agree : Agree (hour ∷ []) a b) (graph : Graph) (caller : ℕ) (order : Order) (in_hour : order.contract.hour ≡ hour) where
  entered : Agree (hour ∷ []) (with_order a caller order) (with_order b caller order)
  entered = with_order-agree (hour ∷ []) a b agree graph caller order (inl in_hour)

  same_met : orders_met a caller order ≡ orders_met b caller order
  same_met = line-agree (hour ∷ []) (with_order a caller order) (with_order b caller order) entered order.contract (opposite order.side) (inl in_hour)

  same_rooms : room (with_order a caller order) (contract_quarters order.contract) ≡ room (with_order b caller order) (contract_quarters order.contract)
  same_rooms =
      room-agree (hour ∷ []) (with_order a caller order) (with_order b caller order) entered (contract_quarters order.contract)
      (contract-hours (hour ∷ []) order.contract (inl in_hour))

  planned : (plan : FlowPlan) → IsPlanFor graph a caller order plan → IsPlanFor graph b caller order plan
  planned plan is =
      subst (λ os. IsFlowPlan graph (room (with_order b caller order) (contract_quarters order.contract)) order.side order.zone os (crossing_lots order) plan) same_met
      (subst (λ (r : Arc → ℕ). IsFlowPlan graph r order.side order.zone (orders_met a caller order) (crossing_lots order) plan) same_rooms is)

  certified : (zones : List ℕ) (bound : ℕ) → IsCertified graph b caller order zones bound → IsCertified graph a caller order zones bound
  certified zones bound its = record {
    in_reach = its.in_reach ∙ sym (unfilled_zones-agree (hour ∷ []) a b agree graph caller order (inl in_hour));
    have_own = its.have_own;
    is_bound = its.is_bound ∙ sym (bound_of-agree (hour ∷ []) a b agree graph caller order (inl in_hour) zones);
    is_most = its.is_most ∙ sym (ap lots_traded (legs_taken-agree (hour ∷ []) a b agree graph caller order (inl in_hour)));
    below = its.below;
    no_plan_fills = λ plan is. subst (λ os. value_of os plan < order.quantity.0) (sym same_met) (its.no_plan_fills plan (planned plan is));
  }

-- so the refusal of a command that touches an hour alone is certified after the events of the hour
pub unfilled : (setup : Setup) (hour : ℕ) (graph : Graph) (events : List Event) (caller : ℕ) (given : Command) (zones : List ℕ) (bound : ℕ)
    → graph_of setup ≡ graph → IsHourOf graph hour events → touched_hours setup caller given ≡ hour ∷ [] → early_refusal setup caller given ≡ None
    → reply_to setup events caller given ≡ reply.Refused (refusal.Unfilled zones bound) → IsUnfilledOrder graph events caller given zones bound
unfilled setup hour graph events caller given zones bound over stands alone early refused =
    let own : Graph = graph_of setup in
    let named : IsNamed setup caller given = early-none setup caller given early in
    let one : hours_concerned given ≡ hour ∷ [] =
    ap (λ (o : Option Refusal). if is_none o then hours_concerned given else []) (sym named.naming) ∙ alone in
    let its = order-unfilled setup events caller given zones bound refused in
    let order : Order = its.order in
    let in_hour : order.contract.hour ≡ hour = let both : order.contract.hour ∷ [] ≡ hour ∷ [] = ap hours_concerned (sym its.is) ∙ one in cc in
    let wide = stands-wider setup hour events (subst (λ g. IsHourOf g hour events) (sym over) stands) in
    let agree = hour-in-agrees wide.wider hour wide.history events wide.in_hour in
    let enters : OrderEnters wide.wider wide.history (name_of_next wide.history order) caller order =
    wide.fits wide.history (event.Entered (name_of_next wide.history order) caller order)
    (entering.orders setup wide.history caller order (subst (λ g. early_refusal setup caller g ≡ None) its.is early)) in
    let there : IsCertified own wide.history caller order zones bound =
    subst (λ g. IsCertified g wide.history caller order zones bound) wide.same
    (certify wide.wider wide.history caller order wide.in_hour.is_setup wide.in_hour.fit enters its.is_kill
    (subst (λ g. is_filled g wide.history caller order ≡ false) (sym wide.same)
    (ap (λ n. n == 0) (sym (rest_of-agree (hour ∷ []) events wide.history agree own caller order (inl in_hour))) ∙ its.unfilled))
    zones bound
    (subst (λ g. zones ≡ unfilled_zones g wide.history caller order) (sym wide.same)
    (zones-are own events caller given zones bound its ∙ unfilled_zones-agree (hour ∷ []) events wide.history agree own caller order (inl in_hour)))
    (subst (λ g. bound ≡ bound_of g wide.history caller order zones) (sym wide.same)
    (bound-is own events caller given zones bound its ∙ bound_of-agree (hour ∷ []) events wide.history agree own caller order (inl in_hour) zones))) in
    subst (λ g. IsUnfilledOrder g events caller given zones bound) over (record {
      order = order;
      is = its.is;
      is_fill_or_kill = its.is_kill;
      certified = certified hour events wide.history agree own caller order in_hour zones bound there;
    })
