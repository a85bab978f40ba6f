-- The rules on the state, by the hours' own events.
use Rattle.std.proofs.Common.{◌≡◌, ◌∙◌, inl, ℕ, ◌&&◌, Bool, true, false, not, List, [], ◌∷◌, filter, find, flat_map, Option, Some, None, is_none, nat_eq, nat_le, nat_lt, pos, refl, sym, ap, if◌then◌else◌}
use Rattle.std.proofs.lemmas.List.Elements.{filter-append}
use Rattle.std.specs.Prelude.{int_lt}
use Rattle.std.specs.Option.{option_and_then, option_map}
use Rattle.order_kinds.specs.declared.contract.Quarter.{Quarter}
use Rattle.order_kinds.specs.declared.order.OrderName.{OrderName}
use Rattle.order_kinds.specs.Order.{is_limit}
use Rattle.order_kinds.specs.Period.{hour_quarters, hours_from, is_not_after, quarter_of, range_quarters}
use Rattle.order_kinds.specs.Phase.{is_later}
use Rattle.quarter_capacity.specs.Capacity.{flow_of}
use Rattle.zone_graph.specs.declared.route.Arc.{Arc}
use Rattle.zone_graph.specs.Graph.{Graph}
use Rattle.zone_graph.specs.Grid.{arc_between}
use Rattle.zone_graph.specs.Pour.{opposite_arc}
use Rattle.zone_graph.proofs.Membership.{from_filter, from_map}
use Rattle.market_model.specs.declared.command.Command.{Command}
use Rattle.market_model.specs.declared.command.Command.TheVariants as command
use Rattle.market_model.specs.declared.event.Event.{Event}
use Rattle.market_model.specs.declared.refusal.Refusal.{Refusal}
use Rattle.market_model.specs.declared.refusal.Refusal.TheVariants as refusal
use Rattle.market_model.specs.declared.setup.Setup.{Setup}
use Rattle.market_model.specs.Capacity.{allocated}
use Rattle.market_model.specs.Orders.{Placed, open_block, open_order}
use Rattle.market_model.specs.Refusals.{below_flow, closed_hour, gate_refusal, if_limit, if_own, if_own_block, is_below_left, no_room, offer_refusal, order_is_known, own_limit, reduces, request_refusal}
use Rattle.market_model.specs.Room.{is_closed_phase, lots_of, phase_of}
use Rattle.market_model.specs.Rules.{first_broken, hours_concerned, unless}
use Rattle.market_model.specs.Sweep.{first_answer, or_else}
use Rattle.market_model.specs.WellFormed.{FitAfter}
use Rattle.market_model.specs.StateRules.{state_refusal}
use Rattle.laws_of_market.proofs.Legs.{open_order-is}
use Rattle.laws_of_market.proofs.LocalBlocks.{open_block-agree}
use Rattle.laws_of_market.proofs.LocalLines.{first_answer-same, open_order-agree}
use Rattle.laws_of_market.proofs.Restrict.{find-same}
use Rattle.laws_of_market.proofs.LocalStates.{Agree, allocated-agree, left-agree, phase-agree, quarter_room-agree}
use Rattle.laws_of_market.proofs.OfHours.{one-agrees}
use Rattle.laws_of_market.proofs.StateRules.{first_answer-append}
use Rattle.laws_of_joint_commands.specs.ByHour.{hour_events}
use Rattle.laws_of_joint_commands.specs.StateRefusals.{HoursAreClosedByThemselves, OffersAreRefusedHourByHour, RequestsAreRefusedHourByHour, StateRefusesHourByHour, first_closed, first_of, first_over_hours, offer_refused, quarters_of_range, request_refused, state_refusal_by}

-- ---- the quarters of a range, hour by hour

-- a quarter is in a range
abbrev passes : (first last quarter : Quarter) → Bool
passes first last quarter = is_not_after first quarter && is_not_after quarter last

module _ {Y : Type 0} (first last : Quarter) where
  -- the first answer of the quarters of some hours is that of the first hour with one
  hours-first : (ask : Quarter → Option Y) (hours : List ℕ)
      → first_answer ask (filter (passes first last) (flat_map hour_quarters hours)) ≡ first_answer (λ hour. first_answer ask (quarters_of_range first last hour)) hours
  hours-first ask [] = refl
  hours-first ask (hour ∷ hours) =
      ap (first_answer ask) (filter-append (passes first last) (hour_quarters hour) (flat_map hour_quarters hours))
      ∙ first_answer-append ask (filter (passes first last) (hour_quarters hour)) (filter (passes first last) (flat_map hour_quarters hours))
      ∙ ap (λ (rest : Option Y). or_else (first_answer ask (filter (passes first last) (hour_quarters hour))) (λ _. rest)) (hours-first ask hours)

  -- what two tests say of an hour is the same where they say the same of its quarters
  hour-same : (ask other : Quarter → Option Y) (hour : ℕ) → ((quarter : Quarter) → quarter.hour ≡ hour → ask quarter ≡ other quarter)
      → first_answer ask (quarters_of_range first last hour) ≡ first_answer other (quarters_of_range first last hour)
  hour-same ask other hour same =
      first_answer-same ask other (quarters_of_range first last hour) (λ quarter i.
      let number = from_map (quarter_of hour) quarter (1 ∷ 2 ∷ 3 ∷ 4 ∷ []) (from_filter (passes first last) quarter (hour_quarters hour) i).0 in
      same quarter (ap (λ (q : Quarter). q.hour) number.2))

-- ---- one hour's own events

module _ (setup : Setup) (history : List Event) (fit : FitAfter setup [] history) where
  abbrev own : ℕ → List Event
  own = hour_events history

  agree : (hour : ℕ) → Agree (hour ∷ []) (own hour) history
  agree hour = one-agrees setup history fit hour

  closed-same : (hours : List ℕ) → find (λ hour. is_closed_phase (phase_of history hour)) hours ≡ find (λ hour. is_closed_phase (phase_of (own hour) hour)) hours
  closed-same hours =
      find-same (λ hour. is_closed_phase (phase_of history hour)) (λ hour. is_closed_phase (phase_of (own hour) hour)) hours (λ hour i.
      ap is_closed_phase (sym (phase-agree (hour ∷ []) (own hour) history (agree hour) hour (inl refl))))

  closed-own : (given : Command) → closed_hour history given ≡ first_closed own given
  closed-own (command.Gate hour asked) = refl
  closed-own (command.View contract side zone) = refl
  closed-own given = closed-same (hours_concerned given)

  -- ---- ranges

  below-own : (arc : Arc) (lots : ℕ) (quarter : Quarter) (hour : ℕ) → quarter.hour ≡ hour → below_flow history arc lots quarter ≡ below_flow (own hour) arc lots quarter
  below-own arc lots quarter hour is =
      ap (λ z. unless (not (int_lt (pos lots) z)) (refusal.BelowFlow quarter (lots_of z)))
      (sym (ap (λ n. flow_of n (allocated (own hour) quarter (opposite_arc arc))) (allocated-agree (hour ∷ []) (own hour) history (agree hour) quarter arc (inl is))
      ∙ ap (flow_of (allocated history quarter arc)) (allocated-agree (hour ∷ []) (own hour) history (agree hour) quarter (opposite_arc arc) (inl is))))

  room-own : (arc : Arc) (lots : ℕ) (quarter : Quarter) (hour : ℕ) → quarter.hour ≡ hour → no_room history arc lots quarter ≡ no_room (own hour) arc lots quarter
  room-own arc lots quarter hour is =
      ap (λ n. unless (nat_le lots n) (refusal.NoRoom quarter n)) (sym (quarter_room-agree (hour ∷ []) (own hour) history (agree hour) arc quarter (inl is)))

  -- what is said of the quarters of a range is the first that an hour says of its own
  over-hours : (says : List Event → Quarter → Option Refusal) (first last : Quarter)
      → ((quarter : Quarter) (hour : ℕ) → quarter.hour ≡ hour → says history quarter ≡ says (own hour) quarter)
      → first_answer (says history) (range_quarters first last) ≡ first_over_hours own says first last
  over-hours says first last same =
      hours-first first last (says history) (hours_from first.hour last.hour)
      ∙ first_answer-same (λ hour. first_answer (says history) (quarters_of_range first last hour)) (λ hour. first_answer (says (own hour)) (quarters_of_range first last hour))
      (hours_from first.hour last.hour) (λ hour i. hour-same first last (says history) (says (own hour)) hour (λ quarter is. same quarter hour is))

  offer-own : (graph : Graph) (given : Command) → offer_refusal graph history given ≡ offer_refused graph own given
  offer-own graph (command.Offer from to first last lots) = go (arc_between graph from to)
    where
      go : (o : Option Arc) → option_and_then (λ arc. first_answer (below_flow history arc lots) (range_quarters first last)) o
          ≡ option_and_then (λ arc. first_over_hours own (λ events. below_flow events arc lots) first last) o
      go None = refl
      go (Some arc) = over-hours (λ events. below_flow events arc lots) first last (λ quarter hour is. below-own arc lots quarter hour is)
  offer-own graph _ = refl

  request-own : (graph : Graph) (given : Command) → request_refusal graph history given ≡ request_refused graph own given
  request-own graph (command.Request from to first last lots) = go (arc_between graph from to)
    where
      go : (o : Option Arc) → option_and_then (λ arc. first_answer (no_room history arc lots) (range_quarters first last)) o
          ≡ option_and_then (λ arc. first_over_hours own (λ events. no_room events arc lots) first last) o
      go None = refl
      go (Some arc) = over-hours (λ events. no_room events arc lots) first last (λ quarter hour is. room-own arc lots quarter hour is)
  request-own graph _ = refl

  -- ---- commands on one order, and gates

  open-own : (name : OrderName) → open_order history name ≡ open_order (own name.hour) name
  open-own name = sym (open_order-agree (name.hour ∷ []) (own name.hour) history (agree name.hour) name (inl refl))

  limit-own : (caller : ℕ) (name : OrderName) → own_limit history caller name ≡ own_limit (own name.hour) caller name
  limit-own caller name = ap (λ o. if_limit (if_own caller o)) (open-own name)

  reduces-own : (caller : ℕ) (given : Command) → reduces history caller given ≡ reduces (own (first_of (hours_concerned given))) caller given
  reduces-own caller (command.Reduce name to) = go (open_order history name) refl ∙ ap (is_below_left (own name.hour) to) (limit-own caller name)
    where
      -- an order that passes the tests, or none
      by_tests : (order : Placed) → order.name ≡ name → (is_own limit : Bool) → (o : Option Placed) → o ≡ (if is_own then (if limit then Some order else None) else None)
          → is_below_left history to o ≡ is_below_left (own name.hour) to o
      by_tests order named true true o is =
          rw is (ap (nat_lt to) (sym (left-agree (name.hour ∷ []) (own name.hour) history (agree name.hour) order.name (inl (ap (λ (n : OrderName). n.hour) named)))))
      by_tests order named true false o is = rw is refl
      by_tests order named false limit o is = rw is refl

      tested : (order : Placed) (is_own : Bool) → if_limit (if is_own then Some order else None) ≡ (if is_own then (if is_limit order.order.kind then Some order else None) else None)
      tested order true = refl
      tested order false = refl

      go : (o : Option Placed) → open_order history name ≡ o → is_below_left history to (if_limit (if_own caller o)) ≡ is_below_left (own name.hour) to (if_limit (if_own caller o))
      go None is = refl
      go (Some order) is = by_tests order (open_order-is history name order is).is_named (nat_eq order.caller caller) (is_limit order.order.kind) _ (tested order (nat_eq order.caller caller))
  reduces-own caller _ = refl

  gate-own : (given : Command) → gate_refusal history given ≡ gate_refusal (own (first_of (hours_concerned given))) given
  gate-own (command.Gate hour asked) =
      ap (λ now. unless (is_later asked now) (refusal.GateBack now)) (sym (phase-agree (hour ∷ []) (own hour) history (agree hour) hour (inl refl)))
  gate-own _ = refl

  known-own : (caller : ℕ) (given : Command) → order_is_known history caller given ≡ order_is_known (own (first_of (hours_concerned given))) caller given
  known-own caller (command.Cancel name) =
      ap (λ o. not (is_none (if_own caller o) && is_none (if_own_block caller (open_block history name)))) (open-own name)
      ∙ ap (λ o. not (is_none (if_own caller (open_order (own name.hour) name)) && is_none (if_own_block caller o)))
      (sym (open_block-agree (name.hour ∷ []) (own name.hour) history (agree name.hour) name (inl refl)))
  known-own caller (command.Reduce name to) = ap (λ o. not (is_none o)) (limit-own caller name)
  known-own caller _ = refl

  state-own : (graph : Graph) (caller : ℕ) (given : Command) → state_refusal graph history caller given ≡ state_refusal_by graph own caller given
  unfolding state_refusal state_refusal_by
  state-own graph caller given =
      let reduce = reduces-own caller given in
      let closed = closed-own given in
      let gates = gate-own given in
      let known = known-own caller given in
      let offers = offer-own graph given in
      let requests = request-own graph given in
      λ i. first_broken (
      (λ _. unless (reduce i) refusal.QuantityOutOfRange) ∷ (λ _. option_map (λ hour. refusal.Closed hour) (closed i)) ∷ (λ _. gates i)
      ∷ (λ _. unless (known i) refusal.UnknownOrder) ∷ (λ _. offers i) ∷ (λ _. requests i) ∷ [])

pub closed_alone : HoursAreClosedByThemselves
closed_alone setup history given fit = closed-own setup history fit given

pub offers_alone : OffersAreRefusedHourByHour
offers_alone setup graph history given fit = offer-own setup history fit graph given

pub requests_alone : RequestsAreRefusedHourByHour
requests_alone setup graph history given fit = request-own setup history fit graph given

pub state_alone : StateRefusesHourByHour
state_alone setup graph history caller given fit = state-own setup history fit graph caller given
