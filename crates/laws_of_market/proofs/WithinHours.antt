-- The events of a reply touch no hour but those that its command concerns.
use Rattle.std.proofs.Common.{◌≡◌, ◌∙◌, inl, inr, ℕ, zero, suc, ◌+◌, ◌-◌, ◌≤◌, true, false, List, [], ◌∷◌, ◌++◌, flat_map, length, map, Option, Some, None, nat_eq, nat_le, eqb-true, is_none, nat_lt, refl, sym, ap, subst, if◌then◌else◌, arith}
use Rattle.std.proofs.lemmas.Bool.{leb-true, ltb-true, and_parts}
use Rattle.std.specs.Ordering.{is_lt}
use Rattle.std.specs.List.{filter_map}
use Rattle.order_kinds.specs.declared.contract.Contract.{Contract}
use Rattle.order_kinds.specs.declared.contract.Part.{Part}
use Rattle.order_kinds.specs.declared.order.BlockOrder.{BlockOrder}
use Rattle.order_kinds.specs.declared.order.Kind.{Kind}
use Rattle.order_kinds.specs.declared.order.Kind.TheVariants as kind
use Rattle.order_kinds.specs.declared.order.Order.{Order}
use Rattle.order_kinds.specs.declared.order.OrderName.{OrderName}
use Rattle.order_kinds.specs.declared.phase.Phase.{Phase}
use Rattle.order_kinds.specs.declared.phase.Phase.TheVariants as phase
use Rattle.order_kinds.specs.declared.side.Side.TheVariants.{Buy}
use Rattle.order_kinds.specs.Period.{hours_from, is_within}
use Rattle.zone_graph.specs.declared.route.Arc.{Arc}
use Rattle.zone_graph.specs.Graph.{Graph}
use Rattle.zone_graph.specs.Grid.{arc_between}
use Rattle.zone_graph.specs.Route.{IsIn}
use Rattle.zone_graph.specs.Steps.{step_and_onward, steps}
use Rattle.zone_graph.proofs.Membership.{IsIn-append, IsIn-map, IsIn-range, from_filter, from_map}
use Rattle.market_model.specs.declared.command.Command.{Command}
use Rattle.market_model.specs.declared.command.Command.TheVariants as command
use Rattle.market_model.specs.declared.event.Event.{Event}
use Rattle.market_model.specs.declared.event.Event.TheVariants as event
use Rattle.market_model.specs.declared.refusal.Refusal.{Refusal}
use Rattle.market_model.specs.declared.setup.Setup.{Setup}
use Rattle.market_model.specs.Blocks.{StandingBlock, block_deal, block_deals, block_leg, block_legs, block_line, block_partner, block_time_cmp, deal_of_buy, enter_block, entering_block, legs_with, match_blocks, partner_found, resting_block_legs, with_block}
use Rattle.market_model.specs.Entering.{enter, enter_all, legs_taken, name_of_next, rest_of, rest_withdrawn, with_order}
use Rattle.market_model.specs.Grid.{graph_of}
use Rattle.market_model.specs.History.{and_then, events_of, touches}
use Rattle.market_model.specs.Lines.{partner}
use Rattle.market_model.specs.Market.{reply_let_in, events_done, gate, on_arc, refused_or, reply_by, then_sweeps, withdrawals}
use Rattle.market_model.specs.Orders.{Standing, is_open, left, name_given, next_name, open_names, open_order, standing}
use Rattle.market_model.specs.Refusals.{refusal_of_command}
use Rattle.market_model.specs.Rules.{hours_concerned, naming_refusal, period_is_good, touched_hours}
use Rattle.laws_of_market.proofs.Admitted.{naming-none}
use Rattle.market_model.specs.Sweep.{left_in_hour, sweep, sweep_leg, sweeps}
use Rattle.market_model.specs.Taking.{next_leg, standing_order, take}
use Rattle.laws_of_market.proofs.Falls.{IsLegIn, sweep_leg-hour, trade-leg}
use Rattle.laws_of_market.proofs.Legs.{open_order-is}
use Rattle.laws_of_market.proofs.Members.{from_first_answer}
use Rattle.laws_of_market.proofs.Repeats.{bind-some, map-some}
use Rattle.laws_of_market.proofs.LocalAnswers.{open_names-hour}
use Rattle.laws_of_market.proofs.LocalBlocks.{ArePeriodNamed, IsWithin, agree-itself, block_deal-named, block_deals-named, block_leg-made, block_leg-named, entered_before, entered_before-named, entering-within, first-in, legs_found, line-within, partner-pair, partner-turned, with_block-agree}
use Rattle.laws_of_market.proofs.LocalEntries.{before_sweep-named, enter-named, with_order-agree}
use Rattle.laws_of_market.proofs.LocalLines.{next_leg-named, placed-named, sweep-named, sweep_leg-named}
use Rattle.laws_of_market.proofs.NamedByHour.{AreNamedByHour, named-append, named-more, IsNamedByHour}
use Rattle.laws_of_market.proofs.LocalReplies.{naming_first, withdrawals-named}
use Rattle.laws_of_market.proofs.LocalStates.{Agree}

-- an event touches no hour but some, and so do several
abbrev pub IsWithinHours : List ℕ → Event → Type 0
IsWithinHours hours e = (hour : ℕ) → touches hour e ≡ true → IsIn hour hours

abbrev pub AreWithinHours : List ℕ → List Event → Type 0
AreWithinHours hours events = (e : Event) → IsIn e events → IsWithinHours hours e

within-append : (hours : List ℕ) (xs ys : List Event) → AreWithinHours hours xs → AreWithinHours hours ys → AreWithinHours hours (xs ++ ys)
within-append hours xs ys a b e h = elim (IsIn-append e xs ys h) [ inl i ↦ a e i | inr i ↦ b e i ]

within-one : (hours : List ℕ) (e : Event) → IsWithinHours hours e → AreWithinHours hours (e ∷ [])
within-one hours e own f h = elim h [ inl s ↦ subst (IsWithinHours hours) (sym s) own | inr i ↦ absurd i ]

one-hour : (hours : List ℕ) (own hour : ℕ) → IsIn own hours → nat_eq own hour ≡ true → IsIn hour hours
one-hour hours own hour h e = subst (λ n. IsIn n hours) (eqb-true own hour e) h

period-hour : (first last hour : ℕ) → is_within first last hour ≡ true → IsIn hour (hours_from first last)
period-hour first last hour e =
    let both = and_parts (nat_le first hour) (nat_le hour last) e in
    let low = leb-true first hour both.0 in
    let high = leb-true hour last both.1 in
    IsIn-range hour first (last + 1 - first) low (omega arith)

-- steps that each stay within some hours
steps-within : (hours : List ℕ) (most : ℕ) (step : List Event → Option Event) → ((events : List Event) (e : Event) → AreNamedByHour events → step events ≡ Some e → IsWithinHours hours e)
    → ((events : List Event) (e : Event) → AreNamedByHour events → step events ≡ Some e → IsNamedByHour e)
    → (events : List Event) → AreNamedByHour events → AreWithinHours hours (steps most step and_then events)
unfolding steps
steps-within hours zero step within named events are = λ e h. absurd h
steps-within hours (suc most) step within named events are =
    go (λ e own. steps-within hours most step within named (and_then events e) (named-more events e are own)) (step events) refl
  where
    go : ((e : Event) → IsNamedByHour e → AreWithinHours hours (steps most step and_then (and_then events e)))
        → (o : Option Event) → step events ≡ o → AreWithinHours hours (step_and_onward o (λ e. steps most step and_then (and_then events e)))
    go onward None is = λ e h. absurd h
    go onward (Some e) is = λ f h. elim h [
      | inl s ↦ subst (IsWithinHours hours) (sym s) (within events e are is)
      | inr i ↦ onward e (named events e are is) f i
    ]

leg_in-within : (hours : List ℕ) (contract : Contract) (e : Event) → IsIn contract.hour hours → IsLegIn contract e → IsWithinHours hours e
leg_in-within hours contract e h in_leg = subst (IsWithinHours hours) in_leg.is (λ hour t. one-hour hours contract.hour hour h t)

-- ---- legs of orders

next_leg-within : (hours : List ℕ) (graph : Graph) (name : OrderName) → IsIn name.hour hours → (events : List Event) (e : Event) → AreNamedByHour events
    → next_leg graph name events ≡ Some e → IsWithinHours hours e
unfolding next_leg
next_leg-within hours graph name h events e named is =
    let own = bind-some _ (standing_order events name) e is in
    let found = map-some (standing events) (open_order events name) own.0 own.1 in
    let order = open_order-is events name found.0 found.1 in
    let other = bind-some _ (partner graph events own.0) e own.2 in
    let leg = trade-leg graph events own.0 other.0 e other.2 in
    let hour : own.0.order.contract.hour ≡ name.hour =
    ap (λ (s : Standing). s.order.contract.hour) (sym found.2) ∙ sym (placed-named events named found.0 order.is_open.is_placed) ∙ ap (λ (n : OrderName). n.hour) order.is_named in
    subst (IsWithinHours hours) leg.is (λ k t. one-hour hours own.0.order.contract.hour k (subst (λ n. IsIn n hours) (sym hour) h) t)

pub take-within : (hours : List ℕ) (graph : Graph) (events : List Event) (name : OrderName) → IsIn name.hour hours → AreNamedByHour events → AreWithinHours hours (take graph events name)
unfolding take
take-within hours graph events name h named =
    steps-within hours (left events name) (next_leg graph name) (next_leg-within hours graph name h) (λ xs e are is. next_leg-named graph name xs e are is) events named

pub sweep-within : (hours : List ℕ) (parts : List Part) (graph : Graph) (hour : ℕ) (events : List Event) → IsIn hour hours → AreNamedByHour events
    → AreWithinHours hours (sweep parts graph hour events)
unfolding sweep
sweep-within hours parts graph hour events h named =
    steps-within hours (left_in_hour events hour) (sweep_leg parts graph hour) (λ xs e are is.
    let leg = sweep_leg-hour parts graph hour xs e is in leg_in-within hours leg.contract e (subst (λ n. IsIn n hours) (sym leg.in_hour) h) leg.leg_in)
    (λ xs e are is. sweep_leg-named parts graph hour xs e are is) events named

pub sweeps-within : (hours : List ℕ) (parts : List Part) (graph : Graph) (swept : List ℕ) (events : List Event) → ((hour : ℕ) → IsIn hour swept → IsIn hour hours)
    → AreNamedByHour events → AreWithinHours hours (sweeps parts graph swept events)
sweeps-within hours parts graph [] events within named = λ e h. absurd h
sweeps-within hours parts graph (hour ∷ swept) events within named =
    let legs : List Event = sweep parts graph hour events in
    within-append hours legs (sweeps parts graph swept (events ++ legs)) (sweep-within hours parts graph hour events (within hour (inl refl)) named)
    (sweeps-within hours parts graph swept (events ++ legs) (λ k i. within k (inr i)) (named-append events legs named (sweep-named parts graph hour events named)))

rest-within : (hours : List ℕ) (kind : Kind) (name : OrderName) (rest : ℕ) → IsIn name.hour hours → AreWithinHours hours (rest_withdrawn kind name rest)
rest-within hours kind.Ioc name zero h = λ e i. absurd i
rest-within hours kind.Ioc name (suc more) h = within-one hours (event.Withdrawn name (suc more)) (λ hour t. one-hour hours name.hour hour h t)
rest-within hours kind.Limit name rest h = λ e i. absurd i
rest-within hours kind.Fok name rest h = λ e i. absurd i
rest-within hours (kind.Iceberg peak delta) name rest h = λ e i. absurd i

pub enter-within : (hours : List ℕ) (parts : List Part) (graph : Graph) (caller : ℕ) (order : Order) (events : List Event) → IsIn order.contract.hour hours → AreNamedByHour events
    → AreWithinHours hours (enter parts graph caller order events)
unfolding enter
enter-within hours parts graph caller order events h named =
    let agree = agree-itself hours events named in
    let name : OrderName = name_of_next events order in
    let entry : Event = event.Entered name caller order in
    let legs : List Event = legs_taken graph events caller order in
    let rest : List Event = rest_withdrawn order.kind name (rest_of graph events caller order) in
    let done : List Event = (entry ∷ []) ++ legs ++ rest in
    let done_named = before_sweep-named hours events events agree graph caller order h in
    within-append hours done (sweep parts graph order.contract.hour (events ++ done))
    (within-append hours ((entry ∷ []) ++ legs) rest
    (within-append hours (entry ∷ []) legs (within-one hours entry (λ hour t. one-hour hours order.contract.hour hour h t))
    (take-within hours graph (with_order events caller order) name h (with_order-agree hours events events agree graph caller order h).named_a))
    (rest-within hours order.kind name (rest_of graph events caller order) h))
    (sweep-within hours parts graph order.contract.hour (events ++ done) h (named-append events done named done_named))

pub enter_all-within : (hours : List ℕ) (parts : List Part) (graph : Graph) (caller : ℕ) (orders : List Order) (events : List Event)
    → ((order : Order) → IsIn order orders → IsIn order.contract.hour hours) → AreNamedByHour events → AreWithinHours hours (enter_all parts graph caller orders events)
enter_all-within hours parts graph caller [] events within named = λ e h. absurd h
enter_all-within hours parts graph caller (order ∷ orders) events within named =
    let done : List Event = enter parts graph caller order events in
    let h = within order (inl refl) in
    within-append hours done (enter_all parts graph caller orders (events ++ done)) (enter-within hours parts graph caller order events h named)
    (enter_all-within hours parts graph caller orders (events ++ done) (λ o i. within o (inr i))
    (named-append events done named (enter-named hours events events (agree-itself hours events named) graph caller order h parts)))

-- ---- legs of blocks

pub block_legs-within : (graph : Graph) (own other : StandingBlock) (hours : List ℕ) → ArePeriodNamed hours own other → (events : List Event) → AreNamedByHour events
    → AreWithinHours hours (block_legs graph own other events)
unfolding block_legs
block_legs-within graph own other hours pair events named =
    steps-within hours (left events own.name) (block_leg graph own other) (λ xs e are is. block_leg-within xs e is) (block_leg-named hours graph own other pair) events named
  where
    block_leg-within : (xs : List Event) (e : Event) → block_leg graph own other xs ≡ Some e → IsWithinHours hours e
    block_leg-within xs e is =
        let made = block_leg-made graph own other xs e is in
        subst (IsWithinHours hours) made.is (λ hour t. pair.within hour (period-hour own.order.first own.order.last hour t))

-- ---- deals between blocks

-- deals that each stay within some hours
deals-within : (hours : List ℕ) (most : ℕ) (step : List Event → Option (List Event))
    → ((events : List Event) (deal : List Event) → AreNamedByHour events → step events ≡ Some deal → AreWithinHours hours deal)
    → ((events : List Event) (deal : List Event) → AreNamedByHour events → step events ≡ Some deal → AreNamedByHour deal)
    → (events : List Event) → AreNamedByHour events → AreWithinHours hours (flat_map (λ deal. deal) (steps most step (λ before deal. before ++ deal) events))
unfolding steps
deals-within hours zero step within named events are = λ e h. absurd h
deals-within hours (suc most) step within named events are =
    go (λ deal own. deals-within hours most step within named (events ++ deal) (named-append events deal are own)) (step events) refl
  where
    go : ((deal : List Event) → AreNamedByHour deal → AreWithinHours hours (flat_map (λ d. d) (steps most step (λ before more. before ++ more) (events ++ deal))))
        → (o : Option (List Event)) → step events ≡ o
        → AreWithinHours hours (flat_map (λ d. d) (step_and_onward o (λ deal. steps most step (λ before more. before ++ more) (events ++ deal))))
    go onward None is = λ e h. absurd h
    go onward (Some deal) is =
        within-append hours deal (flat_map (λ d. d) (steps most step (λ before more. before ++ more) (events ++ deal))) (within events deal are is)
        (onward deal (named events deal are is))

deal_of_buy-within : (hours : List ℕ) (graph : Graph) (events : List Event) → AreNamedByHour events → (buy : StandingBlock) (deal : List Event) → IsWithin hours buy
    → deal_of_buy graph events buy ≡ Some deal → AreWithinHours hours deal
deal_of_buy-within hours graph events named buy deal is_within is =
    let agree = agree-itself hours events named in
    let found = map-some (resting_block_legs graph events buy) (block_partner graph events buy) deal is in
    subst (AreWithinHours hours) found.2 (elim (is_lt (block_time_cmp buy found.0))
    as (λ t. AreWithinHours hours (if t then block_legs graph found.0 buy events else block_legs graph buy found.0 events)) [
      | true ↦ block_legs-within graph found.0 buy hours (partner-turned hours events events agree graph buy found.0 is_within found.1) events named
      | false ↦ block_legs-within graph buy found.0 hours (partner-pair hours events events agree graph buy found.0 is_within found.1) events named
    ])

block_deal-within : (hours : List ℕ) (graph : Graph) (first last : ℕ) → ((hour : ℕ) → IsIn hour (hours_from first last) → IsIn hour hours)
    → (events : List Event) (deal : List Event) → AreNamedByHour events → block_deal graph first last events ≡ Some deal → AreWithinHours hours deal
unfolding block_deal
block_deal-within hours graph first last within events deal named is =
    let buy = from_first_answer (deal_of_buy graph events) deal (block_line events first last Buy) is in
    deal_of_buy-within hours graph events named buy.0 deal (line-within hours events events (agree-itself hours events named) graph first last buy.0 within buy.1) buy.2

match_blocks-within : (hours : List ℕ) (parts : List Part) (graph : Graph) (first last : ℕ) → IsIn first hours → ((hour : ℕ) → IsIn hour (hours_from first last) → IsIn hour hours)
    → (events : List Event) → AreNamedByHour events → AreWithinHours hours (match_blocks parts graph first last events)
unfolding match_blocks block_deals
match_blocks-within hours parts graph first last h within events named =
    let legs : List Event = flat_map (λ deal. deal) (block_deals graph first last events) in
    within-append hours legs (sweeps parts graph (hours_from first last) (events ++ legs))
    (deals-within hours (length (block_line events first last Buy)) (block_deal graph first last) (block_deal-within hours graph first last within)
    (λ xs deal are is. block_deal-named hours xs xs (agree-itself hours xs are) graph first last deal within is) events named)
    (sweeps-within hours parts graph (hours_from first last) (events ++ legs) within
    (named-append events legs named (block_deals-named hours graph first last h within events named)))

-- ---- blocks that enter

enter_block-within : (hours : List ℕ) (parts : List Part) (graph : Graph) (caller : ℕ) (order : BlockOrder) → order.first ≤ order.last
    → ((hour : ℕ) → IsIn hour (hours_from order.first order.last) → IsIn hour hours) → (events : List Event) → AreNamedByHour events
    → AreWithinHours hours (enter_block parts graph caller order events)
unfolding enter_block
enter_block-within hours parts graph caller order ordered within events named =
    within-append hours done (sweeps parts graph (hours_from order.first order.last) (events ++ done))
    (within-append hours (entry ∷ []) (legs_found hours events events agree graph caller order ordered within events)
    (within-one hours entry (λ hour t. one-hour hours order.first hour (within order.first (first-in order.first order.last ordered)) t))
    (legs-within (partner_found graph events caller order) refl))
    (sweeps-within hours parts graph (hours_from order.first order.last) (events ++ done) within
    (named-append events done named (entered_before-named hours events events agree graph caller order ordered within)))
  where
    agree : Agree hours events events
    agree = agree-itself hours events named

    entry : Event
    entry = event.EnteredBlock (next_name events order.first) caller order

    done : List Event
    done = entered_before hours events events agree graph caller order ordered within events

    own : StandingBlock
    own = entering_block events caller order

    legs-within : (o : Option StandingBlock) → partner_found graph events caller order ≡ o → AreWithinHours hours (legs_with graph (with_block events caller order) own o)
    legs-within None is = λ e h. absurd h
    legs-within (Some found) is =
        let entered = with_block-agree hours events events agree graph caller order ordered within in
        block_legs-within graph own found hours
        (partner-pair hours (with_block events caller order) (with_block events caller order) entered graph own found
        (entering-within hours events events agree graph caller order ordered within) is)
        (with_block events caller order) entered.named_a

-- ---- what happens to arcs, borders and hours

then-within : (hours : List ℕ) (parts : List Part) (graph : Graph) (events : List Event) (done : Event) → IsNamedByHour done → IsWithinHours hours done → AreNamedByHour events
    → AreWithinHours hours (then_sweeps parts graph hours events done)
then-within hours parts graph events done own within named =
    within-append hours (done ∷ []) (sweeps parts graph hours (events ++ done ∷ [])) (within-one hours done within)
    (sweeps-within hours parts graph hours (events ++ done ∷ []) (λ hour h. h) (named-more events done named own))

at_arc-within : (hours : List ℕ) (o : Option Arc) (happening : Arc → List Event) → ((arc : Arc) → AreWithinHours hours (happening arc)) → AreWithinHours hours (on_arc o happening)
at_arc-within hours None happening within = λ e h. absurd h
at_arc-within hours (Some arc) happening within = within arc

withdrawals-within : (events : List Event) (hour : ℕ) (asked : Phase) → AreWithinHours (hour ∷ []) (withdrawals events hour asked)
withdrawals-within events hour phase.Closed e i =
    let name = from_map (λ (n : OrderName). event.Withdrawn n (left events n)) e (open_names events hour) i in
    let given = from_filter (is_open events) name.0 (filter_map (name_given hour) events) name.1 in
    subst (IsWithinHours (hour ∷ [])) (sym name.2) (λ k t. one-hour (hour ∷ []) name.0.hour k (inl (open_names-hour events hour name.0 given.0)) t)
withdrawals-within events hour phase.Open e i = absurd i
withdrawals-within events hour phase.Local e i = absurd i

gate-within : (parts : List Part) (graph : Graph) (hour : ℕ) (asked : Phase) (events : List Event) → AreNamedByHour events → AreWithinHours (hour ∷ []) (gate parts graph hour asked events)
gate-within parts graph hour asked events named =
    let gated : Event = event.Gated hour asked in
    let gone : List Event = withdrawals events hour asked in
    let done : List Event = gated ∷ gone in
    let done_named : AreNamedByHour done = λ e h. elim h [ inl s ↦ subst IsNamedByHour (sym s) tt | inr i ↦ withdrawals-named events hour asked e i ] in
    within-append (hour ∷ []) done (sweeps parts graph (hour ∷ []) (events ++ done))
    (within-append (hour ∷ []) (gated ∷ []) gone (within-one (hour ∷ []) gated (λ k t. one-hour (hour ∷ []) hour k (inl refl) t)) (withdrawals-within events hour asked))
    (sweeps-within (hour ∷ []) parts graph (hour ∷ []) (events ++ done) (λ k i. i) (named-append events done named done_named))

-- ---- commands

done-within : (parts : List Part) (setup : Setup) (events : List Event) (caller : ℕ) (given : Command) → period_is_good given ≡ true → AreNamedByHour events
    → AreWithinHours (hours_concerned given) (events_done parts setup events caller given)
unfolding events_done
done-within parts setup events caller (command.Enter order) good named =
    enter-within (order.contract.hour ∷ []) parts (graph_of setup) caller order events (inl refl) named
done-within parts setup events caller (command.EnterBlock order) good named =
    let less = ltb-true order.first order.last (and_parts (nat_lt order.first order.last) (nat_le (order.last + 1 - order.first) 24) good).0 in
    enter_block-within (hours_from order.first order.last) parts (graph_of setup) caller order (omega arith) (λ hour h. h) events named
done-within parts setup events caller (command.EnterBasket orders) good named =
    enter_all-within (map (λ (o : Order). o.contract.hour) orders) parts (graph_of setup) caller orders events (λ order i. IsIn-map (λ (o : Order). o.contract.hour) order orders i) named
done-within parts setup events caller (command.Cancel name) good named =
    within-one (name.hour ∷ []) (event.Withdrawn name (left events name)) (λ k t. one-hour (name.hour ∷ []) name.hour k (inl refl) t)
done-within parts setup events caller (command.Reduce name to) good named =
    within-one (name.hour ∷ []) (event.Reduced name (left events name - to)) (λ k t. one-hour (name.hour ∷ []) name.hour k (inl refl) t)
done-within parts setup events caller (command.Blocks first last) good named =
    let less = ltb-true first last (and_parts (nat_lt first last) (nat_le (last + 1 - first) 24) good).0 in
    match_blocks-within (hours_from first last) parts (graph_of setup) first last (first-in first last (omega arith)) (λ hour h. h) events named
done-within parts setup events caller (command.Offer from to first last lots) good named =
    at_arc-within (hours_from first.hour last.hour) (arc_between (graph_of setup) from to) _ (λ arc.
    then-within (hours_from first.hour last.hour) parts (graph_of setup) events (event.Offered arc first last lots) tt (λ hour t. period-hour first.hour last.hour hour t) named)
done-within parts setup events caller (command.Request from to first last lots) good named =
    at_arc-within (hours_from first.hour last.hour) (arc_between (graph_of setup) from to) _ (λ arc.
    then-within (hours_from first.hour last.hour) parts (graph_of setup) events (event.Granted arc first last lots) tt (λ hour t. period-hour first.hour last.hour hour t) named)
done-within parts setup events caller (command.Halt from to first last) good named =
    at_arc-within (hours_from first last) (arc_between (graph_of setup) from to) _ (λ arc.
    then-within (hours_from first last) parts (graph_of setup) events (event.Halted arc.border first last) tt (λ hour t. period-hour first last hour t) named)
done-within parts setup events caller (command.Resume from to first last) good named =
    at_arc-within (hours_from first last) (arc_between (graph_of setup) from to) _ (λ arc.
    then-within (hours_from first last) parts (graph_of setup) events (event.Resumed arc.border first last) tt (λ hour t. period-hour first last hour t) named)
done-within parts setup events caller (command.Gate hour asked) good named = gate-within parts (graph_of setup) hour asked events named
done-within parts setup events caller (command.View contract side zone) good named = λ e h. absurd h

answer-within : (parts : List Part) (setup : Setup) (events : List Event) (caller : ℕ) (given : Command) → period_is_good given ≡ true → AreNamedByHour events
    → AreWithinHours (hours_concerned given) (events_of (reply_let_in parts setup events caller given))
answer-within parts setup events caller (command.View contract side zone) good named = λ e h. absurd h
answer-within parts setup events caller given good named = done-within parts setup events caller given good named

-- the events of any reply stay in the hours that the command touches
pub reply-within : (parts : List Part) (setup : Setup) (events : List Event) (caller : ℕ) (given : Command) → AreNamedByHour events
    → AreWithinHours (touched_hours setup caller given) (events_of (reply_by parts setup events caller given))
unfolding reply_by
reply-within parts setup events caller given named = by_naming (naming_refusal setup caller given) refl
  where
    by_refusal : period_is_good given ≡ true → (o : Option Refusal)
        → AreWithinHours (hours_concerned given) (events_of (refused_or o (λ _. reply_let_in parts setup events caller given)))
    by_refusal good (Some broken) = λ e h. absurd h
    by_refusal good None = answer-within parts setup events caller given good named

    by_naming : (o : Option Refusal) → naming_refusal setup caller given ≡ o
        → AreWithinHours (touched_hours setup caller given) (events_of (refused_or (refusal_of_command setup events caller given) (λ _. reply_let_in parts setup events caller given)))
    by_naming (Some broken) is = rw (naming_first setup events caller given broken is) (λ e h. absurd h)
    by_naming None is =
        let hours : touched_hours setup caller given ≡ hours_concerned given = ap (λ o. if is_none o then hours_concerned given else []) is in
        subst (λ hs. AreWithinHours hs (events_of (refused_or (refusal_of_command setup events caller given) (λ _. reply_let_in parts setup events caller given)))) (sym hours)
        (by_refusal (naming-none setup caller given is).period (refusal_of_command setup events caller given))
