-- A reply depends on the events of the hours that its command concerns alone.
use Rattle.std.proofs.Common.{◌≡◌, ◌∙◌, inl, inr, ℕ, zero, suc, ◌+◌, ◌-◌, ◌≤◌, ◌&&◌, Bool, true, false, not, List, [], ◌∷◌, ◌++◌, map, Option, Some, None, is_none, nat_eq, nat_le, nat_lt, pos, ℤ, refl, sym, ap, subst, if◌then◌else◌, arith}
use Rattle.std.proofs.lemmas.Bool.{ltb-true, and_parts}
use Rattle.std.specs.Prelude.{int_lt}
use Rattle.std.specs.List.{find}
use Rattle.std.specs.Option.{option_and_then, option_map}
use Rattle.order_kinds.specs.declared.contract.Part.{Part}
use Rattle.order_kinds.specs.declared.contract.Quarter.{Quarter}
use Rattle.order_kinds.specs.declared.order.Order.{Order}
use Rattle.order_kinds.specs.declared.order.OrderName.{OrderName}
use Rattle.order_kinds.specs.declared.phase.Phase.{Phase}
use Rattle.order_kinds.specs.declared.phase.Phase.TheVariants as phase
use Rattle.order_kinds.specs.Period.{block_quarters, hours_from, is_not_after, range_quarters}
use Rattle.order_kinds.specs.Phase.{is_later}
use Rattle.quarter_capacity.specs.Capacity.{flow_of}
use Rattle.zone_graph.specs.declared.route.Arc.{Arc}
use Rattle.zone_graph.specs.Graph.{Graph}
use Rattle.zone_graph.specs.Grid.{arc_between}
use Rattle.zone_graph.specs.Pour.{opposite_arc}
use Rattle.zone_graph.specs.Route.{IsIn}
use Rattle.zone_graph.proofs.Membership.{IsIn-map, from_filter, from_map}
use Rattle.market_model.specs.declared.command.Command.{Command}
use Rattle.market_model.specs.declared.command.Command.TheVariants as command
use Rattle.market_model.specs.declared.event.Event.{Event}
use Rattle.market_model.specs.declared.event.Event.TheVariants as event
use Rattle.market_model.specs.declared.refusal.Refusal.{Refusal}
use Rattle.market_model.specs.declared.refusal.Refusal.TheVariants as refusal
use Rattle.market_model.specs.declared.reply.Reply.{Reply}
use Rattle.market_model.specs.declared.reply.Reply.TheVariants as reply
use Rattle.market_model.specs.declared.setup.Setup.{Setup}
use Rattle.market_model.specs.Blocks.{StandingBlock, partner_found, with_block}
use Rattle.market_model.specs.Capacity.{allocated, flow}
use Rattle.market_model.specs.Certificate.{bound_of, unfilled_zones}
use Rattle.market_model.specs.Entering.{after_taking, name_of_next, rest_of}
use Rattle.market_model.specs.Grid.{graph_of}
use Rattle.market_model.specs.Market.{reply_let_in, events_done, gate, on_arc, refused_or, reply_by, then_sweeps, withdrawals}
use Rattle.market_model.specs.Orders.{Placed, left, next_name, open_block, open_names, open_order}
use Rattle.market_model.specs.Refusals.{basket_order_refusal, basket_refusal, below_flow, block_desk_refusal, can_rest, closed_hour, desk_refusal, gate_refusal, has_desk_room, if_limit, if_own, if_own_block, is_below_left, no_room, offer_refusal, order_desk_refusal, order_is_known, own_limit, reduces, refusal_of_command, request_refusal, unfilled_refusal}
use Rattle.market_model.specs.Room.{is_closed_phase, lots_of, phase_of}
use Rattle.market_model.specs.Rules.{first_broken, hours_concerned, naming_refusal, numbers_refusal, period_is_good, touched_hours, unless}
use Rattle.market_model.specs.Sweep.{first_answer, sweeps}
use Rattle.laws_of_market.proofs.Admitted.{naming-none}
use Rattle.laws_of_market.proofs.Legs.{open_order-is}
use Rattle.laws_of_market.proofs.LocalAnswers.{bound_of-agree, has_desk_room-agree, open_names-agree, open_names-hour, unfilled_zones-agree, view-agree}
use Rattle.laws_of_market.proofs.LocalBlocks.{enter_block-agree, first-in, match_blocks-agree, open_block-agree, partner_found-agree, period-hours, with_block-agree}
use Rattle.laws_of_market.proofs.LocalEntries.{after_taking-agree, enter-agree, enter_all-agree, rest_of-agree, sweeps-agree}
use Rattle.laws_of_market.proofs.LocalLines.{first_answer-same, open_order-agree}
use Rattle.laws_of_market.proofs.NamedByHour.{AreNamedByHour, IsNamedByHour}
use Rattle.laws_of_market.proofs.Restrict.{find-same, map-same}
use Rattle.laws_of_market.proofs.LocalStates.{Agree, agree-append, agree-more, allocated-agree, left-agree, next_name-agree, phase-agree, quarter_room-agree}
use Rattle.order_kinds.specs.Order.{is_fill_or_kill, is_limit}

-- the hours of a range's quarters are the range's
range-hours : (first last : Quarter) (quarter : Quarter) → IsIn quarter (range_quarters first last) → IsIn quarter.hour (hours_from first.hour last.hour)
range-hours first last quarter i =
    let passes = from_filter (λ (q : Quarter). is_not_after first q && is_not_after q last) quarter (block_quarters first.hour last.hour) i in
    period-hours (hours_from first.hour last.hour) first.hour last.hour (λ hour h. h) quarter passes.0

-- a caller's open limit order of a name has that name
own_limit-named : (events : List Event) (caller : ℕ) (name : OrderName) (order : Placed) → own_limit events caller name ≡ Some order → order.name ≡ name
own_limit-named events caller name order e = go (open_order events name) refl e
  where
    by_kind : (found : Placed) → open_order events name ≡ Some found → (limit : Bool) → (if limit then Some found else None) ≡ Some order → order.name ≡ name
    by_kind found is true k = let same : found ≡ order = cc in ap (λ (p : Placed). p.name) (sym same) ∙ (open_order-is events name found is).is_named
    by_kind found is false k = absurd (cc)

    by_caller : (found : Placed) → open_order events name ≡ Some found → (own : Bool) → if_limit (if own then Some found else None) ≡ Some order → order.name ≡ name
    by_caller found is true k = by_kind found is (is_limit found.order.kind) k
    by_caller found is false k = absurd (cc)

    go : (o : Option Placed) → open_order events name ≡ o → if_limit (if_own caller o) ≡ Some order → order.name ≡ name
    go None is k = absurd (cc)
    go (Some found) is k = by_caller found is (nat_eq found.caller caller) k

-- ---- the rules

own_limit-agree : (a b : List Event) (caller : ℕ) (name : OrderName) → Agree (name.hour ∷ []) a b → own_limit a caller name ≡ own_limit b caller name
own_limit-agree a b caller name agree = ap (λ o. if_limit (if_own caller o)) (open_order-agree (name.hour ∷ []) a b agree name (inl refl))

reduces-agree : (a b : List Event) (caller : ℕ) (given : Command) → Agree (hours_concerned given) a b → reduces a caller given ≡ reduces b caller given
reduces-agree a b caller (command.Reduce name to) agree =
    go (own_limit a caller name) refl ∙ ap (is_below_left b to) (own_limit-agree a b caller name agree)
  where
    go : (o : Option Placed) → own_limit a caller name ≡ o → is_below_left a to o ≡ is_below_left b to o
    go None is = refl
    go (Some order) is =
        ap (nat_lt to) (left-agree (name.hour ∷ []) a b agree order.name (inl (ap (λ (n : OrderName). n.hour) (own_limit-named a caller name order is))))
reduces-agree a b caller _ agree = refl

closed_among : (a b : List Event) (hours : List ℕ) → Agree hours a b
    → find (λ hour. is_closed_phase (phase_of a hour)) hours ≡ find (λ hour. is_closed_phase (phase_of b hour)) hours
closed_among a b hours agree =
    find-same (λ hour. is_closed_phase (phase_of a hour)) (λ hour. is_closed_phase (phase_of b hour)) hours (λ hour i. ap is_closed_phase (phase-agree hours a b agree hour i))

closed-agree : (a b : List Event) (given : Command) → Agree (hours_concerned given) a b → closed_hour a given ≡ closed_hour b given
closed-agree a b (command.Gate hour asked) agree = refl
closed-agree a b (command.View contract side zone) agree = refl
closed-agree a b given agree = closed_among a b (hours_concerned given) agree

gate-agree : (a b : List Event) (given : Command) → Agree (hours_concerned given) a b → gate_refusal a given ≡ gate_refusal b given
gate-agree a b (command.Gate hour asked) agree =
    ap (λ now. unless (is_later asked now) (refusal.GateBack now)) (phase-agree (hour ∷ []) a b agree hour (inl refl))
gate-agree a b _ agree = refl

known-agree : (a b : List Event) (caller : ℕ) (given : Command) → Agree (hours_concerned given) a b → order_is_known a caller given ≡ order_is_known b caller given
known-agree a b caller (command.Cancel name) agree =
    ap (λ o. not (is_none (if_own caller o) && is_none (if_own_block caller (open_block a name)))) (open_order-agree (name.hour ∷ []) a b agree name (inl refl))
    ∙ ap (λ o. not (is_none (if_own caller (open_order b name)) && is_none (if_own_block caller o))) (open_block-agree (name.hour ∷ []) a b agree name (inl refl))
known-agree a b caller (command.Reduce name to) agree = ap (λ o. not (is_none o)) (own_limit-agree a b caller name agree)
known-agree a b caller _ agree = refl

offer-agree : (graph : Graph) (a b : List Event) (given : Command) → Agree (hours_concerned given) a b → offer_refusal graph a given ≡ offer_refusal graph b given
offer-agree graph a b (command.Offer from to first last lots) agree = go (arc_between graph from to)
  where
    hours : List ℕ
    hours = hours_from first.hour last.hour

    flows : (arc : Arc) (quarter : Quarter) → IsIn quarter (range_quarters first last) → flow a quarter arc ≡ flow b quarter arc
    flows arc quarter i =
        let h = range-hours first last quarter i in
        ap (λ n. flow_of n (allocated a quarter (opposite_arc arc))) (allocated-agree hours a b agree quarter arc h)
        ∙ ap (flow_of (allocated b quarter arc)) (allocated-agree hours a b agree quarter (opposite_arc arc) h)

    go : (o : Option Arc) → option_and_then (λ arc. first_answer (below_flow a arc lots) (range_quarters first last)) o
        ≡ option_and_then (λ arc. first_answer (below_flow b arc lots) (range_quarters first last)) o
    go None = refl
    go (Some arc) = first_answer-same (below_flow a arc lots) (below_flow b arc lots) (range_quarters first last)
        (λ quarter i. ap (λ (z : ℤ). unless (not (int_lt (pos lots) z)) (refusal.BelowFlow quarter (lots_of z))) (flows arc quarter i))
offer-agree graph a b _ agree = refl

request-agree : (graph : Graph) (a b : List Event) (given : Command) → Agree (hours_concerned given) a b → request_refusal graph a given ≡ request_refusal graph b given
request-agree graph a b (command.Request from to first last lots) agree = go (arc_between graph from to)
  where
    go : (o : Option Arc) → option_and_then (λ arc. first_answer (no_room a arc lots) (range_quarters first last)) o
        ≡ option_and_then (λ arc. first_answer (no_room b arc lots) (range_quarters first last)) o
    go None = refl
    go (Some arc) = first_answer-same (no_room a arc lots) (no_room b arc lots) (range_quarters first last)
        (λ quarter i. ap (λ n. unless (nat_le lots n) (refusal.NoRoom quarter n))
        (quarter_room-agree (hours_from first.hour last.hour) a b agree arc quarter (range-hours first last quarter i)))
request-agree graph a b _ agree = refl

unfilled-agree : (graph : Graph) (a b : List Event) (caller : ℕ) (given : Command) → Agree (hours_concerned given) a b
    → unfilled_refusal graph a caller given ≡ unfilled_refusal graph b caller given
unfilled-agree graph a b caller (command.Enter order) agree =
    let hours : List ℕ = order.contract.hour ∷ [] in
    ap (λ n. if is_fill_or_kill order.kind then unless (nat_eq n 0) (refusal.Unfilled (unfilled_zones graph a caller order) (bound_of graph a caller order (unfilled_zones graph a caller order))) else None)
    (rest_of-agree hours a b agree graph caller order (inl refl))
    ∙ ap (λ zones. if is_fill_or_kill order.kind then unless (nat_eq (rest_of graph b caller order) 0) (refusal.Unfilled zones (bound_of graph a caller order zones)) else None)
    (unfilled_zones-agree hours a b agree graph caller order (inl refl))
    ∙ ap (λ n. if is_fill_or_kill order.kind then unless (nat_eq (rest_of graph b caller order) 0) (refusal.Unfilled (unfilled_zones graph b caller order) n) else None)
    (bound_of-agree hours a b agree graph caller order (inl refl) (unfilled_zones graph b caller order))
unfilled-agree graph a b caller _ agree = refl

basket-agree : (graph : Graph) (a b : List Event) (caller : ℕ) (given : Command) → Agree (hours_concerned given) a b
    → basket_refusal graph a caller given ≡ basket_refusal graph b caller given
basket-agree graph a b caller (command.EnterBasket orders) agree =
    first_answer-same (basket_order_refusal graph a caller) (basket_order_refusal graph b caller) orders (λ order i.
    let hours : List ℕ = map (λ (o : Order). o.contract.hour) orders in
    let h = IsIn-map (λ (o : Order). o.contract.hour) order orders i in
    ap (λ n. unless (nat_eq n 0) (refusal.BasketUnfilled order.contract.hour (unfilled_zones graph a caller order) (bound_of graph a caller order (unfilled_zones graph a caller order))))
    (rest_of-agree hours a b agree graph caller order h)
    ∙ ap (λ zones. unless (nat_eq (rest_of graph b caller order) 0) (refusal.BasketUnfilled order.contract.hour zones (bound_of graph a caller order zones)))
    (unfilled_zones-agree hours a b agree graph caller order h)
    ∙ ap (λ n. unless (nat_eq (rest_of graph b caller order) 0) (refusal.BasketUnfilled order.contract.hour (unfilled_zones graph b caller order) n))
    (bound_of-agree hours a b agree graph caller order h (unfilled_zones graph b caller order)))
basket-agree graph a b caller _ agree = refl

desk-agree : (graph : Graph) (a b : List Event) (caller : ℕ) (given : Command) → period_is_good given ≡ true → Agree (hours_concerned given) a b
    → desk_refusal graph a caller given ≡ desk_refusal graph b caller given
desk-agree graph a b caller (command.Enter order) good agree =
    ap (λ o. if can_rest order.kind then o else None) (go (rest_of graph a caller order) refl ∙ by_rest)
  where
    hours : List ℕ
    hours = order.contract.hour ∷ []

    room_same : has_desk_room (after_taking graph a caller order) (name_of_next a order) ≡ has_desk_room (after_taking graph b caller order) (name_of_next b order)
    room_same =
        has_desk_room-agree hours (after_taking graph a caller order) (after_taking graph b caller order) (after_taking-agree hours a b agree graph caller order (inl refl)) (name_of_next a order) (inl refl)
        ∙ ap (has_desk_room (after_taking graph b caller order)) (next_name-agree hours a b agree order.contract.hour (inl refl))

    -- the refusal as it depends on what rests and on the room
    rests : ℕ → Bool → Option Refusal
    rests zero free = None
    rests (suc more) free = unless free refusal.DeskFull

    as_rests : (events : List Event) (n : ℕ) → rest_of graph events caller order ≡ n
        → order_desk_refusal graph events caller order ≡ rests n (has_desk_room (after_taking graph events caller order) (name_of_next events order))
    as_rests events zero is = rw is refl
    as_rests events (suc more) is = rw is refl

    go : (n : ℕ) → rest_of graph a caller order ≡ n
        → order_desk_refusal graph a caller order ≡ rests (rest_of graph a caller order) (has_desk_room (after_taking graph a caller order) (name_of_next a order))
    go n is = as_rests a (rest_of graph a caller order) refl

    by_rest : rests (rest_of graph a caller order) (has_desk_room (after_taking graph a caller order) (name_of_next a order)) ≡ order_desk_refusal graph b caller order
    by_rest =
        ap (λ n. rests n (has_desk_room (after_taking graph a caller order) (name_of_next a order))) (rest_of-agree hours a b agree graph caller order (inl refl))
        ∙ ap (rests (rest_of graph b caller order)) room_same
        ∙ sym (as_rests b (rest_of graph b caller order) refl)
desk-agree graph a b caller (command.EnterBlock order) good agree =
    as_rests a (partner_found graph a caller order) refl
    ∙ ap (λ o. rests o (has_desk_room (with_block a caller order) (next_name a order.first))) (partner_found-agree hours a b agree graph caller order ordered (λ hour h. h))
    ∙ ap (rests (partner_found graph b caller order)) room_same
    ∙ sym (as_rests b (partner_found graph b caller order) refl)
  where
    hours : List ℕ
    hours = hours_from order.first order.last

    ordered : order.first ≤ order.last
    ordered = let less = ltb-true order.first order.last (and_parts (nat_lt order.first order.last) (nat_le (order.last + 1 - order.first) 24) good).0 in omega arith

    room_same : has_desk_room (with_block a caller order) (next_name a order.first) ≡ has_desk_room (with_block b caller order) (next_name b order.first)
    room_same =
        has_desk_room-agree hours (with_block a caller order) (with_block b caller order) (with_block-agree hours a b agree graph caller order ordered (λ hour h. h))
        (next_name a order.first) (first-in order.first order.last ordered)
        ∙ ap (has_desk_room (with_block b caller order)) (next_name-agree hours a b agree order.first (first-in order.first order.last ordered))

    rests : Option StandingBlock → Bool → Option Refusal
    rests None free = unless free refusal.DeskFull
    rests (Some maker) free = None

    as_rests : (events : List Event) (o : Option StandingBlock) → partner_found graph events caller order ≡ o
        → block_desk_refusal graph events caller order ≡ rests o (has_desk_room (with_block events caller order) (next_name events order.first))
    as_rests events None is = rw is refl
    as_rests events (Some maker) is = rw is refl
desk-agree graph a b caller _ good agree = refl

-- the refusal of a command whose period is good
pub refusal-agree : (setup : Setup) (a b : List Event) (caller : ℕ) (given : Command) → period_is_good given ≡ true → Agree (hours_concerned given) a b
    → refusal_of_command setup a caller given ≡ refusal_of_command setup b caller given
unfolding refusal_of_command
refusal-agree setup a b caller given good agree =
    let graph : Graph = graph_of setup in
    let reduce = reduces-agree a b caller given agree in
    let closed = closed-agree a b given agree in
    let gates = gate-agree a b given agree in
    let known = known-agree a b caller given agree in
    let offers = offer-agree graph a b given agree in
    let requests = request-agree graph a b given agree in
    let fills = unfilled-agree graph a b caller given agree in
    let baskets = basket-agree graph a b caller given agree in
    let desks = desk-agree graph a b caller given good agree in
    λ i. first_broken (
    (λ _. naming_refusal setup caller given) ∷ (λ _. numbers_refusal given) ∷ (λ _. unless (reduce i) refusal.QuantityOutOfRange)
    ∷ (λ _. option_map (λ hour. refusal.Closed hour) (closed i)) ∷ (λ _. gates i) ∷ (λ _. unless (known i) refusal.UnknownOrder)
    ∷ (λ _. offers i) ∷ (λ _. requests i) ∷ (λ _. fills i) ∷ (λ _. baskets i) ∷ (λ _. desks i) ∷ [])

-- ---- the events

withdrawals-agree : (hours : List ℕ) (a b : List Event) → Agree hours a b → (hour : ℕ) (asked : Phase) → IsIn hour hours → withdrawals a hour asked ≡ withdrawals b hour asked
withdrawals-agree hours a b agree hour phase.Open h = refl
withdrawals-agree hours a b agree hour phase.Local h = refl
withdrawals-agree hours a b agree hour phase.Closed h =
    map-same (λ (name : OrderName). event.Withdrawn name (left a name)) (λ name. event.Withdrawn name (left b name)) (open_names a hour) (λ name i.
    let own = open_names-hour a hour name (from_filter _ name _ i).0 in
    ap (event.Withdrawn name) (left-agree hours a b agree name (subst (λ n. IsIn n hours) (sym own) h)))
    ∙ ap (map (λ (name : OrderName). event.Withdrawn name (left b name))) (open_names-agree hours a b agree hour h)

pub withdrawals-named : (events : List Event) (hour : ℕ) (asked : Phase) → AreNamedByHour (withdrawals events hour asked)
withdrawals-named events hour phase.Open = λ e h. absurd h
withdrawals-named events hour phase.Local = λ e h. absurd h
withdrawals-named events hour phase.Closed = λ e h.
    let from = from_map (λ (name : OrderName). event.Withdrawn name (left events name)) e (open_names events hour) h in subst IsNamedByHour (sym from.2) tt

pub gate_events-agree : (parts : List Part) (graph : Graph) (hour : ℕ) (asked : Phase) (a b : List Event) → Agree (hour ∷ []) a b → gate parts graph hour asked a ≡ gate parts graph hour asked b
gate_events-agree parts graph hour asked a b agree =
    let done : List Event = event.Gated hour asked ∷ withdrawals a hour asked in
    let named : AreNamedByHour done = λ e h. elim h [ inl s ↦ subst IsNamedByHour (sym s) tt | inr i ↦ withdrawals-named a hour asked e i ] in
    ap (λ rest. done ++ rest) (sweeps-agree (hour ∷ []) parts graph (hour ∷ []) (a ++ done) (b ++ done) (agree-append (hour ∷ []) a b done agree named) (λ k i. i))
    ∙ ap (λ gone. (event.Gated hour asked ∷ gone) ++ sweeps parts graph (hour ∷ []) (b ++ (event.Gated hour asked ∷ gone))) (withdrawals-agree (hour ∷ []) a b agree hour asked (inl refl))

-- one event and then sweeps
then-agree : (hours : List ℕ) (parts : List Part) (graph : Graph) (a b : List Event) (done : Event) → IsNamedByHour done → Agree hours a b
    → then_sweeps parts graph hours a done ≡ then_sweeps parts graph hours b done
then-agree hours parts graph a b done named agree =
    ap (λ rest. done ∷ rest) (sweeps-agree hours parts graph hours (a ++ done ∷ []) (b ++ done ∷ []) (agree-more hours a b done agree named) (λ k i. i))

pub at_arc : (o : Option Arc) (f g : Arc → List Event) → ((arc : Arc) → f arc ≡ g arc) → on_arc o f ≡ on_arc o g
at_arc None f g same = refl
at_arc (Some arc) f g same = same arc

pub done-agree : (parts : List Part) (setup : Setup) (a b : List Event) (caller : ℕ) (given : Command) → period_is_good given ≡ true → Agree (hours_concerned given) a b
    → events_done parts setup a caller given ≡ events_done parts setup b caller given
unfolding events_done
done-agree parts setup a b caller (command.Enter order) good agree = enter-agree (order.contract.hour ∷ []) a b agree (graph_of setup) caller order (inl refl) parts
done-agree parts setup a b caller (command.EnterBlock order) good agree =
    enter_block-agree (hours_from order.first order.last) a b agree (graph_of setup) caller order
    (let less = ltb-true order.first order.last (and_parts (nat_lt order.first order.last) (nat_le (order.last + 1 - order.first) 24) good).0 in omega arith) (λ hour h. h) parts
done-agree parts setup a b caller (command.EnterBasket orders) good agree =
    enter_all-agree (map (λ (o : Order). o.contract.hour) orders) parts (graph_of setup) caller orders a b agree (λ order i. IsIn-map (λ (o : Order). o.contract.hour) order orders i)
done-agree parts setup a b caller (command.Cancel name) good agree = ap (λ n. event.Withdrawn name n ∷ []) (left-agree (name.hour ∷ []) a b agree name (inl refl))
done-agree parts setup a b caller (command.Reduce name to) good agree = ap (λ n. event.Reduced name (n - to) ∷ []) (left-agree (name.hour ∷ []) a b agree name (inl refl))
done-agree parts setup a b caller (command.Blocks first last) good agree =
    match_blocks-agree (hours_from first last) (graph_of setup) first last
    (first-in first last (let less = ltb-true first last (and_parts (nat_lt first last) (nat_le (last + 1 - first) 24) good).0 in omega arith)) (λ hour h. h) parts a b agree
done-agree parts setup a b caller (command.Offer from to first last lots) good agree = at_arc (arc_between (graph_of setup) from to) _ _
    (λ arc. then-agree (hours_from first.hour last.hour) parts (graph_of setup) a b (event.Offered arc first last lots) tt agree)
done-agree parts setup a b caller (command.Request from to first last lots) good agree = at_arc (arc_between (graph_of setup) from to) _ _
    (λ arc. then-agree (hours_from first.hour last.hour) parts (graph_of setup) a b (event.Granted arc first last lots) tt agree)
done-agree parts setup a b caller (command.Halt from to first last) good agree = at_arc (arc_between (graph_of setup) from to) _ _
    (λ arc. then-agree (hours_from first last) parts (graph_of setup) a b (event.Halted arc.border first last) tt agree)
done-agree parts setup a b caller (command.Resume from to first last) good agree = at_arc (arc_between (graph_of setup) from to) _ _
    (λ arc. then-agree (hours_from first last) parts (graph_of setup) a b (event.Resumed arc.border first last) tt agree)
done-agree parts setup a b caller (command.Gate hour asked) good agree = gate_events-agree parts (graph_of setup) hour asked a b agree
done-agree parts setup a b caller (command.View contract side zone) good agree = refl

-- the answer of a command that no rule refuses
answer-agree : (parts : List Part) (setup : Setup) (a b : List Event) (caller : ℕ) (given : Command) → period_is_good given ≡ true → Agree (hours_concerned given) a b
    → reply_let_in parts setup a caller given ≡ reply_let_in parts setup b caller given
answer-agree parts setup a b caller (command.View contract side zone) good agree =
    ap reply.Seen (view-agree (contract.hour ∷ []) a b agree (graph_of setup) contract side (inl refl) zone)
answer-agree parts setup a b caller given good agree = ap reply.Done (done-agree parts setup a b caller given good agree)

-- the reply to a command of a good period
pub reply-agree : (parts : List Part) (setup : Setup) (a b : List Event) (caller : ℕ) (given : Command) → period_is_good given ≡ true → Agree (hours_concerned given) a b
    → reply_by parts setup a caller given ≡ reply_by parts setup b caller given
unfolding reply_by
reply-agree parts setup a b caller given good agree =
    ap (λ (o : Option Refusal). refused_or o (λ _. reply_let_in parts setup a caller given)) (refusal-agree setup a b caller given good agree)
    ∙ ap (λ (r : Reply). refused_or (refusal_of_command setup b caller given) (λ _. r)) (answer-agree parts setup a b caller given good agree)

-- a command that a rule on naming refuses is refused by it after any events
pub naming_first : (setup : Setup) (events : List Event) (caller : ℕ) (given : Command) (broken : Refusal) → naming_refusal setup caller given ≡ Some broken
    → refusal_of_command setup events caller given ≡ Some broken
unfolding refusal_of_command
naming_first setup events caller given broken is = rw is refl

-- the reply to any command, from histories that agree on the hours that it touches
pub reply-local : (parts : List Part) (setup : Setup) (a b : List Event) (caller : ℕ) (given : Command) → Agree (touched_hours setup caller given) a b
    → reply_by parts setup a caller given ≡ reply_by parts setup b caller given
unfolding reply_by
reply-local parts setup a b caller given agree = go (naming_refusal setup caller given) refl
  where
    go : (o : Option Refusal) → naming_refusal setup caller given ≡ o
        → refused_or (refusal_of_command setup a caller given) (λ _. reply_let_in parts setup a caller given) ≡ refused_or (refusal_of_command setup b caller given) (λ _. reply_let_in parts setup b caller given)
    go (Some broken) is = rw (naming_first setup a caller given broken is, naming_first setup b caller given broken is) refl
    go None is =
        let hours : touched_hours setup caller given ≡ hours_concerned given = ap (λ o. if is_none o then hours_concerned given else []) is in
        reply-agree parts setup a b caller given (naming-none setup caller given is).period (subst (λ h. Agree h a b) hours agree)
