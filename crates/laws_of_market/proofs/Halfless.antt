-- Events by which no order of a half hour enters.
use Rattle.std.proofs.Common.{◌≡◌, inl, inr, ℕ, ◌-◌, Bool, true, false, ◌||◌, List, [], ◌∷◌, ◌++◌, map, Option, Some, None, refl, sym, subst}
use Rattle.std.proofs.lemmas.Bool.{true≢false}
use Rattle.std.specs.List.{list_any}
use Rattle.order_kinds.specs.declared.contract.Part.{Part}
use Rattle.order_kinds.specs.declared.order.BlockOrder.{BlockOrder}
use Rattle.order_kinds.specs.declared.order.Order.{Order}
use Rattle.order_kinds.specs.declared.order.OrderName.{OrderName}
use Rattle.order_kinds.specs.Period.{hours_from}
use Rattle.zone_graph.specs.Graph.{Graph}
use Rattle.zone_graph.specs.Grid.{arc_between}
use Rattle.zone_graph.specs.Route.{IsIn}
use Rattle.zone_graph.proofs.Membership.{IsIn-append}
use Rattle.market_model.specs.declared.command.Command.{Command}
use Rattle.market_model.specs.declared.command.Command.TheVariants as command
use Rattle.market_model.specs.declared.event.Event.{Event}
use Rattle.market_model.specs.declared.event.Event.TheVariants as event
use Rattle.market_model.specs.declared.refusal.Refusal.{Refusal}
use Rattle.market_model.specs.declared.setup.Setup.{Setup}
use Rattle.market_model.specs.Blocks.{StandingBlock, enter_block, entering_block, legs_with, partner_found, with_block}
use Rattle.market_model.specs.HistoryLaws.{is_half}
use Rattle.market_model.specs.Entering.{enter, enter_all, legs_taken, name_of_next, rest_of, rest_withdrawn, with_order}
use Rattle.market_model.specs.Grid.{graph_of}
use Rattle.market_model.specs.History.{events_of}
use Rattle.market_model.specs.Market.{reply_let_in, events_done, gate, refused_or, reply_by}
use Rattle.market_model.specs.Orders.{left, next_name}
use Rattle.market_model.specs.Refusals.{refusal_of_command}
use Rattle.market_model.specs.Rules.{parts_named}
use Rattle.market_model.specs.Sweep.{sweep, sweeps}
use Rattle.laws_of_market.specs.HalfHours.{AreHalfless, IsHalfless}
use Rattle.laws_of_market.proofs.Closing.{AreQuiet, IsQuiet, at_arc-quiet, gate-quiet, legs_with-quiet, match_blocks-quiet, rest-quiet, sweep-quiet, sweeps-quiet, take-quiet, then-quiet}

pub halfless-append : (xs ys : List Event) → AreHalfless xs → AreHalfless ys → AreHalfless (xs ++ ys)
halfless-append xs ys a b e h = elim (IsIn-append e xs ys h) [ inl i ↦ a e i | inr i ↦ b e i ]

pub halfless-one : (e : Event) → IsHalfless e → AreHalfless (e ∷ [])
halfless-one e own f h = elim h [ inl s ↦ subst IsHalfless (sym s) own | inr i ↦ absurd i ]

-- where nothing enters no order of a half hour does
quiet-own : (e : Event) → IsQuiet e → IsHalfless e
quiet-own (event.Entered given caller order) quiet = absurd (true≢false quiet)
quiet-own _ quiet = tt

pub quiet-halfless : (events : List Event) → AreQuiet events → AreHalfless events
quiet-halfless events quiet e i = quiet-own e (quiet e i)

-- what happens as an order enters, before its sweep
abbrev pub before_sweep : Graph → (caller : ℕ) → Order → List Event → List Event
before_sweep graph caller order events =
    (event.Entered (name_of_next events order) caller order ∷ []) ++ legs_taken graph events caller order
    ++ rest_withdrawn order.kind (name_of_next events order) (rest_of graph events caller order)

pub before_sweep-halfless : (graph : Graph) (caller : ℕ) (order : Order) (events : List Event) → is_half order.contract.part ≡ false → AreHalfless (before_sweep graph caller order events)
before_sweep-halfless graph caller order events without =
    let name : OrderName = name_of_next events order in
    let entry : Event = event.Entered name caller order in
    let legs : List Event = legs_taken graph events caller order in
    let rest : List Event = rest_withdrawn order.kind name (rest_of graph events caller order) in
    halfless-append ((entry ∷ []) ++ legs) rest
    (halfless-append (entry ∷ []) legs (halfless-one entry without) (quiet-halfless legs (take-quiet graph (with_order events caller order) name)))
    (quiet-halfless rest (rest-quiet order.kind name (rest_of graph events caller order)))

-- what happens as a block enters, before its sweeps
abbrev pub block_before_sweeps : Graph → (caller : ℕ) → BlockOrder → List Event → List Event
block_before_sweeps graph caller order events =
    (event.EnteredBlock (next_name events order.first) caller order ∷ [])
    ++ legs_with graph (with_block events caller order) (entering_block events caller order) (partner_found graph events caller order)

pub block_before_sweeps-halfless : (graph : Graph) (caller : ℕ) (order : BlockOrder) (events : List Event) → AreHalfless (block_before_sweeps graph caller order events)
block_before_sweeps-halfless graph caller order events =
    let entry : Event = event.EnteredBlock (next_name events order.first) caller order in
    let own : StandingBlock = entering_block events caller order in
    let found : Option StandingBlock = partner_found graph events caller order in
    let legs : List Event = legs_with graph (with_block events caller order) own found in
    halfless-append (entry ∷ []) legs (halfless-one entry tt) (quiet-halfless legs (legs_with-quiet graph (with_block events caller order) own found))

-- ---- whole commands

pub enter-halfless : (parts : List Part) (graph : Graph) (caller : ℕ) (order : Order) (events : List Event) → is_half order.contract.part ≡ false
    → AreHalfless (enter parts graph caller order events)
unfolding enter
enter-halfless parts graph caller order events without =
    let done : List Event = before_sweep graph caller order events in
    halfless-append done (sweep parts graph order.contract.hour (events ++ done)) (before_sweep-halfless graph caller order events without)
    (quiet-halfless _ (sweep-quiet parts graph order.contract.hour (events ++ done)))

enter_all-halfless : (parts : List Part) (graph : Graph) (caller : ℕ) (orders : List Order) (events : List Event)
    → ((order : Order) → IsIn order orders → is_half order.contract.part ≡ false) → AreHalfless (enter_all parts graph caller orders events)
enter_all-halfless parts graph caller [] events without = λ e h. absurd h
enter_all-halfless parts graph caller (order ∷ orders) events without =
    let done : List Event = enter parts graph caller order events in
    halfless-append done (enter_all parts graph caller orders (events ++ done)) (enter-halfless parts graph caller order events (without order (inl refl)))
    (enter_all-halfless parts graph caller orders (events ++ done) (λ o i. without o (inr i)))

enter_block-halfless : (parts : List Part) (graph : Graph) (caller : ℕ) (order : BlockOrder) (events : List Event) → AreHalfless (enter_block parts graph caller order events)
unfolding enter_block
enter_block-halfless parts graph caller order events =
    let done : List Event = block_before_sweeps graph caller order events in
    halfless-append done (sweeps parts graph (hours_from order.first order.last) (events ++ done)) (block_before_sweeps-halfless graph caller order events)
    (quiet-halfless _ (sweeps-quiet parts graph (hours_from order.first order.last) (events ++ done)))

-- orders that name no half have none
or-false : (a b : Bool) → (a || b) ≡ false → (a ≡ false) × (b ≡ false)
or-false false b e = (refl, e)
or-false true b e = absurd (cc)

pub orders-halfless : (orders : List Order) → list_any is_half (map (λ (o : Order). o.contract.part) orders) ≡ false
    → (order : Order) → IsIn order orders → is_half order.contract.part ≡ false
orders-halfless (first ∷ orders) none order h =
    let both = or-false (is_half first.contract.part) (list_any is_half (map (λ (o : Order). o.contract.part) orders)) none in
    elim h [ inl s ↦ subst (λ (o : Order). is_half o.contract.part ≡ false) (sym s) both.0 | inr i ↦ orders-halfless orders both.1 order i ]
orders-halfless [] none order h = absurd h

done-halfless : (parts : List Part) (setup : Setup) (events : List Event) (caller : ℕ) (given : Command) → list_any is_half (parts_named given) ≡ false
    → AreHalfless (events_done parts setup events caller given)
unfolding events_done
done-halfless parts setup events caller (command.Enter order) none = enter-halfless parts (graph_of setup) caller order events (or-false (is_half order.contract.part) false none).0
done-halfless parts setup events caller (command.EnterBlock order) none = enter_block-halfless parts (graph_of setup) caller order events
done-halfless parts setup events caller (command.EnterBasket orders) none = enter_all-halfless parts (graph_of setup) caller orders events (orders-halfless orders none)
done-halfless parts setup events caller (command.Cancel name) none = halfless-one (event.Withdrawn name (left events name)) tt
done-halfless parts setup events caller (command.Reduce name to) none = halfless-one (event.Reduced name (left events name - to)) tt
done-halfless parts setup events caller (command.Blocks first last) none = quiet-halfless _ (match_blocks-quiet parts (graph_of setup) first last events)
done-halfless parts setup events caller (command.Offer from to first last lots) none = quiet-halfless _ (at_arc-quiet (arc_between (graph_of setup) from to) _ (λ arc.
    then-quiet parts (graph_of setup) (hours_from first.hour last.hour) events (event.Offered arc first last lots) refl))
done-halfless parts setup events caller (command.Request from to first last lots) none = quiet-halfless _ (at_arc-quiet (arc_between (graph_of setup) from to) _ (λ arc.
    then-quiet parts (graph_of setup) (hours_from first.hour last.hour) events (event.Granted arc first last lots) refl))
done-halfless parts setup events caller (command.Halt from to first last) none = quiet-halfless _ (at_arc-quiet (arc_between (graph_of setup) from to) _ (λ arc.
    then-quiet parts (graph_of setup) (hours_from first last) events (event.Halted arc.border first last) refl))
done-halfless parts setup events caller (command.Resume from to first last) none = quiet-halfless _ (at_arc-quiet (arc_between (graph_of setup) from to) _ (λ arc.
    then-quiet parts (graph_of setup) (hours_from first last) events (event.Resumed arc.border first last) refl))
done-halfless parts setup events caller (command.Gate hour asked) none = quiet-halfless (gate parts (graph_of setup) hour asked events) (gate-quiet parts (graph_of setup) hour asked events)
done-halfless parts setup events caller (command.View contract side zone) none = λ e h. absurd h

answer-halfless : (parts : List Part) (setup : Setup) (events : List Event) (caller : ℕ) (given : Command) → list_any is_half (parts_named given) ≡ false
    → AreHalfless (events_of (reply_let_in parts setup events caller given))
answer-halfless parts setup events caller (command.View contract side zone) none = λ e h. absurd h
answer-halfless parts setup events caller given none = done-halfless parts setup events caller given none

-- no order of a half hour enters by the reply to a command that names none
pub reply-halfless : (parts : List Part) (setup : Setup) (events : List Event) (caller : ℕ) (given : Command) → list_any is_half (parts_named given) ≡ false
    → AreHalfless (events_of (reply_by parts setup events caller given))
unfolding reply_by
reply-halfless parts setup events caller given none = go (refusal_of_command setup events caller given)
  where
    go : (o : Option Refusal) → AreHalfless (events_of (refused_or o (λ _. reply_let_in parts setup events caller given)))
    go (Some broken) = λ e h. absurd h
    go None = answer-halfless parts setup events caller given none
