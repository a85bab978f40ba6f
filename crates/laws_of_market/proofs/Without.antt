-- After events by which no order of a half hour entered, halves are swept in vain.
use Rattle.std.proofs.Common.{◌≡◌, ◌∙◌, inl, inr, ℕ, zero, suc, false, List, [], ◌∷◌, ◌++◌, flat_map, Option, Some, None, refl, sym, ap, subst}
use Rattle.std.proofs.lemmas.Bool.{true≢false}
use Rattle.std.specs.List.{list_any}
use Rattle.order_kinds.specs.declared.contract.Contract.{Contract}
use Rattle.order_kinds.specs.declared.contract.Part.{Part}
use Rattle.order_kinds.specs.declared.contract.Part.TheVariants as part
use Rattle.order_kinds.specs.declared.order.BlockOrder.{BlockOrder}
use Rattle.order_kinds.specs.declared.order.Order.{Order}
use Rattle.order_kinds.specs.declared.phase.Phase.{Phase}
use Rattle.order_kinds.specs.declared.side.Side.TheVariants.{Buy}
use Rattle.order_kinds.specs.Period.{hours_from}
use Rattle.zone_graph.specs.Graph.{Graph}
use Rattle.zone_graph.specs.Grid.{arc_between}
use Rattle.zone_graph.specs.Route.{IsIn}
use Rattle.zone_graph.specs.Steps.{step_and_onward, steps}
use Rattle.market_model.specs.declared.command.Command.{Command}
use Rattle.market_model.specs.declared.command.Command.TheVariants as command
use Rattle.market_model.specs.declared.entry.Entry.{Entry}
use Rattle.market_model.specs.declared.event.Event.{Event}
use Rattle.market_model.specs.declared.event.Event.TheVariants as event
use Rattle.market_model.specs.declared.reply.Reply.{Reply}
use Rattle.market_model.specs.declared.reply.Reply.TheVariants as reply
use Rattle.market_model.specs.declared.setup.Setup.{Setup}
use Rattle.market_model.specs.Blocks.{block_deals, enter_block, match_blocks}
use Rattle.market_model.specs.HistoryLaws.{is_half}
use Rattle.market_model.specs.Entering.{enter, enter_all}
use Rattle.market_model.specs.Grid.{graph_of}
use Rattle.market_model.specs.History.{and_then, events_of, journal_events}
use Rattle.market_model.specs.Lines.{line}
use Rattle.market_model.specs.Market.{Turn, reply_let_in, entry_of, events_done, gate, refused_or, reply_by, run_after, then_sweeps}
use Rattle.market_model.specs.Orders.{Placed, placed, placed_by}
use Rattle.market_model.specs.Refusals.{refusal_of_command}
use Rattle.market_model.specs.Rules.{parts_named}
use Rattle.market_model.specs.Sweep.{all_parts, first_answer, left_in_hour, leg_in, leg_of_buy, or_else, parts_without_halves, sweep, sweep_leg, sweeps}
use Rattle.laws_of_market.proofs.Falls.{sweep_leg-hour}
use Rattle.laws_of_market.proofs.Journals.{journal_events-more}
use Rattle.laws_of_market.proofs.Members.{from_filter_map}
use Rattle.laws_of_market.proofs.Trades.{from_line}
use Rattle.laws_of_market.proofs.Closing.{deals_of-quiet, gate_before_sweep, gate_before_sweep-quiet, sweep-quiet}
use Rattle.laws_of_market.specs.HalfHours.{AreHalfless, IsHalfless}
use Rattle.laws_of_market.proofs.Halfless.{before_sweep, before_sweep-halfless, block_before_sweeps, block_before_sweeps-halfless, enter-halfless, halfless-append, halfless-one, orders-halfless, reply-halfless, quiet-halfless}
use Rattle.laws_of_market.proofs.LocalReplies.{at_arc}

-- an order that entered is of no half hour
placed-halfless : (events : List Event) → AreHalfless events → (order : Placed) → IsIn order (placed events) → is_half order.order.contract.part ≡ false
placed-halfless events without order h =
    let x = from_filter_map placed_by order events h in by_event x.0 order (without x.0 x.1) x.2
  where
    by_event : (e : Event) (found : Placed) → IsHalfless e → placed_by e ≡ Some found → is_half found.order.contract.part ≡ false
    by_event (event.Entered given caller entering) found own is =
        let same : record { name = given; caller = caller; order = entering } ≡ found = cc in subst (λ (p : Placed). is_half p.order.contract.part ≡ false) same own
    by_event _ found own is = absurd (cc)

nothing-in : {X : Type 0} (xs : List X) → ((x : X) → IsIn x xs → ⊥) → xs ≡ []
nothing-in [] none = refl
nothing-in (x ∷ xs) none = absurd (none x (inl refl))

-- the line of a half hour is empty, so no leg is in it
half-none : (graph : Graph) (events : List Event) → AreHalfless events → (hour number : ℕ) → leg_in graph events (record { hour = hour; part = part.Half number }) ≡ None
half-none graph events without hour number =
    let contract : Contract = record { hour = hour; part = part.Half number } in
    ap (first_answer (leg_of_buy graph events)) (nothing-in (line events contract Buy) (λ own h.
    let in_line = from_line events contract Buy own h in
    true≢false (ap (λ (c : Contract). is_half c.part) (sym in_line.of_contract) ∙ placed-halfless events without in_line.order in_line.is_open.is_placed)))

sweep_leg-same : (graph : Graph) (hour : ℕ) (events : List Event) → AreHalfless events → sweep_leg all_parts graph hour events ≡ sweep_leg parts_without_halves graph hour events
unfolding sweep_leg
sweep_leg-same graph hour events without =
    let ask : Part → Option Event = λ part. leg_in graph events (record { hour = hour; part = part }) in
    ap (λ o. or_else (ask part.Hour) (λ _. or_else o (λ _. or_else (ask (part.Half 2)) (λ _. first_answer ask quarters)))) (half-none graph events without hour 1)
    ∙ ap (λ o. or_else (ask part.Hour) (λ _. or_else o (λ _. first_answer ask quarters))) (half-none graph events without hour 2)
  where
    quarters : List Part
    quarters = part.Quarter 1 ∷ part.Quarter 2 ∷ part.Quarter 3 ∷ part.Quarter 4 ∷ []

-- steps that are the same after such events, and keep them such
steps-same : (most : ℕ) (f g : List Event → Option Event) → ((events : List Event) → AreHalfless events → f events ≡ g events)
    → ((events : List Event) (e : Event) → f events ≡ Some e → IsHalfless e)
    → (events : List Event) → AreHalfless events → steps most f and_then events ≡ steps most g and_then events
unfolding steps
steps-same zero f g same without events are = refl
steps-same (suc most) f g same without events are =
    go (λ e own. steps-same most f g same without (and_then events e) (halfless-append events (e ∷ []) are (halfless-one e own))) (f events) refl
    ∙ ap (λ o. step_and_onward o (λ e. steps most g and_then (and_then events e))) (same events are)
  where
    go : ((e : Event) → IsHalfless e → steps most f and_then (and_then events e) ≡ steps most g and_then (and_then events e))
        → (o : Option Event) → f events ≡ o
        → step_and_onward o (λ e. steps most f and_then (and_then events e)) ≡ step_and_onward o (λ e. steps most g and_then (and_then events e))
    go onward None is = refl
    go onward (Some e) is = ap (λ rest. e ∷ rest) (onward e (without events e is))

sweep-same : (graph : Graph) (hour : ℕ) (events : List Event) → AreHalfless events → sweep all_parts graph hour events ≡ sweep parts_without_halves graph hour events
unfolding sweep
sweep-same graph hour events are =
    steps-same (left_in_hour events hour) (sweep_leg all_parts graph hour) (sweep_leg parts_without_halves graph hour) (λ xs. sweep_leg-same graph hour xs)
    (λ xs e is. subst IsHalfless (sweep_leg-hour all_parts graph hour xs e is).leg_in.is tt) events are

sweeps-same : (graph : Graph) (hours : List ℕ) (events : List Event) → AreHalfless events → sweeps all_parts graph hours events ≡ sweeps parts_without_halves graph hours events
sweeps-same graph [] events are = refl
sweeps-same graph (hour ∷ hours) events are =
    let legs : List Event = sweep all_parts graph hour events in
    ap (λ rest. legs ++ rest) (sweeps-same graph hours (events ++ legs) (halfless-append events legs are (quiet-halfless legs (sweep-quiet all_parts graph hour events))))
    ∙ ap (λ own. own ++ sweeps parts_without_halves graph hours (events ++ own)) (sweep-same graph hour events are)

-- ---- whole commands

enter-same : (graph : Graph) (caller : ℕ) (order : Order) (events : List Event) → AreHalfless events → is_half order.contract.part ≡ false
    → enter all_parts graph caller order events ≡ enter parts_without_halves graph caller order events
unfolding enter
enter-same graph caller order events are none =
    let done : List Event = before_sweep graph caller order events in
    ap (λ rest. done ++ rest) (sweep-same graph order.contract.hour (events ++ done) (halfless-append events done are (before_sweep-halfless graph caller order events none)))

enter_all-same : (graph : Graph) (caller : ℕ) (orders : List Order) (events : List Event) → AreHalfless events
    → ((order : Order) → IsIn order orders → is_half order.contract.part ≡ false)
    → enter_all all_parts graph caller orders events ≡ enter_all parts_without_halves graph caller orders events
enter_all-same graph caller [] events are none = refl
enter_all-same graph caller (order ∷ orders) events are none =
    let done : List Event = enter all_parts graph caller order events in
    ap (λ rest. done ++ rest) (enter_all-same graph caller orders (events ++ done)
    (halfless-append events done are (enter-halfless all_parts graph caller order events (none order (inl refl)))) (λ o i. none o (inr i)))
    ∙ ap (λ own. own ++ enter_all parts_without_halves graph caller orders (events ++ own)) (enter-same graph caller order events are (none order (inl refl)))

enter_block-same : (graph : Graph) (caller : ℕ) (order : BlockOrder) (events : List Event) → AreHalfless events
    → enter_block all_parts graph caller order events ≡ enter_block parts_without_halves graph caller order events
unfolding enter_block
enter_block-same graph caller order events are =
    let done : List Event = block_before_sweeps graph caller order events in
    ap (λ rest. done ++ rest) (sweeps-same graph (hours_from order.first order.last) (events ++ done)
    (halfless-append events done are (block_before_sweeps-halfless graph caller order events)))

match_blocks-same : (graph : Graph) (first last : ℕ) (events : List Event) → AreHalfless events
    → match_blocks all_parts graph first last events ≡ match_blocks parts_without_halves graph first last events
unfolding match_blocks
match_blocks-same graph first last events are =
    let legs : List Event = flat_map (λ deal. deal) (block_deals graph first last events) in
    ap (λ rest. legs ++ rest) (sweeps-same graph (hours_from first last) (events ++ legs) (halfless-append events legs are (quiet-halfless legs (deals_of-quiet graph first last events))))

then-same : (graph : Graph) (hours : List ℕ) (events : List Event) (done : Event) → AreHalfless events → IsHalfless done
    → then_sweeps all_parts graph hours events done ≡ then_sweeps parts_without_halves graph hours events done
then-same graph hours events done are own =
    ap (λ rest. done ∷ rest) (sweeps-same graph hours (events ++ done ∷ []) (halfless-append events (done ∷ []) are (halfless-one done own)))

gate-same : (graph : Graph) (hour : ℕ) (asked : Phase) (events : List Event) → AreHalfless events → gate all_parts graph hour asked events ≡ gate parts_without_halves graph hour asked events
gate-same graph hour asked events are =
    let done : List Event = gate_before_sweep hour asked events in
    ap (λ rest. done ++ rest) (sweeps-same graph (hour ∷ []) (events ++ done) (halfless-append events done are (quiet-halfless done (gate_before_sweep-quiet hour asked events))))

done-same : (setup : Setup) (events : List Event) (caller : ℕ) (given : Command) → AreHalfless events → list_any is_half (parts_named given) ≡ false
    → events_done all_parts setup events caller given ≡ events_done parts_without_halves setup events caller given
unfolding events_done
done-same setup events caller (command.Enter order) are none =
    enter-same (graph_of setup) caller order events are (orders-halfless (order ∷ []) none order (inl refl))
done-same setup events caller (command.EnterBlock order) are none = enter_block-same (graph_of setup) caller order events are
done-same setup events caller (command.EnterBasket orders) are none = enter_all-same (graph_of setup) caller orders events are (orders-halfless orders none)
done-same setup events caller (command.Cancel name) are none = refl
done-same setup events caller (command.Reduce name to) are none = refl
done-same setup events caller (command.Blocks first last) are none = match_blocks-same (graph_of setup) first last events are
done-same setup events caller (command.Offer from to first last lots) are none = at_arc (arc_between (graph_of setup) from to) _ _
    (λ arc. then-same (graph_of setup) (hours_from first.hour last.hour) events (event.Offered arc first last lots) are tt)
done-same setup events caller (command.Request from to first last lots) are none = at_arc (arc_between (graph_of setup) from to) _ _
    (λ arc. then-same (graph_of setup) (hours_from first.hour last.hour) events (event.Granted arc first last lots) are tt)
done-same setup events caller (command.Halt from to first last) are none = at_arc (arc_between (graph_of setup) from to) _ _
    (λ arc. then-same (graph_of setup) (hours_from first last) events (event.Halted arc.border first last) are tt)
done-same setup events caller (command.Resume from to first last) are none = at_arc (arc_between (graph_of setup) from to) _ _
    (λ arc. then-same (graph_of setup) (hours_from first last) events (event.Resumed arc.border first last) are tt)
done-same setup events caller (command.Gate hour asked) are none = gate-same (graph_of setup) hour asked events are
done-same setup events caller (command.View contract side zone) are none = refl

answer-same : (setup : Setup) (events : List Event) (caller : ℕ) (given : Command) → AreHalfless events → list_any is_half (parts_named given) ≡ false
    → reply_let_in all_parts setup events caller given ≡ reply_let_in parts_without_halves setup events caller given
answer-same setup events caller (command.View contract side zone) are none = refl
answer-same setup events caller given are none = ap reply.Done (done-same setup events caller given are none)

-- the reply to a command that names no half hour is the same without them
pub reply-same : (setup : Setup) (events : List Event) (caller : ℕ) (given : Command) → AreHalfless events → list_any is_half (parts_named given) ≡ false
    → reply_by all_parts setup events caller given ≡ reply_by parts_without_halves setup events caller given
unfolding reply_by
reply-same setup events caller given are none =
    ap (λ (r : Reply). refused_or (refusal_of_command setup events caller given) (λ _. r)) (answer-same setup events caller given are none)

-- ---- journals

-- turns that name no half hour have the same entries with and without them
pub run-same : (setup : Setup) (turns : List Turn) (before : List Entry) → AreHalfless (journal_events before)
    → ((turn : Turn) → IsIn turn turns → list_any is_half (parts_named turn.command) ≡ false)
    → run_after all_parts setup before turns ≡ run_after parts_without_halves setup before turns
unfolding run_after
run-same setup [] before are none = refl
run-same setup (turn ∷ turns) before are none =
    let entry : Entry = entry_of all_parts setup before turn in
    let own = none turn (inl refl) in
    let same : reply_by all_parts setup (journal_events before) turn.caller turn.command ≡ reply_by parts_without_halves setup (journal_events before) turn.caller turn.command =
    reply-same setup (journal_events before) turn.caller turn.command are own in
    let after : AreHalfless (journal_events (before ++ entry ∷ [])) =
    subst AreHalfless (sym (journal_events-more before entry))
    (halfless-append (journal_events before) (events_of entry.reply) are (reply-halfless all_parts setup (journal_events before) turn.caller turn.command own)) in
    ap (λ rest. entry ∷ rest) (run-same setup turns (before ++ entry ∷ []) after (λ t i. none t (inr i)))
    ∙ ap (λ (r : Reply). record { caller = turn.caller; nth = entry.nth; command = turn.command; reply = r }
    ∷ run_after parts_without_halves setup (before ++ record { caller = turn.caller; nth = entry.nth; command = turn.command; reply = r } ∷ []) turns) same
