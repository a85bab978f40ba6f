-- What commands bring about that enter nothing.
use Rattle.std.proofs.Common.{◌≡◌, ◌∙◌, ℕ, List, [], ◌∷◌, ◌++◌, append_assoc, flat_map, Option, Some, None, Result, Ok, Err, OnOk, option_map, refl, sym, ap, subst, ◌≤◌, arith, ◌-◌}
use Rattle.order_kinds.specs.declared.order.OrderName.{OrderName}
use Rattle.order_kinds.specs.declared.phase.Phase.{Phase}
use Rattle.order_kinds.specs.Period.{hours_from}
use Rattle.zone_graph.specs.declared.route.Arc.{Arc}
use Rattle.zone_graph.specs.Graph.{Graph}
use Rattle.zone_graph.specs.Grid.{arc_between}
use Rattle.market_model.specs.declared.command.Command.{Command}
use Rattle.market_model.specs.declared.command.Command.TheVariants as command
use Rattle.market_model.specs.declared.event.Event.{Event}
use Rattle.market_model.specs.declared.event.Event.TheVariants as event
use Rattle.market_model.specs.declared.setup.Setup.{Setup}
use Rattle.market_model.specs.Blocks.{block_deals, match_blocks}
use Rattle.market_model.specs.Grid.{graph_of}
use Rattle.market_model.specs.Market.{events_done, gate, on_arc, then_sweeps, withdrawals}
use Rattle.market_model.specs.History.{and_then}
use Rattle.market_model.specs.Orders.{left}
use Rattle.market_model.specs.Sweep.{all_parts, sweeps}
use Rattle.market_model.specs.WellFormed.{FitAfter, Fits, IsHistory, IsMarketSetup, IsLegalOver}
use Rattle.market_model.specs.LetIn.{IsNoEntry}
use Rattle.laws_of_market.proofs.BlockEntries.{deals-history}
use Rattle.laws_of_market.proofs.Growing.{fit-back, fit-front}
use Rattle.plain_matching.specs.BlockEntering.{IsHistoryOver}
use Rattle.plain_market.specs.declared.border_events.BorderEvent.{BorderEvent}
use Rattle.plain_market.specs.Borders.{border_event, grant, halt, offer, resumption}

-- what follows from what holds of a success
pub on-ok : {T E P Q : Type 0} (result : Result T E) → OnOk result P → (P → Q) → OnOk result Q
on-ok (Ok value) holds follows = follows holds
on-ok (Err error) holds follows = tt

-- a first part of a well-formed history is legal
pub front-legal : (graph : Graph) (setup : Setup) (front rest : List Event) → graph ≡ graph_of setup → IsHistory setup (front ++ rest) → IsLegalOver graph front
front-legal graph setup front rest over history = record { setup = setup; over = over; fit = fit-front setup [] front rest history.fit }

-- the next event of a well-formed history fits
pub next-fits : (setup : Setup) (before rest : List Event) (next : Event) → IsHistory setup (before ++ next ∷ rest) → Fits setup before next
next-fits setup before rest next history = (fit-back setup [] before (next ∷ rest) history.fit).0

-- after the deals of a period the history is legal
pub deals-legal : (graph : Graph) (first last : ℕ) (events dealt : List Event) (over : IsHistoryOver graph events) → IsMarketSetup over.setup
    → dealt ≡ events ++ flat_map (λ deal. deal) (block_deals graph first last events) → IsLegalOver graph dealt
deals-legal graph first last events dealt over is_setup is =
    let fit = (deals-history over.setup is_setup first last events over.history).fit in
    let same : dealt ≡ events ++ flat_map (λ deal. deal) (block_deals (graph_of over.setup) first last events) =
    is ∙ ap (λ g. events ++ flat_map (λ deal. deal) (block_deals g first last events)) over.over in
    record { setup = over.setup; over = over.over; fit = subst (FitAfter over.setup []) (sym same) fit }

-- the deals and then the sweeps are the matching of the period's blocks
pub matched-is : (graph : Graph) (first last : ℕ) (events dealt after : List Event)
    → dealt ≡ events ++ flat_map (λ deal. deal) (block_deals graph first last events)
    → after ≡ dealt ++ sweeps all_parts graph (hours_from first last) dealt → after ≡ events ++ match_blocks all_parts graph first last events
unfolding match_blocks
matched-is graph first last events dealt after deals is =
    let legs : List Event = flat_map (λ deal. deal) (block_deals graph first last events) in
    is ∙ ap (λ history. history ++ sweeps all_parts graph (hours_from first last) history) deals
    ∙ append_assoc events legs (sweeps all_parts graph (hours_from first last) (events ++ legs))

-- what a command does that makes an event on a border
on_arc-happened : (graph : Graph) (events : List Event) (made : Arc → BorderEvent) (o : Option Arc) (happening : BorderEvent) → option_map made o ≡ Some happening
    → then_sweeps all_parts graph (hours_from happening.first happening.last) events happening.event
    ≡ on_arc o (λ arc. then_sweeps all_parts graph (hours_from (made arc).first (made arc).last) events (made arc).event)
on_arc-happened graph events made None happening is = absurd (cc)
on_arc-happened graph events made (Some arc) happening is =
    let same : made arc ≡ happening = cc in
    ap (λ (h : BorderEvent). then_sweeps all_parts graph (hours_from h.first h.last) events h.event) (sym same)

on-border : (setup : Setup) (events : List Event) (caller : ℕ) (given : Command) (happening : BorderEvent) → border_event (graph_of setup) given ≡ Some happening
    → then_sweeps all_parts (graph_of setup) (hours_from happening.first happening.last) events happening.event ≡ events_done all_parts setup events caller given
unfolding events_done
on-border setup events caller (command.Offer from to first last lots) happening is =
    on_arc-happened (graph_of setup) events (offer first last lots) (arc_between (graph_of setup) from to) happening is
on-border setup events caller (command.Request from to first last lots) happening is =
    on_arc-happened (graph_of setup) events (grant first last lots) (arc_between (graph_of setup) from to) happening is
on-border setup events caller (command.Halt from to first last) happening is =
    on_arc-happened (graph_of setup) events (halt first last) (arc_between (graph_of setup) from to) happening is
on-border setup events caller (command.Resume from to first last) happening is =
    on_arc-happened (graph_of setup) events (resumption first last) (arc_between (graph_of setup) from to) happening is
on-border setup events caller (command.Enter order) happening is = absurd (cc)
on-border setup events caller (command.EnterBlock order) happening is = absurd (cc)
on-border setup events caller (command.EnterBasket orders) happening is = absurd (cc)
on-border setup events caller (command.Cancel name) happening is = absurd (cc)
on-border setup events caller (command.Reduce name to) happening is = absurd (cc)
on-border setup events caller (command.Blocks first last) happening is = absurd (cc)
on-border setup events caller (command.Gate hour phase) happening is = absurd (cc)
on-border setup events caller (command.View contract side zone) happening is = absurd (cc)

-- nothing happens on an arc that is not there
nowhere : {X : Type 0} (made : Arc → X) (happening : Arc → List Event) (o : Option Arc) → option_map made o ≡ None → on_arc o happening ≡ []
nowhere made happening None e = refl
nowhere made happening (Some arc) e = absurd (cc)

-- every other command does nothing
pub nothing-done : (setup : Setup) (events : List Event) (caller : ℕ) (given : Command) → IsNoEntry given → border_event (graph_of setup) given ≡ None
    → ((name : OrderName) → ¬ (given ≡ command.Cancel name)) → ((name : OrderName) (to : ℕ) → ¬ (given ≡ command.Reduce name to))
    → ((first last : ℕ) → ¬ (given ≡ command.Blocks first last)) → ((hour : ℕ) (phase : Phase) → ¬ (given ≡ command.Gate hour phase))
    → events_done all_parts setup events caller given ≡ []
unfolding events_done
nothing-done setup events caller (command.Enter order) entry none a b c d = absurd entry
nothing-done setup events caller (command.EnterBlock order) entry none a b c d = absurd entry
nothing-done setup events caller (command.EnterBasket orders) entry none a b c d = absurd entry
nothing-done setup events caller (command.Cancel name) entry none a b c d = absurd (a name refl)
nothing-done setup events caller (command.Reduce name to) entry none a b c d = absurd (b name to refl)
nothing-done setup events caller (command.Blocks first last) entry none a b c d = absurd (c first last refl)
nothing-done setup events caller (command.Gate hour phase) entry none a b c d = absurd (d hour phase refl)
nothing-done setup events caller (command.Offer from to first last lots) entry none a b c d = nowhere _ _ (arc_between (graph_of setup) from to) none
nothing-done setup events caller (command.Request from to first last lots) entry none a b c d = nowhere _ _ (arc_between (graph_of setup) from to) none
nothing-done setup events caller (command.Halt from to first last) entry none a b c d = nowhere _ _ (arc_between (graph_of setup) from to) none
nothing-done setup events caller (command.Resume from to first last) entry none a b c d = nowhere _ _ (arc_between (graph_of setup) from to) none
nothing-done setup events caller (command.View contract side zone) entry none a b c d = refl

-- the same over the graph of the setup
pub happened : (graph : Graph) (setup : Setup) (events : List Event) (caller : ℕ) (given : Command) (happening : BorderEvent) → graph ≡ graph_of setup
    → border_event graph given ≡ Some happening
    → then_sweeps all_parts graph (hours_from happening.first happening.last) events happening.event ≡ events_done all_parts setup events caller given
happened graph setup events caller given happening over is =
    ap (λ g. then_sweeps all_parts g (hours_from happening.first happening.last) events happening.event) over
    ∙ on-border setup events caller given happening (ap (λ g. border_event g given) (sym over) ∙ is)

-- what a reduction leaves is less than was left
pub reduced-less : (setup : Setup) (events : List Event) (caller : ℕ) (given : Command) (name : OrderName) (to : ℕ) → given ≡ command.Reduce name to
    → IsHistory setup (events ++ events_done all_parts setup events caller given) → to ≤ left events name
unfolding events_done
reduced-less setup events caller given name to is history =
    let after = subst (λ g. IsHistory setup (events ++ events_done all_parts setup events caller g)) is history in
    let fits = next-fits setup events [] (event.Reduced name (left events name - to)) after in
    omega (arith, fits.some)

-- after a gate and its withdrawals the history is legal
pub gated-legal : (graph : Graph) (setup : Setup) (events : List Event) (caller : ℕ) (given : Command) (hour : ℕ) (asked : Phase) → graph ≡ graph_of setup
    → given ≡ command.Gate hour asked → IsHistory setup (events ++ events_done all_parts setup events caller given)
    → IsLegalOver graph (events ++ (event.Gated hour asked ∷ withdrawals events hour asked))
unfolding events_done
gated-legal graph setup events caller given hour asked over is history =
    let done : List Event = event.Gated hour asked ∷ withdrawals events hour asked in
    let swept : List Event = sweeps all_parts (graph_of setup) (hour ∷ []) (events ++ done) in
    let after : IsHistory setup (events ++ (done ++ swept)) = subst (λ g. IsHistory setup (events ++ events_done all_parts setup events caller g)) is history in
    front-legal graph setup (events ++ done) swept over (subst (IsHistory setup) (sym (append_assoc events done swept)) after)

-- what the commands do that make no event on a border
pub cancelled-is : (setup : Setup) (events : List Event) (caller : ℕ) (given : Command) (name : OrderName) → given ≡ command.Cancel name
    → event.Withdrawn name (left events name) ∷ [] ≡ events_done all_parts setup events caller given
unfolding events_done
cancelled-is setup events caller given name is = ap (events_done all_parts setup events caller) (sym is)

pub reduced-is : (setup : Setup) (events : List Event) (caller : ℕ) (given : Command) (name : OrderName) (to : ℕ) → given ≡ command.Reduce name to
    → event.Reduced name (left events name - to) ∷ [] ≡ events_done all_parts setup events caller given
unfolding events_done
reduced-is setup events caller given name to is = ap (events_done all_parts setup events caller) (sym is)

pub blocks-is : (graph : Graph) (setup : Setup) (events : List Event) (caller : ℕ) (given : Command) (first last : ℕ) → graph ≡ graph_of setup
    → given ≡ command.Blocks first last → match_blocks all_parts graph first last events ≡ events_done all_parts setup events caller given
unfolding events_done
blocks-is graph setup events caller given first last over is =
    ap (λ g. match_blocks all_parts g first last events) over ∙ ap (events_done all_parts setup events caller) (sym is)

pub gate-is : (graph : Graph) (setup : Setup) (events : List Event) (caller : ℕ) (given : Command) (hour : ℕ) (asked : Phase) → graph ≡ graph_of setup
    → given ≡ command.Gate hour asked → gate all_parts graph hour asked events ≡ events_done all_parts setup events caller given
unfolding events_done
gate-is graph setup events caller given hour asked over is =
    ap (λ g. gate all_parts g hour asked events) over ∙ ap (events_done all_parts setup events caller) (sym is)

-- after an event on a border the history is legal
pub border-legal : (graph : Graph) (setup : Setup) (events : List Event) (caller : ℕ) (given : Command) (happening : BorderEvent) → graph ≡ graph_of setup
    → border_event graph given ≡ Some happening → IsHistory setup (events ++ events_done all_parts setup events caller given)
    → IsLegalOver graph (and_then events happening.event)
border-legal graph setup events caller given happening over is history =
    let swept : List Event = sweeps all_parts graph (hours_from happening.first happening.last) (events ++ happening.event ∷ []) in
    let after : IsHistory setup (events ++ happening.event ∷ swept) =
    subst (λ done. IsHistory setup (events ++ done)) (sym (happened graph setup events caller given happening over is)) history in
    front-legal graph setup (and_then events happening.event) swept over (subst (IsHistory setup) (sym (append_assoc events (happening.event ∷ []) swept)) after)
