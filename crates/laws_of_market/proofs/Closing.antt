-- Events by which nothing enters the market.
use Rattle.std.proofs.Common.{◌≡◌, inl, inr, ℕ, zero, suc, true, false, List, [], ◌∷◌, ◌++◌, flat_map, length, Option, Some, None, refl, sym, subst, if◌then◌else◌}
use Rattle.std.specs.Ordering.{is_lt}
use Rattle.order_kinds.specs.declared.contract.Part.{Part}
use Rattle.order_kinds.specs.declared.order.Kind.{Kind}
use Rattle.order_kinds.specs.declared.order.Kind.TheVariants as kind
use Rattle.order_kinds.specs.declared.order.OrderName.{OrderName}
use Rattle.order_kinds.specs.declared.phase.Phase.{Phase}
use Rattle.order_kinds.specs.declared.phase.Phase.TheVariants as phase
use Rattle.order_kinds.specs.declared.side.Side.TheVariants.{Buy}
use Rattle.order_kinds.specs.Period.{block_quarters, hours_from}
use Rattle.zone_graph.specs.declared.route.Arc.{Arc}
use Rattle.zone_graph.specs.Graph.{Graph}
use Rattle.zone_graph.specs.Pour.{pour_leg}
use Rattle.zone_graph.specs.Route.{IsIn}
use Rattle.zone_graph.specs.Steps.{step_and_onward, steps}
use Rattle.zone_graph.proofs.Membership.{IsIn-append, from_map}
use Rattle.market_model.specs.declared.event.Event.{Event}
use Rattle.market_model.specs.declared.event.Event.TheVariants as event
use Rattle.market_model.specs.Blocks.{StandingBlock, block_buyer_zone, block_deal, block_deals, block_leg, block_leg_over, block_legs, block_line, block_partner, block_seller_zone, block_time_cmp, deal_of_buy, legs_with, match_blocks, resting_block_legs}
use Rattle.market_model.specs.Entering.{rest_withdrawn}
use Rattle.market_model.specs.History.{and_then, enters}
use Rattle.market_model.specs.Lines.{partner}
use Rattle.market_model.specs.Market.{gate, on_arc, then_sweeps, withdrawals}
use Rattle.market_model.specs.Orders.{left, open_names}
use Rattle.market_model.specs.Room.{room}
use Rattle.market_model.specs.Sweep.{left_in_hour, sweep, sweep_leg, sweeps}
use Rattle.market_model.specs.Taking.{next_leg, standing_order, take}
use Rattle.laws_of_market.proofs.Falls.{sweep_leg-hour, trade-leg}
use Rattle.laws_of_market.proofs.Members.{from_first_answer}
use Rattle.laws_of_market.proofs.Repeats.{bind-some, map-some}

-- nothing enters by an event
abbrev pub IsQuiet : Event → Type 0
IsQuiet e = enters e ≡ false

abbrev pub AreQuiet : List Event → Type 0
AreQuiet events = (e : Event) → IsIn e events → IsQuiet e

pub quiet-append : (xs ys : List Event) → AreQuiet xs → AreQuiet ys → AreQuiet (xs ++ ys)
quiet-append xs ys a b e h = elim (IsIn-append e xs ys h) [ inl i ↦ a e i | inr i ↦ b e i ]

pub quiet-one : (e : Event) → IsQuiet e → AreQuiet (e ∷ [])
quiet-one e own f h = elim h [ inl s ↦ subst IsQuiet (sym s) own | inr i ↦ absurd i ]

-- steps that are each without
steps-quiet : (most : ℕ) (step : List Event → Option Event) → ((events : List Event) (e : Event) → step events ≡ Some e → IsQuiet e)
    → (events : List Event) → AreQuiet (steps most step and_then events)
unfolding steps
steps-quiet zero step without events = λ e h. absurd h
steps-quiet (suc most) step without events = go (λ e. steps-quiet most step without (and_then events e)) (step events) refl
  where
    go : ((e : Event) → AreQuiet (steps most step and_then (and_then events e)))
        → (o : Option Event) → step events ≡ o → AreQuiet (step_and_onward o (λ e. steps most step and_then (and_then events e)))
    go onward None is = λ e h. absurd h
    go onward (Some e) is = λ f h. elim h [ inl s ↦ subst IsQuiet (sym s) (without events e is) | inr i ↦ onward e f i ]

next_leg-quiet : (graph : Graph) (name : OrderName) (events : List Event) (e : Event) → next_leg graph name events ≡ Some e → IsQuiet e
unfolding next_leg
next_leg-quiet graph name events e is =
    let own = bind-some _ (standing_order events name) e is in
    let other = bind-some _ (partner graph events own.0) e own.2 in
    subst IsQuiet (trade-leg graph events own.0 other.0 e other.2).is refl

pub take-quiet : (graph : Graph) (events : List Event) (name : OrderName) → AreQuiet (take graph events name)
unfolding take
take-quiet graph events name = steps-quiet (left events name) (next_leg graph name) (next_leg-quiet graph name) events

pub sweep-quiet : (parts : List Part) (graph : Graph) (hour : ℕ) (events : List Event) → AreQuiet (sweep parts graph hour events)
unfolding sweep
sweep-quiet parts graph hour events =
    steps-quiet (left_in_hour events hour) (sweep_leg parts graph hour)
    (λ xs e is. subst IsQuiet (sweep_leg-hour parts graph hour xs e is).leg_in.is refl) events

pub sweeps-quiet : (parts : List Part) (graph : Graph) (hours : List ℕ) (events : List Event) → AreQuiet (sweeps parts graph hours events)
sweeps-quiet parts graph [] events = λ e h. absurd h
sweeps-quiet parts graph (hour ∷ hours) events =
    let legs : List Event = sweep parts graph hour events in
    quiet-append legs (sweeps parts graph hours (events ++ legs)) (sweep-quiet parts graph hour events) (sweeps-quiet parts graph hours (events ++ legs))

pub rest-quiet : (kind : Kind) (name : OrderName) (rest : ℕ) → AreQuiet (rest_withdrawn kind name rest)
rest-quiet kind.Ioc name zero = λ e i. absurd i
rest-quiet kind.Ioc name (suc more) = quiet-one (event.Withdrawn name (suc more)) refl
rest-quiet kind.Limit name rest = λ e i. absurd i
rest-quiet kind.Fok name rest = λ e i. absurd i
rest-quiet (kind.Iceberg peak delta) name rest = λ e i. absurd i

-- ---- blocks

block_legs-quiet : (graph : Graph) (own other : StandingBlock) (events : List Event) → AreQuiet (block_legs graph own other events)
unfolding block_legs block_leg
block_legs-quiet graph own other events = steps-quiet (left events own.name) (block_leg graph own other) made events
  where
    made : (xs : List Event) (e : Event) → block_leg graph own other xs ≡ Some e → IsQuiet e
    made xs e is =
        let leg = map-some (block_leg_over own other) (pour_leg graph (room xs (block_quarters own.order.first own.order.last))
        (block_seller_zone own other) (block_buyer_zone own other) (left xs own.name)) e is in
        subst IsQuiet leg.2 refl

pub legs_with-quiet : (graph : Graph) (events : List Event) (own : StandingBlock) (o : Option StandingBlock) → AreQuiet (legs_with graph events own o)
legs_with-quiet graph events own None = λ e h. absurd h
legs_with-quiet graph events own (Some found) = block_legs-quiet graph own found events

deals-quiet : (most : ℕ) (step : List Event → Option (List Event)) → ((events : List Event) (deal : List Event) → step events ≡ Some deal → AreQuiet deal)
    → (events : List Event) → AreQuiet (flat_map (λ deal. deal) (steps most step (λ before deal. before ++ deal) events))
unfolding steps
deals-quiet zero step without events = λ e h. absurd h
deals-quiet (suc most) step without events = go (λ deal. deals-quiet most step without (events ++ deal)) (step events) refl
  where
    go : ((deal : List Event) → AreQuiet (flat_map (λ d. d) (steps most step (λ before more. before ++ more) (events ++ deal))))
        → (o : Option (List Event)) → step events ≡ o
        → AreQuiet (flat_map (λ d. d) (step_and_onward o (λ deal. steps most step (λ before more. before ++ more) (events ++ deal))))
    go onward None is = λ e h. absurd h
    go onward (Some deal) is =
        quiet-append deal (flat_map (λ d. d) (steps most step (λ before more. before ++ more) (events ++ deal))) (without events deal is) (onward deal)

block_deal-quiet : (graph : Graph) (first last : ℕ) (events deal : List Event) → block_deal graph first last events ≡ Some deal → AreQuiet deal
unfolding block_deal
block_deal-quiet graph first last events deal is =
    let buy = from_first_answer (deal_of_buy graph events) deal (block_line events first last Buy) is in
    let found = map-some (resting_block_legs graph events buy.0) (block_partner graph events buy.0) deal buy.2 in
    subst AreQuiet found.2 (elim (is_lt (block_time_cmp buy.0 found.0))
    as (λ t. AreQuiet (if t then block_legs graph found.0 buy.0 events else block_legs graph buy.0 found.0 events)) [
      | true ↦ block_legs-quiet graph found.0 buy.0 events
      | false ↦ block_legs-quiet graph buy.0 found.0 events
    ])

pub deals_of-quiet : (graph : Graph) (first last : ℕ) (events : List Event) → AreQuiet (flat_map (λ deal. deal) (block_deals graph first last events))
unfolding block_deals
deals_of-quiet graph first last events =
    deals-quiet (length (block_line events first last Buy)) (block_deal graph first last) (block_deal-quiet graph first last) events

-- ---- whole commands

pub match_blocks-quiet : (parts : List Part) (graph : Graph) (first last : ℕ) (events : List Event) → AreQuiet (match_blocks parts graph first last events)
unfolding match_blocks
match_blocks-quiet parts graph first last events =
    let legs : List Event = flat_map (λ deal. deal) (block_deals graph first last events) in
    quiet-append legs (sweeps parts graph (hours_from first last) (events ++ legs)) (deals_of-quiet graph first last events)
    (sweeps-quiet parts graph (hours_from first last) (events ++ legs))

pub then-quiet : (parts : List Part) (graph : Graph) (hours : List ℕ) (events : List Event) (done : Event) → IsQuiet done → AreQuiet (then_sweeps parts graph hours events done)
then-quiet parts graph hours events done own =
    quiet-append (done ∷ []) (sweeps parts graph hours (events ++ done ∷ [])) (quiet-one done own) (sweeps-quiet parts graph hours (events ++ done ∷ []))

pub at_arc-quiet : (o : Option Arc) (happening : Arc → List Event) → ((arc : Arc) → AreQuiet (happening arc)) → AreQuiet (on_arc o happening)
at_arc-quiet None happening without = λ e h. absurd h
at_arc-quiet (Some arc) happening without = without arc

withdrawals-quiet : (events : List Event) (hour : ℕ) (asked : Phase) → AreQuiet (withdrawals events hour asked)
withdrawals-quiet events hour phase.Closed e i =
    let name = from_map (λ (n : OrderName). event.Withdrawn n (left events n)) e (open_names events hour) i in subst IsQuiet (sym name.2) refl
withdrawals-quiet events hour phase.Open e i = absurd i
withdrawals-quiet events hour phase.Local e i = absurd i

-- a gate and what it withdraws
abbrev pub gate_before_sweep : (hour : ℕ) → Phase → List Event → List Event
gate_before_sweep hour asked events = event.Gated hour asked ∷ withdrawals events hour asked

pub gate_before_sweep-quiet : (hour : ℕ) (asked : Phase) (events : List Event) → AreQuiet (gate_before_sweep hour asked events)
gate_before_sweep-quiet hour asked events =
    quiet-append (event.Gated hour asked ∷ []) (withdrawals events hour asked) (quiet-one (event.Gated hour asked) refl) (withdrawals-quiet events hour asked)

pub gate-quiet : (parts : List Part) (graph : Graph) (hour : ℕ) (asked : Phase) (events : List Event) → AreQuiet (gate parts graph hour asked events)
gate-quiet parts graph hour asked events =
    let done : List Event = gate_before_sweep hour asked events in
    quiet-append done (sweeps parts graph (hour ∷ []) (events ++ done)) (gate_before_sweep-quiet hour asked events)
    (sweeps-quiet parts graph (hour ∷ []) (events ++ done))
