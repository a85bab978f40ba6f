-- Every leg of a reply is made by a taking of an order that the reply enters, or by a sweep.
use Rattle.std.proofs.Common.{◌≡◌, ◌∙◌, ◌⊎◌, inl, inr, ℕ, zero, suc, ◌+◌, ◌≤◌, true, false, cond, List, [], ◌∷◌, ◌++◌, append_assoc, flat_map, length, map, Option, Some, None, refl, sym, ap, subst, if◌then◌else◌, arith}
use Rattle.std.proofs.lemmas.List.{append-nil}
use Rattle.std.proofs.lemmas.List.Sums.{sum_by-append}
use Rattle.std.specs.Ordering.{is_lt}
use Rattle.order_kinds.specs.declared.contract.Contract.{Contract}
use Rattle.order_kinds.specs.declared.contract.Part.{Part}
use Rattle.order_kinds.specs.declared.order.Kind.{Kind}
use Rattle.order_kinds.specs.declared.order.Kind.TheVariants as kind
use Rattle.order_kinds.specs.declared.order.Order.{Order}
use Rattle.order_kinds.specs.declared.order.OrderName.{OrderName}
use Rattle.order_kinds.specs.declared.phase.Phase.{Phase}
use Rattle.order_kinds.specs.declared.phase.Phase.TheVariants as phase
use Rattle.order_kinds.specs.declared.side.Side.TheVariants.{Buy}
use Rattle.order_kinds.specs.Period.{block_quarters, hours_from}
use Rattle.zone_graph.specs.declared.route.Arc.{Arc}
use Rattle.zone_graph.specs.Graph.{Graph}
use Rattle.zone_graph.specs.Grid.{arc_between}
use Rattle.zone_graph.specs.Pour.{pour_leg}
use Rattle.zone_graph.specs.Steps.{step_and_onward, steps}
use Rattle.market_model.specs.declared.command.Command.{Command}
use Rattle.market_model.specs.declared.command.Command.TheVariants as command
use Rattle.market_model.specs.declared.event.Event.{Event}
use Rattle.market_model.specs.declared.event.Event.TheVariants as event
use Rattle.market_model.specs.declared.event.Leg.{Leg}
use Rattle.market_model.specs.declared.refusal.Refusal.{Refusal}
use Rattle.market_model.specs.declared.setup.Setup.{Setup}
use Rattle.market_model.specs.Blocks.{StandingBlock, block_buyer_zone, block_deal, block_deals, block_leg, block_leg_over, block_legs, block_line, block_partner, block_seller_zone, block_time_cmp, deal_of_buy, enter_block, entering_block, legs_with, match_blocks, partner_found, resting_block_legs, with_block}
use Rattle.market_model.specs.Entering.{enter, enter_all, legs_taken, name_of_next, rest_of, rest_withdrawn, with_order}
use Rattle.market_model.specs.Grid.{graph_of}
use Rattle.market_model.specs.History.{and_then, events_of}
use Rattle.market_model.specs.Lines.{partner}
use Rattle.market_model.specs.Market.{reply_let_in, events_done, on_arc, refused_or, reply_by, withdrawals}
use Rattle.market_model.specs.Orders.{left, next_name, open_names}
use Rattle.market_model.specs.Refusals.{refusal_of_command}
use Rattle.market_model.specs.Room.{room}
use Rattle.market_model.specs.Sweep.{left_in_hour, sweep, sweep_leg, sweeps}
use Rattle.market_model.specs.Taking.{next_leg, standing_order, take}
use Rattle.market_model.specs.WellFormed.{FitAfter}
use Rattle.laws_of_market.proofs.Falls.{trade-leg}
use Rattle.laws_of_market.proofs.Growing.{fit-front}
use Rattle.laws_of_market.proofs.Legs.{open_order-is}
use Rattle.laws_of_market.proofs.Members.{from_first_answer}
use Rattle.laws_of_market.proofs.Names.{enters_as, entered_in, names-once, times_entered}
use Rattle.laws_of_market.proofs.Repeats.{bind-some, map-some}
use Rattle.laws_of_market.proofs.Holding.{HoldAfter, hold-append, hold-steps}

-- an event is, where it is a leg, so made
abbrev pub IsMade : List Part → Graph → (start before : List Event) → Event → Type 0
IsMade parts graph start before (event.Leg contract leg) =
    ((times_entered start leg.taker ≡ 0) × (next_leg graph leg.taker before ≡ Some (event.Leg contract leg)))
    ⊎ ((hour : ℕ) × (sweep_leg parts graph hour before ≡ Some (event.Leg contract leg)))
IsMade parts graph start before _ = Unit {0}

-- the taker of the next leg of an order is that order
taker-is : (graph : Graph) (name : OrderName) (events : List Event) (contract : Contract) (leg : Leg) → next_leg graph name events ≡ Some (event.Leg contract leg)
    → leg.taker ≡ name
unfolding next_leg
taker-is graph name events contract leg is =
    let own = bind-some _ (standing_order events name) (event.Leg contract leg) is in
    let found = map-some _ (_) own.0 own.1 in
    let order = open_order-is events name found.0 found.1 in
    let other = bind-some _ (partner graph events own.0) (event.Leg contract leg) own.2 in
    let made = (trade-leg graph events own.0 other.0 (event.Leg contract leg) other.2).is in
    let named : own.0.name ≡ leg.taker = cc in
    sym named ∙ ap (λ s. s.name) (sym found.2) ∙ order.is_named

module _ (parts : List Part) (graph : Graph) (start : List Event) where
  abbrev Made : List Event → Event → Type 0
  Made = IsMade parts graph start

  made-next : (name : OrderName) → times_entered start name ≡ 0 → (before : List Event) (e : Event) → next_leg graph name before ≡ Some e → IsMade parts graph start before e
  made-next name new before (event.Leg contract leg) is =
      let same = taker-is graph name before contract leg is in
      inl (ap (times_entered start) same ∙ new, ap (λ n. next_leg graph n before) same ∙ is)
  made-next name new before _ is = tt

  made-swept : (hour : ℕ) (before : List Event) (e : Event) → sweep_leg parts graph hour before ≡ Some e → IsMade parts graph start before e
  made-swept hour before (event.Leg contract leg) is = inr (hour, is)
  made-swept hour before _ is = tt

  take-made : (events : List Event) (name : OrderName) → times_entered start name ≡ 0 → HoldAfter Made events (take graph events name)
  unfolding take
  take-made events name new = hold-steps Made (left events name) (next_leg graph name) (made-next name new) events

  sweep-made : (hour : ℕ) (events : List Event) → HoldAfter Made events (sweep parts graph hour events)
  unfolding sweep
  sweep-made hour events = hold-steps Made (left_in_hour events hour) (sweep_leg parts graph hour) (made-swept hour) events

  sweeps-made : (hours : List ℕ) (events : List Event) → HoldAfter Made events (sweeps parts graph hours events)
  sweeps-made [] events = tt
  sweeps-made (hour ∷ hours) events =
      let legs : List Event = sweep parts graph hour events in
      hold-append Made events legs (sweeps parts graph hours (events ++ legs)) (sweep-made hour events) (sweeps-made hours (events ++ legs))

  -- what is done, and then the sweeps of some hours
  done_swept-made : (hours : List ℕ) (events done : List Event) → HoldAfter Made events done → HoldAfter Made events (done ++ sweeps parts graph hours (events ++ done))
  done_swept-made hours events done holds = hold-append Made events done (sweeps parts graph hours (events ++ done)) holds (sweeps-made hours (events ++ done))

  rest-made : (given : Kind) (events : List Event) (name : OrderName) (rest : ℕ) → HoldAfter Made events (rest_withdrawn given name rest)
  rest-made kind.Ioc events name zero = tt
  rest-made kind.Ioc events name (suc more) = (tt, tt)
  rest-made kind.Limit events name rest = tt
  rest-made kind.Fok events name rest = tt
  rest-made (kind.Iceberg peak delta) events name rest = tt

  -- ---- orders

  -- the name that an order gets is new
  new-name : (setup : Setup) (more : List Event) (order : Order) → FitAfter setup [] (start ++ more) → times_entered start (name_of_next (start ++ more) order) ≡ 0
  new-name setup more order fit =
      let name : OrderName = name_of_next (start ++ more) order in
      let parted = sum_by-append (λ e. cond (enters_as name e) 1 0) start more in
      fresh (times_entered start name) (times_entered (start ++ more) name) (λ some. (names-once setup (start ++ more) fit).numbered name some) (omega (arith, parted))
    where
      fresh : (n all : ℕ) → (1 ≤ all → entered_in (start ++ more) order.contract.hour + 1 ≤ entered_in (start ++ more) order.contract.hour) → n ≤ all → n ≡ 0
      fresh n all h few = let none : ¬ (1 ≤ all) = λ some. let over = h some in omega arith in omega arith

  enter-made : (setup : Setup) (caller : ℕ) (order : Order) (more : List Event) → FitAfter setup [] (start ++ more) → HoldAfter Made (start ++ more) (enter parts graph caller order (start ++ more))
  unfolding enter
  enter-made setup caller order more fit =
      let events : List Event = start ++ more in
      let name : OrderName = name_of_next events order in
      let entry : List Event = event.Entered name caller order ∷ [] in
      let legs : List Event = legs_taken graph events caller order in
      let rest : List Event = rest_withdrawn order.kind name (rest_of graph events caller order) in
      let taken : HoldAfter Made events (entry ++ legs) =
      hold-append Made events entry legs (tt, tt) (take-made (with_order events caller order) name (new-name setup more order fit)) in
      let done : HoldAfter Made events (entry ++ legs ++ rest) = hold-append Made events (entry ++ legs) rest taken (rest-made order.kind (events ++ (entry ++ legs)) name (rest_of graph events caller order)) in
      hold-append Made events (entry ++ legs ++ rest) (sweep parts graph order.contract.hour (events ++ (entry ++ legs ++ rest))) done
      (sweep-made order.contract.hour (events ++ (entry ++ legs ++ rest)))

  enter_all-made : (setup : Setup) (caller : ℕ) (orders : List Order) (more : List Event)
      → FitAfter setup [] ((start ++ more) ++ enter_all parts graph caller orders (start ++ more)) → HoldAfter Made (start ++ more) (enter_all parts graph caller orders (start ++ more))
  enter_all-made setup caller [] more fit = tt
  enter_all-made setup caller (order ∷ orders) more fit =
      let events : List Event = start ++ more in
      let done : List Event = enter parts graph caller order events in
      let later : List Event = enter_all parts graph caller orders (events ++ done) in
      let now : FitAfter setup [] events = fit-front setup [] events (done ++ later) fit in
      let same : events ++ done ≡ start ++ (more ++ done) = append_assoc start more done in
      let whole : FitAfter setup [] ((events ++ done) ++ later) = subst (FitAfter setup []) (sym (append_assoc events done later)) fit in
      let next : HoldAfter Made (start ++ (more ++ done)) (enter_all parts graph caller orders (start ++ (more ++ done))) =
      enter_all-made setup caller orders (more ++ done) (subst (λ b. FitAfter setup [] (b ++ enter_all parts graph caller orders b)) same whole) in
      hold-append Made events done later (enter-made setup caller order more now) (subst (λ b. HoldAfter Made b (enter_all parts graph caller orders b)) (sym same) next)

  -- ---- blocks

  block_legs-made : (own other : StandingBlock) (events : List Event) → HoldAfter Made events (block_legs graph own other events)
  unfolding block_legs block_leg
  block_legs-made own other events = hold-steps Made (left events own.name) (block_leg graph own other) made events
    where
      made : (before : List Event) (e : Event) → block_leg graph own other before ≡ Some e → IsMade parts graph start before e
      made before e is =
          let leg = map-some (block_leg_over own other) (pour_leg graph (room before (block_quarters own.order.first own.order.last))
          (block_seller_zone own other) (block_buyer_zone own other) (left before own.name)) e is in
          subst (IsMade parts graph start before) leg.2 tt

  legs_with-made : (events : List Event) (own : StandingBlock) (o : Option StandingBlock) → HoldAfter Made events (legs_with graph events own o)
  legs_with-made events own None = tt
  legs_with-made events own (Some found) = block_legs-made own found events

  deals-made : (most : ℕ) (step : List Event → Option (List Event)) → ((events deal : List Event) → step events ≡ Some deal → HoldAfter Made events deal)
      → (events : List Event) → HoldAfter Made events (flat_map (λ deal. deal) (steps most step (λ before deal. before ++ deal) events))
  unfolding steps
  deals-made zero step each events = tt
  deals-made (suc most) step each events = go (λ deal. deals-made most step each (events ++ deal)) (step events) refl
    where
      go : ((deal : List Event) → HoldAfter Made (events ++ deal) (flat_map (λ d. d) (steps most step (λ before more. before ++ more) (events ++ deal))))
          → (o : Option (List Event)) → step events ≡ o
          → HoldAfter Made events (flat_map (λ d. d) (step_and_onward o (λ deal. steps most step (λ before more. before ++ more) (events ++ deal))))
      go onward None is = tt
      go onward (Some deal) is =
          hold-append Made events deal (flat_map (λ d. d) (steps most step (λ before more. before ++ more) (events ++ deal))) (each events deal is) (onward deal)

  block_deal-made : (first last : ℕ) (events deal : List Event) → block_deal graph first last events ≡ Some deal → HoldAfter Made events deal
  unfolding block_deal
  block_deal-made first last events deal is =
      let buy = from_first_answer (deal_of_buy graph events) deal (block_line events first last Buy) is in
      let found = map-some (resting_block_legs graph events buy.0) (block_partner graph events buy.0) deal buy.2 in
      subst (HoldAfter Made events) found.2 (elim (is_lt (block_time_cmp buy.0 found.0))
      as (λ t. HoldAfter Made events (if t then block_legs graph found.0 buy.0 events else block_legs graph buy.0 found.0 events)) [
        | true ↦ block_legs-made found.0 buy.0 events
        | false ↦ block_legs-made buy.0 found.0 events
      ])

  deals_of-made : (first last : ℕ) (events : List Event) → HoldAfter Made events (flat_map (λ deal. deal) (block_deals graph first last events))
  unfolding block_deals
  deals_of-made first last events =
      deals-made (length (block_line events first last Buy)) (block_deal graph first last) (block_deal-made first last) events

  -- ---- arcs and hours

  at_arc-made : (events : List Event) (o : Option Arc) (happening : Arc → List Event) → ((arc : Arc) → HoldAfter Made events (happening arc)) → HoldAfter Made events (on_arc o happening)
  at_arc-made events None happening each = tt
  at_arc-made events (Some arc) happening each = each arc

  named-made : (events lefts : List Event) (names : List OrderName) → HoldAfter Made events (map (λ name. event.Withdrawn name (left lefts name)) names)
  named-made events lefts [] = tt
  named-made events lefts (name ∷ names) = (tt, named-made (and_then events (event.Withdrawn name (left lefts name))) lefts names)

  withdrawals-made : (before events : List Event) (hour : ℕ) (asked : Phase) → HoldAfter Made before (withdrawals events hour asked)
  withdrawals-made before events hour phase.Closed = named-made before events (open_names events hour)
  withdrawals-made before events hour phase.Open = tt
  withdrawals-made before events hour phase.Local = tt

module _ (setup : Setup) (parts : List Part) where
  abbrev graph : Graph
  graph = graph_of setup

  done-made : (events : List Event) (caller : ℕ) (given : Command) → FitAfter setup [] (events ++ events_done parts setup events caller given)
      → HoldAfter (IsMade parts graph events) events (events_done parts setup events caller given)
  unfolding events_done enter_block match_blocks
  done-made events caller (command.Enter order) fit =
      subst (λ b. HoldAfter (IsMade parts graph events) b (enter parts graph caller order b)) (append-nil events)
      (enter-made parts graph events setup caller order [] (subst (FitAfter setup []) (sym (append-nil events)) (fit-front setup [] events (enter parts graph caller order events) fit)))
  done-made events caller (command.EnterBlock order) fit =
      done_swept-made parts graph events (hours_from order.first order.last) events
      ((event.EnteredBlock (next_name events order.first) caller order ∷ [])
      ++ legs_with graph (with_block events caller order) (entering_block events caller order) (partner_found graph events caller order))
      (hold-append (IsMade parts graph events) events (event.EnteredBlock (next_name events order.first) caller order ∷ [])
      (legs_with graph (with_block events caller order) (entering_block events caller order) (partner_found graph events caller order)) (tt, tt)
      (legs_with-made parts graph events (with_block events caller order) (entering_block events caller order) (partner_found graph events caller order)))
  done-made events caller (command.EnterBasket orders) fit =
      subst (λ b. HoldAfter (IsMade parts graph events) b (enter_all parts graph caller orders b)) (append-nil events)
      (enter_all-made parts graph events setup caller orders [] (subst (λ b. FitAfter setup [] (b ++ enter_all parts graph caller orders b)) (sym (append-nil events)) fit))
  done-made events caller (command.Cancel name) fit = (tt, tt)
  done-made events caller (command.Reduce name to) fit = (tt, tt)
  done-made events caller (command.Blocks first last) fit =
      done_swept-made parts graph events (hours_from first last) events (flat_map (λ deal. deal) (block_deals graph first last events)) (deals_of-made parts graph events first last events)
  done-made events caller (command.Offer from to first last lots) fit = at_arc-made parts graph events events (arc_between graph from to) _
      (λ arc. done_swept-made parts graph events (hours_from first.hour last.hour) events (event.Offered arc first last lots ∷ []) (tt, tt))
  done-made events caller (command.Request from to first last lots) fit = at_arc-made parts graph events events (arc_between graph from to) _
      (λ arc. done_swept-made parts graph events (hours_from first.hour last.hour) events (event.Granted arc first last lots ∷ []) (tt, tt))
  done-made events caller (command.Halt from to first last) fit = at_arc-made parts graph events events (arc_between graph from to) _
      (λ arc. done_swept-made parts graph events (hours_from first last) events (event.Halted arc.border first last ∷ []) (tt, tt))
  done-made events caller (command.Resume from to first last) fit = at_arc-made parts graph events events (arc_between graph from to) _
      (λ arc. done_swept-made parts graph events (hours_from first last) events (event.Resumed arc.border first last ∷ []) (tt, tt))
  done-made events caller (command.Gate gated asked) fit =
      done_swept-made parts graph events (gated ∷ []) events (event.Gated gated asked ∷ withdrawals events gated asked)
      (tt, withdrawals-made parts graph events (and_then events (event.Gated gated asked)) events gated asked)
  done-made events caller (command.View contract side zone) fit = tt

  answer-made : (events : List Event) (caller : ℕ) (given : Command) → FitAfter setup [] (events ++ events_of (reply_let_in parts setup events caller given))
      → HoldAfter (IsMade parts graph events) events (events_of (reply_let_in parts setup events caller given))
  answer-made events caller (command.View contract side zone) fit = tt
  answer-made events caller given fit = done-made events caller given fit

  pub reply-made : (events : List Event) (caller : ℕ) (given : Command) → FitAfter setup [] (events ++ events_of (reply_by parts setup events caller given))
      → HoldAfter (IsMade parts graph events) events (events_of (reply_by parts setup events caller given))
  unfolding reply_by
  reply-made events caller given fit = go (refusal_of_command setup events caller given) fit
    where
      go : (o : Option Refusal) → FitAfter setup [] (events ++ events_of (refused_or o (λ _. reply_let_in parts setup events caller given)))
          → HoldAfter (IsMade parts graph events) events (events_of (refused_or o (λ _. reply_let_in parts setup events caller given)))
      go (Some broken) f = tt
      go None f = answer-made events caller given f
