-- How many orders and blocks enter by the events of a reply.
use Rattle.std.proofs.Common.{◌≡◌, ◌∙◌, inl, inr, ℕ, ◌+◌, ◌-◌, ◌≤◌, ◌&&◌, cond, List, [], ◌∷◌, ◌++◌, length, map, Option, Some, None, refl, ap, arith, nat_le}
use Rattle.std.proofs.lemmas.Bool.{leb-true, and_parts}
use Rattle.std.proofs.lemmas.List.Sums.{sum_by-append, sum_by-cons}
use Rattle.std.specs.List.{list_all}
use Rattle.order_kinds.specs.declared.contract.Part.{Part}
use Rattle.order_kinds.specs.declared.order.BlockOrder.{BlockOrder}
use Rattle.order_kinds.specs.declared.order.Order.{Order}
use Rattle.order_kinds.specs.declared.order.OrderName.{OrderName}
use Rattle.order_kinds.specs.Period.{hours_from, is_within}
use Rattle.zone_graph.specs.Graph.{Graph}
use Rattle.zone_graph.specs.Grid.{arc_between}
use Rattle.market_model.specs.declared.command.Command.{Command}
use Rattle.market_model.specs.declared.command.Command.TheVariants as command
use Rattle.market_model.specs.declared.event.Event.{Event}
use Rattle.market_model.specs.declared.event.Event.TheVariants as event
use Rattle.market_model.specs.declared.refusal.Refusal.{Refusal}
use Rattle.market_model.specs.declared.setup.Setup.{Setup}
use Rattle.market_model.specs.Blocks.{enter_block, entering_block, legs_with, match_blocks, partner_found, with_block}
use Rattle.market_model.specs.Entering.{enter, enter_all, legs_taken, name_of_next, rest_of, rest_withdrawn, with_order}
use Rattle.market_model.specs.Grid.{graph_of}
use Rattle.market_model.specs.History.{entered_count, enters, events_of}
use Rattle.market_model.specs.Market.{reply_let_in, events_done, gate, refused_or, reply_by}
use Rattle.market_model.specs.Orders.{left, next_name}
use Rattle.market_model.specs.Refusals.{refusal_of_command}
use Rattle.market_model.specs.Rules.{ascends}
use Rattle.market_model.specs.Sweep.{all_parts, sweep, sweeps}
use Rattle.laws_of_market.proofs.Admitted.{IsAdmitted, refusal-none}
use Rattle.laws_of_market.proofs.Closing.{AreQuiet, at_arc-quiet, gate-quiet, legs_with-quiet, match_blocks-quiet, quiet-one, rest-quiet, sweep-quiet, sweeps-quiet, take-quiet, then-quiet}
use Rattle.laws_of_market.specs.ReplyBounds.{RepliesEnterFew}
use Rattle.order_kinds.specs.Order.{is_fill_or_kill}

-- one for an event by which something enters
abbrev entering : Event → ℕ
entering e = cond (enters e) 1 0

-- as many enter by some events and then others as by both together
entered-append : (xs ys : List Event) → entered_count (xs ++ ys) ≡ entered_count xs + entered_count ys
entered-append xs ys = sum_by-append entering xs ys

-- none by events by which nothing enters
quiet-none : (events : List Event) → AreQuiet events → entered_count events ≡ 0
quiet-none [] quiet = refl
quiet-none (e ∷ events) quiet =
    let more = quiet-none events (λ f i. quiet f (inr i)) in
    let none : entering e ≡ 0 = ap (λ t. cond {A = ℕ} t 1 0) (quiet e (inl refl)) in
    let both = sum_by-cons entering e events in
    omega (arith, both, none, more)

-- so they add nothing
entered-quiet : (events more : List Event) → AreQuiet more → entered_count (events ++ more) ≡ entered_count events
entered-quiet events more quiet = let all = entered-append events more in let none = quiet-none more quiet in omega (arith, all, none)

module _ (parts : List Part) (graph : Graph) (caller : ℕ) where
  -- ---- orders and blocks

  module _ (order : Order) (events : List Event) where
    abbrev name : OrderName
    name = name_of_next events order

    abbrev entry : List Event
    entry = event.Entered name caller order ∷ []

    abbrev legs : List Event
    legs = legs_taken graph events caller order

    abbrev rest : List Event
    rest = rest_withdrawn order.kind name (rest_of graph events caller order)

    abbrev done : List Event
    done = (entry ++ legs) ++ rest

    -- one enters by an order
    pub enter-one : entered_count (enter parts graph caller order events) ≡ 1
    unfolding enter
    enter-one =
        entered-quiet done (sweep parts graph order.contract.hour (events ++ done)) (sweep-quiet parts graph order.contract.hour (events ++ done))
        ∙ entered-quiet (entry ++ legs) rest (rest-quiet order.kind name (rest_of graph events caller order))
        ∙ entered-quiet entry legs (take-quiet graph (with_order events caller order) name)

  module _ (order : BlockOrder) (events : List Event) where
    abbrev block_entry : List Event
    block_entry = event.EnteredBlock (next_name events order.first) caller order ∷ []

    abbrev block_legs_made : List Event
    block_legs_made = legs_with graph (with_block events caller order) (entering_block events caller order) (partner_found graph events caller order)

    abbrev block_done : List Event
    block_done = block_entry ++ block_legs_made

    -- and one by a block
    pub enter_block-one : entered_count (enter_block parts graph caller order events) ≡ 1
    unfolding enter_block
    enter_block-one =
        entered-quiet block_done (sweeps parts graph (hours_from order.first order.last) (events ++ block_done))
        (sweeps-quiet parts graph (hours_from order.first order.last) (events ++ block_done))
        ∙ entered-quiet block_entry block_legs_made
        (legs_with-quiet graph (with_block events caller order) (entering_block events caller order) (partner_found graph events caller order))

  -- one by each order of a basket
  pub enter_all-each : (orders : List Order) (events : List Event) → entered_count (enter_all parts graph caller orders events) ≡ length orders
  enter_all-each [] events = refl
  enter_all-each (order ∷ orders) events =
      let own : List Event = enter parts graph caller order events in
      let both = entered-append own (enter_all parts graph caller orders (events ++ own)) in
      let one = enter-one order events in
      let later = enter_all-each orders (events ++ own) in
      omega (arith, both, one, later)

-- ---- replies

module _ (setup : Setup) (events : List Event) (caller : ℕ) where
  abbrev market : Graph
  market = graph_of setup

  few-quiet : (more : List Event) → AreQuiet more → entered_count more ≤ 8
  few-quiet more quiet = let none = quiet-none more quiet in omega (arith, none)

  -- a command that no rule refuses enters at most eight
  pub done-few : (given : Command) → IsAdmitted setup events caller given → entered_count (events_done all_parts setup events caller given) ≤ 8
  unfolding events_done
  done-few (command.Enter order) may = let one = enter-one all_parts market caller order events in omega (arith, one)
  done-few (command.EnterBlock order) may = let one = enter_block-one all_parts market caller order events in omega (arith, one)
  done-few (command.EnterBasket orders) may =
      let each = enter_all-each all_parts market caller orders events in
      let hours : List ℕ = map (λ (o : Order). o.contract.hour) orders in
      let front = and_parts (is_within 2 8 (length orders) && ascends hours) (list_all (λ (o : Order). is_fill_or_kill o.kind) orders) may.names.basket in
      let sized = (and_parts (is_within 2 8 (length orders)) (ascends hours) front.0).0 in
      let few = leb-true (length orders) 8 (and_parts (nat_le 2 (length orders)) (nat_le (length orders) 8) sized).1 in
      omega (arith, each, few)
  done-few (command.Cancel name) may = few-quiet (event.Withdrawn name (left events name) ∷ []) (quiet-one (event.Withdrawn name (left events name)) refl)
  done-few (command.Reduce name to) may = few-quiet (event.Reduced name (left events name - to) ∷ []) (quiet-one (event.Reduced name (left events name - to)) refl)
  done-few (command.Blocks first last) may = few-quiet (match_blocks all_parts market first last events) (match_blocks-quiet all_parts market first last events)
  done-few (command.Offer from to first last lots) may = few-quiet _ (at_arc-quiet (arc_between market from to) _ (λ arc.
      then-quiet all_parts market (hours_from first.hour last.hour) events (event.Offered arc first last lots) refl))
  done-few (command.Request from to first last lots) may = few-quiet _ (at_arc-quiet (arc_between market from to) _ (λ arc.
      then-quiet all_parts market (hours_from first.hour last.hour) events (event.Granted arc first last lots) refl))
  done-few (command.Halt from to first last) may = few-quiet _ (at_arc-quiet (arc_between market from to) _ (λ arc.
      then-quiet all_parts market (hours_from first last) events (event.Halted arc.border first last) refl))
  done-few (command.Resume from to first last) may = few-quiet _ (at_arc-quiet (arc_between market from to) _ (λ arc.
      then-quiet all_parts market (hours_from first last) events (event.Resumed arc.border first last) refl))
  done-few (command.Gate hour asked) may = few-quiet (gate all_parts market hour asked events) (gate-quiet all_parts market hour asked events)
  done-few (command.View contract side zone) may = omega arith

  -- so does its answer
  answer-few : (given : Command) → IsAdmitted setup events caller given → entered_count (events_of (reply_let_in all_parts setup events caller given)) ≤ 8
  answer-few (command.View contract side zone) may = omega arith
  answer-few given may = done-few given may

-- a reply enters at most eight orders and blocks
pub reply-enters-few : RepliesEnterFew
unfolding reply_by
reply-enters-few setup events caller given = go (refusal_of_command setup events caller given) refl
  where
    go : (o : Option Refusal) → refusal_of_command setup events caller given ≡ o
        → entered_count (events_of (refused_or o (λ _. reply_let_in all_parts setup events caller given))) ≤ 8
    go (Some broken) is = omega arith
    go None is = answer-few setup events caller given (refusal-none setup events caller given is)
