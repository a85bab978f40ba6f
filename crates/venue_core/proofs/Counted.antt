-- By each entry of a legal journal at most one order or block enters that is named by an hour: the orders of a basket
-- are of different hours.
use Rattle.std.proofs.Common.{◌≡◌, ◌∙◌, inl, inr, ℕ, ◌+◌, ◌-◌, ◌≤◌, ◌<◌, ◌&&◌, Bool, true, false, cond, count_by, filter, List, [], ◌∷◌, ◌++◌, length, map, nat_eq, Option, Some, None, refl, sym, ap, arith, eqb-true}
use Rattle.std.proofs.lemmas.Bool.{and_parts}
use Rattle.std.proofs.lemmas.List.{length-map}
use Rattle.std.proofs.lemmas.List.Sums.{sum_by-append, sum_by-cons}
use Rattle.std.specs.List.{list_all}
use Rattle.zone_graph.specs.Graph.{Graph}
use Rattle.zone_graph.specs.Grid.{arc_between}
use Rattle.zone_graph.specs.Route.{IsIn}
use Rattle.zone_graph.proofs.Membership.{IsIn-map}
use Rattle.order_kinds.specs.declared.contract.Part.{Part}
use Rattle.order_kinds.specs.declared.order.Order.{Order}
use Rattle.order_kinds.specs.declared.order.OrderName.{OrderName}
use Rattle.order_kinds.specs.Order.{is_fill_or_kill}
use Rattle.order_kinds.specs.Period.{hours_from, is_within}
use Rattle.market_model.specs.declared.command.Command.{Command}
use Rattle.market_model.specs.declared.command.Command.TheVariants as command
use Rattle.market_model.specs.declared.entry.Entry.{Entry}
use Rattle.market_model.specs.declared.event.Event.{Event}
use Rattle.market_model.specs.declared.event.Event.TheVariants as event
use Rattle.market_model.specs.declared.refusal.Refusal.{Refusal}
use Rattle.market_model.specs.declared.setup.Setup.{Setup}
use Rattle.market_model.specs.Blocks.{enter_block, match_blocks}
use Rattle.market_model.specs.Concerned.{left_for}
use Rattle.market_model.specs.Entering.{enter, enter_all, legs_taken, name_of_next, rest_of, rest_withdrawn, with_order}
use Rattle.market_model.specs.Grid.{graph_of}
use Rattle.market_model.specs.History.{entered_count, enters, enters_in, events_of, journal_events, touches}
use Rattle.market_model.specs.Market.{IsLegal, Turn, reply_let_in, entry_of, events_done, gate, refused_or, reply_by, run_after, run_of, turn_of}
use Rattle.market_model.specs.Orders.{left}
use Rattle.market_model.specs.Refusals.{refusal_of_command}
use Rattle.market_model.specs.Rules.{ascends}
use Rattle.market_model.specs.Sweep.{all_parts, sweep}
use Rattle.laws_of_market.proofs.Admitted.{IsAdmitted, refusal-none}
use Rattle.laws_of_market.proofs.HoursAlone.{ascends-later, ascends-rest}
use Rattle.laws_of_market.proofs.Closing.{AreQuiet, at_arc-quiet, gate-quiet, match_blocks-quiet, quiet-one, rest-quiet, sweep-quiet, take-quiet, then-quiet}
use Rattle.laws_of_market.proofs.Names.{entered_in-few}
use Rattle.laws_of_market.proofs.ReplyEntries.{enter_block-one, enter-one}

-- what enters by the events of an hour is what enters by all events and is named by the hour
module _ (hour : ℕ) where
  abbrev named_here : Event → ℕ
  named_here e = cond (enters_in hour e) 1 0

  abbrev count : List Event → ℕ
  count events = count_by (enters_in hour) events

  one-here : (e : Event) → cond (touches hour e) (cond (enters e) 1 0) 0 ≡ named_here e
  one-here (event.Entered name caller order) = refl
  one-here (event.EnteredBlock name caller order) = refl
  one-here e = none (touches hour e)
    where
      none : (b : Bool) → cond {A = ℕ} b 0 0 ≡ 0
      none true = refl
      none false = refl

  entered-here : (events : List Event) → entered_count (filter (touches hour) events) ≡ count events
  entered-here [] = refl
  entered-here (e ∷ events) = by (touches hour e) refl (entered-here events)
    where
      by : (b : Bool) → touches hour e ≡ b → entered_count (filter (touches hour) events) ≡ count events
          → entered_count (cond b (e ∷ filter (touches hour) events) (filter (touches hour) events)) ≡ count (e ∷ events)
      by true is rest =
          let own = ap (λ b. cond b (cond (enters e) 1 0) 0) (sym is) ∙ one-here e in
          let left = sum_by-cons (λ (f : Event). cond (enters f) 1 0) e (filter (touches hour) events) in
          let right = sum_by-cons named_here e events in
          omega (arith, own, left, right, rest)
      by false is rest =
          let own = ap (λ b. cond b (cond (enters e) 1 0) 0) (sym is) ∙ one-here e in
          let right = sum_by-cons named_here e events in
          omega (arith, own, right, rest)

  count-append : (xs ys : List Event) → count (xs ++ ys) ≡ count xs + count ys
  count-append xs ys = sum_by-append named_here xs ys

  -- none by events by which nothing enters
  one-quiet : (e : Event) → enters e ≡ false → named_here e ≡ 0
  one-quiet (event.Entered name caller order) quiet = absurd (cc)
  one-quiet (event.EnteredBlock name caller order) quiet = absurd (cc)
  one-quiet e quiet = refl

  none-quiet : (events : List Event) → AreQuiet events → count events ≡ 0
  none-quiet [] quiet = refl
  none-quiet (e ∷ events) quiet =
      let more = none-quiet events (λ f i. quiet f (inr i)) in
      let none = one-quiet e (quiet e (inl refl)) in
      let both = sum_by-cons named_here e events in
      omega (arith, both, none, more)

  count-quiet : (events more : List Event) → AreQuiet more → count (events ++ more) ≡ count events
  count-quiet events more quiet = let all = count-append events more in let none = none-quiet more quiet in omega (arith, all, none)

  count-one : (e : Event) → count (e ∷ []) ≡ named_here e
  count-one e = let one = sum_by-cons named_here e [] in omega (arith, one)

  module _ (parts : List Part) (graph : Graph) (caller : ℕ) where
    -- one by an order of the hour, and none by another
    enter-here : (order : Order) (events : List Event) → count (enter parts graph caller order events) ≡ cond (nat_eq order.contract.hour hour) 1 0
    unfolding enter
    enter-here order events =
        let name : OrderName = name_of_next events order in
        let entry : List Event = event.Entered name caller order ∷ [] in
        let legs : List Event = legs_taken graph events caller order in
        let rest : List Event = rest_withdrawn order.kind name (rest_of graph events caller order) in
        let done : List Event = (entry ++ legs) ++ rest in
        count-quiet done (sweep parts graph order.contract.hour (events ++ done)) (sweep-quiet parts graph order.contract.hour (events ++ done))
        ∙ count-quiet (entry ++ legs) rest (rest-quiet order.kind name (rest_of graph events caller order))
        ∙ count-quiet entry legs (take-quiet graph (with_order events caller order) name)
        ∙ count-one (event.Entered name caller order)

    -- none by orders of later hours
    enter_all-later : (orders : List Order) (events : List Event) → ((order : Order) → IsIn order orders → hour < order.contract.hour)
        → count (enter_all parts graph caller orders events) ≡ 0
    enter_all-later [] events later = refl
    enter_all-later (order ∷ orders) events later =
        let own : List Event = enter parts graph caller order events in
        let both = count-append own (enter_all parts graph caller orders (events ++ own)) in
        let here = enter-here order events in
        let rest = enter_all-later orders (events ++ own) (λ o i. later o (inr i)) in
        let apart : nat_eq order.contract.hour hour ≡ false = other (let less = later order (inl refl) in λ same. omega (arith, less, same)) in
        let none : cond {A = ℕ} (nat_eq order.contract.hour hour) 1 0 ≡ 0 = ap (λ b. cond {A = ℕ} b 1 0) apart in
        omega (arith, both, here, none, rest)
      where
        other : ¬ (order.contract.hour ≡ hour) → nat_eq order.contract.hour hour ≡ false
        other apart = go (nat_eq order.contract.hour hour) refl
          where
            go : (b : Bool) → nat_eq order.contract.hour hour ≡ b → b ≡ false
            go true is = absurd (apart (eqb-true order.contract.hour hour is))
            go false is = refl

    -- so at most one by orders of ascending hours
    enter_all-one : (orders : List Order) (events : List Event) → ascends (map (λ (o : Order). o.contract.hour) orders) ≡ true
        → count (enter_all parts graph caller orders events) ≤ 1
    enter_all-one [] events up = omega arith
    enter_all-one (order ∷ orders) events up = by (nat_eq order.contract.hour hour) refl (enter_all-one orders (events ++ own) (ascends-rest order.contract.hour later_hours up))
      where
        own : List Event
        own = enter parts graph caller order events

        later_hours : List ℕ
        later_hours = map (λ (o : Order). o.contract.hour) orders

        more : List Event
        more = enter_all parts graph caller orders (events ++ own)

        by : (b : Bool) → nat_eq order.contract.hour hour ≡ b → count more ≤ 1 → count (own ++ more) ≤ 1
        by true is rest =
            let both = count-append own more in
            let here = enter-here order events in
            let one : cond {A = ℕ} (nat_eq order.contract.hour hour) 1 0 ≡ 1 = ap (λ b. cond {A = ℕ} b 1 0) is in
            let same : order.contract.hour ≡ hour = eqb-true order.contract.hour hour is in
            let none : count more ≡ 0 = enter_all-later orders (events ++ own) (λ o i.
            (let up_to = ascends-later order.contract.hour later_hours up o.contract.hour (IsIn-map (λ (p : Order). p.contract.hour) o orders i) in omega (arith, up_to, same))) in
            omega (arith, both, here, one, none)
        by false is rest =
            let both = count-append own more in
            let here = enter-here order events in
            let none : cond {A = ℕ} (nat_eq order.contract.hour hour) 1 0 ≡ 0 = ap (λ b. cond {A = ℕ} b 1 0) is in
            omega (arith, both, here, none, rest)

  -- ---- replies

  module _ (setup : Setup) (events : List Event) (caller : ℕ) where
    abbrev market : Graph
    market = graph_of setup

    few-quiet : (more : List Event) → AreQuiet more → count more ≤ 1
    few-quiet more quiet = let none = none-quiet more quiet in omega (arith, none)

    -- a command that no rule refuses enters at most one
    done-one : (given : Command) → IsAdmitted setup events caller given → count (events_done all_parts setup events caller given) ≤ 1
    unfolding events_done
    done-one (command.Enter order) may =
        let one = enter-one all_parts market caller order events in
        let few = entered_in-few (enter all_parts market caller order events) hour in
        omega (arith, one, few)
    done-one (command.EnterBlock order) may =
        let one = enter_block-one all_parts market caller order events in
        let few = entered_in-few (enter_block all_parts market caller order events) hour in
        omega (arith, one, few)
    done-one (command.EnterBasket orders) may =
        let hours : List ℕ = map (λ (o : Order). o.contract.hour) orders in
        let front = and_parts (is_within 2 8 (length orders) && ascends hours) (list_all (λ (o : Order). is_fill_or_kill o.kind) orders) may.names.basket in
        enter_all-one all_parts market caller orders events (and_parts (is_within 2 8 (length orders)) (ascends hours) front.0).1
    done-one (command.Cancel name) may = few-quiet (event.Withdrawn name (left events name) ∷ []) (quiet-one (event.Withdrawn name (left events name)) refl)
    done-one (command.Reduce name to) may = few-quiet (event.Reduced name (left events name - to) ∷ []) (quiet-one (event.Reduced name (left events name - to)) refl)
    done-one (command.Blocks first last) may = few-quiet (match_blocks all_parts market first last events) (match_blocks-quiet all_parts market first last events)
    done-one (command.Offer from to first last lots) may = few-quiet _ (at_arc-quiet (arc_between market from to) _ (λ arc.
        then-quiet all_parts market (hours_from first.hour last.hour) events (event.Offered arc first last lots) refl))
    done-one (command.Request from to first last lots) may = few-quiet _ (at_arc-quiet (arc_between market from to) _ (λ arc.
        then-quiet all_parts market (hours_from first.hour last.hour) events (event.Granted arc first last lots) refl))
    done-one (command.Halt from to first last) may = few-quiet _ (at_arc-quiet (arc_between market from to) _ (λ arc.
        then-quiet all_parts market (hours_from first last) events (event.Halted arc.border first last) refl))
    done-one (command.Resume from to first last) may = few-quiet _ (at_arc-quiet (arc_between market from to) _ (λ arc.
        then-quiet all_parts market (hours_from first last) events (event.Resumed arc.border first last) refl))
    done-one (command.Gate gated asked) may = few-quiet (gate all_parts market gated asked events) (gate-quiet all_parts market gated asked events)
    done-one (command.View contract side zone) may = omega arith

    answer-one : (given : Command) → IsAdmitted setup events caller given → count (events_of (reply_let_in all_parts setup events caller given)) ≤ 1
    answer-one (command.View contract side zone) may = omega arith
    answer-one given may = done-one given may

    -- so does every reply
    reply-one : (given : Command) → count (events_of (reply_by all_parts setup events caller given)) ≤ 1
    unfolding reply_by
    reply-one given = go (refusal_of_command setup events caller given) refl
      where
        go : (o : Option Refusal) → refusal_of_command setup events caller given ≡ o → count (events_of (refused_or o (λ _. reply_let_in all_parts setup events caller given))) ≤ 1
        go (Some broken) is = omega arith
        go None is = answer-one given (refusal-none setup events caller given is)

  -- ---- journals

  run-each : (setup : Setup) (before : List Entry) (turns : List Turn) → count (journal_events (run_after all_parts setup before turns)) ≤ length turns
  unfolding run_after
  run-each setup before [] = omega arith
  run-each setup before (turn ∷ turns) =
      let entry : Entry = entry_of all_parts setup before turn in
      let rest : List Entry = run_after all_parts setup (before ++ entry ∷ []) turns in
      let both = count-append (events_of entry.reply) (journal_events rest) in
      let own = reply-one setup (journal_events before) turn.caller turn.command in
      let more = run-each setup (before ++ entry ∷ []) turns in
      omega (arith, both, own, more)

  -- what a legal journal leaves for the hour has no more entries of orders and blocks than the journal has entries
  pub left-few : (setup : Setup) (entries : List Entry) → IsLegal setup entries → entered_count (left_for hour entries) ≤ length entries
  left-few setup entries legal =
      let here = entered-here (journal_events entries) in
      let each = run-each setup [] (map turn_of entries) in
      let same : count (journal_events entries) ≡ count (journal_events (run_of setup (map turn_of entries))) = ap (λ es. count (journal_events es)) legal in
      let long : length (map turn_of entries) ≡ length entries = length-map entries turn_of in
      omega (arith, here, each, same, long)
