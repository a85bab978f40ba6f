-- A basket on the desks of its hours: what is planned order by order is the reply to the whole.
use Rattle.std.proofs.Common.{◌≡◌, ◌∙◌, ℕ, zero, suc, ◌+◌, ◌<◌, ◌≤◌, Bool, true, false, find, List, [], ◌∷◌, ◌++◌, drop, flat_map, length, map, take, Option, None, Some, refl, sym, ap, subst, arith, set, slice_get, slice_index_or, add-one}
use Rattle.std.proofs.lemmas.List.{length-map}
use Rattle.std.proofs.lemmas.Option.{slice_get-get_or}
use Rattle.std.specs.Option.{option_map}
use Rattle.order_kinds.specs.declared.order.Order.{Order}
use Rattle.zone_graph.specs.Graph.{Graph}
use Rattle.zone_graph.specs.Route.{IsIn}
use Rattle.zone_graph.proofs.Finding.{find-none, map-none}
use Rattle.market_model.specs.declared.command.Command.{Command}
use Rattle.market_model.specs.declared.command.Command.TheVariants as command
use Rattle.market_model.specs.declared.event.Event.{Event}
use Rattle.market_model.specs.declared.refusal.Refusal.{Refusal}
use Rattle.market_model.specs.declared.refusal.Refusal.TheVariants as refusal
use Rattle.market_model.specs.declared.reply.Reply.{Reply}
use Rattle.market_model.specs.declared.reply.Reply.TheVariants as reply
use Rattle.market_model.specs.declared.reply.ViewRow.{ViewRow}
use Rattle.market_model.specs.declared.setup.Setup.{Setup}
use Rattle.market_model.specs.Entering.{enter, enter_all}
use Rattle.market_model.specs.Grid.{graph_of}
use Rattle.market_model.specs.History.{events_of, of_hour}
use Rattle.market_model.specs.Market.{refused_or, reply_to}
use Rattle.market_model.specs.Refusals.{basket_order_refusal, basket_refusal, refusal_of_command}
use Rattle.market_model.specs.Rules.{first_broken}
use Rattle.market_model.specs.Sweep.{all_parts, first_answer, or_else}
use Rattle.market_model.specs.StateRules.{filling_rules, state_refusal}
use Rattle.joint_plan.specs.Baskets as baskets
use Rattle.joint_plan.specs.ByHour.{hour_events}
use Rattle.joint_plan.proofs.BasketHours.{done_by_hour, have_hours, refused_by_hour}
use Rattle.joint_plan.proofs.RefusedByHours.{closed_alone}
use Rattle.joint_plan.specs.Desk.{DeskState, planning, with_nothing_planned}
use Rattle.joint_plan.specs.Refusing.{closed_refusal, is_closed}
use Rattle.joint_plan.specs.Rows as rows
use Rattle.joint_plan.proofs.Asked.{asked-hours, ready-history, ready-is, ready-over}
use Rattle.joint_plan.proofs.Dropped.{dropped-changed, dropped-set, planning-dropped}
use Rattle.joint_plan.proofs.Histories.{refused, split}
use Rattle.joint_plan.proofs.Lists.{IsIn-get, answer-from, changed, changed-all, changed-get, changed-next, drop-end, flat_map-take, get-within, length-changed, take-end}
use Rattle.joint_plan.proofs.States.{closed-at}
use Rattle.basket_match.specs.Orders.{CanEnter, reply_on}
use Rattle.basket_match.proofs.Early.{basket-up, order-early, order-kills}

-- ---- lists and replies

-- what two lists with the same numbers have at one place has the same number
same-at : {X Y : Type 0} (f : X → ℕ) (g : Y → ℕ) (xs : List X) (ys : List Y) (i : ℕ) (x : X) (y : Y) → map f xs ≡ map g ys → slice_get xs i ≡ Some x → slice_get ys i ≡ Some y → f x ≡ g y
same-at f g [] ys i x y same at here = absurd (cc)
same-at f g (a ∷ xs) [] i x y same at here = absurd (cc)
same-at f g (a ∷ xs) (b ∷ ys) zero x y same at here =
    let first : a ≡ x = cc in
    let second : b ≡ y = cc in
    let numbers : f a ≡ g b = cc in ap f (sym first) ∙ numbers ∙ ap g second
same-at f g (a ∷ xs) (b ∷ ys) (suc i) x y same at here = let rest : map f xs ≡ map g ys = cc in same-at f g xs ys i x y rest at here

-- what the items before the next place bring
one-more : {X Y : Type 0} (g : X → List Y) (xs : List X) (i : ℕ) (x : X) → slice_get xs i ≡ Some x → flat_map g (take (i + 1) xs) ≡ flat_map g (take i xs) ++ g x
one-more g xs i x at = rw add-one (flat_map-take g xs i x at)

or-none : (o : Option Refusal) → or_else o (λ _. None) ≡ o
or-none None = refl
or-none (Some broken) = refl

-- a reply that is events refuses nothing, and one that is a refusal is refused so
done-is : (o : Option Refusal) (own events : List Event) → refused_or o (λ _. reply.Done own) ≡ reply.Done events → (o ≡ None) × (own ≡ events)
done-is None own events is = (refl, ap events_of is)
done-is (Some broken) own events is = absurd (cc)

refused-is : (o : Option Refusal) (own : List Event) (broken : Refusal) → refused_or o (λ _. reply.Done own) ≡ reply.Refused broken → o ≡ Some broken
refused-is None own broken is = absurd (cc)
refused-is (Some other) own broken is = cc

-- and no reply to an order is rows
unseen : (o : Option Refusal) (own : List Event) (seen : List ViewRow) → refused_or o (λ _. reply.Done own) ≡ reply.Seen seen → ⊥
unseen None own seen is = cc
unseen (Some broken) own seen is = cc

-- desks that plan something else plan the same of some events
pub planning-same : (desks others : List DeskState) (events : List Event) → rows.dropped desks ≡ rows.dropped others → rows.planning_all desks events ≡ rows.planning_all others events
planning-same desks others events same =
    sym (planning-dropped desks events) ∙ ap (λ ds. rows.planning_all ds events) same ∙ planning-dropped others events

-- ---- the whole

-- what refuses the basket for an order, and what the desk of an hour plans of the whole
abbrev pub asks : Setup → (caller : ℕ) → List Event → Order → Option Refusal
asks setup caller history order = basket_order_refusal (graph_of setup) (of_hour order.contract.hour history) caller order

abbrev pub part_of : Setup → (caller : ℕ) → List Order → List Event → DeskState → DeskState
part_of setup caller orders history desk = planning desk (of_hour desk.hour (enter_all all_parts (graph_of setup) caller orders history))

module _ (setup : Setup) (graph : Graph) (caller : ℕ) (orders : List Order) (desks : List DeskState) (asked : rows.AreAsked setup graph caller (command.EnterBasket orders) desks) where
  hours : rows.hours_of desks ≡ baskets.hours_of orders
  hours = asked-hours setup graph caller (command.EnterBasket orders) desks asked

  pub basket-size : length desks ≡ length orders
  basket-size =
      sym (length-map desks (λ (desk : DeskState). desk.hour)) ∙ ap (λ (l : List ℕ). length l) hours
      ∙ length-map orders (λ (order : Order). order.contract.hour)

  module _ (i : ℕ) (order : Order) (desk : DeskState) (of : slice_get orders i ≡ Some order) (at : slice_get desks i ≡ Some desk) where
    inside : IsIn desk desks
    inside = IsIn-get desks i desk at

    own : IsIn order orders
    own = IsIn-get orders i order of

    -- the desk is of the hour of the order at its place
    here : order.contract.hour ≡ desk.hour
    here = same-at (λ (o : Order). o.contract.hour) (λ (d : DeskState). d.hour) orders desks i order desk (sym hours) of at

    over : desk.grid ≡ graph_of setup
    over = ready-over setup graph desks asked.ready desk inside

    -- and can plan it
    pub basket-can : None ≡ closed_refusal desks → CanEnter setup graph caller order desk
    basket-can free = record {
      over = sym (asked.ready.over desk inside);
      over_setup = sym over;
      here = here;
      early = order-early setup caller orders asked.early order own;
      kills = order-kills setup caller orders asked.early order own;
      unclosed = find-none is_closed desks (map-none (λ (d : DeskState). refusal.Closed d.hour) (find is_closed desks) (sym free)) desk inside;
      numbers = asked.ready.numbers desk inside;
    }

    module _ (history : List Event) (is : rows.IsHistoryOf setup desks history) where
      settled : of_hour order.contract.hour history ≡ desk.settled
      settled = ap (λ hour. of_hour hour history) here ∙ is.left desk inside

      -- what it says there is what it says of the history
      says : reply_on caller order desk ≡ refused_or (asks setup caller history order) (λ _. reply.Done (baskets.entered_alone all_parts (graph_of setup) history caller order))
      says =
          ap (λ (g : Graph). refused_or (basket_order_refusal g desk.settled caller order) (λ _. reply.Done (enter all_parts g caller order desk.settled))) over
          ∙ ap (λ (es : List Event). refused_or (basket_order_refusal (graph_of setup) es caller order) (λ _. reply.Done (enter all_parts (graph_of setup) caller order es))) (sym settled)

      -- and what it does there the desk's part of the whole
      does : planning desk (baskets.entered_alone all_parts (graph_of setup) history caller order) ≡ part_of setup caller orders history desk
      does =
          ap (planning desk)
          (sym (have_hours setup all_parts (graph_of setup) history caller orders order is.is_history.fit (basket-up setup caller orders asked.early) own)
          ∙ ap (λ hour. of_hour hour (enter_all all_parts (graph_of setup) caller orders history)) here)

  module _ (history : List Event) (is : rows.IsHistoryOf setup desks history) where
    state : state_refusal (graph_of setup) history caller (command.EnterBasket orders) ≡ closed_refusal desks
    unfolding state_refusal
    state =
        ap (λ (o : Option ℕ). or_else (option_map (λ hour. refusal.Closed hour) o) (λ _. None)) (closed_alone setup history (command.EnterBasket orders) is.is_history.fit)
        ∙ ap (λ (o : Option Refusal). or_else o (λ _. None)) (closed-at (hour_events history) desks is.left (baskets.hours_of orders) hours)
        ∙ or-none (closed_refusal desks)

    filling : first_broken (filling_rules (graph_of setup) history caller (command.EnterBasket orders)) ≡ first_answer (asks setup caller history) orders
    filling =
        or-none (basket_refusal (graph_of setup) history caller (command.EnterBasket orders))
        ∙ refused_by_hour setup (graph_of setup) history caller orders is.is_history.fit

    by_state : (o : Option Refusal) → o ≡ closed_refusal desks
        → refusal_of_command setup history caller (command.EnterBasket orders) ≡ or_else o (λ _. first_broken (filling_rules (graph_of setup) history caller (command.EnterBasket orders)))
    by_state o told =
        split setup history caller (command.EnterBasket orders) asked.early
        ∙ ap (λ (p : Option Refusal). or_else p (λ _. first_broken (filling_rules (graph_of setup) history caller (command.EnterBasket orders)))) (state ∙ sym told)

    -- a closed hour refuses it
    pub basket-closed : (broken : Refusal) → Some broken ≡ closed_refusal desks → reply_to setup history caller (command.EnterBasket orders) ≡ reply.Refused broken
    basket-closed broken closed = refused setup history caller (command.EnterBasket orders) broken (by_state (Some broken) closed)

    module _ (free : None ≡ closed_refusal desks) where
      -- else the first order that is not filled
      pub basket-unfilled : (broken : Refusal) → first_answer (asks setup caller history) orders ≡ Some broken
          → reply_to setup history caller (command.EnterBasket orders) ≡ reply.Refused broken
      basket-unfilled broken found = refused setup history caller (command.EnterBasket orders) broken (by_state None free ∙ filling ∙ found)

      unrefused : first_answer (asks setup caller history) orders ≡ None → refusal_of_command setup history caller (command.EnterBasket orders) ≡ None
      unrefused none = by_state None free ∙ filling ∙ none

      -- and else they all enter
      pub basket-done : first_answer (asks setup caller history) orders ≡ None
          → reply_to setup history caller (command.EnterBasket orders) ≡ reply.Done (flat_map (baskets.entered_alone all_parts (graph_of setup) history caller) orders)
      basket-done none = (done_by_hour setup all_parts history caller orders is.is_history.fit (unrefused none)).2

      whole-events : first_answer (asks setup caller history) orders ≡ None
          → enter_all all_parts (graph_of setup) caller orders history ≡ flat_map (baskets.entered_alone all_parts (graph_of setup) history caller) orders
      whole-events none =
          let told = done_by_hour setup all_parts history caller orders is.is_history.fit (unrefused none) in
          ap events_of (sym told.1 ∙ told.2)

  -- ---- one turn

  module _ (i : ℕ) (any : Order) (ys : List DeskState) (low : i < length orders)
      (stand : (history : List Event) → rows.IsHistoryOf setup desks history → ys ≡ changed (part_of setup caller orders history) i desks) where
    abbrev order : Order
    order = slice_index_or orders i any

    of : slice_get orders i ≡ Some order
    of = slice_get-get_or orders i any low

    some : List Event
    some = ready-history setup graph desks asked.ready

    some_is : rows.IsHistoryOf setup desks some
    unfolding some
    some_is = ready-is setup graph desks asked.ready

    within : (n : ℕ) → n ≡ length desks → i < n
    within n size = omega (arith, size, low, basket-size)

    -- its desk, still as it was
    desk-at : (desk : DeskState) × (slice_get desks i ≡ Some desk) × (slice_get ys i ≡ Some desk)
    desk-at =
        let found = get-within desks i (within (length desks) refl) in
        (found.0, found.1, changed-get (part_of setup caller orders some) desks ys i found.0 (stand some some_is) found.1)

    pub turn-within : i < length ys
    turn-within = within (length ys) (length-changed (part_of setup caller orders some) desks ys i (stand some some_is))

    -- it can plan the order
    pub turn-can : None ≡ closed_refusal desks → (desk : DeskState) → slice_get ys i ≡ Some desk → CanEnter setup graph caller order desk
    turn-can free desk there =
        subst (CanEnter setup graph caller order) (one desk-at.0 desk (slice_get ys i) desk-at.2 there) (basket-can i order desk-at.0 of desk-at.1 free)
      where
        one : (a b : DeskState) (o : Option DeskState) → o ≡ Some a → o ≡ Some b → a ≡ b
        one a b o here there = cc

    -- where it plans something else, all else stays
    pub turn-kept : (change : DeskState → DeskState) → ((desk : DeskState) → with_nothing_planned (change desk) ≡ with_nothing_planned desk) → (after : List DeskState)
        → ((desk : DeskState) → slice_get ys i ≡ Some desk → after ≡ set ys i (change desk)) → rows.dropped after ≡ rows.dropped desks
    turn-kept change same after is =
        ap (λ ds. rows.dropped ds) (is desk-at.0 desk-at.2) ∙ dropped-set ys i desk-at.0 (change desk-at.0) desk-at.2 (same desk-at.0)
        ∙ ap (λ ds. rows.dropped ds) (stand some some_is) ∙ dropped-changed (part_of setup caller orders some) (λ d. refl) i desks

    -- it tells of no rows
    pub turn-unseen : (seen : List ViewRow) → ((desk : DeskState) → slice_get ys i ≡ Some desk → reply_on caller order desk ≡ reply.Seen seen) → ⊥
    turn-unseen seen told = unseen (basket_order_refusal desk-at.0.grid desk-at.0.settled caller order) _ seen (told desk-at.0 desk-at.2)

    module _ (history : List Event) (is : rows.IsHistoryOf setup desks history)
        (passed : first_answer (asks setup caller history) (drop i orders) ≡ first_answer (asks setup caller history) orders) where
      -- the order refuses the basket
      pub turn-refused : None ≡ closed_refusal desks → (broken : Refusal) → ((desk : DeskState) → slice_get ys i ≡ Some desk → reply_on caller order desk ≡ reply.Refused broken)
          → reply_to setup history caller (command.EnterBasket orders) ≡ reply.Refused broken
      turn-refused free broken told =
          let here = refused-is _ _ broken (sym (says i order desk-at.0 of desk-at.1 history is) ∙ told desk-at.0 desk-at.2) in
          basket-unfilled history is free broken (sym passed ∙ answer-from (asks setup caller history) orders i order (Some broken) of here)

      module _ (events : List Event) (told : (desk : DeskState) → slice_get ys i ≡ Some desk → reply_on caller order desk ≡ reply.Done events) where
        filled : (asks setup caller history order ≡ None) × (baskets.entered_alone all_parts (graph_of setup) history caller order ≡ events)
        filled = done-is _ _ events (sym (says i order desk-at.0 of desk-at.1 history is) ∙ told desk-at.0 desk-at.2)

        -- the order is filled: it goes on with the next one
        pub turn-passed : first_answer (asks setup caller history) (drop (i + 1) orders) ≡ first_answer (asks setup caller history) orders
        turn-passed = sym (answer-from (asks setup caller history) orders i order None of filled.0) ∙ passed

        -- its desk plans its part
        pub turn-planned : (after : List DeskState) → ((desk : DeskState) → slice_get ys i ≡ Some desk → after ≡ set ys i (planning desk (events_of (reply_on caller order desk))))
            → after ≡ changed (part_of setup caller orders history) (i + 1) desks
        turn-planned after planned =
            let desk = desk-at.0 in
            changed-next (part_of setup caller orders history) desks ys after i desk (stand history is) desk-at.1
            (planned desk desk-at.2
            ∙ ap (λ (es : List Event). set ys i (planning desk es)) (ap events_of (told desk desk-at.2) ∙ sym filled.1)
            ∙ ap (set ys i) (does i order desk of desk-at.1 history is))

        -- and the events are those of one more order
        pub turn-made : (made after : List Event) → made ≡ flat_map (baskets.entered_alone all_parts (graph_of setup) history caller) (take i orders) → after ≡ made ++ events
            → after ≡ flat_map (baskets.entered_alone all_parts (graph_of setup) history caller) (take (i + 1) orders)
        turn-made made after before is_after =
            is_after ∙ ap (λ es. es ++ events) before
            ∙ ap (λ es. flat_map (baskets.entered_alone all_parts (graph_of setup) history caller) (take i orders) ++ es) (sym filled.1)
            ∙ sym (one-more (baskets.entered_alone all_parts (graph_of setup) history caller) orders i order of)

  -- ---- all of them

  module _ (free : None ≡ closed_refusal desks) (i : ℕ) (end : length orders ≤ i) (made : List Event) (ys : List DeskState)
      (made_are : (history : List Event) → rows.IsHistoryOf setup desks history → made ≡ flat_map (baskets.entered_alone all_parts (graph_of setup) history caller) (take i orders))
      (stand : (history : List Event) → rows.IsHistoryOf setup desks history → ys ≡ changed (part_of setup caller orders history) i desks)
      (passed : (history : List Event) → rows.IsHistoryOf setup desks history
      → first_answer (asks setup caller history) (drop i orders) ≡ first_answer (asks setup caller history) orders) where
    none-refused : (history : List Event) → rows.IsHistoryOf setup desks history → first_answer (asks setup caller history) orders ≡ None
    none-refused history is = sym (passed history is) ∙ ap (first_answer (asks setup caller history)) (drop-end orders i end)

    all-made : (history : List Event) → rows.IsHistoryOf setup desks history → made ≡ flat_map (baskets.entered_alone all_parts (graph_of setup) history caller) orders
    all-made history is = made_are history is ∙ ap (flat_map (baskets.entered_alone all_parts (graph_of setup) history caller)) (take-end orders i end)

    -- the events are the reply
    pub all-reply : (history : List Event) → rows.IsHistoryOf setup desks history → reply.Done made ≡ reply_to setup history caller (command.EnterBasket orders)
    all-reply history is = ap reply.Done (all-made history is) ∙ sym (basket-done history is free (none-refused history is))

    -- and each desk plans its part of them
    pub all-planned : ys ≡ rows.planning_all desks made
    all-planned =
        let history = ready-history setup graph desks asked.ready in
        let is = ready-is setup graph desks asked.ready in
        changed-all (part_of setup caller orders history) desks ys i (stand history is) (omega (arith, end, basket-size))
        ∙ ap (λ es. rows.planning_all desks es) (whole-events history is free (none-refused history is) ∙ sym (all-made history is))
