-- The orders of a basket, each in its own hour.
use Rattle.std.proofs.Common.{◌≡◌, ◌∙◌, inl, inr, ℕ, zero, suc, ◌&&◌, true, List, [], ◌∷◌, ◌++◌, flat_map, length, nat_eq, eq-eqb, refl, sym, ap, subst}
use Rattle.std.proofs.lemmas.Bool.{and_parts, true≢false}
use Rattle.std.proofs.lemmas.List.{append-nil}
use Rattle.std.proofs.lemmas.List.Elements.{filter-append}
use Rattle.std.specs.List.{list_all}
use Rattle.order_kinds.specs.declared.contract.Part.{Part}
use Rattle.order_kinds.specs.declared.order.Kind.{Kind}
use Rattle.order_kinds.specs.declared.order.Kind.TheVariants as kind
use Rattle.order_kinds.specs.declared.order.Order.{Order}
use Rattle.order_kinds.specs.declared.order.OrderName.{OrderName}
use Rattle.order_kinds.specs.Order.{is_fill_or_kill}
use Rattle.order_kinds.specs.Period.{is_within}
use Rattle.zone_graph.specs.Graph.{Graph}
use Rattle.zone_graph.specs.Route.{AreDifferent, IsIn}
use Rattle.zone_graph.proofs.Membership.{IsIn-map, has-IsIn}
use Rattle.market_model.specs.declared.command.Command.TheVariants as command
use Rattle.market_model.specs.declared.event.Event.{Event}
use Rattle.market_model.specs.declared.event.Event.TheVariants as event
use Rattle.market_model.specs.declared.refusal.Refusal.TheVariants as refusal
use Rattle.market_model.specs.declared.reply.Reply.TheVariants as reply
use Rattle.market_model.specs.declared.setup.Setup.{Setup}
use Rattle.market_model.specs.Certificate.{bound_of, unfilled_zones}
use Rattle.market_model.specs.Entering.{enter, enter_all, legs_taken, name_of_next, rest_of, rest_withdrawn}
use Rattle.market_model.specs.Grid.{graph_of}
use Rattle.market_model.specs.History.{of_hour, touches}
use Rattle.market_model.specs.Market.{reply_let_in, events_done}
use Rattle.market_model.specs.Refusals.{basket_order_refusal}
use Rattle.market_model.specs.Rules.{ascends, unless}
use Rattle.laws_of_market.proofs.Admitted.{refusal-none}
use Rattle.laws_of_market.proofs.LocalAnswers.{bound_of-agree, unfilled_zones-agree}
use Rattle.laws_of_market.proofs.LocalBlocks.{agree-itself}
use Rattle.laws_of_market.proofs.LocalEntries.{before_sweep-named, enter-agree, enter-named, enter_all-agree, rest_of-agree, with_order-agree}
use Rattle.laws_of_market.proofs.LocalLines.{first_answer-same}
use Rattle.laws_of_market.proofs.NamedByHour.{AreNamedByHour, history-named, named-append}
use Rattle.laws_of_market.proofs.WithinHours.{AreWithinHours, enter-within, enter_all-within}
use Rattle.laws_of_joint_commands.specs.Baskets.{BasketsAreDoneHourByHour, BasketsAreRefusedHourByHour, OrdersEnterHourByHour, OrdersHaveTheirHours, OrdersLeaveOtherHours, hours_of}
use Rattle.laws_of_joint_commands.proofs.SharedEvents.{unrefused}
use Rattle.laws_of_joint_commands.proofs.SweptHours.{ascends-different, aside-agrees, flat_map-same, own-agrees}
use Rattle.laws_of_joint_commands.proofs.Touching.{AllTouch, all-own, none-elsewhere, sweep-touches, take-touches, touch-append}

-- ---- one order

rest-touches : (kind : Kind) (name : OrderName) (rest : ℕ) → AllTouch name.hour (rest_withdrawn kind name rest)
rest-touches kind.Ioc name zero e i = absurd i
rest-touches kind.Ioc name (suc more) e i = elim i [ inl same ↦ subst (λ f. touches name.hour f ≡ true) (sym same) (eq-eqb name.hour name.hour refl) | inr j ↦ absurd j ]
rest-touches kind.Limit name rest e i = absurd i
rest-touches kind.Fok name rest e i = absurd i
rest-touches (kind.Iceberg peak delta) name rest e i = absurd i

module _ (parts : List Part) (graph : Graph) (caller : ℕ) (events : List Event) (named : AreNamedByHour events) (order : Order) where
  abbrev hour : ℕ
  hour = order.contract.hour

  abbrev entry : Event
  entry = event.Entered (name_of_next events order) caller order

  entry-touches : AllTouch hour (entry ∷ [])
  entry-touches e i = elim i [ inl same ↦ subst (λ f. touches hour f ≡ true) (sym same) (eq-eqb hour hour refl) | inr j ↦ absurd j ]

  own-named : AreNamedByHour (enter parts graph caller order events)
  own-named = enter-named (hour ∷ []) events events (agree-itself (hour ∷ []) events named) graph caller order (inl refl) parts

  own-within : AreWithinHours (hour ∷ []) (enter parts graph caller order events)
  own-within = enter-within (hour ∷ []) parts graph caller order events (inl refl) named

  -- all that it does is of its hour
  own-touches : AllTouch hour (enter parts graph caller order events)
  unfolding enter
  own-touches =
      let agree = agree-itself (hour ∷ []) events named in
      let legs : List Event = legs_taken graph events caller order in
      let rest : List Event = rest_withdrawn order.kind (name_of_next events order) (rest_of graph events caller order) in
      let done : List Event = (entry ∷ []) ++ legs ++ rest in
      touch-append hour done _
      (touch-append hour ((entry ∷ []) ++ legs) rest
      (touch-append hour (entry ∷ []) legs entry-touches
      (take-touches graph _ (with_order-agree (hour ∷ []) events events agree graph caller order (inl refl)).named_a (name_of_next events order)))
      (rest-touches order.kind (name_of_next events order) (rest_of graph events caller order)))
      (sweep-touches graph (events ++ done) (named-append events done named (before_sweep-named (hour ∷ []) events events agree graph caller order (inl refl))) parts hour)

  alone : enter parts graph caller order events ≡ enter parts graph caller order (of_hour hour events)
  alone = sym (enter-agree (hour ∷ []) (of_hour hour events) events (own-agrees events named hour) graph caller order (inl refl) parts)

-- ---- several orders

module _ (parts : List Part) (graph : Graph) (caller : ℕ) where
  -- an order leaves what those of other hours do as it was
  all-apart : (orders : List Order) (events : List Event) → AreNamedByHour events → AreDifferent (hours_of orders)
      → enter_all parts graph caller orders events ≡ flat_map (λ order. enter parts graph caller order events) orders
  all-apart [] events named differ = refl
  all-apart (order ∷ orders) events named differ =
      let done : List Event = enter parts graph caller order events in
      let hour : ℕ = order.contract.hour in
      let agree = aside-agrees (hours_of orders) (hour ∷ []) events done named (own-named parts graph caller events named order) (own-within parts graph caller events named order)
      (λ other i own. elim own [ inl same ↦ differ.0 (subst (λ n. IsIn n (hours_of orders)) same i) | inr j ↦ absurd j ]) in
      ap (λ rest. done ++ rest) (enter_all-agree (hours_of orders) parts graph caller orders (events ++ done) events agree
      (λ other i. IsIn-map (λ (o : Order). o.contract.hour) other orders i)
      ∙ all-apart orders events named differ.1)

  module _ (events : List Event) (named : AreNamedByHour events) where
    abbrev does : Order → List Event
    does order = enter parts graph caller order events

    -- orders of other hours do nothing in an hour
    none-of : (orders : List Order) (at : ℕ) → (IsIn at (hours_of orders) → ⊥) → of_hour at (flat_map does orders) ≡ []
    none-of [] at apart = refl
    none-of (order ∷ orders) at apart =
        filter-append (touches at) (does order) (flat_map does orders)
        ∙ ap (λ es. es ++ of_hour at (flat_map does orders)) (none-elsewhere (order.contract.hour ∷ []) at (does order) (own-within parts graph caller events named order)
        (λ i. elim i [ inl same ↦ apart (inl same) | inr j ↦ absurd j ]))
        ∙ none-of orders at (λ i. apart (inr i))

    one-of : (orders : List Order) → AreDifferent (hours_of orders) → (order : Order) → IsIn order orders → of_hour order.contract.hour (flat_map does orders) ≡ does order
    one-of [] differ order i = absurd i
    one-of (other ∷ orders) differ order i =
        filter-append (touches order.contract.hour) (does other) (flat_map does orders) ∙ go (one-of orders differ.1 order) i
      where
        own : of_hour other.contract.hour (does other) ≡ does other
        own = all-own other.contract.hour (does other) (own-touches parts graph caller events named other)

        go : (IsIn order orders → of_hour order.contract.hour (flat_map does orders) ≡ does order) → IsIn order (other ∷ orders)
            → of_hour order.contract.hour (does other) ++ of_hour order.contract.hour (flat_map does orders) ≡ does order
        go onward (inl same) = subst (λ (o : Order). of_hour o.contract.hour (does other) ++ of_hour o.contract.hour (flat_map does orders) ≡ does o) (sym same)
            (ap (λ es. es ++ of_hour other.contract.hour (flat_map does orders)) own
            ∙ ap (λ es. does other ++ es) (none-of orders other.contract.hour differ.0) ∙ append-nil (does other))
        go onward (inr j) = ap (λ es. es ++ of_hour order.contract.hour (flat_map does orders))
            (none-elsewhere (other.contract.hour ∷ []) order.contract.hour (does other) (own-within parts graph caller events named other)
            (λ k. elim k [ inl same ↦ differ.0 (subst (λ n. IsIn n (hours_of orders)) same (IsIn-map (λ (o : Order). o.contract.hour) order orders j)) | inr l ↦ absurd l ]))
            ∙ onward j

pub enter_by_hour : OrdersEnterHourByHour
enter_by_hour setup parts graph history caller orders fit up =
    let named = history-named setup history fit in
    all-apart parts graph caller orders history named (ascends-different (hours_of orders) up)
    ∙ flat_map-same (λ order. enter parts graph caller order history) (λ order. enter parts graph caller order (of_hour order.contract.hour history)) orders
    (λ order i. alone parts graph caller history named order)

pub have_hours : OrdersHaveTheirHours
have_hours setup parts graph history caller orders order fit up i =
    let named = history-named setup history fit in
    let differ = ascends-different (hours_of orders) up in
    ap (of_hour order.contract.hour) (all-apart parts graph caller orders history named differ)
    ∙ one-of parts graph caller history named orders differ order i
    ∙ alone parts graph caller history named order

pub leave_others : OrdersLeaveOtherHours
leave_others setup parts graph history caller orders hour fit apart =
    none-elsewhere (hours_of orders) hour (enter_all parts graph caller orders history)
    (enter_all-within (hours_of orders) parts graph caller orders history (λ order i. IsIn-map (λ (o : Order). o.contract.hour) order orders i) (history-named setup history fit))
    (λ i. true≢false (sym (has-IsIn hour (hours_of orders) i) ∙ apart))

-- ---- baskets

entered : (setup : Setup) (parts : List Part) (history : List Event) (caller : ℕ) (orders : List Order)
    → reply_let_in parts setup history caller (command.EnterBasket orders) ≡ reply.Done (enter_all parts (graph_of setup) caller orders history)
unfolding events_done
entered setup parts history caller orders = refl

pub done_by_hour : BasketsAreDoneHourByHour
done_by_hour setup parts history caller orders fit free =
    let good = (refusal-none setup history caller (command.EnterBasket orders) free).names.basket in
    let front = and_parts (is_within 2 8 (length orders) && ascends (hours_of orders)) (list_all (λ (o : Order). is_fill_or_kill o.kind) orders) good in
    let up = (and_parts (is_within 2 8 (length orders)) (ascends (hours_of orders)) front.0).1 in
    let whole = unrefused parts setup history caller (command.EnterBasket orders) free ∙ entered setup parts history caller orders in
    (up, whole, whole ∙ ap reply.Done (enter_by_hour setup parts (graph_of setup) history caller orders fit up))

pub refused_by_hour : BasketsAreRefusedHourByHour
refused_by_hour setup graph history caller orders fit =
    first_answer-same (basket_order_refusal graph history caller) (λ order. basket_order_refusal graph (of_hour order.contract.hour history) caller order) orders (λ order i. sym (one order))
  where
    one : (order : Order) → basket_order_refusal graph (of_hour order.contract.hour history) caller order ≡ basket_order_refusal graph history caller order
    one order =
        let hours : List ℕ = order.contract.hour ∷ [] in
        let own : List Event = of_hour order.contract.hour history in
        let agree = own-agrees history (history-named setup history fit) order.contract.hour in
        ap (λ n. unless (nat_eq n 0) (refusal.BasketUnfilled order.contract.hour (unfilled_zones graph own caller order) (bound_of graph own caller order (unfilled_zones graph own caller order))))
        (rest_of-agree hours own history agree graph caller order (inl refl))
        ∙ ap (λ zones. unless (nat_eq (rest_of graph history caller order) 0) (refusal.BasketUnfilled order.contract.hour zones (bound_of graph own caller order zones)))
        (unfilled_zones-agree hours own history agree graph caller order (inl refl))
        ∙ ap (λ n. unless (nat_eq (rest_of graph history caller order) 0) (refusal.BasketUnfilled order.contract.hour (unfilled_zones graph history caller order) n))
        (bound_of-agree hours own history agree graph caller order (inl refl) (unfilled_zones graph history caller order))
