-- What the orders obtain that enter by an entry of a journal.
use Rattle.std.proofs.Common.{◌≡◌, ◌∙◌, ◌≤◌, ◌⊎◌, inl, inr, ℕ, List, [], ◌∷◌, ◌++◌, append_assoc, Option, Some, None, refl, sym, ap, subst}
use Rattle.std.proofs.lemmas.List.{append-nil}
use Rattle.order_kinds.specs.declared.order.Kind.TheVariants as kind
use Rattle.order_kinds.specs.declared.order.Order.{Order}
use Rattle.zone_graph.specs.Route.{IsIn}
use Rattle.market_model.specs.declared.command.Command.{Command}
use Rattle.market_model.specs.declared.command.Command.TheVariants as command
use Rattle.market_model.specs.declared.event.Event.{Event}
use Rattle.market_model.specs.declared.event.Event.TheVariants as event
use Rattle.market_model.specs.declared.refusal.Refusal.{Refusal}
use Rattle.market_model.specs.declared.reply.Reply.TheVariants as reply
use Rattle.market_model.specs.declared.setup.Setup.{Setup}
use Rattle.market_model.specs.Certificate.{bound_of, unfilled_zones}
use Rattle.market_model.specs.Entering.{enter, enter_all, legs_taken, name_of_next, rest_of, rest_withdrawn}
use Rattle.market_model.specs.Grid.{graph_of}
use Rattle.market_model.specs.History.{journal_events}
use Rattle.market_model.specs.Market.{events_done, refused_or, reply_by, reply_let_in, reply_to}
use Rattle.market_model.specs.Refusals.{refusal_of_command}
use Rattle.market_model.specs.Sweep.{all_parts, sweep}
use Rattle.market_model.specs.WellFormed.{IsHistory, IsMarketSetup}
use Rattle.laws_of_market.proofs.Admitted.{IsAdmitted, refusal-none}
use Rattle.laws_of_market.proofs.Entries.{MayEnter, enter-history, may-enters}
use Rattle.laws_of_market.proofs.Replies.{basket-may, order-may}
use Rattle.laws_of_maximum.specs.Entering.{JournalsObtainTheMost, ObtainsTheMost, orders_entered}
use Rattle.laws_of_maximum.specs.FlowPlan.{FlowPlan, IsPlanFor, orders_met, value_of}
use Rattle.laws_of_maximum.specs.Takings.{HasNoDelta, obtained}
use Rattle.laws_of_maximum.proofs.BestPlans.{obtain-most}
use Rattle.laws_of_maximum.proofs.Entries.{entry_after}
use Rattle.laws_of_maximum.proofs.Obtained.{reach-bound}

module _ (setup : Setup) (is_setup : IsMarketSetup setup) (caller : ℕ) where
  -- what an order's entry brings about: its entry, its legs, and what follows
  abbrev following : List Event → Order → List Event
  following events order =
      rest_withdrawn order.kind (name_of_next events order) (rest_of (graph_of setup) events caller order)
      ++ sweep all_parts (graph_of setup) order.contract.hour
      (events ++ (event.Entered (name_of_next events order) caller order
      ∷ (legs_taken (graph_of setup) events caller order ++ rest_withdrawn order.kind (name_of_next events order) (rest_of (graph_of setup) events caller order))))

  enter-parts : (order : Order) (events : List Event) → enter all_parts (graph_of setup) caller order events
      ≡ event.Entered (name_of_next events order) caller order ∷ (legs_taken (graph_of setup) events caller order ++ following events order)
  unfolding enter
  enter-parts order events =
      ap (λ xs. event.Entered (name_of_next events order) caller order ∷ xs)
      (append_assoc (legs_taken (graph_of setup) events caller order)
      (rest_withdrawn order.kind (name_of_next events order) (rest_of (graph_of setup) events caller order)) _)

  -- where the events before its entry are a well-formed history, an order that may enter obtains the most
  obtains : (order : Order) → MayEnter setup caller order → HasNoDelta order.kind → (start before after past events : List Event) → start ++ before ≡ past
      → events ≡ before ++ (event.Entered (name_of_next past order) caller order ∷ (legs_taken (graph_of setup) past caller order ++ after))
      → IsHistory setup past → ObtainsTheMost (graph_of setup) start caller order events
  obtains order may flat start before after past events is happened history =
      let at = subst (IsHistory setup) (sym is) history in
      let enters = may-enters setup caller order (start ++ before) may in
      record {
        before = before;
        after = after;
        enters = subst (λ V. events ≡ before ++ (event.Entered (name_of_next V order) caller order ∷ (legs_taken (graph_of setup) V caller order ++ after))) (sym is) happened;
        reaches = reach-bound setup is_setup (start ++ before) at.fit caller order enters flat;
        most = λ plan planned. obtain-most setup (start ++ before) caller order plan is_setup at.fit enters flat planned;
      }

  -- one order alone
  one-obtains : (order : Order) (events : List Event) → MayEnter setup caller order → HasNoDelta order.kind → IsHistory setup events
      → ObtainsTheMost (graph_of setup) events caller order (enter all_parts (graph_of setup) caller order events)
  one-obtains order events may flat history =
      obtains order may flat events [] (following events order) events (enter all_parts (graph_of setup) caller order events) (append-nil events) (enter-parts order events) history

  -- the first of several
  first-obtains : (order : Order) (events more : List Event) → MayEnter setup caller order → HasNoDelta order.kind → IsHistory setup events
      → ObtainsTheMost (graph_of setup) events caller order (enter all_parts (graph_of setup) caller order events ++ more)
  first-obtains order events more may flat history =
      obtains order may flat events [] (following events order ++ more) events (enter all_parts (graph_of setup) caller order events ++ more) (append-nil events)
      (ap (λ xs. xs ++ more) (enter-parts order events)
      ∙ ap (λ xs. event.Entered (name_of_next events order) caller order ∷ xs) (append_assoc (legs_taken (graph_of setup) events caller order) (following events order) more))
      history

  abbrev Reaches : Order → List Event → Type 0
  Reaches order past = (obtained (graph_of setup) past caller order ≡ order.quantity.0)
      ⊎ (obtained (graph_of setup) past caller order ≡ bound_of (graph_of setup) past caller order (unfilled_zones (graph_of setup) past caller order))

  abbrev IsMost : Order → List Event → Type 0
  IsMost order past = (plan : FlowPlan) → IsPlanFor (graph_of setup) past caller order plan
      → (obtained (graph_of setup) past caller order ≡ order.quantity.0) ⊎ (value_of (orders_met past caller order) plan ≤ obtained (graph_of setup) past caller order)

  -- what obtains the most behind events does so behind more
  behind : (order : Order) (start done events : List Event) → ObtainsTheMost (graph_of setup) (start ++ done) caller order events
      → ObtainsTheMost (graph_of setup) start caller order (done ++ events)
  behind order start done events most =
      let same : (start ++ done) ++ most.before ≡ start ++ (done ++ most.before) = append_assoc start done most.before in
      record {
        before = done ++ most.before;
        after = most.after;
        enters = ap (λ xs. done ++ xs) most.enters ∙ sym (append_assoc done most.before _)
            ∙ ap (λ V. (done ++ most.before) ++ (event.Entered (name_of_next V order) caller order ∷ (legs_taken (graph_of setup) V caller order ++ most.after))) same;
        reaches = subst (Reaches order) same most.reaches;
        most = subst (IsMost order) same most.most;
      }

  several-obtain : (orders : List Order) (events : List Event) → ((order : Order) → IsIn order orders → MayEnter setup caller order) → IsHistory setup events
      → (order : Order) → IsIn order orders → HasNoDelta order.kind
      → ObtainsTheMost (graph_of setup) events caller order (enter_all all_parts (graph_of setup) caller orders events)
  several-obtain [] events may history order i flat = absurd i
  several-obtain (first ∷ orders) events may history order i flat =
      let done : List Event = enter all_parts (graph_of setup) caller first events in
      let more : List Event = enter_all all_parts (graph_of setup) caller orders (events ++ done) in
      elim i [
        | inl s ↦ subst (λ o. ObtainsTheMost (graph_of setup) events caller o (done ++ more)) (sym s)
            (first-obtains first events more (may first (inl refl)) (subst (λ (o : Order). HasNoDelta o.kind) s flat) history)
        | inr j ↦ behind order events done more
            (several-obtain orders (events ++ done) (λ o k. may o (inr k)) (enter-history setup is_setup all_parts caller first events (may first (inl refl)) history) order j flat)
      ]

  -- the orders of a command that no rule refuses
  admitted-obtain : (events : List Event) (given : Command) → IsAdmitted setup events caller given → IsHistory setup events → (order : Order) → IsIn order (orders_entered given)
      → HasNoDelta order.kind → ObtainsTheMost (graph_of setup) events caller order (events_done all_parts setup events caller given)
  unfolding events_done
  admitted-obtain events (command.Enter own) may history order i flat = elim i [
    | inl s ↦ subst (λ o. ObtainsTheMost (graph_of setup) events caller o (enter all_parts (graph_of setup) caller own events)) (sym s)
        (one-obtains own events (order-may setup caller own may.names may.numbers) (subst (λ (o : Order). HasNoDelta o.kind) s flat) history)
    | inr none ↦ absurd none
  ]
  admitted-obtain events (command.EnterBasket orders) may history order i flat = several-obtain orders events (basket-may setup caller orders may.names may.numbers) history order i flat
  admitted-obtain events _ may history order i flat = absurd i

  -- the answer to a command that enters orders has its events
  answer-done : (events : List Event) (given : Command) (order : Order) (done : List Event) → IsIn order (orders_entered given)
      → reply_let_in all_parts setup events caller given ≡ reply.Done done → events_done all_parts setup events caller given ≡ done
  answer-done events (command.Enter own) order done i e = cc
  answer-done events (command.EnterBasket orders) order done i e = cc
  answer-done events _ order done i e = absurd i

  reply-obtains : (events : List Event) (given : Command) (done : List Event) → IsHistory setup events → reply_to setup events caller given ≡ reply.Done done
      → (order : Order) → IsIn order (orders_entered given) → HasNoDelta order.kind → ObtainsTheMost (graph_of setup) events caller order done
  unfolding reply_by
  reply-obtains events given done history e order i flat = go (refusal_of_command setup events caller given) refl e
    where
      go : (o : Option Refusal) → refusal_of_command setup events caller given ≡ o → refused_or o (λ _. reply_let_in all_parts setup events caller given) ≡ reply.Done done
          → ObtainsTheMost (graph_of setup) events caller order done
      go None is k = subst (ObtainsTheMost (graph_of setup) events caller order) (answer-done events given order done i k)
          (admitted-obtain events given (refusal-none setup events caller given is) history order i flat)
      go (Some broken) is k = absurd (cc)

pub journals_most : JournalsObtainTheMost
journals_most setup turns before after entry events order is_setup is done i flat =
    let at = entry_after setup is_setup turns before after entry is in
    reply-obtains setup is_setup entry.caller (journal_events before) entry.command events at.history (sym at.reply_is ∙ done) order i flat
