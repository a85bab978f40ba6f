-- Every entry of a journal leaves every hour uncrossed.
use Rattle.std.proofs.Common.{◌≡◌, ◌∙◌, ◌⊎◌, inl, inr, ℕ, ◌-◌, Bool, true, false, List, [], ◌∷◌, ◌++◌, flat_map, map, Option, Some, None, is_none, append_assoc, refl, sym, subst, if◌then◌else◌}
use Rattle.std.proofs.lemmas.Bool.{true≢false}
use Rattle.std.proofs.lemmas.List.{append-nil}
use Rattle.order_kinds.specs.declared.order.Order.{Order}
use Rattle.order_kinds.specs.Period.{hours_from}
use Rattle.zone_graph.specs.declared.route.Arc.{Arc}
use Rattle.zone_graph.specs.Graph.{Graph}
use Rattle.zone_graph.specs.Grid.{arc_between}
use Rattle.zone_graph.specs.Route.{IsIn, has}
use Rattle.zone_graph.proofs.Membership.{has-IsIn, IsIn-has}
use Rattle.market_model.specs.declared.command.Command.{Command}
use Rattle.market_model.specs.declared.command.Command.TheVariants as command
use Rattle.market_model.specs.declared.event.Event.{Event}
use Rattle.market_model.specs.declared.event.Event.TheVariants as event
use Rattle.market_model.specs.declared.refusal.Refusal.{Refusal}
use Rattle.market_model.specs.declared.setup.Setup.{Setup}
use Rattle.market_model.specs.Blocks.{block_deals, entering_block, enter_block, legs_with, match_blocks, partner_found, with_block}
use Rattle.market_model.specs.Entering.{enter, enter_all, legs_taken, name_of_next, rest_of, rest_withdrawn}
use Rattle.market_model.specs.Grid.{graph_of}
use Rattle.market_model.specs.History.{events_of, journal_events}
use Rattle.market_model.specs.Market.{Turn, reply_let_in, events_done, on_arc, refused_or, reply_by, run_by, withdrawals}
use Rattle.market_model.specs.Orders.{left, next_name}
use Rattle.market_model.specs.Refusals.{refusal_of_command}
use Rattle.market_model.specs.Rules.{hours_concerned, naming_refusal, touched_hours}
use Rattle.market_model.specs.Sweep.{all_parts, sweep, sweeps}
use Rattle.market_model.specs.WellFormed.{FitAfter, IsHistory, IsMarketSetup}
use Rattle.laws_of_market.proofs.Growing.{fit-front}
use Rattle.laws_of_market.proofs.Journals.{run-keeps}
use Rattle.laws_of_market.proofs.Replies.{reply-history}
use Rattle.laws_of_market.proofs.NamedByHour.{AreNamedByHour, history-named}
use Rattle.laws_of_market.proofs.WithinHours.{enter-within, reply-within, sweep-within}
use Rattle.laws_of_market.proofs.Swept.{uncrossed-swept}
use Rattle.laws_of_market.proofs.Uncrossed.{IsUncrossed, uncrossed-elsewhere, uncrossed-reduced, uncrossed-withdrawn}

-- a number is in a list or not
decide : (hour : ℕ) (hours : List ℕ) → IsIn hour hours ⊎ (IsIn hour hours → ⊥)
decide hour hours = go (has hour hours) refl
  where
    go : (t : Bool) → has hour hours ≡ t → IsIn hour hours ⊎ (IsIn hour hours → ⊥)
    go true is = inl (IsIn-has hour hours is)
    go false is = inr (λ h. true≢false (sym (has-IsIn hour hours h) ∙ is))

module _ (setup : Setup) (is_setup : IsMarketSetup setup) where
  abbrev graph : Graph
  graph = graph_of setup

  named : (events : List Event) → FitAfter setup [] events → AreNamedByHour events
  named events fit = history-named setup events fit

  -- each hour that was uncrossed, or is swept, is uncrossed after the sweeps
  sweeps-uncrossed : (hours : List ℕ) (events : List Event) → FitAfter setup [] (events ++ sweeps all_parts graph hours events) → (hour : ℕ)
      → IsUncrossed graph hour events ⊎ IsIn hour hours → IsUncrossed graph hour (events ++ sweeps all_parts graph hours events)
  sweeps-uncrossed [] events fit hour was =
      elim was [ inl u ↦ subst (IsUncrossed graph hour) (sym (append-nil events)) u | inr i ↦ absurd i ]
  sweeps-uncrossed (first ∷ hours) events fit hour was =
      subst (IsUncrossed graph hour) whole (sweeps-uncrossed hours (events ++ legs) (subst (FitAfter setup []) (sym whole) fit) hour now)
    where
      legs : List Event
      legs = sweep all_parts graph first events

      whole : (events ++ legs) ++ sweeps all_parts graph hours (events ++ legs) ≡ events ++ (legs ++ sweeps all_parts graph hours (events ++ legs))
      whole = append_assoc events legs (sweeps all_parts graph hours (events ++ legs))

      fit_legs : FitAfter setup [] (events ++ legs)
      fit_legs = fit-front setup [] (events ++ legs) (sweeps all_parts graph hours (events ++ legs)) (subst (FitAfter setup []) (sym whole) fit)

      fit_before : FitAfter setup [] events
      fit_before = fit-front setup [] events legs fit_legs

      elsewhere : IsUncrossed graph hour events → (IsIn hour (first ∷ []) → ⊥) → IsUncrossed graph hour (events ++ legs)
      elsewhere u other = uncrossed-elsewhere graph (first ∷ []) hour events legs (named (events ++ legs) fit_legs) (named events fit_before)
          (sweep-within (first ∷ []) all_parts graph first events (inl refl) (named events fit_before)) other u

      swept : hour ≡ first → IsUncrossed graph hour (events ++ legs)
      swept is = subst (λ n. IsUncrossed graph n (events ++ legs)) (sym is) (uncrossed-swept setup is_setup first events fit_before)

      now : IsUncrossed graph hour (events ++ legs) ⊎ IsIn hour hours
      now = elim was [
        | inl u ↦ elim (decide hour (first ∷ [])) [
          | inl i ↦ elim i [ inl s ↦ inl (swept s) | inr k ↦ absurd k ]
          | inr other ↦ inl (elsewhere u other)
        ]
        | inr i ↦ elim i [ inl s ↦ inl (swept s) | inr k ↦ inr k ]
      ]

  -- what is done, and then the sweeps of some hours, leaves these uncrossed
  done_swept-uncrossed : (hours : List ℕ) (events done : List Event) → FitAfter setup [] (events ++ (done ++ sweeps all_parts graph hours (events ++ done)))
      → (hour : ℕ) → IsIn hour hours → IsUncrossed graph hour (events ++ (done ++ sweeps all_parts graph hours (events ++ done)))
  done_swept-uncrossed hours events done fit hour h =
      let whole = append_assoc events done (sweeps all_parts graph hours (events ++ done)) in
      subst (IsUncrossed graph hour) whole (sweeps-uncrossed hours (events ++ done) (subst (FitAfter setup []) (sym whole) fit) hour (inr h))

  -- an order that enters leaves its hour uncrossed
  enter-uncrossed : (caller : ℕ) (order : Order) (events : List Event) → FitAfter setup [] (events ++ enter all_parts graph caller order events)
      → IsUncrossed graph order.contract.hour (events ++ enter all_parts graph caller order events)
  unfolding enter
  enter-uncrossed caller order events fit =
      let hour : ℕ = order.contract.hour in
      let done : List Event = (event.Entered (name_of_next events order) caller order ∷ []) ++ legs_taken graph events caller order
      ++ rest_withdrawn order.kind (name_of_next events order) (rest_of graph events caller order) in
      let legs : List Event = sweep all_parts graph hour (events ++ done) in
      let whole = append_assoc events done legs in
      subst (IsUncrossed graph hour) whole (uncrossed-swept setup is_setup hour (events ++ done)
      (fit-front setup [] (events ++ done) legs (subst (FitAfter setup []) (sym whole) fit)))

  -- and orders one after the other leave uncrossed their hours and those that were
  enter_all-uncrossed : (caller : ℕ) (orders : List Order) (events : List Event) → FitAfter setup [] (events ++ enter_all all_parts graph caller orders events)
      → (hour : ℕ) → IsUncrossed graph hour events ⊎ IsIn hour (map (λ (o : Order). o.contract.hour) orders)
      → IsUncrossed graph hour (events ++ enter_all all_parts graph caller orders events)
  enter_all-uncrossed caller [] events fit hour was =
      elim was [ inl u ↦ subst (IsUncrossed graph hour) (sym (append-nil events)) u | inr i ↦ absurd i ]
  enter_all-uncrossed caller (order ∷ orders) events fit hour was =
      subst (IsUncrossed graph hour) whole (enter_all-uncrossed caller orders (events ++ done) (subst (FitAfter setup []) (sym whole) fit) hour now)
    where
      done : List Event
      done = enter all_parts graph caller order events

      whole : (events ++ done) ++ enter_all all_parts graph caller orders (events ++ done) ≡ events ++ (done ++ enter_all all_parts graph caller orders (events ++ done))
      whole = append_assoc events done (enter_all all_parts graph caller orders (events ++ done))

      fit_done : FitAfter setup [] (events ++ done)
      fit_done = fit-front setup [] (events ++ done) (enter_all all_parts graph caller orders (events ++ done)) (subst (FitAfter setup []) (sym whole) fit)

      fit_before : FitAfter setup [] events
      fit_before = fit-front setup [] events done fit_done

      own : ℕ
      own = order.contract.hour

      elsewhere : IsUncrossed graph hour events → (IsIn hour (own ∷ []) → ⊥) → IsUncrossed graph hour (events ++ done)
      elsewhere u other = uncrossed-elsewhere graph (own ∷ []) hour events done (named (events ++ done) fit_done) (named events fit_before)
          (enter-within (own ∷ []) all_parts graph caller order events (inl refl) (named events fit_before)) other u

      entered : hour ≡ own → IsUncrossed graph hour (events ++ done)
      entered is = subst (λ n. IsUncrossed graph n (events ++ done)) (sym is) (enter-uncrossed caller order events fit_done)

      now : IsUncrossed graph hour (events ++ done) ⊎ IsIn hour (map (λ (o : Order). o.contract.hour) orders)
      now = elim was [
        | inl u ↦ elim (decide hour (own ∷ [])) [
          | inl i ↦ elim i [ inl s ↦ inl (entered s) | inr k ↦ absurd k ]
          | inr other ↦ inl (elsewhere u other)
        ]
        | inr i ↦ elim i [ inl s ↦ inl (entered s) | inr k ↦ inr k ]
      ]

  at_arc-uncrossed : (o : Option Arc) (happening : Arc → List Event) (events : List Event) (hour : ℕ) → IsUncrossed graph hour events
      → FitAfter setup [] (events ++ on_arc o happening)
      → ((arc : Arc) → FitAfter setup [] (events ++ happening arc) → IsUncrossed graph hour (events ++ happening arc)) → IsUncrossed graph hour (events ++ on_arc o happening)
  at_arc-uncrossed None happening events hour was fit onward = subst (IsUncrossed graph hour) (sym (append-nil events)) was
  at_arc-uncrossed (Some arc) happening events hour was fit onward = onward arc fit

  -- a command that is done leaves uncrossed the hours that it concerns
  done-uncrossed : (events : List Event) (caller : ℕ) (given : Command) → FitAfter setup [] (events ++ events_done all_parts setup events caller given)
      → (hour : ℕ) → IsUncrossed graph hour events → IsIn hour (hours_concerned given) → IsUncrossed graph hour (events ++ events_done all_parts setup events caller given)
  unfolding events_done enter_block match_blocks
  done-uncrossed events caller (command.Enter order) fit hour was h =
      elim h [
        | inl s ↦ subst (λ n. IsUncrossed graph n (events ++ enter all_parts graph caller order events)) (sym s) (enter-uncrossed caller order events fit)
        | inr k ↦ absurd k
      ]
  done-uncrossed events caller (command.EnterBlock order) fit hour was h =
      done_swept-uncrossed (hours_from order.first order.last) events
      ((event.EnteredBlock (next_name events order.first) caller order ∷ [])
      ++ legs_with graph (with_block events caller order) (entering_block events caller order) (partner_found graph events caller order)) fit hour h
  done-uncrossed events caller (command.EnterBasket orders) fit hour was h = enter_all-uncrossed caller orders events fit hour (inr h)
  done-uncrossed events caller (command.Cancel name) fit hour was h = uncrossed-withdrawn graph hour events name (left events name) was
  done-uncrossed events caller (command.Reduce name to) fit hour was h = uncrossed-reduced graph hour events name (left events name - to) was
  done-uncrossed events caller (command.Blocks first last) fit hour was h =
      done_swept-uncrossed (hours_from first last) events (flat_map (λ deal. deal) (block_deals graph first last events)) fit hour h
  done-uncrossed events caller (command.Offer from to first last lots) fit hour was h = at_arc-uncrossed (arc_between graph from to) _ events hour was fit
      (λ arc own. done_swept-uncrossed (hours_from first.hour last.hour) events (event.Offered arc first last lots ∷ []) own hour h)
  done-uncrossed events caller (command.Request from to first last lots) fit hour was h = at_arc-uncrossed (arc_between graph from to) _ events hour was fit
      (λ arc own. done_swept-uncrossed (hours_from first.hour last.hour) events (event.Granted arc first last lots ∷ []) own hour h)
  done-uncrossed events caller (command.Halt from to first last) fit hour was h = at_arc-uncrossed (arc_between graph from to) _ events hour was fit
      (λ arc own. done_swept-uncrossed (hours_from first last) events (event.Halted arc.border first last ∷ []) own hour h)
  done-uncrossed events caller (command.Resume from to first last) fit hour was h = at_arc-uncrossed (arc_between graph from to) _ events hour was fit
      (λ arc own. done_swept-uncrossed (hours_from first last) events (event.Resumed arc.border first last ∷ []) own hour h)
  done-uncrossed events caller (command.Gate gated asked) fit hour was h =
      done_swept-uncrossed (gated ∷ []) events (event.Gated gated asked ∷ withdrawals events gated asked) fit hour h
  done-uncrossed events caller (command.View contract side zone) fit hour was h = subst (IsUncrossed graph hour) (sym (append-nil events)) was

  answer-uncrossed : (events : List Event) (caller : ℕ) (given : Command) → FitAfter setup [] (events ++ events_of (reply_let_in all_parts setup events caller given))
      → (hour : ℕ) → IsUncrossed graph hour events → IsIn hour (hours_concerned given) → IsUncrossed graph hour (events ++ events_of (reply_let_in all_parts setup events caller given))
  answer-uncrossed events caller (command.View contract side zone) fit hour was h = subst (IsUncrossed graph hour) (sym (append-nil events)) was
  answer-uncrossed events caller given fit hour was h = done-uncrossed events caller given fit hour was h

  by_refusal : (events : List Event) (caller : ℕ) (given : Command) (hour : ℕ) → IsUncrossed graph hour events → IsIn hour (hours_concerned given) → (o : Option Refusal)
      → FitAfter setup [] (events ++ events_of (refused_or o (λ _. reply_let_in all_parts setup events caller given)))
      → IsUncrossed graph hour (events ++ events_of (refused_or o (λ _. reply_let_in all_parts setup events caller given)))
  by_refusal events caller given hour was h (Some broken) fit = subst (IsUncrossed graph hour) (sym (append-nil events)) was
  by_refusal events caller given hour was h None fit = answer-uncrossed events caller given fit hour was h

  -- every reply leaves an hour uncrossed that was
  pub reply-uncrossed : (events : List Event) (caller : ℕ) (given : Command) → IsHistory setup events → (hour : ℕ) → IsUncrossed graph hour events
      → IsUncrossed graph hour (events ++ events_of (reply_by all_parts setup events caller given))
  unfolding reply_by
  reply-uncrossed events caller given history hour was =
      elim (decide hour (touched_hours setup caller given)) [ inl h ↦ touched h | inr other ↦ elsewhere other ]
    where
      after : List Event
      after = events ++ events_of (reply_by all_parts setup events caller given)

      fit : FitAfter setup [] after
      fit = (reply-history setup is_setup all_parts events caller history given).fit

      elsewhere : (IsIn hour (touched_hours setup caller given) → ⊥) → IsUncrossed graph hour after
      elsewhere other = uncrossed-elsewhere graph (touched_hours setup caller given) hour events (events_of (reply_by all_parts setup events caller given))
          (named after fit) (named events history.fit) (reply-within all_parts setup events caller given (named events history.fit)) other was

      concerned : (o : Option Refusal) → naming_refusal setup caller given ≡ o → IsIn hour (touched_hours setup caller given) → IsIn hour (hours_concerned given)
      concerned None is h = subst (λ o. IsIn hour (if is_none o then hours_concerned given else [])) is h
      concerned (Some broken) is h = absurd (subst (λ o. IsIn hour (if is_none o then hours_concerned given else [])) is h)

      touched : IsIn hour (touched_hours setup caller given) → IsUncrossed graph hour after
      touched h = by_refusal events caller given hour was (concerned (naming_refusal setup caller given) refl h) (refusal_of_command setup events caller given) fit

  -- after every entry of a journal every hour is uncrossed
  pub run-uncrossed : (turns : List Turn) → (hour : ℕ) → IsUncrossed graph hour (journal_events (run_by all_parts setup turns))
  run-uncrossed turns hour = run-keeps setup is_setup all_parts (IsUncrossed graph hour)
      (λ events caller given history was. reply-uncrossed events caller given history hour was)
      (λ buy sell buy_open sell_open in_hour same on_buy on_sell. absurd buy_open.is_placed) turns
