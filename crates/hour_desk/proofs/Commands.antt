-- What a command does in an hour that it touches alone can follow there, and is what the calls that change an
-- hour plan.
use Rattle.std.proofs.Common.{◌≡◌, ◌∙◌, inl, ℕ, ◌+◌, ◌-◌, ◌<◌, ◌≤◌, not, true, List, [], ◌∷◌, ◌++◌, length, Option, Some, None, is_none, refl, sym, ap, subst, arith}
use Rattle.std.proofs.lemmas.List.FromFn.{length-range_with_len}
use Rattle.order_kinds.specs.declared.contract.Contract.{Contract}
use Rattle.order_kinds.specs.declared.order.Order.{Order}
use Rattle.order_kinds.specs.declared.order.OrderName.{OrderName}
use Rattle.order_kinds.specs.declared.phase.Phase.{Phase}
use Rattle.order_kinds.specs.declared.side.Side.{Side}
use Rattle.order_kinds.specs.Contract.{is_known}
use Rattle.order_kinds.specs.Period.{hours_from}
use Rattle.order_kinds.proofs.Hours.{hours-next}
use Rattle.zone_graph.specs.declared.route.Arc.{Arc}
use Rattle.zone_graph.specs.Graph.{Graph}
use Rattle.zone_graph.specs.Grid.{arc_between}
use Rattle.market_model.specs.declared.command.Command.{Command}
use Rattle.market_model.specs.declared.command.Command.TheVariants as command
use Rattle.market_model.specs.declared.event.Event.{Event}
use Rattle.market_model.specs.declared.event.Event.TheVariants as event
use Rattle.market_model.specs.declared.setup.Setup.{Setup}
use Rattle.market_model.specs.Board.{IsHourOf}
use Rattle.market_model.specs.Entering.{enter, name_of_next}
use Rattle.market_model.specs.Grid.{graph_of}
use Rattle.market_model.specs.History.{and_then}
use Rattle.market_model.specs.Market.{events_done, gate, on_arc, withdrawals}
use Rattle.market_model.specs.Orders.{left, next_name}
use Rattle.market_model.specs.Refusals.{has_own, own_limit}
use Rattle.market_model.specs.Rules.{first_broken, hours_concerned}
use Rattle.market_model.specs.Sweep.{all_parts, sweeps}
use Rattle.market_model.specs.WellFormed.{Fits}
use Rattle.market_model.specs.LetIn.{IsNoEntry}
use Rattle.market_model.specs.StateRules.{filling_rules}
use Rattle.laws_of_market.proofs.Admitted.{IsAdmitted, all-pass, naming-none, refusal-none}
use Rattle.laws_of_market.proofs.Admitting.{early-none, let_in-refusal, no_entry-rules}
use Rattle.laws_of_market.proofs.Replies.{gate-fits, grant-fits, halt-fits, offer-fits, reduction-fits, resumption-fits, withdrawal-fits}
use Rattle.laws_of_market.proofs.Uses.{not_after-hours}
use Rattle.desk_changes.specs.Planned.{IsUnplanned, with_planned}
use Rattle.desk_changes.specs.State.{CanBeNext, HourState, after_event, entry_of, gate_of, name_in, reduction_of, withdrawal_of}
use Rattle.laws_of_boards.specs.Hours.{IsOfHour}
use Rattle.laws_of_boards.specs.Settled.{IsSettled}
use Rattle.laws_of_boards.proofs.Admitting as entering
use Rattle.desk_refusals.specs.declared.owning.Own.{Own}
use Rattle.desk_refusals.specs.Owned.{left_of, own_of}
use Rattle.desk_refusals.proofs.Named.{told-number}
use Rattle.hour_desk.specs.Placed.{CanChange, IsPlaced}
use Rattle.hour_desk.proofs.Histories.{goes-on}
use Rattle.hour_desk.proofs.Owned.{below-left, limit-own, own-left}
use Rattle.hour_desk.proofs.Planned.{let-in, one-planned}
use Rattle.hour_desk.proofs.Touching.{concerned, no-matching}

-- a range of one hour begins and ends with it
one-hour-range : (first last hour : ℕ) → first ≤ last → hours_from first last ≡ hour ∷ [] → (first ≡ hour) × (last ≡ hour)
one-hour-range first last hour order one =
    let whole : first ∷ hours_from (first + 1) last ≡ hour ∷ [] = sym (hours-next first last order) ∙ one in
    let here : first ≡ hour = cc in
    let count : last + 1 - first ≡ 1 = sym (length-range_with_len first (last + 1 - first)) ∙ ap length one in
    (here, omega arith)

-- what happens first where a command of one hour is done that enters nothing: it is of the hour alone, and fits
record IsFirst (setup : Setup) (hour : ℕ) (events : List Event) (e : Event) : Type 0 where
  own : IsOfHour hour e
  fits : Fits setup events e

module _ (setup : Setup) (hour : ℕ) (events : List Event) (caller : ℕ) where
  on-arc : (o : Option Arc) (happening : Arc → List Event) (e : Event) (rest : List Event) → on_arc o happening ≡ e ∷ rest
      → ((arc : Arc) → o ≡ Some arc → happening arc ≡ e ∷ rest → IsFirst setup hour events e) → IsFirst setup hour events e
  on-arc None happening e rest is onward = absurd (cc)
  on-arc (Some arc) happening e rest is onward = onward arc refl is

  is-first : (given : Command) → IsNoEntry given → ((first last : ℕ) → ¬ (given ≡ command.Blocks first last)) → hours_concerned given ≡ hour ∷ []
      → IsAdmitted setup events caller given → (e : Event) (rest : List Event) → events_done all_parts setup events caller given ≡ e ∷ rest → IsFirst setup hour events e
  unfolding events_done
  is-first (command.Enter order) none no_blocks one may e rest is = absurd none
  is-first (command.EnterBlock order) none no_blocks one may e rest is = absurd none
  is-first (command.EnterBasket orders) none no_blocks one may e rest is = absurd none
  is-first (command.Blocks first last) none no_blocks one may e rest is = absurd (no_blocks first last refl)
  is-first (command.View contract side zone) none no_blocks one may e rest is = absurd (cc)
  is-first (command.Cancel name) none no_blocks one may e rest is =
      let same : event.Withdrawn name (left events name) ≡ e = cc in
      subst (IsFirst setup hour events) same (record { own = cc; fits = withdrawal-fits setup events caller name may })
  is-first (command.Reduce name to) none no_blocks one may e rest is =
      let same : event.Reduced name (left events name - to) ≡ e = cc in
      subst (IsFirst setup hour events) same (record { own = cc; fits = reduction-fits setup events caller name to may })
  is-first (command.Gate gated asked) none no_blocks one may e rest is =
      let same : event.Gated gated asked ≡ e = cc in
      subst (IsFirst setup hour events) same (record { own = cc; fits = gate-fits setup events caller gated asked may })
  is-first (command.Offer from to first last lots) none no_blocks one may e rest is =
      on-arc (arc_between (graph_of setup) from to) _ e rest is (λ arc found done.
      let same : event.Offered arc first last lots ≡ e = cc in
      let fits = offer-fits setup events caller from to first last lots arc found may in
      let own = one-hour-range first.hour last.hour hour (not_after-hours first last fits.range.in_order) one in
      subst (IsFirst setup hour events) same (record { own = own; fits = fits }))
  is-first (command.Request from to first last lots) none no_blocks one may e rest is =
      on-arc (arc_between (graph_of setup) from to) _ e rest is (λ arc found done.
      let same : event.Granted arc first last lots ≡ e = cc in
      let fits = grant-fits setup events caller from to first last lots arc found may in
      let own = one-hour-range first.hour last.hour hour (not_after-hours first last fits.range.in_order) one in
      subst (IsFirst setup hour events) same (record { own = own; fits = fits }))
  is-first (command.Halt from to first last) none no_blocks one may e rest is =
      on-arc (arc_between (graph_of setup) from to) _ e rest is (λ arc found done.
      let same : event.Halted arc.border first last ≡ e = cc in
      let fits = halt-fits setup events caller from to first last arc found may in
      subst (IsFirst setup hour events) same (record { own = one-hour-range first last hour fits.in_order one; fits = fits }))
  is-first (command.Resume from to first last) none no_blocks one may e rest is =
      on-arc (arc_between (graph_of setup) from to) _ e rest is (λ arc found done.
      let same : event.Resumed arc.border first last ≡ e = cc in
      let fits = resumption-fits setup events caller from to first last arc found may in
      subst (IsFirst setup hour events) same (record { own = one-hour-range first last hour fits.in_order one; fits = fits }))

-- the hour stands, by the setup's grid
placed-stands : (setup : Setup) (hour : HourState) (caller : ℕ) (given : Command) → IsPlaced setup hour caller given → IsHourOf (graph_of setup) hour.board.hour hour.settled
placed-stands setup hour caller given placed =
    subst (λ g. IsHourOf g hour.board.hour hour.settled) (sym placed.over)
    (subst (IsHourOf hour.board.grid hour.board.hour) placed.unplanned.events placed.board.stands)

module _ (setup : Setup) (hour : HourState) (caller : ℕ) (given : Command) (can : CanChange setup hour caller given) where
  unplanned : IsUnplanned hour
  unplanned = can.placed.unplanned

  pub one-hour : hours_concerned given ≡ hour.board.hour ∷ []
  one-hour = concerned setup hour caller given can.placed can.early

  -- nothing is left to trade
  pub quiet : (graph : Graph) → graph ≡ hour.board.grid → IsSettled graph hour.board.hour hour.settled
  quiet graph over = subst (λ g. IsSettled g hour.board.hour hour.settled) (sym over) can.placed.quiet

  -- the hour goes on with an event of it alone that fits
  pub next : (e : Event) → IsOfHour hour.board.hour e → Fits setup hour.settled e → CanBeNext hour e
  next e own fits =
      subst (λ es. IsHourOf hour.board.grid hour.board.hour (and_then es e)) (sym unplanned.events)
      (subst (λ g. IsHourOf g hour.board.hour (and_then hour.settled e)) can.placed.over
      (goes-on setup hour.board.hour hour.settled e (placed-stands setup hour caller given can.placed) own fits))

  -- ---- commands that enter nothing

  pub not-refused : IsNoEntry given → (graph : Graph) → None ≡ first_broken (filling_rules graph hour.settled caller given)
  not-refused none graph = sym (no_entry-rules graph hour.settled caller given none)

  admitted : IsNoEntry given → IsAdmitted setup hour.settled caller given
  admitted none =
      refusal-none setup hour.settled caller given
      (let_in-refusal setup hour.settled caller given (let-in setup hour caller given can) ∙ no_entry-rules (graph_of setup) hour.settled caller given none)

  pub first-stands : IsNoEntry given → (e : Event) (rest : List Event) → events_done all_parts setup hour.settled caller given ≡ e ∷ rest → CanBeNext hour e
  first-stands none e rest is =
      let first = is-first setup hour.board.hour hour.settled caller given none (no-matching setup hour caller given can.placed can.early) one-hour (admitted none) e rest is in
      next e first.own first.fits

-- ---- an order enters

module _ (setup : Setup) (hour : HourState) (caller : ℕ) (order : Order) (can : CanChange setup hour caller (command.Enter order)) where
  pub order-hour : order.contract.hour ≡ hour.board.hour
  order-hour = let one = one-hour setup hour caller (command.Enter order) can in cc

  pub order-part : is_known order.contract.part ≡ true
  order-part =
      all-pass is_known (order.contract.part ∷ [])
      (naming-none setup caller (command.Enter order) (early-none setup caller (command.Enter order) can.early).naming).parts order.contract.part (inl refl)

  pub order-next : CanBeNext hour (entry_of hour caller order)
  order-next =
      subst (λ es. CanBeNext hour (event.Entered (next_name es hour.board.hour) caller order)) (sym can.placed.unplanned.events)
      (subst (λ h. CanBeNext hour (event.Entered (next_name hour.settled h) caller order)) order-hour
      (next setup hour caller (command.Enter order) can (event.Entered (name_of_next hour.settled order) caller order) order-hour
      (entering.orders setup hour.settled caller order can.early)))

  pub order-planned : (graph : Graph) (new : HourState) → graph ≡ hour.board.grid → new ≡ with_planned hour (enter all_parts graph caller order hour.settled)
      → new ≡ with_planned hour (events_done all_parts setup hour.settled caller (command.Enter order))
  unfolding events_done
  order-planned graph new over is = is ∙ ap (λ g. with_planned hour (enter all_parts g caller order hour.settled)) (over ∙ sym can.placed.over)

-- ---- an order or a block of the caller's is withdrawn, or an order reduced

module _ (setup : Setup) (hour : HourState) (caller : ℕ) (name : OrderName) where
  named : hours_concerned (command.Cancel name) ≡ hour.board.hour ∷ [] → name ≡ name_in hour name.number
  named one = told-number hour.board.hour name (cc)

  still-left : IsUnplanned hour → name ≡ name_in hour name.number → (own : Own) → own_of hour.board.events caller (name_in hour name.number) ≡ Some own
      → left hour.settled name ≡ left_of own
  still-left unplanned told own is =
      ap (left hour.settled) told ∙ ap (λ es. left es (name_in hour name.number)) (sym unplanned.events)
      ∙ sym (own-left hour.board.events caller (name_in hour name.number) own is)

  has-own : IsUnplanned hour → name ≡ name_in hour name.number → has_own hour.settled caller name ≡ true → has_own hour.board.events caller (name_in hour name.number) ≡ true
  has-own unplanned told has = ap (λ es. has_own es caller (name_in hour name.number)) unplanned.events ∙ ap (has_own hour.settled caller) (sym told) ∙ has

  module _ (can : CanChange setup hour caller (command.Cancel name)) where
    cancel-named : name ≡ name_in hour name.number
    cancel-named = named (one-hour setup hour caller (command.Cancel name) can)

    pub cancel-known : has_own hour.board.events caller (name_in hour name.number) ≡ true
    cancel-known = has-own can.placed.unplanned cancel-named (admitted setup hour caller (command.Cancel name) can tt).known

    cancel-event : (own : Own) → own_of hour.board.events caller (name_in hour name.number) ≡ Some own
        → events_done all_parts setup hour.settled caller (command.Cancel name) ≡ withdrawal_of hour name.number (left_of own) ∷ []
    unfolding events_done
    cancel-event own is =
        ap (λ n. event.Withdrawn n (left hour.settled name) ∷ []) cancel-named
        ∙ ap (λ lots. event.Withdrawn (name_in hour name.number) lots ∷ []) (still-left can.placed.unplanned cancel-named own is)

    pub cancel-next : (own : Own) → own_of hour.board.events caller (name_in hour name.number) ≡ Some own → CanBeNext hour (withdrawal_of hour name.number (left_of own))
    cancel-next own is =
        first-stands setup hour caller (command.Cancel name) can tt (withdrawal_of hour name.number (left_of own)) [] (cancel-event own is)

    pub cancel-planned : (own : Own) (new : HourState) → own_of hour.board.events caller (name_in hour name.number) ≡ Some own
        → new ≡ after_event hour (withdrawal_of hour name.number (left_of own)) None
        → new ≡ with_planned hour (events_done all_parts setup hour.settled caller (command.Cancel name))
    cancel-planned own new is after =
        one-planned hour new (withdrawal_of hour name.number (left_of own)) (events_done all_parts setup hour.settled caller (command.Cancel name)) can.placed.unplanned (cancel-event own is) after

  module _ (to : ℕ) (can : CanChange setup hour caller (command.Reduce name to)) where
    reduce-named : name ≡ name_in hour name.number
    reduce-named = named (one-hour setup hour caller (command.Reduce name to) can)

    known : not (is_none (own_limit hour.settled caller name)) ≡ true
    known = (admitted setup hour caller (command.Reduce name to) can tt).known

    pub reduce-known : has_own hour.board.events caller (name_in hour name.number) ≡ true
    reduce-known = has-own can.placed.unplanned reduce-named (limit-own hour.settled caller name known)

    pub reduce-below : (own : Own) → own_of hour.board.events caller (name_in hour name.number) ≡ Some own → to < left_of own
    reduce-below own is =
        subst (λ lots. to < lots) (still-left can.placed.unplanned reduce-named own is)
        (below-left hour.settled caller name to known (admitted setup hour caller (command.Reduce name to) can tt).reduces)

    reduce-event : (own : Own) → own_of hour.board.events caller (name_in hour name.number) ≡ Some own
        → events_done all_parts setup hour.settled caller (command.Reduce name to) ≡ reduction_of hour name.number (left_of own - to) ∷ []
    unfolding events_done
    reduce-event own is =
        ap (λ n. event.Reduced n (left hour.settled name - to) ∷ []) reduce-named
        ∙ ap (λ lots. event.Reduced (name_in hour name.number) (lots - to) ∷ []) (still-left can.placed.unplanned reduce-named own is)

    pub reduce-next : (own : Own) → own_of hour.board.events caller (name_in hour name.number) ≡ Some own → CanBeNext hour (reduction_of hour name.number (left_of own - to))
    reduce-next own is =
        first-stands setup hour caller (command.Reduce name to) can tt (reduction_of hour name.number (left_of own - to)) [] (reduce-event own is)

    pub reduce-planned : (own : Own) (new : HourState) → own_of hour.board.events caller (name_in hour name.number) ≡ Some own
        → new ≡ after_event hour (reduction_of hour name.number (left_of own - to)) None
        → new ≡ with_planned hour (events_done all_parts setup hour.settled caller (command.Reduce name to))
    reduce-planned own new is after =
        one-planned hour new (reduction_of hour name.number (left_of own - to)) (events_done all_parts setup hour.settled caller (command.Reduce name to)) can.placed.unplanned (reduce-event own is) after

-- ---- a gate

module _ (setup : Setup) (hour : HourState) (caller gated : ℕ) (asked : Phase) (can : CanChange setup hour caller (command.Gate gated asked)) where
  gate-hour : gated ≡ hour.board.hour
  gate-hour = let one = one-hour setup hour caller (command.Gate gated asked) can in cc

  gate-event : events_done all_parts setup hour.settled caller (command.Gate gated asked)
      ≡ event.Gated gated asked ∷ (withdrawals hour.settled gated asked
      ++ sweeps all_parts (graph_of setup) (gated ∷ []) (hour.settled ++ (event.Gated gated asked ∷ withdrawals hour.settled gated asked)))
  unfolding events_done
  gate-event = refl

  pub gate-next : CanBeNext hour (gate_of hour asked)
  gate-next =
      subst (λ h. CanBeNext hour (event.Gated h asked)) gate-hour
      (first-stands setup hour caller (command.Gate gated asked) can tt (event.Gated gated asked) _ gate-event)

  pub gate-planned : (new : HourState) → new ≡ with_planned hour (gate all_parts hour.board.grid hour.board.hour asked hour.settled)
      → new ≡ with_planned hour (events_done all_parts setup hour.settled caller (command.Gate gated asked))
  unfolding events_done
  gate-planned new is =
      is ∙ ap (λ g. with_planned hour (gate all_parts g hour.board.hour asked hour.settled)) (sym can.placed.over)
      ∙ ap (λ h. with_planned hour (gate all_parts (graph_of setup) h asked hour.settled)) (sym gate-hour)

-- ---- a view

pub view-planned : (setup : Setup) (hour : HourState) (caller : ℕ) (contract : Contract) (side : Side) (zone : ℕ)
    → events_done all_parts setup hour.settled caller (command.View contract side zone) ≡ []
unfolding events_done
view-planned setup hour caller contract side zone = refl
