-- Nothing is left to trade in an hour once something is planned there.
use Rattle.std.proofs.Common.{◌≡◌, ◌∙◌, ℕ, List, [], ◌∷◌, ◌++◌, append_assoc, Option, Some, None, refl, sym, ap, subst}
use Rattle.std.proofs.lemmas.List.{append-nil}
use Rattle.order_kinds.specs.declared.side.Side.TheVariants.{Buy}
use Rattle.zone_graph.specs.declared.route.Arc.{Arc}
use Rattle.zone_graph.specs.Graph.{Graph}
use Rattle.zone_graph.specs.Grid.{arc_between}
use Rattle.market_model.specs.declared.command.Command.{Command}
use Rattle.market_model.specs.declared.command.Command.TheVariants as command
use Rattle.market_model.specs.declared.event.Event.{Event}
use Rattle.market_model.specs.declared.event.Event.TheVariants as event
use Rattle.market_model.specs.declared.refusal.Refusal.{Refusal}
use Rattle.market_model.specs.declared.setup.Setup.{Setup}
use Rattle.market_model.specs.Board.{IsBoard, IsHourOf}
use Rattle.market_model.specs.Entering.{enter, legs_taken, name_of_next, rest_of, rest_withdrawn}
use Rattle.market_model.specs.Grid.{graph_of}
use Rattle.market_model.specs.History.{events_of}
use Rattle.market_model.specs.Market.{events_done, on_arc, refused_or, reply_by, reply_let_in, reply_to, withdrawals}
use Rattle.market_model.specs.Refusals.{refusal_of_command}
use Rattle.market_model.specs.Rules.{early_refusal, hours_concerned}
use Rattle.market_model.specs.Sweep.{all_parts, sweep, sweeps}
use Rattle.laws_of_market.proofs.Trades.{from_line}
use Rattle.laws_of_hours.proofs.NextEvents.{first_of_many}
use Rattle.laws_of_boards.specs.Settled.{IsSettled}
use Rattle.laws_of_boards.proofs.Settling.{settled-apart, settled-reduced, settled-swept, settled-withdrawn}
use Rattle.desk_changes.specs.Planned.{with_planned}
use Rattle.desk_changes.specs.State.{HourState}
use Rattle.hour_desk.specs.Placed.{IsPlaced}
use Rattle.hour_desk.proofs.Touching.{concerned, no-basket, no-block, no-matching}

-- in an hour without events
pub empty-settled : (graph : Graph) (hour : ℕ) → IsSettled graph hour []
empty-settled graph hour = settled-apart graph hour [] (λ part buy sell i j. absurd (from_line [] (record { hour = hour; part = part }) Buy buy i).is_open.is_placed)

module _ (graph : Graph) (hour : ℕ) (events : List Event) where
  -- after some events and then the sweep of the hour
  pub swept : (first : List Event) → IsHourOf graph hour (events ++ (first ++ sweep all_parts graph hour (events ++ first)))
      → IsSettled graph hour (events ++ (first ++ sweep all_parts graph hour (events ++ first)))
  swept first stands =
      let legs : List Event = sweep all_parts graph hour (events ++ first) in
      let whole = append_assoc events first legs in
      subst (IsSettled graph hour) whole
      (settled-swept graph hour (events ++ first) (first_of_many graph hour (events ++ first) legs (subst (IsHourOf graph hour) (sym whole) stands)))

  -- the same, of the only one of some hours
  swept-alone : (hours : List ℕ) (first : List Event) → hours ≡ hour ∷ [] → IsHourOf graph hour (events ++ (first ++ sweeps all_parts graph hours (events ++ first)))
      → IsSettled graph hour (events ++ (first ++ sweeps all_parts graph hours (events ++ first)))
  swept-alone hours first one stands =
      let legs : sweeps all_parts graph hours (events ++ first) ≡ sweep all_parts graph hour (events ++ first) =
      ap (λ hs. sweeps all_parts graph hs (events ++ first)) one ∙ append-nil (sweep all_parts graph hour (events ++ first)) in
      subst (λ es. IsSettled graph hour (events ++ (first ++ es))) (sym legs) (swept first (subst (λ es. IsHourOf graph hour (events ++ (first ++ es))) legs stands))

  on-arc : IsSettled graph hour events → (o : Option Arc) (happening : Arc → List Event) → IsHourOf graph hour (events ++ on_arc o happening)
      → ((arc : Arc) → IsHourOf graph hour (events ++ happening arc) → IsSettled graph hour (events ++ happening arc)) → IsSettled graph hour (events ++ on_arc o happening)
  on-arc settled None happening stands each = subst (IsSettled graph hour) (sym (append-nil events)) settled
  on-arc settled (Some arc) happening stands each = each arc stands

-- after what a command does that touches the hour alone
module _ (setup : Setup) (hour : HourState) (caller : ℕ) where
  abbrev graph : Graph
  graph = graph_of setup

  abbrev number : ℕ
  number = hour.board.hour

  abbrev Quiet : List Event → Type 0
  Quiet events = IsHourOf graph number (hour.settled ++ events) → IsSettled graph number (hour.settled ++ events)

  done : (given : Command) → IsPlaced setup hour caller given → early_refusal setup caller given ≡ None → IsSettled graph number hour.settled
      → hours_concerned given ≡ number ∷ [] → Quiet (events_done all_parts setup hour.settled caller given)
  unfolding events_done enter
  done (command.Enter order) placed early settled one stands =
      let here : order.contract.hour ≡ number = cc in
      let first : List Event = (event.Entered (name_of_next hour.settled order) caller order ∷ []) ++ legs_taken graph hour.settled caller order
      ++ rest_withdrawn order.kind (name_of_next hour.settled order) (rest_of graph hour.settled caller order) in
      subst (λ h. IsSettled graph number (hour.settled ++ (first ++ sweep all_parts graph h (hour.settled ++ first)))) (sym here)
      (swept graph number hour.settled first (subst (λ h. IsHourOf graph number (hour.settled ++ (first ++ sweep all_parts graph h (hour.settled ++ first)))) here stands))
  done (command.EnterBlock order) placed early settled one stands = absurd (no-block setup hour caller (command.EnterBlock order) placed early order refl)
  done (command.EnterBasket orders) placed early settled one stands = absurd (no-basket setup hour caller (command.EnterBasket orders) placed early orders refl)
  done (command.Blocks first last) placed early settled one stands = absurd (no-matching setup hour caller (command.Blocks first last) placed early first last refl)
  done (command.Cancel name) placed early settled one stands = settled-withdrawn graph number hour.settled name _ settled
  done (command.Reduce name to) placed early settled one stands = settled-reduced graph number hour.settled name _ settled
  done (command.Offer from to first last lots) placed early settled one stands = on-arc graph number hour.settled settled (arc_between graph from to) _ stands
      (λ arc. swept-alone graph number hour.settled _ (event.Offered arc first last lots ∷ []) one)
  done (command.Request from to first last lots) placed early settled one stands = on-arc graph number hour.settled settled (arc_between graph from to) _ stands
      (λ arc. swept-alone graph number hour.settled _ (event.Granted arc first last lots ∷ []) one)
  done (command.Halt from to first last) placed early settled one stands = on-arc graph number hour.settled settled (arc_between graph from to) _ stands
      (λ arc. swept-alone graph number hour.settled _ (event.Halted arc.border first last ∷ []) one)
  done (command.Resume from to first last) placed early settled one stands = on-arc graph number hour.settled settled (arc_between graph from to) _ stands
      (λ arc. swept-alone graph number hour.settled _ (event.Resumed arc.border first last ∷ []) one)
  done (command.Gate gated asked) placed early settled one stands =
      swept-alone graph number hour.settled (gated ∷ []) (event.Gated gated asked ∷ withdrawals hour.settled gated asked) one stands
  done (command.View contract side zone) placed early settled one stands = subst (IsSettled graph number) (sym (append-nil hour.settled)) settled

  answer-events : (given : Command) → events_of (reply_let_in all_parts setup hour.settled caller given) ≡ events_done all_parts setup hour.settled caller given
  unfolding events_done
  answer-events (command.View contract side zone) = refl
  answer-events given = refl

  replied : (given : Command) → IsPlaced setup hour caller given → early_refusal setup caller given ≡ None → Quiet (events_of (reply_to setup hour.settled caller given))
  unfolding reply_by
  replied given placed early = go (refusal_of_command setup hour.settled caller given)
    where
      settled : IsSettled graph number hour.settled
      settled = subst (λ g. IsSettled g number hour.settled) (sym placed.over) placed.quiet

      go : (o : Option Refusal) → Quiet (events_of (refused_or o (λ _. reply_let_in all_parts setup hour.settled caller given)))
      go (Some broken) stands = subst (IsSettled graph number) (sym (append-nil hour.settled)) settled
      go None stands = subst Quiet (sym (answer-events given)) (done given placed early settled (concerned setup hour caller given placed early)) stands

  -- so it is in the hour that plans the reply
  pub reply-quiet : (given : Command) (new : HourState) → IsPlaced setup hour caller given → early_refusal setup caller given ≡ None
      → new ≡ with_planned hour (events_of (reply_to setup hour.settled caller given)) → IsBoard new.board → IsSettled new.board.grid new.board.hour new.board.events
  reply-quiet given new placed early is board =
      let stands : IsHourOf hour.board.grid number (hour.settled ++ events_of (reply_to setup hour.settled caller given)) =
      subst (λ (h : HourState). IsHourOf h.board.grid h.board.hour h.board.events) is board.stands in
      subst (λ (h : HourState). IsSettled h.board.grid h.board.hour h.board.events) (sym is)
      (subst (λ g. IsSettled g number (hour.settled ++ events_of (reply_to setup hour.settled caller given))) placed.over
      (replied given placed early (subst (λ g. IsHourOf g number (hour.settled ++ events_of (reply_to setup hour.settled caller given))) (sym placed.over) stands)))

-- and in one that plans some events and then its sweep
pub swept-quiet : (hour new : HourState) (first : List Event) → new ≡ with_planned hour (first ++ sweep all_parts hour.board.grid hour.board.hour (hour.settled ++ first)) → IsBoard new.board
    → IsSettled new.board.grid new.board.hour new.board.events
swept-quiet hour new first is board =
    subst (λ (h : HourState). IsSettled h.board.grid h.board.hour h.board.events) (sym is)
    (swept hour.board.grid hour.board.hour hour.settled first (subst (λ (h : HourState). IsHourOf h.board.grid h.board.hour h.board.events) is board.stands))
