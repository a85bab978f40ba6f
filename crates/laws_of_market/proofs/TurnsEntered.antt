-- The legs of takings, of sweeps, of replies and of journals are in their turn.
use Rattle.std.proofs.Common.{◌≡◌, inl, inr, ℕ, List, [], ◌∷◌, ◌++◌, sym, subst, arith}
use Rattle.order_kinds.specs.declared.contract.Contract.{Contract}
use Rattle.order_kinds.specs.declared.contract.Part.{Part}
use Rattle.order_kinds.specs.declared.order.OrderName.{OrderName}
use Rattle.zone_graph.specs.Graph.{Graph}
use Rattle.zone_graph.specs.Route.{IsIn}
use Rattle.market_model.specs.declared.command.Command.{Command}
use Rattle.market_model.specs.declared.event.Event.{Event}
use Rattle.market_model.specs.declared.event.Event.TheVariants as event
use Rattle.market_model.specs.declared.event.Leg.{Leg}
use Rattle.market_model.specs.declared.setup.Setup.{Setup}
use Rattle.market_model.specs.Grid.{graph_of}
use Rattle.market_model.specs.History.{events_of, journal_events}
use Rattle.market_model.specs.Market.{Turn, reply_by, run_by}
use Rattle.market_model.specs.Orders.{Placed, left, placed}
use Rattle.market_model.specs.Sweep.{left_in_hour, sweep, sweep_leg}
use Rattle.market_model.specs.Taking.{next_leg, take}
use Rattle.market_model.specs.WellFormed.{IsHistory, IsMarketSetup}
use Rattle.laws_of_market.proofs.Growing.{fit-back}
use Rattle.laws_of_market.proofs.Journals.{run-keeps}
use Rattle.laws_of_market.proofs.Names.{times_entered}
use Rattle.laws_of_market.proofs.Replies.{reply-history}
use Rattle.laws_of_market.specs.QueueOrder.{IsOfFirstBuy}
use Rattle.laws_of_market.proofs.Holding.{HoldAfter, hold-append, hold-at, hold-fit, hold-steps}
use Rattle.laws_of_market.proofs.InTurn.{IsFirstTurn, IsTurn, next_leg-turn, sweep_leg-turn}
use Rattle.laws_of_market.proofs.MomentsKept.{given_order}
use Rattle.laws_of_market.proofs.MomentsMade.{IsMade, reply-made}

pub take-turns : (graph : Graph) (events : List Event) (name : OrderName) → HoldAfter (IsTurn graph) events (take graph events name)
unfolding take
take-turns graph events name =
    hold-steps (IsTurn graph) (left events name) (next_leg graph name) (λ before e is. next_leg-turn graph before name e is) events

pub sweep-turns : (graph : Graph) (parts : List Part) (hour : ℕ) (events : List Event) → HoldAfter (IsFirstTurn graph) events (sweep parts graph hour events)
unfolding sweep
sweep-turns graph parts hour events =
    hold-steps (IsFirstTurn graph) (left_in_hour events hour) (sweep_leg parts graph hour) (λ before e is. sweep_leg-turn graph before parts hour e is) events

-- what is made by a taking or a sweep is in its turn
made-turn : (parts : List Part) (graph : Graph) (start before : List Event) (e : Event) → IsMade parts graph start before e → IsTurn graph before e
made-turn parts graph start before (event.Leg contract leg) made = elim made [
  | inl taken ↦ next_leg-turn graph before leg.taker (event.Leg contract leg) taken.1
  | inr swept ↦ (sweep_leg-turn graph before parts swept.0 (event.Leg contract leg) swept.1).in_turn
]
made-turn parts graph start before (event.Entered given caller order) made = tt
made-turn parts graph start before (event.EnteredBlock given caller order) made = tt
made-turn parts graph start before (event.BlockLeg first last leg) made = tt
made-turn parts graph start before (event.Granted arc first last lots) made = tt
made-turn parts graph start before (event.Offered arc first last lots) made = tt
made-turn parts graph start before (event.Halted border first last) made = tt
made-turn parts graph start before (event.Resumed border first last) made = tt
made-turn parts graph start before (event.Gated gated asked) made = tt
made-turn parts graph start before (event.Withdrawn given lots) made = tt
made-turn parts graph start before (event.Reduced given by) made = tt

module _ (setup : Setup) (is_setup : IsMarketSetup setup) (parts : List Part) where
  abbrev graph : Graph
  graph = graph_of setup

  -- the events of a reply are so made
  pub made : (events : List Event) (caller : ℕ) (given : Command) → IsHistory setup events
      → HoldAfter (IsMade parts graph events) events (events_of (reply_by parts setup events caller given))
  made events caller given history = reply-made setup parts events caller given (reply-history setup is_setup parts events caller history given).fit

  pub reply-turns : (events : List Event) (caller : ℕ) (given : Command) → IsHistory setup events
      → HoldAfter (IsTurn graph) events (events_of (reply_by parts setup events caller given))
  reply-turns events caller given history =
      hold-fit setup (IsMade parts graph events) (IsTurn graph) (λ b e fit is. made-turn parts graph events b e is) events (events_of (reply_by parts setup events caller given))
      history.fit (fit-back setup [] events (events_of (reply_by parts setup events caller given)) (reply-history setup is_setup parts events caller history given).fit)
      (made events caller given history)

  -- a leg whose taker was there before is of the first buy
  pub resting-first : (events : List Event) (caller : ℕ) (given : Command) → IsHistory setup events → (before after : List Event) (contract : Contract) (leg : Leg) (taker : Placed)
      → events_of (reply_by parts setup events caller given) ≡ before ++ (event.Leg contract leg ∷ after) → IsIn taker (placed events) → taker.name ≡ leg.taker
      → IsOfFirstBuy graph (events ++ before) contract leg
  resting-first events caller given history before after contract leg taker is there named =
      elim (hold-at (IsMade parts graph events) events before (event.Leg contract leg) after
      (subst (HoldAfter (IsMade parts graph events) events) is (made events caller given history))) [
        | inl taken ↦
            let some = given_order events taker there in
            let none : times_entered events taker.name ≡ 0 = subst (λ n. times_entered events n ≡ 0) (sym named) taken.0 in
            absurd (omega (arith, some, none))
        | inr swept ↦ sweep_leg-turn graph (events ++ before) parts swept.0 (event.Leg contract leg) swept.1
      ]

  -- the legs of a journal are in their turn
  pub run-turns : (turns : List Turn) → HoldAfter (IsTurn graph) [] (journal_events (run_by parts setup turns))
  run-turns turns = run-keeps setup is_setup parts (HoldAfter (IsTurn graph) [])
      (λ events caller given history so_far. hold-append (IsTurn graph) [] events (events_of (reply_by parts setup events caller given)) so_far (reply-turns events caller given history))
      tt turns
