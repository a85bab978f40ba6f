-- A contract of an hour is quiet again when an order of it has taken what it could, by the events of the
-- hour alone.
use Rattle.std.proofs.Common.{◌≡◌, ◌∙◌, inl, inr, ℕ, List, [], ◌∷◌, ◌++◌, Option, Some, None, refl, sym, ap, subst}
use Rattle.order_kinds.specs.declared.contract.Contract.{Contract}
use Rattle.order_kinds.specs.declared.order.Order.{Order}
use Rattle.order_kinds.specs.declared.order.OrderName.{OrderName}
use Rattle.zone_graph.specs.Graph.{Graph}
use Rattle.zone_graph.specs.Route.{IsIn}
use Rattle.zone_graph.specs.Steps.{IsRun}
use Rattle.market_model.specs.declared.event.Event.{Event}
use Rattle.market_model.specs.declared.event.Event.TheVariants as event
use Rattle.market_model.specs.declared.setup.Setup.{Setup}
use Rattle.market_model.specs.Grid.{graph_of}
use Rattle.market_model.specs.History.{and_then}
use Rattle.market_model.specs.Sweep.{leg_in, or_else, sweep_leg}
use Rattle.market_model.specs.Taking.{IsTaking, next_leg}
use Rattle.market_model.specs.WellFormed.{FitAfter, IsMarketSetup, OrderEnters}
use Rattle.laws_of_market.proofs.LastOfHour.{before-last}
use Rattle.laws_of_market.proofs.LocalLines.{next_leg-agree, next_leg-named, sweep_leg-agree}
use Rattle.laws_of_market.proofs.NamedByHour.{AreNamedByHour, IsNamedByHour, named-more}
use Rattle.laws_of_market.proofs.LocalStates.{Agree, agree-append, agree-more}
use Rattle.laws_of_boards.specs.Quiet.{TakersOfAnHourLeaveTheirContractQuiet}
use Rattle.laws_of_boards.proofs.Taking.{taker-quiet}

or_else-none : (o : Option Event) → or_else o (λ u. None) ≡ o
or_else-none None = refl
or_else-none (Some e) = refl

module _ (graph : Graph) (hours : List ℕ) where
  -- the leg of a contract depends on its hour alone
  leg_in-agree : (a b : List Event) → Agree hours a b → (contract : Contract) → IsIn contract.hour hours → leg_in graph a contract ≡ leg_in graph b contract
  unfolding sweep_leg
  leg_in-agree a b agree contract i =
      sym (or_else-none (leg_in graph a contract)) ∙ sweep_leg-agree hours a b agree (contract.part ∷ []) graph contract.hour i ∙ or_else-none (leg_in graph b contract)

  -- and so do the legs of an order
  run-agree : (a b : List Event) → Agree hours a b → (name : OrderName) → IsIn name.hour hours → (legs : List Event)
      → IsRun (next_leg graph name) and_then a legs → IsRun (next_leg graph name) and_then b legs
  run-agree a b agree name i [] run = sym (next_leg-agree hours a b agree graph name i) ∙ run
  run-agree a b agree name i (e ∷ legs) run = (
    sym (next_leg-agree hours a b agree graph name i) ∙ run.0,
    run-agree (and_then a e) (and_then b e) (agree-more hours a b e agree (next_leg-named graph name a e agree.named_a run.0)) name i legs run.1,
  )

  -- which are named by the hour
  run-named : (a : List Event) → AreNamedByHour a → (name : OrderName) (legs : List Event) → IsRun (next_leg graph name) and_then a legs → AreNamedByHour legs
  run-named a named name [] run = λ f i. absurd i
  run-named a named name (e ∷ legs) run =
      let own = next_leg-named graph name a e named run.0 in
      λ f i. elim i [
        | inl same ↦ subst IsNamedByHour (sym same) own
        | inr later ↦ run-named (and_then a e) (named-more a e named own) name legs run.1 f later
      ]

-- after a history that agrees with the events of the hour
quiet-agree : (setup : Setup) → IsMarketSetup setup → (hour : ℕ) (before history : List Event) → FitAfter setup [] history → Agree (hour ∷ []) before history
    → (name : OrderName) (caller : ℕ) (order : Order) (legs : List Event) → OrderEnters setup history name caller order → order.contract.hour ≡ hour
    → IsTaking (graph_of setup) (and_then before (event.Entered name caller order)) name legs → leg_in (graph_of setup) before order.contract ≡ None
    → leg_in (graph_of setup) (and_then before (event.Entered name caller order) ++ legs) order.contract ≡ None
quiet-agree setup is_setup hour before history fit agree name caller order legs fits in_hour run quiet =
    let graph = graph_of setup in
    let e : Event = event.Entered name caller order in
    let own : name.hour ≡ order.contract.hour = ap (λ (n : OrderName). n.hour) fits.named in
    let agree_entered = agree-more (hour ∷ []) before history e agree own in
    let agree_taken = agree-append (hour ∷ []) (and_then before e) (and_then history e) legs agree_entered
    (run-named graph (hour ∷ []) (and_then before e) agree_entered.named_a name legs run) in
    leg_in-agree graph (hour ∷ []) (and_then before e ++ legs) (and_then history e ++ legs) agree_taken order.contract (inl in_hour)
    ∙ taker-quiet setup history name caller order legs is_setup fit fits
    (run-agree graph (hour ∷ []) (and_then before e) (and_then history e) agree_entered name (inl (own ∙ in_hour)) legs run)
    (sym (leg_in-agree graph (hour ∷ []) before history agree order.contract (inl in_hour)) ∙ quiet)

pub hour-quiet : TakersOfAnHourLeaveTheirContractQuiet
hour-quiet graph hour before name caller order legs stands in_hour run quiet =
    let setup = stands.setup in
    let e : Event = event.Entered name caller order in
    let last = before-last setup hour stands.history before e stands.fit stands.in_hour in
    let fits : OrderEnters setup last.history name caller order = last.fits in
    subst (λ g. IsTaking g (and_then before e) name legs → leg_in g before order.contract ≡ None → leg_in g (and_then before e ++ legs) order.contract ≡ None) stands.over_grid
    (quiet-agree setup stands.is_setup hour before last.history last.fit last.agree name caller order legs fits in_hour) run quiet
