-- Where no leg of an order that entered went over an arc whose opposite arc had no room, nothing of its
-- hour is to be swept.
use Rattle.std.proofs.Common.{◌≡◌, ◌∙◌, inl, inr, ℕ, zero, suc, Bool, true, false, List, [], ◌∷◌, ◌++◌, drop, length, Option, Some, None, refl, sym, ap, subst}
use Rattle.std.proofs.Math.Seq.{drop-append_seam}
use Rattle.std.proofs.lemmas.Bool.{true≢false}
use Rattle.order_kinds.specs.declared.contract.Contract.{Contract}
use Rattle.order_kinds.specs.declared.contract.Part.{Part}
use Rattle.order_kinds.specs.declared.order.Order.{Order}
use Rattle.order_kinds.specs.declared.order.OrderName.{OrderName}
use Rattle.order_kinds.specs.Period.{contract_quarters}
use Rattle.order_kinds.specs.Same.{same_contract}
use Rattle.zone_graph.specs.declared.route.Arc.{Arc}
use Rattle.zone_graph.specs.Graph.{Graph, HasArc}
use Rattle.zone_graph.specs.Rooms.{room_of}
use Rattle.zone_graph.specs.Route.{IsIn}
use Rattle.zone_graph.specs.Steps.{step_and_onward, steps}
use Rattle.zone_graph.proofs.Membership.{IsIn-left}
use Rattle.market_model.specs.declared.event.Event.{Event}
use Rattle.market_model.specs.declared.event.Event.TheVariants as event
use Rattle.market_model.specs.declared.setup.Setup.{Setup}
use Rattle.market_model.specs.Board.{BoardState}
use Rattle.market_model.specs.History.{and_then}
use Rattle.market_model.specs.Entering.{legs_taken, name_of_next, rest_of, rest_withdrawn}
use Rattle.market_model.specs.Grid.{graph_of}
use Rattle.market_model.specs.Room.{room}
use Rattle.market_model.specs.Sweep.{all_parts, first_answer, left_in_hour, leg_in, or_else, sweep, sweep_leg}
use Rattle.market_model.specs.WellFormed.{FitAfter, IsMarketSetup, OrderEnters}
use Rattle.laws_of_market.proofs.Lines.{same_contract-refl}
use Rattle.laws_of_market.proofs.Tests.{same_contract-eq}
use Rattle.laws_of_market.proofs.LocalEntries.{before_sweep-named, legs_taken-agree, rest_of-agree}
use Rattle.laws_of_market.proofs.LocalLines.{contract-hours, sweep_leg-agree}
use Rattle.laws_of_market.proofs.LocalStates.{Agree, agree-append, room-agree}
use Rattle.laws_of_boards.specs.Settled.{IsSettled}
use Rattle.sweep_core.specs.Sweeping.{hour_sweep}
use Rattle.kept_hour.specs.State.{HourState}
use Rattle.desk_entering.specs.Entries.{Enters, HasEnded, ended_events}
use Rattle.desk_entering.specs.Opening.{any_opens, opens, planned_events}
use Rattle.desk_entering.proofs.Entry as entries
use Rattle.desk_entering.proofs.Parts.{ended-is, own_events}
use Rattle.desk_entering.proofs.Opened.{none-opens, other-ended, own-ended}

-- ---- the leg of a contract depends on its hour alone

or_else-none : (o : Option Event) → or_else o (λ _. None) ≡ o
or_else-none None = refl
or_else-none (Some e) = refl

leg_in-agree : (graph : Graph) (hours : List ℕ) (a b : List Event) → Agree hours a b → (contract : Contract) → IsIn contract.hour hours
    → leg_in graph a contract ≡ leg_in graph b contract
unfolding sweep_leg
leg_in-agree graph hours a b agree contract i =
    sym (or_else-none (leg_in graph a contract)) ∙ sweep_leg-agree hours a b agree (contract.part ∷ []) graph contract.hour i ∙ or_else-none (leg_in graph b contract)

-- ---- an hour none of whose contracts has a leg

first-none : {X Y : Type 0} (ask : X → Option Y) (xs : List X) → ((x : X) → ask x ≡ None) → first_answer ask xs ≡ None
first-none ask [] none = refl
first-none ask (x ∷ xs) none = ap (λ o. or_else o (λ _. first_answer ask xs)) (none x) ∙ first-none ask xs none

still : (most : ℕ) (step : List Event → Option Event) (events : List Event) → step events ≡ None → steps most step and_then events ≡ []
unfolding steps
still zero step events none = refl
still (suc most) step events none = ap (λ o. step_and_onward o (λ e. steps most step and_then (and_then events e))) none

nothing-swept : (board : BoardState) → ((part : Part) → leg_in board.grid board.events (record { hour = board.hour; part = part }) ≡ None) → hour_sweep board ≡ []
unfolding sweep sweep_leg
nothing-swept board none =
    still (left_in_hour board.events board.hour) (sweep_leg all_parts board.grid board.hour) board.events
    (first-none (λ part. leg_in board.grid board.events (record { hour = board.hour; part = part })) all_parts none)

-- ---- an order that enters an hour

module _ (graph : Graph) (hour : ℕ) (events : List Event) (caller : ℕ) (order : Order) (can : Enters graph hour events caller order) where
  abbrev hours : List ℕ
  hours = hour ∷ []

  abbrev setup : Setup
  setup = entries.setup graph hour events caller order can

  abbrev history : List Event
  history = entries.history graph hour events caller order can

  agree : Agree hours events history
  agree = entries.agree graph hour events caller order can

  in_hours : IsIn order.contract.hour hours
  in_hours = entries.in_hours graph hour events caller order can

  own-same : (g : Graph) → own_events g events caller order ≡ own_events g history caller order
  own-same g =
      let of : OrderName → List Event → ℕ → List Event =
      λ n legs rest. ((event.Entered n caller order ∷ []) ++ legs) ++ rest_withdrawn order.kind n rest in
      ap (λ n. of n (legs_taken g events caller order) (rest_of g events caller order)) (entries.same_name graph hour events caller order can)
      ∙ ap (λ legs. of (name_of_next history order) legs (rest_of g events caller order)) (legs_taken-agree hours events history agree g caller order in_hours)
      ∙ ap (λ rest. of (name_of_next history order) (legs_taken g history caller order) rest) (rest_of-agree hours events history agree g caller order in_hours)

  agree-ended : (g : Graph) → Agree hours (ended_events g events caller order) (ended_events g history caller order)
  agree-ended g =
      subst (λ es. Agree hours es (ended_events g history caller order)) (sym (ended-is g events caller order))
      (subst (Agree hours (events ++ own_events g events caller order)) (sym (ended-is g history caller order ∙ ap (λ es. history ++ es) (sym (own-same g))))
      (agree-append hours events history (own_events g events caller order) agree (before_sweep-named hours events history agree g caller order in_hours)))

  -- what the rooms of its part say of each arc
  abbrev pub AreItsRooms : (Arc → ℕ) → Graph → Type 0
  AreItsRooms rooms g = (arc : Arc) → HasArc g arc → rooms arc ≡ room events (contract_quarters order.contract) arc

  abbrev pub OpensNone : (Arc → ℕ) → Graph → Type 0
  OpensNone rooms g = (e : Event) → IsIn e (legs_taken g events caller order) → opens rooms e ≡ false

  module _ (rooms : Arc → ℕ) (same : AreItsRooms rooms (graph_of setup)) (none : OpensNone rooms (graph_of setup))
      (contract : Contract) (in_hour : contract.hour ≡ hour)
      (quiet : leg_in (graph_of setup) events contract ≡ None) where
    g : Graph
    g = graph_of setup

    enters : OrderEnters setup history (name_of_next history order) caller order
    enters = entries.enters_history graph hour events caller order can

    fit : FitAfter setup [] history
    fit = (entries.is_in graph hour events caller order can).fit

    is_setup : IsMarketSetup setup
    is_setup = (entries.is_in graph hour events caller order can).is_setup

    was : leg_in (graph_of setup) history contract ≡ None
    was = sym (leg_in-agree (graph_of setup) hours events history agree contract (inl in_hour)) ∙ quiet

    same-there : (arc : Arc) → HasArc (graph_of setup) arc → rooms arc ≡ room history (contract_quarters order.contract) arc
    same-there arc has =
        same arc has
        ∙ ap (λ (r : Arc → ℕ). r arc) (room-agree hours events history agree (contract_quarters order.contract) (contract-hours hours order.contract in_hours))

    none-there : (e : Event) → IsIn e (legs_taken (graph_of setup) history caller order) → opens rooms e ≡ false
    none-there e i = none e (subst (IsIn e) (sym (legs_taken-agree hours events history agree (graph_of setup) caller order in_hours)) i)

    ended-there : leg_in (graph_of setup) (ended_events (graph_of setup) history caller order) contract ≡ None
    ended-there = by (same_contract order.contract contract) refl
      where
        by : (b : Bool) → same_contract order.contract contract ≡ b → leg_in (graph_of setup) (ended_events (graph_of setup) history caller order) contract ≡ None
        by true is =
            let its : order.contract ≡ contract = same_contract-eq order.contract contract is in
            subst (λ c. leg_in (graph_of setup) (ended_events (graph_of setup) history caller order) c ≡ None) its
            (own-ended setup is_setup history fit caller order enters (subst (λ c. leg_in (graph_of setup) history c ≡ None) (sym its) was))
        by false is =
            other-ended setup is_setup history fit caller order enters rooms same-there none-there contract
            (λ its. true≢false (sym (subst (λ c. same_contract order.contract c ≡ true) its (same_contract-refl order.contract)) ∙ is)) was

    quiet-over : leg_in (graph_of setup) (ended_events (graph_of setup) events caller order) contract ≡ None
    quiet-over =
        leg_in-agree (graph_of setup) hours (ended_events (graph_of setup) events caller order) (ended_events (graph_of setup) history caller order)
        (agree-ended (graph_of setup)) contract (inl in_hour)
        ∙ ended-there

  -- no contract of the hour has a leg, where none had
  pub quiet-after : (rooms : Arc → ℕ) → AreItsRooms rooms graph → OpensNone rooms graph → (contract : Contract) → contract.hour ≡ hour
      → leg_in graph events contract ≡ None → leg_in graph (ended_events graph events caller order) contract ≡ None
  quiet-after rooms =
      subst (λ g. AreItsRooms rooms g → OpensNone rooms g → (contract : Contract) → contract.hour ≡ hour
      → leg_in g events contract ≡ None → leg_in g (ended_events g events caller order) contract ≡ None)
      (entries.next_event graph hour events caller order can).over_grid
      (λ same none contract in_hour quiet. quiet-over rooms same none contract in_hour quiet)

-- ---- a kept hour

module _ (hour : HourState) (caller : ℕ) (order : Order) (ended : HasEnded hour caller order) where
  abbrev its_events : List Event
  its_events = own_events hour.board.grid hour.settled caller order

  planned-are : planned_events hour ≡ its_events
  planned-are =
      ap (drop (length hour.settled)) (ended.events ∙ ended-is hour.board.grid hour.settled caller order)
      ∙ drop-append_seam hour.settled its_events

  legs-planned : (e : Event) → IsIn e (legs_taken hour.board.grid hour.settled caller order) → IsIn e (planned_events hour)
  legs-planned e i =
      let legs : List Event = legs_taken hour.board.grid hour.settled caller order in
      let rest : List Event = rest_withdrawn order.kind (name_of_next hour.settled order) (rest_of hour.board.grid hour.settled caller order) in
      let entry : Event = event.Entered (name_of_next hour.settled order) caller order in
      subst (IsIn e) (sym planned-are) (IsIn-left e (entry ∷ legs) rest (inr i))

  pub nothing-to-sweep : (rooms : List (ℕ × ℕ)) → ((arc : Arc) → HasArc hour.board.grid arc → room_of rooms arc ≡ room hour.settled (contract_quarters order.contract) arc)
      → IsSettled hour.board.grid hour.board.hour hour.settled → any_opens (room_of rooms) (planned_events hour) ≡ false → hour_sweep hour.board ≡ []
  nothing-to-sweep rooms same settled shut =
      nothing-swept hour.board (λ part.
      subst (λ es. leg_in hour.board.grid es (record { hour = hour.board.hour; part = part }) ≡ None) (sym ended.events)
      (quiet-after hour.board.grid hour.board.hour hour.settled caller order ended.enters (room_of rooms) same
      (λ e i. none-opens (room_of rooms) (planned_events hour) shut e (legs-planned e i))
      (record { hour = hour.board.hour; part = part }) refl (settled.no_leg part)))
