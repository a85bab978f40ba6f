-- What stays quiet in an hour after one more event of it, and that a quiet hour has no sweep.
use Rattle.std.proofs.Common.{◌≡◌, ◌∙◌, ◌⊎◌, inl, inr, ℕ, ◌<◌, false, List, [], ◌∷◌, Option, Some, None, refl, sym, ap, subst}
use Rattle.std.proofs.lemmas.List.{append-nil, append_cancel_left}
use Rattle.order_kinds.specs.declared.contract.Contract.{Contract}
use Rattle.order_kinds.specs.declared.contract.Part.{Part}
use Rattle.order_kinds.specs.declared.contract.Quarter.{Quarter}
use Rattle.order_kinds.specs.Contract.{part_at}
use Rattle.order_kinds.specs.Period.{contract_quarters}
use Rattle.zone_graph.specs.declared.route.Arc.{Arc}
use Rattle.zone_graph.specs.Graph.{Graph, HasArc}
use Rattle.market_model.specs.declared.event.Event.{Event}
use Rattle.market_model.specs.Board.{BoardState, IsHourOf}
use Rattle.market_model.specs.Grid.{graph_of}
use Rattle.market_model.specs.History.{and_then}
use Rattle.market_model.specs.Room.{room}
use Rattle.market_model.specs.Sweep.{all_parts, first_answer, leg_in, or_else, sweep, sweep_leg}
use Rattle.laws_of_market.proofs.LocalLines.{contract-hours, sweep_leg-agree}
use Rattle.laws_of_market.proofs.LocalStates.{Agree, room-agree}
use Rattle.laws_of_boards.specs.Fronts.{OpensNoArc}
use Rattle.laws_of_boards.specs.Quiet.{IsAside, raises}
use Rattle.laws_of_boards.proofs.Stays.{unopened-quiet}
use Rattle.laws_of_hours.specs.NextEvents.{IsNext}
use Rattle.laws_of_hours.proofs.NextEvents.{after, agrees, before, next}
use Rattle.sweep_core.specs.Sweeping.{order_numbers, part_leg, swept}
use Rattle.sweep_core.proofs.Progress.{begun, ended, next-is}
use Rattle.desk_changes.specs.Quiet.{HasNoLeg}
use Rattle.desk_changes.proofs.PartRooms.{unraised}

or_else-none : (o : Option Event) → or_else o (λ u. None) ≡ o
or_else-none None = refl
or_else-none (Some e) = refl

-- the leg of a part depends on the events of its hour alone
leg_in-agree : (graph : Graph) (hour : ℕ) (a b : List Event) → Agree (hour ∷ []) a b → (part : Part)
    → leg_in graph a (record { hour = hour; part = part }) ≡ leg_in graph b (record { hour = hour; part = part })
unfolding sweep_leg
leg_in-agree graph hour a b agree part =
    sym (or_else-none (leg_in graph a (record { hour = hour; part = part })))
    ∙ sweep_leg-agree (hour ∷ []) a b agree (part ∷ []) graph hour (inl refl)
    ∙ or_else-none (leg_in graph b (record { hour = hour; part = part }))

-- a part of an hour that had no leg has none after one more event of the hour that is aside of it, where
-- the event cannot raise the room of an arc, or the arc had room already if it has any
pub quiet-next : (graph : Graph) (hour : ℕ) (events : List Event) (e : Event) (part : Part) → IsHourOf graph hour (and_then events e)
    → let contract : Contract = record { hour = hour; part = part } in
    IsAside contract e
    → ((arc : Arc) → HasArc graph arc → ((quarter : Quarter) → raises e quarter arc ≡ false)
    ⊎ (0 < room (and_then events e) (contract_quarters contract) arc → 0 < room events (contract_quarters contract) arc))
    → leg_in graph events contract ≡ None → leg_in graph (and_then events e) contract ≡ None
quiet-next graph hour events e part stands aside had quiet =
    leg_in-agree graph hour (and_then events e) (and_then own.history e) agree_new part
    ∙ subst (λ g. leg_in g (and_then own.history e) contract ≡ None) own.over_grid
    (unopened-quiet own.setup own.history e contract aside opens own.is_setup own.fit own.fits
    (subst (λ g. leg_in g own.history contract ≡ None) (sym own.over_grid) (sym (leg_in-agree graph hour events own.history agree_old part) ∙ quiet)))
  where
    contract : Contract
    contract = record { hour = hour; part = part }

    own : IsNext graph hour events e
    own = next graph hour events e stands

    agree_old : Agree (hour ∷ []) events own.history
    agree_old = agrees graph hour events (before graph hour events e own)

    agree_new : Agree (hour ∷ []) (and_then events e) (and_then own.history e)
    agree_new = agrees graph hour (and_then events e) (after graph hour events e own)

    opens : OpensNoArc (graph_of own.setup) contract own.history (and_then own.history e)
    opens arc there some = elim (had arc (subst (λ g. HasArc g arc) own.over_grid there)) [
      | inl never ↦ unraised own.setup own.history e contract arc own.fits never some
      | inr had_room ↦
          subst (λ (rooms : Arc → ℕ). 0 < rooms arc)
          (room-agree (hour ∷ []) events own.history agree_old (contract_quarters contract) (contract-hours (hour ∷ []) contract (inl refl)))
          (had_room (subst (λ (rooms : Arc → ℕ). 0 < rooms arc)
          (sym (room-agree (hour ∷ []) (and_then events e) (and_then own.history e) agree_new (contract_quarters contract) (contract-hours (hour ∷ []) contract (inl refl))))
          some))
    ]

-- an event that raises no room leaves a quiet hour quiet
pub still-quiet : (graph : Graph) (hour : ℕ) (events : List Event) (e : Event) → IsHourOf graph hour (and_then events e)
    → ((contract : Contract) → IsAside contract e) → ((quarter : Quarter) (arc : Arc) → raises e quarter arc ≡ false)
    → HasNoLeg graph hour events → HasNoLeg graph hour (and_then events e)
still-quiet graph hour events e stands aside never quiet part =
    quiet-next graph hour events e part stands (aside (record { hour = hour; part = part })) (λ arc there. inl (λ quarter. never quarter arc)) (quiet part)

first-none : {X Y : Type 0} (ask : X → Option Y) (xs : List X) → ((x : X) → ask x ≡ None) → first_answer ask xs ≡ None
first-none ask [] none = refl
first-none ask (x ∷ xs) none = ap (λ o. or_else o (λ _. first_answer ask xs)) (none x) ∙ first-none ask xs none

-- the sweep of a quiet hour has no leg
pub no-sweep : (graph : Graph) (hour : ℕ) (events : List Event) → HasNoLeg graph hour events → sweep all_parts graph hour events ≡ []
no-sweep graph hour events quiet =
    append_cancel_left events (sweep all_parts graph hour events) [] (sym (ap (λ (s : BoardState). s.events) same) ∙ sym (append-nil events))
  where
    board : BoardState
    board = record { grid = graph; hour = hour; parts = 7; events = events; hand = None }

    same : board ≡ swept board
    same = ended board board (next-is board ∙ first-none (part_leg board) order_numbers (λ number. quiet (part_at number))) (begun board)
