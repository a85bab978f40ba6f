-- Rooms after one more event, and histories with the same capacity.
use Rattle.std.proofs.Common.{◌≡◌, ℕ, ◌+◌, Bool, List, [], ◌∷◌, map, Option, unwrap_or, refl, ap}
use Rattle.std.proofs.Math.Path.{fun_ext}
use Rattle.std.proofs.lemmas.List.Sums.{fold-append, sum_by_push}
use Rattle.order_kinds.specs.declared.contract.Quarter.{Quarter}
use Rattle.order_kinds.specs.declared.phase.Phase.{Phase}
use Rattle.zone_graph.specs.declared.route.Arc.{Arc}
use Rattle.zone_graph.specs.Pour.{opposite_arc}
use Rattle.market_model.specs.declared.event.Event.{Event}
use Rattle.market_model.specs.Capacity.{allocated, allocated_by, offered, offered_by}
use Rattle.market_model.specs.History.{and_then, last_said}
use Rattle.market_model.specs.Room.{halt_by, is_halted, least, phase_by, phase_of, quarter_room, room}

pub last_said-more : {X : Type 0} (says : Event → Option X) (start : X) (events : List Event) (e : Event)
    → last_said says start (and_then events e) ≡ unwrap_or (says e) (last_said says start events)
last_said-more says start events e = fold-append (λ said event. unwrap_or (says event) said) start events (e ∷ [])

pub allocated-more : (events : List Event) (e : Event) (quarter : Quarter) (arc : Arc)
    → allocated (and_then events e) quarter arc ≡ allocated events quarter arc + allocated_by quarter arc e
allocated-more events e quarter arc = sum_by_push (allocated_by quarter arc) events e

pub offered-more : (events : List Event) (e : Event) (quarter : Quarter) (arc : Arc)
    → offered (and_then events e) quarter arc ≡ unwrap_or (offered_by quarter arc e) (offered events quarter arc)
offered-more events e quarter arc = last_said-more (offered_by quarter arc) 0 events e

-- two histories with the same capacity: the same is allocated and offered everywhere, and the same
-- hours and borders are open
pub record SameCapacity (a b : List Event) : Type 0 where
  pub allocated_same : (quarter : Quarter) (arc : Arc) → allocated a quarter arc ≡ allocated b quarter arc
  pub offered_same : (quarter : Quarter) (arc : Arc) → offered a quarter arc ≡ offered b quarter arc
  pub phase_same : (hour : ℕ) → phase_of a hour ≡ phase_of b hour
  pub halted_same : (border hour : ℕ) → is_halted a border hour ≡ is_halted b border hour

-- have the same rooms
pub quarter_room-same : (a b : List Event) → SameCapacity a b → (arc : Arc) (quarter : Quarter) → quarter_room a arc quarter ≡ quarter_room b arc quarter
quarter_room-same a b same arc quarter =
    rw (
      same.phase_same quarter.hour,
      same.halted_same arc.border quarter.hour,
      same.offered_same quarter arc,
      same.allocated_same quarter arc,
      same.allocated_same quarter (opposite_arc arc),
    ) refl

pub room-same : (a b : List Event) → SameCapacity a b → (quarters : List Quarter) → room a quarters ≡ room b quarters
room-same a b same quarters = fun_ext (λ (arc : Arc). ap (λ (f : Quarter → ℕ). least (map f quarters)) (fun_ext (quarter_room-same a b same arc)))

-- and keep it with events that say the same of capacity
pub same-more : (a b : List Event) (d e : Event) → SameCapacity a b
    → ((quarter : Quarter) (arc : Arc) → allocated_by quarter arc d ≡ allocated_by quarter arc e)
    → ((quarter : Quarter) (arc : Arc) → offered_by quarter arc d ≡ offered_by quarter arc e)
    → ((hour : ℕ) → phase_by hour d ≡ phase_by hour e) → ((border hour : ℕ) → halt_by border hour d ≡ halt_by border hour e)
    → SameCapacity (and_then a d) (and_then b e)
same-more a b d e same allocates offers phases halts = record {
  allocated_same = λ quarter arc. rw (allocated-more a d quarter arc, allocated-more b e quarter arc, same.allocated_same quarter arc, allocates quarter arc) refl;
  offered_same = λ quarter arc. rw (offered-more a d quarter arc, offered-more b e quarter arc, same.offered_same quarter arc, offers quarter arc) refl;
  phase_same = λ hour. rw (last_said-more (phase_by hour) Phase.Open a d, last_said-more (phase_by hour) Phase.Open b e, same.phase_same hour, phases hour) refl;
  halted_same = λ border hour. rw (last_said-more (halt_by border hour) Bool.false a d, last_said-more (halt_by border hour) Bool.false b e, same.halted_same border hour, halts border hour) refl;
}
