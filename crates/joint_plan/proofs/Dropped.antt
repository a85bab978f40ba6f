-- Desks of which what is planned is dropped.
use Rattle.std.proofs.Common.{◌≡◌, ◌∙◌, ℕ, zero, suc, ◌-◌, ◌<◌, ◌^◌, List, [], ◌∷◌, count_by, None, Some, refl, sym, ap, subst, set, slice_get}
use Rattle.zone_graph.specs.Route.{IsIn}
use Rattle.zone_graph.proofs.Membership.{from_map}
use Rattle.zone_graph.specs.Graph.{Graph}
use Rattle.market_model.specs.declared.command.Command.{Command}
use Rattle.market_model.specs.declared.entry.Entry.{Entry}
use Rattle.market_model.specs.declared.event.Event.{Event}
use Rattle.market_model.specs.declared.setup.Setup.{Setup}
use Rattle.market_model.specs.Concerned.{left_for}
use Rattle.market_model.specs.History.{enters_in, of_hour}
use Rattle.market_model.specs.Rules.{early_refusal, touched_hours}
use Rattle.hour_desk.specs.Desk.{DeskState, planning, with_nothing_planned}
use Rattle.joint_plan.specs.Rows.{AreAsked, AreReady, AreUnplanned, IsJournalOf, dropped, hours_of, planning_all}
use Rattle.joint_plan.proofs.Lists.{changed, changed-behind}

-- a desk that is changed in what it plans
pub dropped-set : (desks : List DeskState) (i : ℕ) (desk other : DeskState) → slice_get desks i ≡ Some desk → with_nothing_planned other ≡ with_nothing_planned desk
    → dropped (set desks i other) ≡ dropped desks
dropped-set [] i desk other at same = refl
dropped-set (d ∷ desks) zero desk other at same =
    let is : desk ≡ d = cc in ap (λ (e : DeskState). e ∷ dropped desks) (same ∙ ap with_nothing_planned is)
dropped-set (d ∷ desks) (suc i) desk other at same = ap (λ l. with_nothing_planned d ∷ l) (dropped-set desks i desk other at same)

module _ (f : DeskState → DeskState) (same : (desk : DeskState) → with_nothing_planned (f desk) ≡ with_nothing_planned desk) where
  pub dropped-changed : (i : ℕ) (desks : List DeskState) → dropped (changed f i desks) ≡ dropped desks
  dropped-changed zero [] = refl
  dropped-changed zero (desk ∷ desks) = refl
  dropped-changed (suc i) [] = refl
  dropped-changed (suc i) (desk ∷ desks) = ap (λ (d : DeskState). d ∷ dropped (changed f i desks)) (same desk) ∙ ap (λ l. with_nothing_planned desk ∷ l) (dropped-changed i desks)

  pub dropped-behind : (k : ℕ) (desks : List DeskState) → dropped (changed-behind f k desks) ≡ dropped desks
  dropped-behind k [] = dropped-changed k []
  dropped-behind k (desk ∷ desks) = ap (λ l. with_nothing_planned desk ∷ l) (dropped-changed k desks)

-- nothing is planned then
pub dropped-unplanned : (desks : List DeskState) → AreUnplanned (dropped desks)
dropped-unplanned desks desk i =
    let found = from_map with_nothing_planned desk desks i in ap (λ (d : DeskState). d.planned) found.2

-- of a desk with nothing planned there is one with what is planned
from-dropped : (P : DeskState → Type 0) (desks : List DeskState) → ((desk : DeskState) → P desk → P (with_nothing_planned desk))
    → ((desk : DeskState) → IsIn desk desks → P desk) → (desk : DeskState) → IsIn desk (dropped desks) → P desk
from-dropped P desks keeps all desk i =
    let found = from_map with_nothing_planned desk desks i in subst P (sym found.2) (keeps found.0 (all found.0 found.1))

hours-dropped : (desks : List DeskState) → hours_of (dropped desks) ≡ hours_of desks
hours-dropped [] = refl
hours-dropped (desk ∷ desks) = ap (λ l. desk.hour ∷ l) (hours-dropped desks)

pub planning-dropped : (desks : List DeskState) (events : List Event) → planning_all (dropped desks) events ≡ planning_all desks events
planning-dropped [] events = refl
planning-dropped (desk ∷ desks) events = ap (λ l. planning desk (of_hour desk.hour events) ∷ l) (planning-dropped desks events)

pub twice-dropped : (desks : List DeskState) → dropped (dropped desks) ≡ dropped desks
twice-dropped [] = refl
twice-dropped (desk ∷ desks) = ap (λ l. with_nothing_planned desk ∷ l) (twice-dropped desks)

pub journal-dropped : (setup : Setup) (desks : List DeskState) (entries : List Entry) → IsJournalOf setup desks entries → IsJournalOf setup (dropped desks) entries
journal-dropped setup desks entries journal = record {
  is_setup = journal.is_setup;
  legal = journal.legal;
  left = from-dropped (λ desk. left_for desk.hour entries ≡ desk.settled) desks (λ desk h. h) journal.left;
}

-- desks that are ready are asked once what they planned is dropped
pub asked-dropped : (setup : Setup) (graph : Graph) (caller : ℕ) (given : Command) (desks : List DeskState) → AreReady setup graph desks → early_refusal setup caller given ≡ None
    → hours_of desks ≡ touched_hours setup caller given → AreAsked setup graph caller given (dropped desks)
asked-dropped setup graph caller given desks ready early hours = record {
  ready = record {
    over_setup = ready.over_setup;
    over = from-dropped (λ desk. desk.grid ≡ graph) desks (λ desk h. h) ready.over;
    numbers = from-dropped (λ desk. count_by (enters_in desk.hour) desk.settled < 2 ^ 32 - 1) desks (λ desk h. h) ready.numbers;
    place = record { entries = ready.place.entries; journal = journal-dropped setup desks ready.place.entries ready.place.journal };
  };
  unplanned = dropped-unplanned desks;
  early = early;
  hours = hours-dropped desks ∙ hours;
}
