-- The rules on the state, told desk by desk.
use Rattle.std.proofs.Common.{◌≡◌, ◌∙◌, ℕ, find, List, [], ◌∷◌, Option, None, Some, refl, sym, ap, subst}
use Rattle.std.specs.Option.{option_and_then, option_map}
use Rattle.order_kinds.specs.declared.contract.Quarter.{Quarter}
use Rattle.order_kinds.specs.Period.{hours_from}
use Rattle.zone_graph.specs.declared.route.Arc.{Arc}
use Rattle.zone_graph.specs.Graph.{Graph}
use Rattle.zone_graph.specs.Grid.{arc_between}
use Rattle.market_model.specs.declared.command.Command.{Command}
use Rattle.market_model.specs.declared.command.Command.TheVariants as command
use Rattle.market_model.specs.declared.event.Event.{Event}
use Rattle.market_model.specs.declared.refusal.Refusal.{Refusal}
use Rattle.market_model.specs.declared.refusal.Refusal.TheVariants as refusal
use Rattle.market_model.specs.declared.setup.Setup.{Setup}
use Rattle.market_model.specs.Grid.{graph_of}
use Rattle.market_model.specs.Refusals as refusals
use Rattle.market_model.specs.Room.{is_closed_phase, phase_of}
use Rattle.market_model.specs.Rules.{hours_concerned}
use Rattle.market_model.specs.Sweep.{first_answer, or_else}
use Rattle.market_model.specs.WellFormed.{FitAfter}
use Rattle.market_model.specs.Asked.{first_in_hour}
use Rattle.market_model.specs.StateRules as state
use Rattle.laws_of_joint_commands.specs.ByHour.{hour_events}
use Rattle.laws_of_joint_commands.specs.StateRefusals.{first_over_hours, offer_refused, request_refused, state_refusal_by}
use Rattle.laws_of_joint_commands.proofs.RefusedByHours.{state_alone}
use Rattle.hour_desk.specs.declared.part_work.PartWork.{PartWork}
use Rattle.hour_desk.specs.declared.part_work.PartWork.TheVariants as work
use Rattle.hour_desk.specs.Desk.{DeskState}
use Rattle.hour_desk.specs.Ranges.{part_refusal}
use Rattle.joint_plan.specs.Refusing as refusing
use Rattle.joint_plan.specs.Kinds.{IsJoint}
use Rattle.joint_plan.specs.Rows.{hours_of}
use Rattle.joint_plan.proofs.Over.{Are, answer-over, find-over}

module _ (own : ℕ → List Event) (desks : List DeskState) (are : Are own desks) where
  closed-over : option_map (λ hour. refusal.Closed hour) (find (λ hour. is_closed_phase (phase_of (own hour) hour)) (hours_of desks)) ≡ refusing.closed_refusal desks
  closed-over =
      ap (option_map (λ hour. refusal.Closed hour)) (find-over own (λ events hour. is_closed_phase (phase_of events hour)) desks are)
      ∙ again (find refusing.is_closed desks)
    where
      again : (o : Option DeskState) → option_map (λ hour. refusal.Closed hour) (option_map (λ desk. desk.hour) o) ≡ option_map (λ desk. refusal.Closed desk.hour) o
      again None = refl
      again (Some desk) = refl

  module _ (graph : Graph) (from to : ℕ) (part : Arc → PartWork) where
    -- what the desks refuse over the arc of a command
    abbrev by_parts : Option Arc → Option Refusal
    by_parts o = option_and_then (λ w. first_answer (part_refusal w) desks) (option_map part o)

    over-arc : (says : Arc → Option Refusal) → ((arc : Arc) → says arc ≡ first_answer (part_refusal (part arc)) desks) → option_and_then says (arc_between graph from to) ≡ by_parts (arc_between graph from to)
    over-arc says same = go (arc_between graph from to)
      where
        go : (o : Option Arc) → option_and_then says o ≡ by_parts o
        go None = refl
        go (Some arc) = same arc

    no-capacity : ((arc : Arc) (desk : DeskState) → part_refusal (part arc) desk ≡ None) → None ≡ by_parts (arc_between graph from to)
    no-capacity none = go (arc_between graph from to)
      where
        silent : (arc : Arc) (ds : List DeskState) → None ≡ first_answer (part_refusal (part arc)) ds
        silent arc [] = refl
        silent arc (desk ∷ ds) = silent arc ds ∙ ap (λ (o : Option Refusal). or_else o (λ _. first_answer (part_refusal (part arc)) ds)) (sym (none arc desk))

        go : (o : Option Arc) → None ≡ by_parts o
        go None = refl
        go (Some arc) = silent arc desks

  -- what is asked in each quarter of a range
  over-range : (says : List Event → Quarter → Option Refusal) (arc : Arc) (first last : Quarter) (lots : ℕ) → hours_of desks ≡ hours_from first.hour last.hour
      → first_over_hours own says first last
      ≡ first_answer (λ desk. first_in_hour (says desk.settled) (record { arc = arc; first = first; last = last; lots = lots }) desk.hour) desks
  unfolding first_in_hour
  over-range says arc first last lots hours =
      subst (λ (hs : List ℕ). first_answer (λ hour. first_in_hour (says (own hour)) (record { arc = arc; first = first; last = last; lots = lots }) hour) hs
      ≡ first_answer (λ desk. first_in_hour (says desk.settled) (record { arc = arc; first = first; last = last; lots = lots }) desk.hour) desks) hours
      (answer-over own (λ events hour. first_in_hour (says events) (record { arc = arc; first = first; last = last; lots = lots }) hour) desks are)

  -- the first closed hour of some that are those of the desks
  pub closed-at : (hours : List ℕ) → hours_of desks ≡ hours
      → option_map (λ hour. refusal.Closed hour) (find (λ hour. is_closed_phase (phase_of (own hour) hour)) hours) ≡ refusing.closed_refusal desks
  closed-at hours is =
      subst (λ (hs : List ℕ). option_map (λ hour. refusal.Closed hour) (find (λ hour. is_closed_phase (phase_of (own hour) hour)) hs) ≡ refusing.closed_refusal desks) is closed-over

  -- a rule on closed hours, and then one on capacity
  joined : (closed now : Option Refusal) (capacity here : Option Refusal) → closed ≡ now → capacity ≡ here
      → or_else closed (λ _. or_else capacity (λ _. None)) ≡ or_else now (λ _. here)
  joined closed now capacity here same alike =
      ap (λ (o : Option Refusal). or_else o (λ _. or_else capacity (λ _. None))) same ∙ ap (λ (o : Option Refusal). or_else now (λ _. o)) (or-none capacity ∙ alike)
    where
      or-none : (o : Option Refusal) → or_else o (λ _. None) ≡ o
      or-none None = refl
      or-none (Some r) = refl

  pub state-over : (graph : Graph) (caller : ℕ) (given : Command) → IsJoint given → hours_of desks ≡ hours_concerned given
      → state_refusal_by graph own caller given ≡ refusing.state_refusal graph given desks
  unfolding state_refusal_by
  state-over graph caller (command.Offer from to first last lots) joint hours =
      joined _ _ (offer_refused graph own (command.Offer from to first last lots)) _ (closed-at (hours_from first.hour last.hour) hours)
      (over-arc graph from to (λ arc. work.Offer arc first last lots) _ (λ arc. over-range (λ events. refusals.below_flow events arc lots) arc first last lots hours))
  state-over graph caller (command.Request from to first last lots) joint hours =
      joined _ _ (request_refused graph own (command.Request from to first last lots)) _ (closed-at (hours_from first.hour last.hour) hours)
      (over-arc graph from to (λ arc. work.Grant arc first last lots) _ (λ arc. over-range (λ events. refusals.no_room events arc lots) arc first last lots hours))
  state-over graph caller (command.Halt from to first last) joint hours =
      joined _ _ None _ (closed-at (hours_from first last) hours) (no-capacity graph from to (λ arc. work.Halt arc.border first last) (λ arc desk. refl))
  state-over graph caller (command.Resume from to first last) joint hours =
      joined _ _ None _ (closed-at (hours_from first last) hours) (no-capacity graph from to (λ arc. work.Resume arc.border first last) (λ arc desk. refl))
  state-over graph caller (command.Blocks first last) joint hours = joined _ _ None None (closed-at (hours_from first last) hours) refl
  state-over graph caller (command.EnterBlock order) joint hours = joined _ _ None None (closed-at (hours_from order.first order.last) hours) refl
  state-over graph caller _ joint hours = absurd joint

-- so the rules on the state refuse a command of several hours after a history as the desks tell
pub state-by-desks : (setup : Setup) (history : List Event) (desks : List DeskState) (caller : ℕ) (given : Command) → FitAfter setup [] history → Are (hour_events history) desks
    → IsJoint given → hours_of desks ≡ hours_concerned given → state.state_refusal (graph_of setup) history caller given ≡ refusing.state_refusal (graph_of setup) given desks
state-by-desks setup history desks caller given fit are joint hours =
    state_alone setup (graph_of setup) history caller given fit ∙ state-over (hour_events history) desks are (graph_of setup) caller given joint hours
