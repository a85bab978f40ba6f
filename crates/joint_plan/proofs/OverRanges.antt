-- Commands over a range of hours, desk by desk.
use Rattle.std.proofs.lemmas.List.{append-nil}
use Rattle.std.proofs.Common.{◌≡◌, ◌∙◌, ℕ, ◌<◌, true, List, [], ◌∷◌, ◌++◌, flat_map, length, Option, None, Some, sym, ap, arith, if◌then◌else◌, subst}
use Rattle.zone_graph.specs.Graph.{Graph}
use Rattle.zone_graph.specs.Route.{IsIn, has}
use Rattle.zone_graph.proofs.Membership.{IsIn-map, has-IsIn}
use Rattle.market_model.specs.declared.command.Command.{Command}
use Rattle.market_model.specs.declared.command.Command.TheVariants as command
use Rattle.market_model.specs.declared.event.Event.{Event}
use Rattle.market_model.specs.declared.refusal.Refusal.{Refusal}
use Rattle.market_model.specs.declared.reply.Reply.TheVariants as reply
use Rattle.market_model.specs.declared.setup.Setup.{Setup}
use Rattle.market_model.specs.Grid.{graph_of}
use Rattle.market_model.specs.History.{and_then, events_of, of_hour}
use Rattle.market_model.specs.Market.{reply_to}
use Rattle.market_model.specs.Refusals.{refusal_of_command}
use Rattle.market_model.specs.Rules.{early_refusal, first_broken, hours_concerned}
use Rattle.market_model.specs.Sweep.{all_parts, or_else, sweep}
use Rattle.market_model.specs.StateRules.{filling_rules}
use Rattle.laws_of_market.proofs.Admitting.{no_entry-rules}
use Rattle.laws_of_joint_commands.specs.ByHour.{hour_events}
use Rattle.laws_of_joint_commands.specs.Ranges.{swept_after}
use Rattle.laws_of_joint_commands.proofs.SharedEvents.{done_ranges, of_hour_ranges}
use Rattle.laws_of_joint_commands.proofs.SweptHours.{flat_map-same}
use Rattle.hour_desk.specs.declared.part_work.PartWork.{PartWork}
use Rattle.hour_desk.specs.Desk.{DeskState}
use Rattle.hour_desk.specs.Shared.{CanShare, part_events, shared_events}
use Rattle.hour_desk.specs.Ranges.{IsOverRange, range_work}
use Rattle.hour_desk.proofs.RangeParts.{IsRangeWork, range-work}
use Rattle.joint_plan.specs.Kinds.{IsJoint}
use Rattle.joint_plan.specs.Refusing as refusing
use Rattle.joint_plan.specs.Rows.{AreOver, IsHistoryOf, hours_of}
use Rattle.joint_plan.specs.Works.{events_over, swept}
use Rattle.joint_plan.proofs.Histories.{follows, refused, split}
use Rattle.joint_plan.proofs.Over.{flat_map-over}
use Rattle.joint_plan.proofs.States.{state-by-desks}

pub range-joint : (given : Command) → IsOverRange given → IsJoint given
range-joint (command.Offer from to first last lots) range = tt
range-joint (command.Request from to first last lots) range = tt
range-joint (command.Halt from to first last) range = tt
range-joint (command.Resume from to first last) range = tt
range-joint _ range = absurd range

module _ (setup : Setup) (history : List Event) (desks : List DeskState) (caller : ℕ) (given : Command) (is : IsHistoryOf setup desks history)
    (early : early_refusal setup caller given ≡ None) (hours : hours_of desks ≡ hours_concerned given) where
  -- a command that the desks refuse is refused so
  pub joint-refused : (broken : Refusal) → IsJoint given → refusing.state_refusal (graph_of setup) given desks ≡ Some broken → reply_to setup history caller given ≡ reply.Refused broken
  joint-refused broken joint state =
      refused setup history caller given broken
      (split setup history caller given early
      ∙ ap (λ (o : Option Refusal). or_else o (λ _. first_broken (filling_rules (graph_of setup) history caller given)))
      (state-by-desks setup history desks caller given is.is_history.fit is.left joint hours ∙ state))

  -- and else by the rules on filling
  pub joint-let_in : IsJoint given → refusing.state_refusal (graph_of setup) given desks ≡ None
      → refusal_of_command setup history caller given ≡ first_broken (filling_rules (graph_of setup) history caller given)
  joint-let_in joint state =
      split setup history caller given early
      ∙ ap (λ (o : Option Refusal). or_else o (λ _. first_broken (filling_rules (graph_of setup) history caller given)))
      (state-by-desks setup history desks caller given is.is_history.fit is.left joint hours ∙ state)

  module _ (over : AreOver (graph_of setup) desks) (range : IsOverRange given) (free : refusing.state_refusal (graph_of setup) given desks ≡ None)
      (w : PartWork) (works : range_work (graph_of setup) given ≡ Some w) where
    found : IsRangeWork setup given w
    found = range-work setup given w works

    unrefused : refusal_of_command setup history caller given ≡ None
    unrefused = joint-let_in (range-joint given range) free ∙ no_entry-rules (graph_of setup) history caller given found.no_entry

    shared : Event
    unfolding found
    shared = found.shared

    same : (events : List Event) → shared_events events w ≡ shared ∷ []
    unfolding found shared
    same = found.same

    swept-same : (desk : DeskState) → IsIn desk desks → sweep all_parts (graph_of setup) desk.hour (and_then desk.settled shared) ≡ swept w desk
    swept-same desk i =
        ap (λ (graph : Graph). sweep all_parts graph desk.hour (and_then desk.settled shared)) (sym (over desk i))
        ∙ ap (λ es. sweep all_parts desk.grid desk.hour (desk.settled ++ es)) (sym (same desk.settled))

    done : reply_to setup history caller given ≡ reply.Done (shared ∷ flat_map (swept w) desks)
    unfolding found shared
    done =
        done_ranges setup all_parts history caller given shared is.is_history.fit unrefused found.is_event
        ∙ ap (λ hs. reply.Done (shared ∷ flat_map (swept_after all_parts (graph_of setup) history shared) hs)) (sym hours)
        ∙ ap (λ es. reply.Done (shared ∷ es))
        (flat_map-over (hour_events history) (λ events hour. sweep all_parts (graph_of setup) hour (and_then events shared)) desks is.left
        ∙ flat_map-same (λ desk. sweep all_parts (graph_of setup) desk.hour (and_then desk.settled shared)) (swept w) desks swept-same)

    over-first : (ds : List DeskState) → 0 < length ds → shared ∷ flat_map (swept w) ds ≡ events_over w ds
    over-first [] some = absurd (omega arith)
    over-first (desk ∷ ds) some = sym (ap (λ es. (es ++ swept w desk) ++ flat_map (swept w) ds) (same desk.settled))

    -- the reply is the event once, and then the sweep of each hour
    pub range-reply : 0 < length desks → reply_to setup history caller given ≡ reply.Done (events_over w desks)
    range-reply some = done ∙ ap reply.Done (over-first desks some)

    -- of it each hour has its part
    pub range-part : (desk : DeskState) → IsIn desk desks → of_hour desk.hour (events_of (reply_to setup history caller given)) ≡ part_events desk w
    unfolding found shared
    range-part desk i =
        let there : has desk.hour (hours_concerned given) ≡ true =
        has-IsIn desk.hour (hours_concerned given) (subst (IsIn desk.hour) hours (IsIn-map (λ (d : DeskState). d.hour) desk desks i)) in
        of_hour_ranges setup all_parts history caller given shared desk.hour is.is_history.fit unrefused found.is_event
        ∙ ap (λ b. if b then shared ∷ swept_after all_parts (graph_of setup) history shared desk.hour else []) there
        ∙ ap (λ (events : List Event). shared ∷ sweep all_parts (graph_of setup) desk.hour (and_then events shared)) (is.left desk i)
        ∙ ap (λ es. shared ∷ es) (swept-same desk i)
        ∙ sym (ap (λ es. es ++ swept w desk) (same desk.settled))

    -- which it can plan
    pub range-can : (desk : DeskState) → IsIn desk desks → CanShare desk w
    unfolding found
    range-can desk i = record {
      follows = follows setup history desks caller given is desk i (over desk i) (shared_events desk.settled w) (swept w desk) (range-part desk i)
          (shared_events desk.settled w) [] (sym (append-nil (shared_events desk.settled w)));
      blocks = found.fits desk;
    }
