-- Desks that are asked for a command over a range of hours.
use Rattle.std.proofs.Common.{◌≡◌, ◌∙◌, ℕ, ◌<◌, List, map, length, None, Some, sym, ap}
use Rattle.zone_graph.specs.Graph.{Graph}
use Rattle.zone_graph.specs.Route.{IsIn}
use Rattle.market_model.specs.declared.command.Command.{Command}
use Rattle.market_model.specs.declared.event.Event.{Event}
use Rattle.market_model.specs.declared.reply.Reply.TheVariants as reply
use Rattle.market_model.specs.declared.setup.Setup.{Setup}
use Rattle.market_model.specs.Grid.{graph_of}
use Rattle.market_model.specs.History.{events_of, of_hour}
use Rattle.market_model.specs.Market.{reply_to}
use Rattle.laws_of_market.proofs.Admitted.{naming-none}
use Rattle.laws_of_market.proofs.Restrict.{map-same}
use Rattle.hour_desk.specs.declared.part_work.PartWork.{PartWork}
use Rattle.hour_desk.specs.Desk.{DeskState, planning}
use Rattle.hour_desk.specs.Ranges.{IsOverRange, range_work}
use Rattle.hour_desk.proofs.RangeParts.{known-work}
use Rattle.joint_plan.specs.Refusing as refusing
use Rattle.joint_plan.specs.Rows.{AreAsked, IsHistoryOf, planning_all}
use Rattle.joint_plan.specs.Works.{CanPlanPart, events_over, with_part}
use Rattle.joint_plan.proofs.Asked.{asked-hours, asked-state, ready-history, ready-is, ready-over, ready-part}
use Rattle.joint_plan.proofs.Histories.{early-naming}
use Rattle.joint_plan.proofs.OverRanges.{range-can, range-part, range-reply}

module _ (setup : Setup) (graph : Graph) (caller : ℕ) (given : Command) (desks : List DeskState) (asked : AreAsked setup graph caller given desks) (range : IsOverRange given) where
  pub range-known : None ≡ range_work graph given → ⊥
  range-known none =
      known-work (graph_of setup) given range (naming-none setup caller given (early-naming setup caller given asked.early)).border
      (ap (λ (g : Graph). range_work g given) asked.ready.over_setup ∙ sym none)

  module _ (free : None ≡ refusing.state_refusal graph given desks) (w : PartWork) (works : Some w ≡ range_work graph given) where
    own : range_work (graph_of setup) given ≡ Some w
    own = ap (λ (g : Graph). range_work g given) asked.ready.over_setup ∙ sym works

    pub asked-part : (desk : DeskState) → IsIn desk desks → CanPlanPart graph w desk
    asked-part desk i =
        ready-part setup graph desks asked.ready w desk i
        (range-can setup (ready-history setup graph desks asked.ready) desks caller given (ready-is setup graph desks asked.ready) asked.early
        (asked-hours setup graph caller given desks asked) (ready-over setup graph desks asked.ready) range (asked-state setup graph caller given desks asked None free) w own desk i)

    pub asked-reply : 0 < length desks → (history : List Event) → IsHistoryOf setup desks history → reply.Done (events_over w desks) ≡ reply_to setup history caller given
    asked-reply some history is =
        sym (range-reply setup history desks caller given is asked.early
        (asked-hours setup graph caller given desks asked) (ready-over setup graph desks asked.ready) range (asked-state setup graph caller given desks asked None free) w own some)

    -- each hour plans what the reply has of it
    pub asked-planned : 0 < length desks → map (with_part w) desks ≡ planning_all desks (events_over w desks)
    asked-planned some =
        let history = ready-history setup graph desks asked.ready in
        map-same (with_part w) (λ desk. planning desk (of_hour desk.hour (events_over w desks))) desks (λ desk i.
        ap (planning desk)
        (sym (range-part setup history desks caller given (ready-is setup graph desks asked.ready) asked.early
        (asked-hours setup graph caller given desks asked) (ready-over setup graph desks asked.ready) range (asked-state setup graph caller given desks asked None free) w own desk i)
        ∙ ap (λ r. of_hour desk.hour (events_of r)) (sym (asked-reply some history (ready-is setup graph desks asked.ready)))))
