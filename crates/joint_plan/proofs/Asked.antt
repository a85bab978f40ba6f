-- Desks that are asked for a command, with nothing planned.
use Rattle.std.proofs.Common.{◌≡◌, ◌∙◌, ℕ, List, Option, sym, ap}
use Rattle.zone_graph.specs.Graph.{Graph}
use Rattle.zone_graph.specs.Route.{IsIn}
use Rattle.market_model.specs.declared.command.Command.{Command}
use Rattle.market_model.specs.declared.event.Event.{Event}
use Rattle.market_model.specs.declared.refusal.Refusal.{Refusal}
use Rattle.market_model.specs.declared.setup.Setup.{Setup}
use Rattle.market_model.specs.Grid.{graph_of}
use Rattle.market_model.specs.History.{journal_events}
use Rattle.market_model.specs.Rules.{hours_concerned}
use Rattle.hour_desk.specs.declared.part_work.PartWork.{PartWork}
use Rattle.hour_desk.specs.Desk.{DeskState}
use Rattle.hour_desk.specs.Shared.{CanShare}
use Rattle.joint_plan.specs.Refusing as refusing
use Rattle.joint_plan.specs.Rows.{AreAsked, AreOver, AreReady, IsHistoryOf, hours_of}
use Rattle.joint_plan.specs.Works.{CanPlanPart}
use Rattle.joint_plan.proofs.Histories.{journal-history, touched-concerned}

module _ (setup : Setup) (graph : Graph) (desks : List DeskState) (ready : AreReady setup graph desks) where
  pub ready-over : AreOver (graph_of setup) desks
  ready-over = λ desk i. ready.over desk i ∙ sym ready.over_setup

  -- some history of which the desks have the events of their hours
  pub ready-history : List Event
  ready-history = journal_events ready.place.entries

  pub ready-is : IsHistoryOf setup desks ready-history
  unfolding ready-history
  ready-is = journal-history setup desks ready.place.entries ready.place.journal

  -- a desk that can share some work can plan its part of it
  pub ready-part : (w : PartWork) (desk : DeskState) → IsIn desk desks → CanShare desk w → CanPlanPart graph w desk
  ready-part w desk i can = record { over = sym (ready.over desk i); numbers = ready.numbers desk i; can = can }

module _ (setup : Setup) (graph : Graph) (caller : ℕ) (given : Command) (desks : List DeskState) (asked : AreAsked setup graph caller given desks) where
  pub asked-hours : hours_of desks ≡ hours_concerned given
  asked-hours = asked.hours ∙ touched-concerned setup caller given asked.early

  -- what refuses the command over the grid refuses it over that of the setup
  pub asked-state : (o : Option Refusal) → o ≡ refusing.state_refusal graph given desks → refusing.state_refusal (graph_of setup) given desks ≡ o
  asked-state o is = ap (λ (g : Graph). refusing.state_refusal g given desks) asked.ready.over_setup ∙ sym is
