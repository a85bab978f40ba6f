-- A command that touches the hour of one desk alone.
use Rattle.std.proofs.Common.{◌≡◌, ◌∙◌, inl, inr, ℕ, List, [], ◌∷◌, ◌++◌, length, Some, refl, set, slice_get, sym, ap, arith, subst}
use Rattle.std.proofs.lemmas.List.{append_cancel_left}
use Rattle.std.proofs.lemmas.List.Elements.{filter-append}
use Rattle.zone_graph.specs.Graph.{Graph}
use Rattle.zone_graph.specs.Route.{IsIn}
use Rattle.market_model.specs.declared.command.Command.{Command}
use Rattle.market_model.specs.declared.event.Event.{Event}
use Rattle.market_model.specs.declared.setup.Setup.{Setup}
use Rattle.market_model.specs.History.{events_of, of_hour, touches}
use Rattle.market_model.specs.Market.{reply_to}
use Rattle.market_model.specs.Rules.{touched_hours}
use Rattle.market_model.specs.Sweep.{all_parts}
use Rattle.laws_of_boards.specs.Hours.{RepliesAlone}
use Rattle.laws_of_boards.proofs.Stepping.{replies}
use Rattle.hour_desk.specs.Desk.{DeskState, planning}
use Rattle.joint_plan.specs.Rows.{AreAsked, IsHistoryOf, hours_of, planning_all}
use Rattle.joint_plan.proofs.Asked.{ready-history, ready-is}

-- the one desk
pub one-desk : (desks : List DeskState) (desk : DeskState) → length desks ≡ 1 → slice_get desks 0 ≡ Some desk → desks ≡ desk ∷ []
one-desk [] desk one at = cc
one-desk (d ∷ []) desk one at = cc
one-desk (d ∷ e ∷ desks) desk one at = absurd (omega arith)

module _ (setup : Setup) (graph : Graph) (caller : ℕ) (given : Command) (desks : List DeskState) (desk : DeskState) (asked : AreAsked setup graph caller given desks)
    (are : desks ≡ desk ∷ []) where
  pub alone-hours : touched_hours setup caller given ≡ desk.hour ∷ []
  alone-hours = sym asked.hours ∙ ap (λ ds. hours_of ds) are

  inside : IsIn desk desks
  inside = subst (IsIn desk) (sym are) (inl refl)

  told : (history : List Event) → IsHistoryOf setup desks history → RepliesAlone setup all_parts desk.hour history desk.settled caller given
  told history is =
      replies setup all_parts desk.hour history desk.settled caller given
      (record { is_setup = is.is_setup; fit = is.is_history.fit; in_hour = is.left desk inside }) is.is_history.whole
      (λ other i. elim (subst (IsIn other) alone-hours i) [ inl same ↦ same | inr none ↦ absurd none ])

  pub alone-reply : (history : List Event) → IsHistoryOf setup desks history → reply_to setup desk.settled caller given ≡ reply_to setup history caller given
  alone-reply history is = (told history is).same

  -- all events of the reply are of the hour
  pub alone-events : of_hour desk.hour (events_of (reply_to setup desk.settled caller given)) ≡ events_of (reply_to setup desk.settled caller given)
  alone-events =
      let history = ready-history setup graph desks asked.ready in
      let is = ready-is setup graph desks asked.ready in
      let events = events_of (reply_to setup desk.settled caller given) in
      append_cancel_left desk.settled (of_hour desk.hour events) events
      (ap (λ (before : List Event). before ++ of_hour desk.hour events) (sym (is.left desk inside))
      ∙ sym (filter-append (touches desk.hour) history events) ∙ (told history is).goes_on.in_hour)

  pub alone-planned : (after : List DeskState) → after ≡ set desks 0 (planning desk (events_of (reply_to setup desk.settled caller given)))
      → after ≡ planning_all desks (events_of (reply_to setup desk.settled caller given))
  alone-planned after is =
      is ∙ ap (λ ds. set ds 0 (planning desk (events_of (reply_to setup desk.settled caller given)))) are
      ∙ ap (λ es. planning desk es ∷ []) (sym alone-events)
      ∙ sym (ap (λ ds. planning_all ds (events_of (reply_to setup desk.settled caller given))) are)
