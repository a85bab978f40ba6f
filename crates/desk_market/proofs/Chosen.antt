-- The desks that are chosen for a command which breaks no rule by itself, where the day stands after a journal.
use Rattle.std.proofs.Common.{◌≡◌, ◌∙◌, ℕ, List, Result, IfOk, OnErr, refl, sym, ap, subst}
use Rattle.std.proofs.lemmas.Result.{IfErr-weaker, IfOk-weaker}
use Rattle.zone_graph.specs.Graph.{Graph}
use Rattle.market_model.specs.declared.command.Command.{Command}
use Rattle.market_model.specs.declared.entry.Entry.{Entry}
use Rattle.market_model.specs.declared.reply.Reply.{Reply}
use Rattle.market_model.specs.declared.setup.Setup.{Setup}
use Rattle.market_model.specs.Grid.{graph_of}
use Rattle.market_model.specs.History.{events_of}
use Rattle.market_model.specs.Rules.{touched_hours}
use Rattle.basket_match.specs.Kinds.{IsNoBasket}
use Rattle.basket_match.specs.Rows.{AreReady, IsJournalOf, dropped, hours_of, planning_all}
use Rattle.desk_market.specs.Day.{DayState, chosen_of, others_of}
use Rattle.desk_market.specs.Standing.{IsChosen, planned_desks}
use Rattle.desk_market.proofs.Planned.{day-failed, day-planned, settled-hours, settled-journal, settled-ready}
use Rattle.basket_match.proofs.TouchedHours.{AreHoursOf, touched-hours}

module _ (setup : Setup) (entries : List Entry) (caller : ℕ) (given : Command) (day : DayState) (is : IsChosen setup entries caller given day) where
  hours : AreHoursOf setup (touched_hours setup caller given)
  hours = touched-hours setup caller given is.early

  pub chosen-journal : IsJournalOf setup (chosen_of day) entries
  chosen-journal = settled-journal setup (touched_hours setup caller given) hours entries day is.set is.stand is.of_day.is_setup is.legal

  -- it may be planned on them
  pub chosen-ready : (graph : Graph) (same : Setup) → graph ≡ graph_of setup → same ≡ setup → AreReady same graph (chosen_of day)
  chosen-ready graph same over lent =
      subst (λ (s : Setup). AreReady s graph (chosen_of day)) (sym lent)
      (settled-ready setup (touched_hours setup caller given) hours entries graph day is.set is.stand over is.of_day is.legal is.within)

  pub chosen-hours : (same : Setup) → same ≡ setup → hours_of (chosen_of day) ≡ touched_hours same caller given
  chosen-hours same lent =
      settled-hours setup (touched_hours setup caller given) hours entries day is.set is.stand ∙ ap (λ (s : Setup). touched_hours s caller given) (sym lent)

  -- and the day is then that which plans the reply
  module _ {E : Type 0} (result : Result Reply E) (new : DayState) (rest : others_of new ≡ others_of day) where
    pub reply-planned : IfOk result (λ reply. chosen_of new ≡ planning_all (chosen_of day) (events_of reply))
        → IfOk result (λ reply. new.desks ≡ planned_desks setup entries (touched_hours setup caller given) (events_of reply))
    reply-planned = IfOk-weaker result (λ (reply : Reply). chosen_of new ≡ planning_all (chosen_of day) (events_of reply))
        (λ reply. new.desks ≡ planned_desks setup entries (touched_hours setup caller given) (events_of reply))
        (λ reply now. day-planned setup (touched_hours setup caller given) hours entries day new (events_of reply) is.set is.stand now rest)

    pub nothing-planned : OnErr result (chosen_of new ≡ dropped (chosen_of day)) → OnErr result (new.desks ≡ day.desks)
    nothing-planned = IfErr-weaker result (λ _. chosen_of new ≡ dropped (chosen_of day)) (λ _. new.desks ≡ day.desks)
        (λ _ now. day-failed setup (touched_hours setup caller given) hours entries day new is.set is.stand now rest)

    pub still-chosen : new.chosen ≡ day.chosen
    still-chosen = ap (λ (d : DayState). d.chosen) rest
