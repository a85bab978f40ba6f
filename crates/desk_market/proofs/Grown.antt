-- A market after a command: with one more entry, or as it was.
use Rattle.std.proofs.Common.{◌≡◌, ◌∙◌, ℕ, ◌+◌, ◌<◌, false, List, [], ◌∷◌, ◌++◌, length, map, slice_index, slice_set, ap, arith}
use Rattle.std.proofs.lemmas.List.{length-set}
use Rattle.zone_graph.specs.Graph.{Graph}
use Rattle.zone_graph.specs.Route.{has}
use Rattle.market_model.specs.declared.command.Command.{Command}
use Rattle.market_model.specs.declared.entry.Entry.{Entry}
use Rattle.market_model.specs.declared.reply.Reply.{Reply}
use Rattle.market_model.specs.declared.setup.Setup.{Setup}
use Rattle.market_model.specs.History.{events_of, journal_events, of_hour}
use Rattle.market_model.specs.HourSet.{IsSetOf}
use Rattle.market_model.specs.Market.{IsLegal, reply_to}
use Rattle.basket_match.specs.Desk.{DeskState, carried}
use Rattle.basket_match.specs.Rows.{dropped}
use Rattle.desk_market.specs.Day.{DayState, chosen_of, others_of}
use Rattle.desk_market.specs.Standing.{IsMarket, planned_desks, planned_hours}
use Rattle.desk_market.proofs.Counted.{count-more}
use Rattle.desk_market.proofs.Planned.{day-carried, day-dropped}
use Rattle.desk_market.proofs.Replying.{nothing-elsewhere}
use Rattle.desk_market.proofs.Touching.{hours-planned}

module _ (graph : Graph) (setup : Setup) (entries : List Entry) (desks : List DeskState) (given : List ℕ) (is : IsMarket graph setup entries desks given) where
  -- what is planned is settled, and counted
  pub grown : (entry : Entry) → IsLegal setup entries → entry.caller < length setup.callers
      → entry.reply ≡ reply_to setup (journal_events entries) entry.caller entry.command
      → (old new : DayState) → IsSetOf (planned_hours setup entry.caller entry.command) old.chosen
      → old.desks ≡ planned_desks setup entries (planned_hours setup entry.caller entry.command) (events_of entry.reply)
      → chosen_of new ≡ map carried (chosen_of old) → others_of new ≡ others_of old
      → (counts : List ℕ) → counts ≡ slice_set given entry.caller (slice_index given entry.caller + 1)
      → IsMarket graph setup (entries ++ entry ∷ []) new.desks counts
  grown entry legal known reply old new set planned now rest counts counted = record {
    over = is.over;
    of_day = is.of_day;
    stand = day-carried setup hours (hours-planned setup entry.caller entry.command) entries old new entry set planned now rest none;
    callers = ap length counted ∙ length-set _ _ _ ∙ is.callers;
    counted = λ caller. ap (λ (cs : List ℕ). slice_index cs caller) counted ∙ count-more given entries entry is.counted (let size = is.callers in omega (arith, known, size)) caller;
  }
    where
      hours : List ℕ
      hours = planned_hours setup entry.caller entry.command

      none : (hour : ℕ) → has hour hours ≡ false → of_hour hour (events_of entry.reply) ≡ []
      none hour out = ap (λ (r : Reply). of_hour hour (events_of r)) reply ∙ nothing-elsewhere setup entry.caller entry.command entries is.of_day.is_setup legal hour out

  -- what is planned is dropped
  pub tried_out : (caller : ℕ) (command : Command) (reply : Reply) (old new : DayState) → IsSetOf (planned_hours setup caller command) old.chosen
      → old.desks ≡ planned_desks setup entries (planned_hours setup caller command) (events_of reply)
      → chosen_of new ≡ dropped (chosen_of old) → others_of new ≡ others_of old → IsMarket graph setup entries new.desks given
  tried_out caller command reply old new set planned now rest = record {
    over = is.over;
    of_day = is.of_day;
    stand = day-dropped setup (planned_hours setup caller command) (hours-planned setup caller command) entries old new (events_of reply) set planned now rest;
    callers = is.callers;
    counted = is.counted;
  }
