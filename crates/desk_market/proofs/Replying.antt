-- The reply to a command after a legal journal.
use Rattle.std.proofs.Common.{◌≡◌, ◌∙◌, ℕ, false, List, [], map, Option, None, Some, refl, sym, ap, subst}
use Rattle.std.proofs.lemmas.Bool.{true≢false}
use Rattle.zone_graph.specs.Route.{has}
use Rattle.zone_graph.proofs.Membership.{has-IsIn}
use Rattle.market_model.specs.declared.command.Command.{Command}
use Rattle.market_model.specs.declared.entry.Entry.{Entry}
use Rattle.market_model.specs.declared.event.Event.{Event}
use Rattle.market_model.specs.declared.refusal.Refusal.{Refusal}
use Rattle.market_model.specs.declared.reply.Reply.{Reply}
use Rattle.market_model.specs.declared.reply.Reply.TheVariants as reply
use Rattle.market_model.specs.declared.setup.Setup.{Setup}
use Rattle.market_model.specs.History.{events_of, journal_events, of_hour}
use Rattle.market_model.specs.Market.{IsLegal, reply_to, turn_of}
use Rattle.market_model.specs.Rules.{early_refusal, touched_hours}
use Rattle.market_model.specs.Sweep.{all_parts}
use Rattle.market_model.specs.WellFormed.{IsHistory, IsMarketSetup}
use Rattle.laws_of_market.proofs.Journals.{run-history}
use Rattle.laws_of_market.proofs.NamedByHour.{history-named}
use Rattle.laws_of_market.proofs.WithinHours.{reply-within}
use Rattle.basket_match.proofs.Touching.{none-elsewhere}
use Rattle.basket_match.proofs.Commands.{refused-early}
use Rattle.desk_market.specs.Standing.{planned_hours}
use Rattle.desk_market.proofs.Touching.{planned-touched}

module _ (setup : Setup) (caller : ℕ) (given : Command) where
  -- the reply has no event of an hour in which the command does not plan
  pub nothing-elsewhere : (entries : List Entry) → IsMarketSetup setup → IsLegal setup entries → (hour : ℕ) → has hour (planned_hours setup caller given) ≡ false
      → of_hour hour (events_of (reply_to setup (journal_events entries) caller given)) ≡ []
  nothing-elsewhere entries is_setup legal hour out = go (early_refusal setup caller given) refl
    where
      history : List Event
      history = journal_events entries

      is_history : IsHistory setup history
      is_history = subst (λ (es : List Entry). IsHistory setup (journal_events es)) (sym legal) (run-history setup is_setup all_parts (map turn_of entries))

      go : (o : Option Refusal) → early_refusal setup caller given ≡ o → of_hour hour (events_of (reply_to setup history caller given)) ≡ []
      go None early =
          let touched : List ℕ = touched_hours setup caller given in
          let apart : has hour touched ≡ false = ap (has hour) (sym (planned-touched setup caller given early)) ∙ out in
          none-elsewhere touched hour (events_of (reply_to setup history caller given))
          (reply-within all_parts setup history caller given (history-named setup history is_history.fit))
          (λ is. true≢false (sym (has-IsIn hour touched is) ∙ apart))
      go (Some broken) early = ap (λ (r : Reply). of_hour hour (events_of r)) (refused-early setup caller given history broken early)
