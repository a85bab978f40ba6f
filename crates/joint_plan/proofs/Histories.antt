-- The history of a journal, and how the hours of desks go on with a reply.
use Rattle.std.proofs.Common.{◌≡◌, ◌∙◌, ℕ, List, [], ◌++◌, Option, None, Some, is_none, map, refl, sym, ap, append_assoc, if◌then◌else◌, subst}
use Rattle.zone_graph.specs.Graph.{Graph}
use Rattle.zone_graph.specs.Route.{IsIn}
use Rattle.market_model.specs.declared.command.Command.{Command}
use Rattle.market_model.specs.declared.entry.Entry.{Entry}
use Rattle.market_model.specs.declared.event.Event.{Event}
use Rattle.market_model.specs.declared.refusal.Refusal.{Refusal}
use Rattle.market_model.specs.declared.reply.Reply.TheVariants as reply
use Rattle.market_model.specs.declared.setup.Setup.{Setup}
use Rattle.market_model.specs.Board.{IsHourOf}
use Rattle.market_model.specs.Grid.{graph_of}
use Rattle.market_model.specs.History.{events_of, journal_events, of_hour}
use Rattle.market_model.specs.Market.{reply_let_in, refused_or, reply_by, reply_to, turn_of}
use Rattle.market_model.specs.Refusals.{refusal_of_command}
use Rattle.market_model.specs.Rules.{early_refusal, first_broken, hours_concerned, naming_refusal, numbers_refusal, touched_hours}
use Rattle.market_model.specs.Sweep.{all_parts, or_else}
use Rattle.market_model.specs.WellFormed.{IsHistory}
use Rattle.market_model.specs.StateRules.{filling_rules, state_refusal}
use Rattle.laws_of_market.proofs.Journals.{run-history}
use Rattle.laws_of_market.proofs.StateRules.{state_comes_second}
use Rattle.laws_of_joint_commands.proofs.HoursGoOn.{replies}
use Rattle.hour_desk.specs.Desk.{DeskState}
use Rattle.joint_plan.specs.Rows.{IsHistoryOf, IsJournalOf}

-- the events of a legal journal are a well-formed history, and each desk has what they have of its hour
pub journal-history : (setup : Setup) (desks : List DeskState) (entries : List Entry) → IsJournalOf setup desks entries → IsHistoryOf setup desks (journal_events entries)
journal-history setup desks entries journal = record {
  is_setup = journal.is_setup;
  is_history = subst (λ (es : List Entry). IsHistory setup (journal_events es)) (sym journal.legal) (run-history setup journal.is_setup all_parts (map turn_of entries));
  left = journal.left;
}

-- a command that breaks no rule by itself touches the hours that it concerns
pub early-naming : (setup : Setup) (caller : ℕ) (given : Command) → early_refusal setup caller given ≡ None → naming_refusal setup caller given ≡ None
early-naming setup caller given early = go (naming_refusal setup caller given) refl
  where
    go : (o : Option Refusal) → naming_refusal setup caller given ≡ o → naming_refusal setup caller given ≡ None
    go None is = is
    go (Some broken) is =
        let told : Some broken ≡ None = sym (ap (λ (o : Option Refusal). or_else o (λ _. or_else (numbers_refusal given) (λ _. None))) is) ∙ early in cc

pub touched-concerned : (setup : Setup) (caller : ℕ) (given : Command) → early_refusal setup caller given ≡ None → touched_hours setup caller given ≡ hours_concerned given
touched-concerned setup caller given early = ap (λ o. if is_none o then hours_concerned given else []) (early-naming setup caller given early)

-- a command that breaks no rule by itself is refused by one on the state, or on filling
pub split : (setup : Setup) (history : List Event) (caller : ℕ) (given : Command) → early_refusal setup caller given ≡ None
    → refusal_of_command setup history caller given
    ≡ or_else (state_refusal (graph_of setup) history caller given) (λ _. first_broken (filling_rules (graph_of setup) history caller given))
split setup history caller given early =
    state_comes_second setup history caller given
    ∙ ap (λ (o : Option Refusal). or_else o (λ _. or_else (state_refusal (graph_of setup) history caller given) (λ _. first_broken (filling_rules (graph_of setup) history caller given)))) early

-- a refused command is answered so
pub refused : (setup : Setup) (history : List Event) (caller : ℕ) (given : Command) (broken : Refusal) → refusal_of_command setup history caller given ≡ Some broken
    → reply_to setup history caller given ≡ reply.Refused broken
unfolding reply_by
refused setup history caller given broken is = ap (λ o. refused_or o (λ _. reply_let_in all_parts setup history caller given)) is

module _ (setup : Setup) (history : List Event) (desks : List DeskState) (caller : ℕ) (given : Command) (is : IsHistoryOf setup desks history) where
  -- the hour of a desk goes on with each first part of what it shares, where it has that of the reply, and then more
  pub follows : (desk : DeskState) → IsIn desk desks → desk.grid ≡ graph_of setup → (shared more : List Event)
      → of_hour desk.hour (events_of (reply_to setup history caller given)) ≡ shared ++ more
      → (some rest : List Event) → shared ≡ some ++ rest → IsHourOf desk.grid desk.hour (desk.settled ++ some)
  follows desk i over shared more has some rest front =
      let events = events_of (reply_to setup history caller given) in
      let goes = replies setup all_parts history caller given is.is_setup is.is_history in
      let whole : of_hour desk.hour events ≡ some ++ (rest ++ more) = has ∙ ap (λ l. l ++ more) front ∙ append_assoc some rest more in
      let there = goes.parts desk.hour some (rest ++ more) whole in
      let own = subst (λ (es : List Event). IsHourOf (graph_of setup) desk.hour (es ++ some)) (is.left desk i) there in
      subst (λ (graph : Graph). IsHourOf graph desk.hour (desk.settled ++ some)) (sym over) own
