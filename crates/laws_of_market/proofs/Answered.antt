-- The reply of the market, by what the refusal is.
use Rattle.std.proofs.Common.{◌≡◌, ◌∙◌, ℕ, List, [], ◌∷◌, ◌++◌, length, drop, Some, None, refl, sym, ap}
use Rattle.std.proofs.lemmas.List.{append-nil}
use Rattle.order_kinds.specs.declared.contract.Contract.{Contract}
use Rattle.order_kinds.specs.declared.side.Side.{Side}
use Rattle.zone_graph.specs.Graph.{Graph}
use Rattle.market_model.specs.declared.command.Command.{Command}
use Rattle.market_model.specs.declared.command.Command.TheVariants as command
use Rattle.market_model.specs.declared.event.Event.{Event}
use Rattle.market_model.specs.declared.refusal.Refusal.{Refusal}
use Rattle.market_model.specs.declared.reply.Reply.{Reply}
use Rattle.market_model.specs.declared.reply.Reply.TheVariants as reply
use Rattle.market_model.specs.declared.setup.Setup.{Setup}
use Rattle.market_model.specs.Grid.{graph_of}
use Rattle.market_model.specs.History.{events_of}
use Rattle.market_model.specs.Market.{reply_let_in, events_done, refused_or, reply_by, reply_to}
use Rattle.market_model.specs.Refusals.{refusal_of_command}
use Rattle.market_model.specs.Rules.{first_broken}
use Rattle.market_model.specs.Sweep.{all_parts}
use Rattle.market_model.specs.View.{view}
use Rattle.market_model.specs.StateRules.{filling_rules}
use Rattle.market_model.specs.LetIn.{IsLetIn}
use Rattle.laws_of_market.proofs.Admitting.{let_in-refusal}

-- a reply, and the history after it
pub record Answers (setup : Setup) (events : List Event) (caller : ℕ) (given : Command) (made : Reply) (after : List Event) : Type 0 where
  pub reply : made ≡ reply_to setup events caller given
  pub history : after ≡ events ++ events_of (reply_to setup events caller given)

pub refused : (setup : Setup) (events after : List Event) (caller : ℕ) (given : Command) (broken : Refusal) → refusal_of_command setup events caller given ≡ Some broken
    → after ≡ events → Answers setup events caller given (reply.Refused broken) after
unfolding reply_by
refused setup events after caller given broken is same =
    let made : reply.Refused broken ≡ reply_to setup events caller given = sym (ap (λ o. refused_or o (λ _. reply_let_in all_parts setup events caller given)) is) in
    record {
      reply = made;
      history = same ∙ sym (append-nil events) ∙ ap (λ r. events ++ events_of r) made;
    }

-- a command that no rule refuses is answered
let-through : (setup : Setup) (events : List Event) (caller : ℕ) (given : Command) → refusal_of_command setup events caller given ≡ None
    → reply_let_in all_parts setup events caller given ≡ reply_to setup events caller given
unfolding reply_by
let-through setup events caller given is = sym (ap (λ o. refused_or o (λ _. reply_let_in all_parts setup events caller given)) is)

pub seen : (setup : Setup) (events after : List Event) (caller : ℕ) (given : Command) (contract : Contract) (side : Side) (zone : ℕ)
    → given ≡ command.View contract side zone → IsLetIn setup events caller given → after ≡ events
    → Answers setup events caller given (reply.Seen (view (graph_of setup) events contract side zone)) after
seen setup events after caller given contract side zone is let_in same =
    let none : refusal_of_command setup events caller (command.View contract side zone) ≡ None =
    ap (refusal_of_command setup events caller) (sym is) ∙ let_in-refusal setup events caller given let_in
    ∙ ap (λ g. first_broken (filling_rules (graph_of setup) events caller g)) is in
    let made : reply.Seen (view (graph_of setup) events contract side zone) ≡ reply_to setup events caller given =
    let-through setup events caller (command.View contract side zone) none ∙ ap (reply_to setup events caller) (sym is) in
    record {
      reply = made;
      history = same ∙ sym (append-nil events) ∙ ap (λ r. events ++ events_of r) made;
    }

-- every other command is done
done-is : (setup : Setup) (events : List Event) (caller : ℕ) (given : Command) → ((contract : Contract) (side : Side) (zone : ℕ) → ¬ (given ≡ command.View contract side zone))
    → reply.Done (events_done all_parts setup events caller given) ≡ reply_let_in all_parts setup events caller given
done-is setup events caller (command.View contract side zone) n = absurd (n contract side zone refl)
done-is setup events caller _ n = refl

back-of : (front back : List Event) → drop (length front) (front ++ back) ≡ back
back-of [] back = refl
back-of (event ∷ front) back = back-of front back

pub done : (graph : Graph) (setup : Setup) (events after made : List Event) (caller : ℕ) (given : Command) (before : ℕ) → graph ≡ graph_of setup
    → ((contract : Contract) (side : Side) (zone : ℕ) → ¬ (given ≡ command.View contract side zone)) → IsLetIn setup events caller given
    → None ≡ first_broken (filling_rules graph events caller given) → after ≡ events ++ events_done all_parts setup events caller given
    → before ≡ length events → made ≡ drop before after → Answers setup events caller given (reply.Done made) after
done graph setup events after made caller given before over no_view let_in none grew at is =
    let through : refusal_of_command setup events caller given ≡ None =
    let_in-refusal setup events caller given let_in ∙ ap (λ g. first_broken (filling_rules g events caller given)) (sym over) ∙ sym none in
    let all : made ≡ events_done all_parts setup events caller given =
    is ∙ ap (λ n. drop n after) at ∙ ap (drop (length events)) grew ∙ back-of events (events_done all_parts setup events caller given) in
    let whole : reply.Done (events_done all_parts setup events caller given) ≡ reply_to setup events caller given =
    done-is setup events caller given no_view ∙ let-through setup events caller given through in
    record {
      reply = ap reply.Done all ∙ whole;
      history = grew ∙ ap (λ r. events ++ events_of r) whole;
    }

pub refused_late : (graph : Graph) (setup : Setup) (events after : List Event) (caller : ℕ) (given : Command) (broken : Refusal) → graph ≡ graph_of setup
    → IsLetIn setup events caller given → Some broken ≡ first_broken (filling_rules graph events caller given) → after ≡ events
    → Answers setup events caller given (reply.Refused broken) after
refused_late graph setup events after caller given broken over let_in is same =
    refused setup events after caller given broken
    (let_in-refusal setup events caller given let_in ∙ ap (λ g. first_broken (filling_rules g events caller given)) (sym over) ∙ sym is) same
