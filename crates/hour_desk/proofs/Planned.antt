-- What an hour has planned, and the reply that tells it.
use Rattle.std.proofs.Common.{◌≡◌, ◌∙◌, ℕ, List, [], ◌∷◌, ◌++◌, length, drop, Option, Some, None, Result, Ok, Err, OnErr, refl, sym, ap}
use Rattle.std.proofs.lemmas.List.{append-nil}
use Rattle.order_kinds.specs.declared.contract.Contract.{Contract}
use Rattle.order_kinds.specs.declared.side.Side.{Side}
use Rattle.zone_graph.specs.Graph.{Graph}
use Rattle.market_model.specs.declared.command.Command.{Command}
use Rattle.market_model.specs.declared.command.Command.TheVariants as command
use Rattle.market_model.specs.declared.event.Event.{Event}
use Rattle.market_model.specs.declared.refusal.Refusal.{Refusal}
use Rattle.market_model.specs.declared.reply.Reply.{Reply}
use Rattle.market_model.specs.declared.reply.Reply.TheVariants as reply
use Rattle.market_model.specs.declared.setup.Setup.{Setup}
use Rattle.market_model.specs.Board.{with_events}
use Rattle.market_model.specs.Grid.{graph_of}
use Rattle.market_model.specs.History.{events_of}
use Rattle.market_model.specs.Market.{events_done, reply_to}
use Rattle.market_model.specs.Rules.{early_refusal, first_broken}
use Rattle.market_model.specs.Sweep.{all_parts}
use Rattle.market_model.specs.View.{view}
use Rattle.market_model.specs.LetIn.{IsLetIn}
use Rattle.market_model.specs.StateRules.{filling_rules, state_refusal}
use Rattle.desk_changes.specs.Planned.{IsUnplanned, with_planned}
use Rattle.desk_changes.specs.State.{HourState, after_event, settled_board, undone, with_board, with_hand}
use Rattle.laws_of_market.proofs.Admitting.{IsNamed, early-none, state-some}
use Rattle.laws_of_market.proofs.Answered.{Answers, done, refused, refused_late, seen}
use Rattle.hour_desk.specs.Placed.{CanChange, IsPlaced}

-- ---- an hour with nothing planned

-- it is as it is settled
pub as-settled : (hour : HourState) → IsUnplanned hour → undone hour ≡ hour
as-settled hour unplanned =
    ap (λ es. with_board hour (with_hand (with_events hour.board es) None)) (sym unplanned.events)
    ∙ ap (λ h. with_board hour (with_hand hour.board h)) (sym unplanned.free)

pub settled-same : (hour : HourState) → IsUnplanned hour → settled_board hour ≡ hour.board
settled-same hour unplanned =
    ap (λ es. with_hand (with_events hour.board es) None) (sym unplanned.events) ∙ ap (with_hand hour.board) (sym unplanned.free)

-- and so it is with no events planned
pub none-planned : (hour : HourState) (events : List Event) → IsUnplanned hour → events ≡ [] → hour ≡ with_planned hour events
none-planned hour events unplanned none =
    sym (as-settled hour unplanned) ∙ ap (λ es. with_board hour (with_hand (with_events hour.board es) None)) (sym (append-nil hour.settled))
    ∙ ap (with_planned hour) (sym none)

-- what was planned is dropped
pub dropped-is : (hour new : HourState) (events : List Event) → IsUnplanned hour → new ≡ with_planned hour events → undone new ≡ hour
dropped-is hour new events unplanned is = ap undone is ∙ as-settled hour unplanned

-- one event
pub one-planned : (hour new : HourState) (e : Event) (events : List Event) → IsUnplanned hour → events ≡ e ∷ [] → new ≡ after_event hour e None → new ≡ with_planned hour events
one-planned hour new e events unplanned is after =
    after ∙ ap (λ es. with_board hour (with_hand (with_events hour.board (es ++ e ∷ [])) None)) unplanned.events ∙ ap (with_planned hour) (sym is)

-- ---- the reply

-- a reply is the market's, and an hour has its events planned
pub record IsAnswered (setup : Setup) (old new : HourState) (caller : ℕ) (given : Command) (made : Reply) : Type 0 where
  pub reply : made ≡ reply_to setup old.settled caller given
  pub planned : new ≡ with_planned old (events_of (reply_to setup old.settled caller given))

answered : (setup : Setup) (old new : HourState) (caller : ℕ) (given : Command) (made : Reply) (after : List Event) → Answers setup old.settled caller given made after
    → new ≡ with_board old (with_hand (with_events old.board after) None) → IsAnswered setup old new caller given made
answered setup old new caller given made after answers is = record {
  reply = answers.reply;
  planned = is ∙ ap (λ es. with_board old (with_hand (with_events old.board es) None)) answers.history;
}

-- what the state refuses, by the hour's grid and events
pub state-is : (setup : Setup) (hour : HourState) (caller : ℕ) (given : Command) (graph : Graph) → IsPlaced setup hour caller given → graph ≡ hour.board.grid
    → state_refusal (graph_of setup) hour.settled caller given ≡ state_refusal graph hour.board.events caller given
state-is setup hour caller given graph placed over =
    ap (λ g. state_refusal g hour.settled caller given) (placed.over ∙ sym over) ∙ ap (λ es. state_refusal graph es caller given) (sym placed.unplanned.events)

pub state-refused : (setup : Setup) (hour : HourState) (caller : ℕ) (given : Command) (graph : Graph) (o : Option Refusal) (broken : Refusal) → IsPlaced setup hour caller given
    → early_refusal setup caller given ≡ None → graph ≡ hour.board.grid → o ≡ state_refusal graph hour.board.events caller given → o ≡ Some broken
    → IsAnswered setup hour hour caller given (reply.Refused broken)
state-refused setup hour caller given graph o broken placed early over says is =
    let named : IsNamed setup caller given = early-none setup caller given early in
    answered setup hour hour caller given (reply.Refused broken) hour.settled
    (refused setup hour.settled hour.settled caller given broken
    (state-some setup hour.settled caller given broken named (state-is setup hour caller given graph placed over ∙ sym says ∙ is)) refl)
    (sym (as-settled hour placed.unplanned))

-- where no rule refuses a command by itself, nor one on the state, it is let in
pub let-in : (setup : Setup) (hour : HourState) (caller : ℕ) (given : Command) → CanChange setup hour caller given → IsLetIn setup hour.settled caller given
let-in setup hour caller given can =
    let named : IsNamed setup caller given = early-none setup caller given can.early in
    record { naming = named.naming; numbers = named.numbers; state = can.state }

pub view-seen : (setup : Setup) (hour : HourState) (caller : ℕ) (given : Command) (contract : Contract) (side : Side) (zone : ℕ) → CanChange setup hour caller given
    → given ≡ command.View contract side zone → IsAnswered setup hour hour caller given (reply.Seen (view (graph_of setup) hour.settled contract side zone))
view-seen setup hour caller given contract side zone can is =
    answered setup hour hour caller given (reply.Seen (view (graph_of setup) hour.settled contract side zone)) hour.settled
    (seen setup hour.settled hour.settled caller given contract side zone is (let-in setup hour caller given can) refl)
    (sym (as-settled hour can.placed.unplanned))

pub filling-refused : (setup : Setup) (hour : HourState) (caller : ℕ) (given : Command) (graph : Graph) (broken : Refusal) → CanChange setup hour caller given
    → graph ≡ hour.board.grid → Some broken ≡ first_broken (filling_rules graph hour.settled caller given) → IsAnswered setup hour hour caller given (reply.Refused broken)
filling-refused setup hour caller given graph broken can over is =
    answered setup hour hour caller given (reply.Refused broken) hour.settled
    (refused_late graph setup hour.settled hour.settled caller given broken (over ∙ sym can.placed.over) (let-in setup hour caller given can) is refl)
    (sym (as-settled hour can.placed.unplanned))

-- what is done is told by the planned events
pub done-told : (setup : Setup) (old new : HourState) (caller : ℕ) (given : Command) (graph : Graph) (made : Reply) → CanChange setup old caller given → graph ≡ old.board.grid
    → ((contract : Contract) (side : Side) (zone : ℕ) → ¬ (given ≡ command.View contract side zone))
    → None ≡ first_broken (filling_rules graph old.settled caller given) → new ≡ with_planned old (events_done all_parts setup old.settled caller given)
    → made ≡ reply.Done (drop (length new.settled) new.board.events) → IsAnswered setup old new caller given made
done-told setup old new caller given graph made can over no_view none planned told =
    let after : List Event = old.settled ++ events_done all_parts setup old.settled caller given in
    let front : drop (length new.settled) new.board.events ≡ drop (length old.settled) after = ap (λ (h : HourState). drop (length h.settled) h.board.events) planned in
    let answers = done graph setup old.settled after (drop (length old.settled) after) caller given (length old.settled)
    (over ∙ sym can.placed.over) no_view (let-in setup old caller given can) none refl refl refl in
    let its : IsAnswered setup old new caller given (reply.Done (drop (length old.settled) after)) =
    answered setup old new caller given (reply.Done (drop (length old.settled) after)) after answers planned in
    record { reply = told ∙ ap reply.Done front ∙ its.reply; planned = its.planned }

-- ---- results

pub on-err : {T E : Type 0} (result : Result T E) (P Q : Type 0) → (P → Q) → OnErr result P → OnErr result Q
on-err (Ok x) P Q so p = tt
on-err (Err e) P Q so p = so p
