-- The plain market: the reply to each command after the events before it, and the journal of a list
-- of commands. Everything that is claimed of the program is claimed of these.
use Rattle.std.specs.Prelude.{◌≡◌, ℕ, ◌+◌, ◌-◌, ◌==◌, List, [], ◌∷◌, ◌++◌, map, count_by, Option, Some, None}
use Rattle.std.specs.List.{filter_map, slice_get}
use Rattle.std.specs.Option.{option_map, option_and_then}
use Rattle.order_kinds.specs.declared.contract.Part.{Part}
use Rattle.order_kinds.specs.declared.phase.Phase.{Phase}
use Rattle.order_kinds.specs.declared.phase.Phase.TheVariants as phase
use Rattle.order_kinds.specs.Period.{hours_from}
use Rattle.zone_graph.specs.declared.route.Arc.{Arc}
use Rattle.zone_graph.specs.Graph.{Graph}
use Rattle.market_model.specs.declared.command.Command.{Command}
use Rattle.market_model.specs.declared.command.Command.TheVariants as command
use Rattle.market_model.specs.declared.entry.Entry.{Entry}
use Rattle.market_model.specs.declared.event.Event.{Event}
use Rattle.market_model.specs.declared.event.Event.TheVariants as event
use Rattle.market_model.specs.declared.refusal.Refusal.{Refusal}
use Rattle.market_model.specs.declared.reply.Reply.{Reply}
use Rattle.market_model.specs.declared.reply.Reply.TheVariants as reply
use Rattle.market_model.specs.declared.setup.Setup.{Setup}
use Rattle.market_model.specs.Blocks.{enter_block, match_blocks}
use Rattle.market_model.specs.Entering.{enter, enter_all}
use Rattle.market_model.specs.Grid.{graph_of}
use Rattle.zone_graph.specs.Grid.{arc_between}
use Rattle.market_model.specs.History.{journal_events}
use Rattle.market_model.specs.Orders.{left, open_names}
use Rattle.market_model.specs.Refusals.{refusal_of_command}
use Rattle.market_model.specs.Sweep.{all_parts, sweeps}
use Rattle.market_model.specs.View.{view}

-- one event, and then the sweeps of some hours
abbrev pub then_sweeps : List Part → Graph → (hours : List ℕ) → List Event → Event → List Event
then_sweeps parts graph hours events done = done ∷ sweeps parts graph hours (events ++ done ∷ [])

-- what happens on an arc; nothing where no border joins the zones, which a rule refuses
abbrev pub on_arc : Option Arc → (Arc → List Event) → List Event
on_arc None happening = []
on_arc (Some arc) happening = happening arc

-- what closing an hour withdraws: its open orders and the open blocks that are named by it, in order
-- of entry
abbrev pub withdrawals : List Event → (hour : ℕ) → Phase → List Event
withdrawals events hour phase.Closed = map (λ name. event.Withdrawn name (left events name)) (open_names events hour)
withdrawals events hour _ = []

-- the events of a gate: the gate, what it withdraws, the sweep of the hour
abbrev pub gate : List Part → Graph → (hour : ℕ) → Phase → List Event → List Event
gate parts graph hour asked events =
    let done = event.Gated hour asked ∷ withdrawals events hour asked in
    done ++ sweeps parts graph (hour ∷ []) (events ++ done)

-- the events of a command that no rule refuses, after some events
unfoldable pub events_done : List Part → Setup → List Event → (caller : ℕ) → Command → List Event
events_done parts setup events caller (command.Enter order) = enter parts (graph_of setup) caller order events
events_done parts setup events caller (command.EnterBlock order) = enter_block parts (graph_of setup) caller order events
events_done parts setup events caller (command.EnterBasket orders) = enter_all parts (graph_of setup) caller orders events
events_done parts setup events caller (command.Cancel name) = event.Withdrawn name (left events name) ∷ []
events_done parts setup events caller (command.Reduce name to) = event.Reduced name (left events name - to) ∷ []
events_done parts setup events caller (command.Blocks first last) = match_blocks parts (graph_of setup) first last events
events_done parts setup events caller (command.Offer from to first last lots) = on_arc (arc_between (graph_of setup) from to)
    (λ arc. then_sweeps parts (graph_of setup) (hours_from first.hour last.hour) events (event.Offered arc first last lots))
events_done parts setup events caller (command.Request from to first last lots) = on_arc (arc_between (graph_of setup) from to)
    (λ arc. then_sweeps parts (graph_of setup) (hours_from first.hour last.hour) events (event.Granted arc first last lots))
events_done parts setup events caller (command.Halt from to first last) = on_arc (arc_between (graph_of setup) from to)
    (λ arc. then_sweeps parts (graph_of setup) (hours_from first last) events (event.Halted arc.border first last))
events_done parts setup events caller (command.Resume from to first last) = on_arc (arc_between (graph_of setup) from to)
    (λ arc. then_sweeps parts (graph_of setup) (hours_from first last) events (event.Resumed arc.border first last))
events_done parts setup events caller (command.Gate hour asked) = gate parts (graph_of setup) hour asked events
events_done parts setup events caller (command.View contract side zone) = []

-- the answer to a command that no rule refuses: the rows of a view, else the events
abbrev pub reply_let_in : List Part → Setup → List Event → (caller : ℕ) → Command → Reply
reply_let_in parts setup events caller (command.View contract side zone) =
    reply.Seen (view (graph_of setup) events contract side zone)
reply_let_in parts setup events caller given = reply.Done (events_done parts setup events caller given)

-- the refusal, where there is one, else an answer; only what is asked for is computed, so the answer
-- is a function
abbrev pub refused_or : Option Refusal → (Unit {0} → Reply) → Reply
refused_or (Some broken) answered = reply.Refused broken
refused_or None answered = answered tt

-- the reply to a caller's command after some events, in a market whose sweeps try these parts
unfoldable pub reply_by : List Part → Setup → List Event → (caller : ℕ) → Command → Reply
reply_by parts setup events caller given =
    refused_or (refusal_of_command setup events caller given) (λ _. reply_let_in parts setup events caller given)

-- the reply of the market
abbrev pub reply_to : Setup → List Event → (caller : ℕ) → Command → Reply
reply_to setup events caller given = reply_by all_parts setup events caller given

-- a command and who gives it
pub record Turn : Type 0 where
  pub caller : ℕ
  pub command : Command

-- the entry of a turn after the entries before it: the caller's next number, the command, and the
-- reply after the events so far
abbrev pub entry_of : List Part → Setup → List Entry → Turn → Entry
entry_of parts setup before turn = record {
  caller = turn.caller;
  nth = count_by (λ entry. entry.caller == turn.caller) before + 1;
  command = turn.command;
  reply = reply_by parts setup (journal_events before) turn.caller turn.command;
}

-- the entries of some turns after the entries before them
unfoldable pub run_after : List Part → Setup → List Entry → List Turn → List Entry
run_after parts setup before [] = []
run_after parts setup before (turn ∷ turns) =
    let entry = entry_of parts setup before turn in entry ∷ run_after parts setup (before ++ entry ∷ []) turns

-- the journal of a list of turns, in a market whose sweeps try these parts
abbrev pub run_by : List Part → Setup → List Turn → List Entry
run_by parts setup turns = run_after parts setup [] turns

-- the journal of a list of turns
abbrev pub run_of : Setup → List Turn → List Entry
run_of setup turns = run_by all_parts setup turns

-- the turn of an entry
abbrev pub turn_of : Entry → Turn
turn_of entry = record { caller = entry.caller; command = entry.command }

-- a journal is legal: it is that of its own turns
abbrev pub IsLegal : Setup → List Entry → Type 0
IsLegal setup entries = entries ≡ run_of setup (map turn_of entries)

-- the next turn of a caller who had this many before
abbrev pub turn_at : (commands : List (List Command)) → (caller before : ℕ) → Option Turn
turn_at commands caller before =
    option_map (λ given. record { caller = caller; command = given })
    (option_and_then (λ own. slice_get own before) (slice_get commands caller))

-- the commands of each caller in the order of turns that name the callers: the k-th is the next
-- command of the k-th caller named
abbrev pub in_turn_after : (commands : List (List Command)) → (past : List ℕ) → List ℕ → List (Option Turn)
in_turn_after commands past [] = []
in_turn_after commands past (caller ∷ callers) =
    turn_at commands caller (count_by (λ other. other == caller) past) ∷ in_turn_after commands (past ++ caller ∷ []) callers

abbrev pub in_turn : (commands : List (List Command)) → (callers : List ℕ) → List Turn
in_turn commands callers = filter_map (λ turn. turn) (in_turn_after commands [] callers)
