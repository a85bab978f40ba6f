-- What the threads of callers share, and what they take with them.
use mathlib.Core.List.{List, [], ◌∷◌}
use mir.Syntax.{Sym}
use denote.RattleType.{RattleType}
use denote.Param.Send.{AllSend, IsSend, IsSync, sendable}
use denote.Param.SendFields.{FieldsHave, as_row_send, declared_send}
use denote.Struct.Field.{row_field}
use denote.Struct.Tuple.{TupleAt, parts, type_at}
use Rattle.std.proofs.Crossing.{crosses}
use Rattle.std.specs.contracts.alloc.Global as heap
use Rattle.zone_graph.proofs.sequence.Sequence.TheSendSync as sequence_crosses
use Rattle.zone_graph.specs.contracts.sequence.Sequence as sequence
use Rattle.market_model.proofs.command.Command.TheSendSync as command_crosses
use Rattle.market_model.specs.contracts.command.Command as command
use Rattle.trader_pass.proofs.pass.Pass.TheSendSync as pass_crosses
use Rattle.trader_pass.specs.contracts.pass.Pass as pass

-- commands are shared
command_sync : IsSync command.the_row
command_sync = search (command_crosses.the_sync, crosses, sendable) depth 20

pub commands_sync : IsSync (sequence.the_row command.the_row)
commands_sync = search (command_sync, sequence_crosses.the_sync, crosses, sendable) depth 20

-- a pass goes with its caller
pub pass_send : IsSend pass.the_row
pass_send = search (pass_crosses.the_send, crosses, sendable) depth 20

pub heap_sync : IsSync heap.the_row
heap_sync = search (crosses, sendable) depth 20

fields_send : (Ts : List RattleType) → AllSend Ts → FieldsHave IsSend (parts Ts)
fields_send [] all = tt
fields_send (T ∷ Ts) all = (as_row_send (row_field T) all.0, fields_send Ts all.1)

-- a closure goes where all that it captures does
pub captures_send : (name : Sym) (Ts : List RattleType) → AllSend Ts → IsSend (TupleAt name Ts)
captures_send name Ts all = declared_send (type_at name Ts) (fields_send Ts all)
