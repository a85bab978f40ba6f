-- The desk of an hour may go from one thread to another.
use denote.Param.Send.{IsSend, sendable}
use Rattle.std.proofs.Crossing.{crosses}
use Rattle.std.proofs.option.Option.TheSendSync as option
use Rattle.zone_graph.proofs.sequence.Sequence.TheSendSync as sequence
use Rattle.market_model.proofs.event.Event.TheSendSync as event
use Rattle.hour_store.proofs.store.HourStore.TheSendSync as store
use Rattle.desk_changes.specs.KeptHour as kept
use Rattle.desk_views.proofs.desk.DeskViews.TheSendSync as views
use Rattle.hour_desk.specs.contracts.desk.HourDesk as desk

kept_send : IsSend kept.the_row
kept_send = search (store.the_send, sequence.the_send, event.the_send, option.the_send, crosses, sendable) depth 20

pub desk_send : IsSend desk.the_row
desk_send = search (kept_send, views.the_send, crosses, sendable) depth 20
