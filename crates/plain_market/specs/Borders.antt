-- What happens on a border as a command is carried out.
use Rattle.std.specs.Prelude.{ℕ, Option, None}
use Rattle.std.specs.Option.{option_map}
use Rattle.order_kinds.specs.declared.contract.Quarter.{Quarter}
use Rattle.zone_graph.specs.declared.route.Arc.{Arc}
use Rattle.zone_graph.specs.Graph.{Graph}
use Rattle.zone_graph.specs.Grid.{arc_between}
use Rattle.market_model.specs.declared.command.Command.{Command}
use Rattle.market_model.specs.declared.command.Command.TheVariants as command
use Rattle.market_model.specs.declared.event.Event.TheVariants as event
use Rattle.plain_market.specs.declared.border_events.BorderEvent.{BorderEvent}

-- an event on an arc, and the hours of which it is
abbrev pub offer : (first last : Quarter) → (lots : ℕ) → Arc → BorderEvent
offer first last lots arc = record { event = event.Offered arc first last lots; first = first.hour; last = last.hour }

abbrev pub grant : (first last : Quarter) → (lots : ℕ) → Arc → BorderEvent
grant first last lots arc = record { event = event.Granted arc first last lots; first = first.hour; last = last.hour }

abbrev pub halt : (first last : ℕ) → Arc → BorderEvent
halt first last arc = record { event = event.Halted arc.border first last; first = first; last = last }

abbrev pub resumption : (first last : ℕ) → Arc → BorderEvent
resumption first last arc = record { event = event.Resumed arc.border first last; first = first; last = last }

-- the event of a command on the arc that it names, if there is one
abbrev pub border_event : Graph → Command → Option BorderEvent
border_event graph (command.Offer from to first last lots) = option_map (offer first last lots) (arc_between graph from to)
border_event graph (command.Request from to first last lots) = option_map (grant first last lots) (arc_between graph from to)
border_event graph (command.Halt from to first last) = option_map (halt first last) (arc_between graph from to)
border_event graph (command.Resume from to first last) = option_map (resumption first last) (arc_between graph from to)
border_event graph _ = None
