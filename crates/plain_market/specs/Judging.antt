-- Why an order is refused, by the history with the order entered and the history after its taking.
use Rattle.std.specs.Prelude.{ℕ, zero, suc, ◌+◌, ◌==◌, List, Option, Some, None, if◌then◌else◌}
use Rattle.std.specs.Option.{option_map}
use Rattle.order_kinds.specs.declared.order.Kind.{Kind}
use Rattle.order_kinds.specs.declared.order.Kind.TheVariants as kind
use Rattle.order_kinds.specs.declared.order.Order.{Order}
use Rattle.order_kinds.specs.declared.order.OrderName.{OrderName}
use Rattle.order_kinds.specs.Period.{contract_quarters}
use Rattle.zone_graph.specs.Graph.{Graph}
use Rattle.market_model.specs.declared.event.Event.{Event}
use Rattle.market_model.specs.declared.refusal.Refusal.{Refusal}
use Rattle.market_model.specs.declared.refusal.Refusal.TheVariants as refusal
use Rattle.market_model.specs.Certificate.{crossing_inside, room_across, zones_in_reach}
use Rattle.market_model.specs.Orders.{left}
use Rattle.market_model.specs.Refusals.{has_desk_room}
use Rattle.market_model.specs.Room.{room}
use Rattle.market_model.specs.Rules.{unless}
use Rattle.plain_market.specs.declared.judging.Certificate.{Certificate}

-- the zones that are still in reach of an order after its taking
abbrev pub zones_after : Graph → (after : List Event) → Order → List ℕ
zones_after graph after order = zones_in_reach graph (room after (contract_quarters order.contract)) order.side order.zone

-- the most that an order can obtain of some zones and from outside them, as its taking starts
abbrev pub most_from : Graph → (start : List Event) → Order → (zones : List ℕ) → ℕ
most_from graph start order zones =
    crossing_inside start order zones + room_across graph (room start (contract_quarters order.contract)) order.side zones

-- an order is filled by its taking, or has a certificate: the zones in reach and their bound
abbrev pub certificate : Graph → (start after : List Event) → OrderName → Order → Option Certificate
certificate graph start after name order =
    let zones = zones_after graph after order in
    if left after name == 0 then None else Some (record { zones = zones; bound = most_from graph start order zones })

-- what its taking leaves of an order has room on the desk
abbrev pub unless_full : (after : List Event) → OrderName → Option Refusal
unless_full after name = rests (left after name)
  where
    rests : ℕ → Option Refusal
    rests zero = None
    rests (suc more) = unless (has_desk_room after name) refusal.DeskFull

-- why an order that enters by itself is refused
abbrev pub refusal_after : Graph → (start after : List Event) → OrderName → Order → Option Refusal
refusal_after graph start after name order = by_kind order.kind
  where
    by_kind : Kind → Option Refusal
    by_kind kind.Fok = option_map (λ found. refusal.Unfilled found.zones found.bound) (certificate graph start after name order)
    by_kind kind.Ioc = None
    by_kind kind.Limit = unless_full after name
    by_kind (kind.Iceberg peak delta) = unless_full after name
