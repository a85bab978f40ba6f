-- The zones near a change, and what the kept rows are to be so that only those near it are made anew.
use Rattle.std.specs.Prelude.{◌≡◌, ℕ, ◌<◌, Bool, ◌&&◌, List, [], filter, get_or, length}
use Rattle.std.specs.List.{list_any, range_with_len}
use Rattle.order_kinds.specs.declared.side.Side.{Side}
use Rattle.order_kinds.specs.declared.side.Side.TheVariants.{Buy, Sell}
use Rattle.order_kinds.specs.Contract.{contract_at}
use Rattle.order_kinds.specs.Period.{contract_quarters}
use Rattle.order_kinds.specs.Side.{opposite}
use Rattle.cut_proof.specs.ZoneSet.{holds}
use Rattle.zone_graph.specs.declared.route.Arc.{Arc}
use Rattle.zone_graph.specs.Graph.{Graph, border_count, zone_count}
use Rattle.zone_graph.specs.Reach.{reaches}
use Rattle.zone_graph.specs.Rooms.{room_of}
use Rattle.market_model.specs.declared.event.Event.{Event}
use Rattle.market_model.specs.declared.reply.ViewRow.{ViewRow}
use Rattle.market_model.specs.Board.{BoardState, IsHourOf}
use Rattle.market_model.specs.Room.{room}
use Rattle.market_model.specs.View.{view}
use Rattle.laws_of_views.specs.Nearby.{DifferWithin}

-- a zone can trade with a taker in a zone: it reaches that one's zone, or is reached from there
abbrev pub is_joined : Graph → (Arc → ℕ) → Side → (zone other : ℕ) → Bool
is_joined graph room Buy zone other = reaches graph room zone other
is_joined graph room Sell zone other = reaches graph room other zone

-- the zones whose bits are set
abbrev pub zones_touched : Graph → (touched : ℕ) → List ℕ
zones_touched graph touched = filter (holds touched) (range_with_len 0 (zone_count graph))

-- a touched zone can trade with a taker in a zone
abbrev pub is_near : Graph → (Arc → ℕ) → Side → (touched zone : ℕ) → Bool
is_near graph room side touched zone =
    list_any (λ other. holds touched other && is_joined graph room side zone other) (range_with_len 0 (zone_count graph))

-- how many zones that is so for
abbrev pub near_count : Graph → (Arc → ℕ) → Side → (touched : ℕ) → ℕ
near_count graph room side touched = length (filter (is_near graph room side touched) (range_with_len 0 (zone_count graph)))

-- the kept rows of a part and side are the views after events of the hour, with these rooms, and the
-- board differs from them in touched zones alone
pub record WereViews (board : BoardState) (part : ℕ) (side : Side) (touched : ℕ) (rooms : List (ℕ × ℕ)) (kept : List (List ViewRow)) : Type 0 where
  pub events : List Event
  pub stands : IsHourOf board.grid board.hour events
  pub size : length rooms ≡ border_count board.grid
  pub rooms_are : (arc : Arc) → arc.border < border_count board.grid → room_of rooms arc ≡ room events (contract_quarters (contract_at board.hour part)) arc
  pub kept_are : (zone : ℕ) → zone < zone_count board.grid → get_or kept zone [] ≡ view board.grid events (contract_at board.hour part) side zone
  pub differ : DifferWithin board.grid events board.events (contract_at board.hour part) side (zones_touched board.grid touched)

-- a part and side are others than these
abbrev pub AreOthers : (part : ℕ) → Side → (other : ℕ) → (otherwise : Side) → Type 0
AreOthers part side other otherwise = other ≡ part → otherwise ≡ opposite side
