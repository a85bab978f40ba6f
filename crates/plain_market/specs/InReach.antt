-- The makers with which a taker can trade, by the distances of the zones in reach.
use Rattle.std.specs.Prelude.{ℕ, Bool, ◌&&◌, List, Option, None, is_some, nat_lt, slice_index_or}
use Rattle.order_kinds.specs.declared.side.Side.{Side}
use Rattle.laws_of_rows.specs.declared.trades.Maker.{Maker}
use Rattle.laws_of_rows.specs.Depth.{crosses_any}

-- a taker can trade with a maker of a side, where the zones in reach have a distance
abbrev pub is_in_reach : (distances : List (Option ℕ)) → Side → Maker → Bool
is_in_reach distances side maker = nat_lt 0 maker.left && crosses_any side maker && is_some (slice_index_or distances maker.zone None)
