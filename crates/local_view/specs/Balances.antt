-- What goes out of zones over borders, and what comes in.
use Rattle.std.specs.Prelude.{◌≡◌, ℕ, ◌+◌, ◌<◌, ◌≤◌, ◌==◌, ◌^◌, false, slice_index_or, true}
use Rattle.order_kinds.specs.declared.side.Side.{Side}
use Rattle.zone_graph.specs.declared.route.Arc.{Arc}
use Rattle.zone_graph.specs.Graph.{Graph}
use Rattle.zone_graph.specs.Pour.{lots_if}
use Rattle.local_view.specs.declared.balance.Balance.{Balance}
use Rattle.local_view.specs.Certified.{lots_from, lots_to}

-- by how much the lots that go out of a zone are more than those that come in, counted from 2 ^ 41
abbrev pub net_of : Balance → (zone : ℕ) → ℕ
net_of balance zone = slice_index_or balance.net zone 0

-- of no zone it is more than so many, up or down
pub record HasFew (balance : Balance) (most : ℕ) : Type 0 where
  pub up : (zone : ℕ) → zone < 64 → net_of balance zone ≤ 2 ^ 41 + most
  pub down : (zone : ℕ) → zone < 64 → 2 ^ 41 ≤ net_of balance zone + most

-- what of a flow passes a zone over a border, where each arc leads from a zone
abbrev pub over_border : (Arc → ℕ) → (Arc → ℕ) → (zone border : ℕ) → ℕ
over_border end flow zone border =
    let forward : Arc = record { border = border; forward = true } in
    let backward : Arc = record { border = border; forward = false } in
    lots_if (end forward == zone) (flow forward) + lots_if (end backward == zone) (flow backward)

-- what flows over a border is added
abbrev pub HasPassed : Graph → Side → (flow : Arc → ℕ) → (border : ℕ) → (old new : Balance) → Type 0
HasPassed graph side flow border old new = (zone : ℕ) → zone < 64
    → net_of new zone + over_border (lots_to graph side) flow zone border ≡ net_of old zone + over_border (lots_from graph side) flow zone border
