-- Sets of zones as numbers, with a bit for each zone.
use Rattle.std.specs.Prelude.{◌≡◌, ℕ, ◌<◌, Bool, ◌==◌, List}
use Rattle.std.specs.Int.{bit_at}
use Rattle.zone_graph.specs.Route.{has}

-- the bit of a zone is 1
abbrev pub holds : (bits zone : ℕ) → Bool
holds bits zone = bit_at bits zone == 1

-- the bits that are 1 are those of the zones
abbrev pub HoldsZones : ℕ → List ℕ → Type 0
HoldsZones bits zones = (zone : ℕ) → zone < 64 → holds bits zone ≡ has zone zones
