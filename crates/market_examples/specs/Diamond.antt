-- A diamond of four zones, on which the definitions of routes compute.
use Rattle.std.specs.Prelude.{ℕ, true, false, [], ◌∷◌, ◌==◌, codes, if◌then◌else◌}
use Rattle.zone_graph.specs.declared.route.Arc.{Arc}
use Rattle.zone_graph.specs.Graph.{Graph}

-- four zones A, B, C and D, with borders A B, A C, B D and C D
abbrev pub diamond : Graph
diamond = record {
  zones = codes "A" ∷ codes "B" ∷ codes "C" ∷ codes "D" ∷ [];
  borders = (0, 1) ∷ (0, 2) ∷ (1, 3) ∷ (2, 3) ∷ [];
}

abbrev pub forward_over : ℕ → Arc
forward_over border = record { border = border; forward = true }

abbrev pub back_over : ℕ → Arc
back_over border = record { border = border; forward = false }

-- room on every arc but those over one border
abbrev pub all_but : ℕ → Arc → ℕ
all_but border arc = if arc.border == border then 0 else 7
