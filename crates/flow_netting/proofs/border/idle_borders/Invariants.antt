use Rattle.std.proofs.Common.{◌≡◌, replicate}
use Rattle.flow_netting.specs.Border.{idle_border}
use Rattle.flow_netting.proofs.border.idle_borders.Given as goal

-- the borders so far are idle
abbrev pub invariant-loop-border : goal.invariant-loop-border
invariant-loop-border l = l.borders.items ≡ replicate l.border idle_border
