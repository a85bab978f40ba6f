use Rattle.std.proofs.Common.{◌≡◌, Some, map}
use Rattle.command_lines.specs.CommandLines.{items_of}
use Rattle.command_lines.proofs.commands.read_items.Given as goal

-- the items so far are read
abbrev pub invariant-loop-item : goal.invariant-loop-item
invariant-loop-item l = items_of l.item l.zones (map (λ word. word.now) l.words) ≡ Some l.orders
