use Rattle.std.proofs.Common.{◌≡◌, map, take}
use Rattle.command_lines.proofs.names.NameTable.words.Given as goal

-- the words so far are the first of the names
abbrev pub invariant-loop-name : goal.invariant-loop-name
invariant-loop-name l = l.words ≡ map (λ name. name.items) (take l.name-index l.name-items)
