use Rattle.std.proofs.Common.{◌≡◌, ◌-◌, option_map}
use Rattle.std.specs.List.{range_with_len, flat_map}
use Rattle.command_lines.specs.Clocks.{gate_of}
use Rattle.command_lines.proofs.clocks.list_gates.Given as goal

-- the gates of the hours so far
abbrev pub invariant-loop-hour : goal.invariant-loop-hour
invariant-loop-hour l =
    l.gates ≡ flat_map (gate_of l.day (option_map (λ instant. instant.nanosecond) l.last) l.instant.nanosecond) (range_with_len 1 (l.hour - 1))
