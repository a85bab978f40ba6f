use Rattle.std.proofs.Common.{take, ◌≡◌, ◌++◌, map}
use Rattle.std.specs.List.{join_with_byte}
use Rattle.journal_print.specs.Json.{row}
use Rattle.journal_print.specs.Line as printed
use Rattle.journal_print.proofs.event.write_events.Given as goal

abbrev pub invariant-loop-place : goal.invariant-loop-place
invariant-loop-place l =
    l.out.items ≡ l.initial.out.items ++ join_with_byte 44 (map (λ happened. row (printed.event_parts l.setup happened)) (take l.place l.events))
