use Rattle.std.proofs.Common.{take, ◌≡◌, ◌++◌, map}
use Rattle.std.specs.List.{join_with_byte}
use Rattle.journal_print.specs.Json.{quote}
use Rattle.journal_print.specs.Line as printed
use Rattle.journal_print.proofs.event.write_route.Given as goal

abbrev pub invariant-loop-place : goal.invariant-loop-place
invariant-loop-place l =
    l.out.items ≡ l.initial.out.items ++ join_with_byte 44 (map (λ arc. quote (printed.arc_text l.setup arc)) (take l.place l.route))
