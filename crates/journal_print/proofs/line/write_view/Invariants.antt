use Rattle.std.proofs.Common.{take, ◌≡◌, ◌++◌, map, [], ◌∷◌}
use Rattle.std.specs.List.{join_with_byte}
use Rattle.order_kinds.specs.Price.{price_text}
use Rattle.journal_print.specs.Json.{quote, row}
use Rattle.journal_print.specs.Line as printed
use Rattle.journal_print.proofs.line.write_view.Given as goal

abbrev pub invariant-loop-place : goal.invariant-loop-place
invariant-loop-place l =
    l.out.items ≡ l.initial.out.items ++ join_with_byte 44 (map (λ offer. row (quote (price_text offer.price) ∷ quote (printed.quantity_text offer.lots) ∷ [])) (take l.place l.rows))
