-- What a read takes of the bytes that are left behind a place.
use Rattle.std.proofs.Common.{◌≡◌, ℕ, ◌+◌, List, ◌++◌, take, drop, sym, ap, ◌∙◌}
use Rattle.std.proofs.lemmas.List.{take-append-drop, drop-drop}

-- the bytes that a read gave, and then what is left behind the place that it moved on to
pub given_then_left : (place count : ℕ) (bytes into : List ℕ) → take count into ≡ take count (drop place bytes)
    → take count into ++ drop (place + count) bytes ≡ drop place bytes
given_then_left place count bytes into front =
    ap (λ l. l ++ drop (place + count) bytes) front
    ∙ ap (λ l. take count (drop place bytes) ++ l) (sym (drop-drop count place bytes))
    ∙ take-append-drop count (drop place bytes)

-- what is left behind the place that a read moved on to
pub left_behind : (place count : ℕ) (bytes : List ℕ) → drop (place + count) bytes ≡ drop count (drop place bytes)
left_behind place count bytes = sym (drop-drop count place bytes)
