-- What stands where after a piece was written over bytes.
use Rattle.std.proofs.Common.{◌≡◌, ◌⊎◌, inl, inr, ℕ, ◌+◌, ◌-◌, ◌<◌, ◌≤◌, max, List, ◌++◌, length, take, drop, get_or, ◌∙◌, ap, arith, length-append, length-drop}
use Rattle.std.proofs.lemmas.List.{length-take, get_or_append_left, get_or-append_right, get_or-take, get_or-drop}
use Rattle.disk_model.specs.Contents.{overwritten}

-- how many bytes there are
pub length-overwritten : (bytes piece : List ℕ) (place : ℕ) → place ≤ length bytes
    → length (overwritten bytes place piece) ≡ max (length bytes) (place + length piece)
length-overwritten bytes piece place begin =
    omega (arith, length-append (take place bytes ++ piece) (drop (place + length piece) bytes), length-append (take place bytes) piece, length-take place bytes, length-drop (place + length piece) bytes)

-- a byte before the piece or behind it stays
pub get_or-overwritten_apart : (bytes piece : List ℕ) (place k : ℕ) → place ≤ length bytes → (k < place) ⊎ (place + length piece ≤ k)
    → get_or (overwritten bytes place piece) k 0 ≡ get_or bytes k 0
get_or-overwritten_apart bytes piece place k begin (inl before) =
    let front : k < length (take place bytes ++ piece) = omega (arith, length-append (take place bytes) piece, length-take place bytes) in
    let first : k < length (take place bytes) = omega (arith, length-take place bytes) in
    get_or_append_left (take place bytes ++ piece) (drop (place + length piece) bytes) 0 k front
    ∙ get_or_append_left (take place bytes) piece 0 k first ∙ get_or-take place bytes k 0 before
get_or-overwritten_apart bytes piece place k begin (inr behind) =
    let long : length (take place bytes ++ piece) ≡ place + length piece = omega (arith, length-append (take place bytes) piece, length-take place bytes) in
    let there : place + length piece + (k - (place + length piece)) ≡ k = omega arith in
    get_or-append_right (take place bytes ++ piece) (drop (place + length piece) bytes) (place + length piece) k 0 long behind
    ∙ get_or-drop (place + length piece) bytes (k - (place + length piece)) 0 ∙ ap (λ n. get_or bytes n 0) there
