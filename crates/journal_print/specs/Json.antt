-- Compact JSON, as far as a journal needs it: plain texts, arrays and objects.
use Rattle.std.specs.Prelude.{ℕ, Bool, not, ◌==◌, ◌&&◌, IsTrue, List, ◌++◌, map, nat_le, codes}
use Rattle.std.specs.List.{list_all, join_with_byte}

-- a byte from `#` to `~` but the backslash, which stands for itself in a text of JSON
abbrev pub is_plain_byte : ℕ → Bool
is_plain_byte byte = nat_le 35 byte && (nat_le byte 126 && not (byte == 92))

-- a text of such bytes
abbrev pub IsPlain : List ℕ → Type 0
IsPlain text = IsTrue (list_all is_plain_byte text)

-- a plain text in quotation marks
unfoldable pub quote : List ℕ → List ℕ
quote text = codes "\"" ++ (text ++ codes "\"")

-- an array of printed parts: in brackets, with commas between
unfoldable pub row : List (List ℕ) → List ℕ
row parts = codes "[" ++ (join_with_byte 44 parts ++ codes "]")

-- an object of keys and printed values: in braces, a colon behind each key, commas between
unfoldable pub braces : List (List ℕ × List ℕ) → List ℕ
braces members =
    codes "{" ++ (join_with_byte 44 (map (λ member. quote member.0 ++ (codes ":" ++ member.1)) members) ++ codes "}")
