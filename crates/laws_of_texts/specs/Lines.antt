-- How a text is laid out in lines, and which of its lines count.
use Rattle.std.specs.Prelude.{◌≡◌, ℕ, not, List, [], ◌∷◌, ◌++◌, map}
use Rattle.std.specs.List.{All, filter, flat_map}
use Rattle.market_text.specs.Text.{words_of, is_passed_over}

-- bytes of which none is a line feed
abbrev pub IsLine : List ℕ → Type 0
IsLine bytes = All (λ byte. ¬ (byte ≡ 10)) bytes

-- a line with its line feed
abbrev pub with_line_feed : List ℕ → List ℕ
with_line_feed line = line ++ 10 ∷ []

-- the text of whole lines, each ended by a line feed
abbrev pub text_of_lines : List (List ℕ) → List ℕ
text_of_lines lines = flat_map with_line_feed lines

-- the lines that count, which are neither empty nor comments, each as its words
abbrev pub counting_lines : List (List ℕ) → List (List (List ℕ))
counting_lines lines = map words_of (filter (λ line. not (is_passed_over line)) lines)
