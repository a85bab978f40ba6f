-- An input of two parts: the first line that is exactly a word divides it.
use Rattle.std.specs.Prelude.{ℕ, ◌+◌, ◌==◌, List, length, count_by, take, drop, Option}
use Rattle.std.specs.Option.{option_map}
use Rattle.command_lines.specs.Names.{place_of}
use Rattle.market_text.specs.Text.{lines_of}
use Rattle.laws_of_texts.specs.Lines.{text_of_lines}

-- how many lines a text has: each ends by a line feed
abbrev pub line_count : List ℕ → ℕ
line_count bytes = count_by (λ byte. byte == 10) bytes

-- its lines, without what follows the last line feed
abbrev pub whole_lines : List ℕ → List (List ℕ)
whole_lines bytes = take (line_count bytes) (lines_of bytes)

-- what stands before the dividing line, and what follows its line feed
pub record Parts : Type 0 where
  pub text : List ℕ
  pub rest : List ℕ

-- the lines before the dividing line, of which there are so many, as a text
abbrev pub text_before : List ℕ → ℕ → List ℕ
text_before bytes count = text_of_lines (take count (whole_lines bytes))

-- the parts around the dividing line: the text before it, and what follows that text, the word and a
-- line feed
abbrev pub parts_at : (word bytes : List ℕ) → ℕ → Parts
parts_at word bytes count = record {
  text = text_before bytes count;
  rest = drop (length (text_before bytes count) + length word + 1) bytes;
}

-- the parts around the first line that is exactly the word, if there is one
unfoldable pub division_of : (word bytes : List ℕ) → Option Parts
division_of word bytes = option_map (parts_at word bytes) (place_of (whole_lines bytes) word)
