-- The lines of a text, and the callers that they name.
use Rattle.std.specs.Prelude.{ℕ, List, [], ◌∷◌, ◌++◌, Option, codes, map, nat_eq, position}
use Rattle.std.specs.List.{filter_map, starts_with}
use Rattle.market_model.specs.declared.setup.Setup.{Setup}
use Rattle.market_text.specs.Text.{lines_of}

-- the lines of a text that is cut at its line feeds, each with the line feed that ends it; what stands behind the last
-- line feed is a line too, where anything does
abbrev pub with_line_feeds : List (List ℕ) → List (List ℕ)
with_line_feeds [] = []
with_line_feeds ([] ∷ []) = []
with_line_feeds ((byte ∷ bytes) ∷ []) = (byte ∷ bytes) ∷ []
with_line_feeds (line ∷ next ∷ more) = (line ++ codes "\n") ∷ with_line_feeds (next ∷ more)

-- the lines of a text
unfoldable pub journal_lines : List ℕ → List (List ℕ)
journal_lines text = with_line_feeds (lines_of text)

-- lines without their line feeds, each with the line feed that ends it
abbrev pub ended_lines : List (List ℕ) → List (List ℕ)
ended_lines lines = map (λ line. line ++ codes "\n") lines

-- how the line of an entry of a caller with this name begins
unfoldable pub line_start : (name : List ℕ) → List ℕ
line_start name = codes "{\"caller\":\"" ++ (name ++ codes "\",")

-- the number of the caller that a line names: the first with whose name it begins as the line of an entry does
unfoldable pub caller_named : Setup → (line : List ℕ) → Option ℕ
caller_named setup line = position (λ caller. starts_with nat_eq line (line_start caller.name)) setup.callers

-- the callers that lines name, in order
abbrev pub callers_named : Setup → (lines : List (List ℕ)) → List ℕ
callers_named setup lines = filter_map (caller_named setup) lines
