-- The session of a text, or its first bad line.
use Rattle.std.specs.Prelude.{◌≡◌, ℕ, ◌+◌, Bool, ◌||◌, ◌==◌, List, [], ◌∷◌, length, slice_index, Option, Some, None, Result, Ok, Err, if◌then◌else◌}
use Rattle.std.specs.List.{slice_split}
use Rattle.market_text.specs.declared.reader.Reader.{Reader}
use Rattle.market_text.specs.declared.session.Session.{Session}
use Rattle.market_text.specs.declared.fault.TextFault.{TextFault}
use Rattle.market_text.specs.declared.fault.TextFault.TheVariants as fault
use Rattle.market_text.specs.Steps.{nothing_read, words_step, session_of}

-- the parts of a text before, between and after its line feeds: its lines, and what follows the last
-- line feed
abbrev pub lines_of : List ℕ → List (List ℕ)
lines_of bytes = slice_split (λ byte. byte == 10) bytes

-- the words of a line, with single spaces between
abbrev pub words_of : List ℕ → List (List ℕ)
words_of line = slice_split (λ byte. byte == 32) line

-- an empty line, or one that begins with `#`
abbrev pub is_passed_over : List ℕ → Bool
is_passed_over line = (length line == 0) || (slice_index line 0 == 35)

-- what a line makes of what was read before it
unfoldable pub line_step : Reader → List ℕ → Option Reader
line_step reader line = if is_passed_over line then Some reader else words_step reader (words_of line)

-- a value, or else this line's number
abbrev pub or_line : {A : Type 0} → Option A → ℕ → Result A ℕ
or_line (Some value) line = Ok value
or_line None line = Err line

-- the end of a text after so many lines: nothing may follow the last line feed
abbrev pub end_of_text : Reader → ℕ → List ℕ → Result Session ℕ
end_of_text reader line rest = if length rest == 0 then or_line (session_of reader) line else Err line

-- what the lines after this one make of what was read, where this line is not bad
abbrev pub after_line : (Reader → Result Session ℕ) → (line : ℕ) → Option Reader → Result Session ℕ
after_line rest line None = Err line
after_line rest line (Some read) = rest read

-- the session of the lines from this one on, after what was read before them, or the number of the
-- first bad line
abbrev pub text_from : Reader → ℕ → List (List ℕ) → Result Session ℕ
text_from reader line [] = Err line
text_from reader line (rest ∷ []) = end_of_text reader line rest
text_from reader line (text ∷ next ∷ more) =
    after_line (λ read. text_from read (line + 1) (next ∷ more)) line (line_step reader text)

-- the session of a text, or the number of its first bad line, counted from 1
unfoldable pub session_of_text : List ℕ → Result Session ℕ
session_of_text bytes = text_from nothing_read 1 (lines_of bytes)

-- an answer to a text: its session, or its first bad line; want of memory says nothing
abbrev pub IsAnswer : Result Session ℕ → Result Session TextFault → Type 0
IsAnswer text (Ok session) = text ≡ Ok session
IsAnswer text (Err (fault.BadSession line)) = text ≡ Err line
IsAnswer text (Err fault.NoMemory) = Unit {0}
