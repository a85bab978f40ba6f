-- The session of an input that a line divides, with what follows the line, or the input's bad line.
use Rattle.std.specs.Prelude.{◌≡◌, ℕ, ◌+◌, List, Option, Some, None, Result, Ok, Err}
use Rattle.market_text.specs.declared.fault.TextFault.{TextFault}
use Rattle.market_text.specs.declared.fault.TextFault.TheVariants as fault
use Rattle.market_text.specs.declared.session.Session.{Session}
use Rattle.market_text.specs.Text.{session_of_text}
use Rattle.journal_audit.specs.Dividing.{Parts, line_count, division_of}

-- a session with the rest of its input, or a bad line
abbrev pub with_rest : List ℕ → Result Session ℕ → Result (Session × List ℕ) ℕ
with_rest rest (Ok session) = Ok (session, rest)
with_rest rest (Err line) = Err line

-- the first bad line of a text, or this line where none is bad
abbrev pub bad_line_or : ℕ → Result Session ℕ → ℕ
bad_line_or line (Ok session) = line
bad_line_or line (Err bad) = bad

-- the bad line of an input that nothing divides: the first bad one of all its lines, and where none is
-- bad the one after the last
abbrev pub undivided_line : List ℕ → ℕ
undivided_line bytes = bad_line_or (line_count bytes + 1) (session_of_text bytes)

-- where a line divides the input, the lines before it decide
abbrev pub session_of_parts : (bytes : List ℕ) → Option Parts → Result (Session × List ℕ) ℕ
session_of_parts bytes (Some parts) = with_rest parts.rest (session_of_text parts.text)
session_of_parts bytes None = Err (undivided_line bytes)

-- the session before the line that is exactly the word, and what follows that line; or the bad line
unfoldable pub session_of_divided : (word bytes : List ℕ) → Result (Session × List ℕ) ℕ
session_of_divided word bytes = session_of_parts bytes (division_of word bytes)

-- a fault has this bad line; want of memory says nothing
abbrev pub IsFaultOf : {A : Type 0} → Result A ℕ → TextFault → Type 0
IsFaultOf answer (fault.BadSession line) = answer ≡ Err line
IsFaultOf answer fault.NoMemory = Unit {0}
