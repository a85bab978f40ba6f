-- What is read of an input of two parts, in the words of lines and of the grammar.
use Rattle.std.specs.Prelude.{◌≡◌, ℕ, ◌+◌, List, ◌∷◌, ◌++◌, Ok, Err, ◌↔◌}
use Rattle.std.specs.List.{All}
use Rattle.market_text.specs.declared.session.Session.{Session}
use Rattle.market_text.specs.Text.{session_of_text}
use Rattle.laws_of_texts.specs.Lines.{IsLine, text_of_lines}
use Rattle.laws_of_texts.specs.Grammar.{IsSessionText, IsFirstBadLine}
use Rattle.journal_audit.specs.Dividing.{line_count}
use Rattle.journal_audit.specs.Reading.{with_rest, undivided_line, session_of_divided}

-- an input is a text of whole lines, none of which is the word, then the word as a line, then the rest
pub record IsDivided (word bytes text rest : List ℕ) : Type 0 where
  pub is_line : IsLine word
  pub lines : List (List ℕ)
  pub are_lines : All IsLine lines
  pub others : All (λ line. ¬ (line ≡ word)) lines
  pub before : text ≡ text_of_lines lines
  pub laid_out : bytes ≡ text ++ (word ++ 10 ∷ rest)

-- no line divides an input
abbrev pub IsUndivided : (word bytes : List ℕ) → Type 0
IsUndivided word bytes = (text rest : List ℕ) → ¬ IsDivided word bytes text rest

-- where a line divides the input, its session is that of the text before, with the rest, and its bad
-- line that of the text before
abbrev pub DividedInputsAreRead : Type 0
DividedInputsAreRead = (word bytes text rest : List ℕ) → IsDivided word bytes text rest
    → session_of_divided word bytes ≡ with_rest rest (session_of_text text)

-- where none does, the input is bad
abbrev pub UndividedInputsAreBad : Type 0
UndividedInputsAreBad = (word bytes : List ℕ) → IsUndivided word bytes
    → session_of_divided word bytes ≡ Err (undivided_line bytes)

-- a text of a session, by the grammar, and the rest, divided by the word
pub record IsGoodInput (word bytes : List ℕ) (session : Session) (rest : List ℕ) : Type 0 where
  pub text : List ℕ
  pub divided : IsDivided word bytes text rest
  pub is_text : IsSessionText text session

-- the bad line of an input: the first bad one of the text before the dividing line; or, where no line
-- divides, the first bad one of all, or the one after the last of a text that is otherwise a session's
pub data IsBadInput (word bytes : List ℕ) (line : ℕ) : Type 0 where
  before : (text rest : List ℕ) → IsDivided word bytes text rest → IsFirstBadLine text line → IsBadInput word bytes line
  among_all : IsUndivided word bytes → IsFirstBadLine bytes line → IsBadInput word bytes line
  after_all : IsUndivided word bytes → (session : Session) → IsSessionText bytes session → line ≡ line_count bytes + 1
      → IsBadInput word bytes line

-- exactly the good inputs are read, each to its session and rest
abbrev pub GoodInputsAreByGrammar : Type 0
GoodInputsAreByGrammar = (word bytes : List ℕ) (session : Session) (rest : List ℕ)
    → (session_of_divided word bytes ≡ Ok (session, rest)) ↔ IsGoodInput word bytes session rest

-- of every other input exactly its bad line is reported
abbrev pub BadLinesAreByGrammar : Type 0
BadLinesAreByGrammar = (word bytes : List ℕ) (line : ℕ)
    → (session_of_divided word bytes ≡ Err line) ↔ IsBadInput word bytes line
