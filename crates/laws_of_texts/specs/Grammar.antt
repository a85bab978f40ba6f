-- Which texts are those of a session, and which line is the first bad one of the others.
use Rattle.std.specs.Prelude.{◌≡◌, ℕ, ◌+◌, ◌++◌, List, [], ◌∷◌, length, ◌⊎◌}
use Rattle.std.specs.List.{All}
use Rattle.market_text.specs.declared.session.Session.{Session}
use Rattle.laws_of_texts.specs.Lines.{IsLine, text_of_lines, counting_lines}
use Rattle.laws_of_texts.specs.Contents.{Contents, IsAllowed, lines_of_contents, session_of_contents}

-- whole lines, of which those that count are the lines of contents that keep the rules and stand for
-- the session
pub record IsSessionText (bytes : List ℕ) (session : Session) : Type 0 where
  pub lines : List (List ℕ)
  pub are_lines : All IsLine lines
  pub laid_out : bytes ≡ text_of_lines lines
  pub contents : Contents
  pub counting : counting_lines lines ≡ lines_of_contents contents
  pub allowed : IsAllowed contents
  pub stands_for : session ≡ session_of_contents contents

-- a text begins like this
pub record CanGoOn (bytes : List ℕ) : Type 0 where
  pub more : List ℕ
  pub session : Session
  pub is_text : IsSessionText (bytes ++ more) session

-- a line comes next, with its line feed, after which the text cannot go on
pub record IsBadNext (before : List (List ℕ)) (rest : List ℕ) : Type 0 where
  pub line : List ℕ
  pub is_line : IsLine line
  pub after : List ℕ
  pub next : rest ≡ line ++ 10 ∷ after
  pub refused : ¬ CanGoOn (text_of_lines (before ++ line ∷ []))

-- no line feed comes any more, and the whole is no text of a session: it ends inside a line, or too
-- early
pub record IsBadEnd (bytes rest : List ℕ) : Type 0 where
  pub is_line : IsLine rest
  pub refused : (session : Session) → ¬ IsSessionText bytes session

-- the first bad line: after the lines before it a text can go on, and with it no more
pub record IsFirstBadLine (bytes : List ℕ) (line : ℕ) : Type 0 where
  pub before : List (List ℕ)
  pub are_lines : All IsLine before
  pub number : line ≡ length before + 1
  pub goes_on : CanGoOn (text_of_lines before)
  pub rest : List ℕ
  pub split : bytes ≡ text_of_lines before ++ rest
  pub bad : IsBadNext before rest ⊎ IsBadEnd bytes rest
