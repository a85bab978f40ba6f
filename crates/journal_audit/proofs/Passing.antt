-- Lines that were passed on the way to the dividing one.
use Rattle.std.proofs.Common.{◌≡◌, ℕ, ◌+◌, List, [], ◌∷◌, ◌++◌, length, take, sym, ap, ◌∙◌, subst, arith, All, None, append_assoc, length-append}
use Rattle.std.proofs.lemmas.List.{length_push, take_at}
use Rattle.std.proofs.lemmas.List.Elements.{All-push}
use Rattle.laws_of_texts.specs.Lines.{IsLine, text_of_lines}
use Rattle.laws_of_texts.proofs.TextLines.{line_before, text_append}
use Rattle.journal_audit.specs.Dividing.{division_of}
use Rattle.journal_audit.specs.DividingLaws.{IsDivided}
use Rattle.journal_audit.proofs.Divisions.{division_none}

-- an input begins with whole lines, none of which is the word, of so many bytes
pub record HasPassed (word bytes : List ℕ) (start : ℕ) (rest : List ℕ) : Type 0 where
  pub lines : List (List ℕ)
  pub are_lines : All IsLine lines
  pub others : All (λ line. ¬ (line ≡ word)) lines
  pub is : bytes ≡ text_of_lines lines ++ rest
  pub size : start ≡ length (text_of_lines lines)

-- the text of one line more
one_more : (lines : List (List ℕ)) (line after : List ℕ) → text_of_lines lines ++ (line ++ 10 ∷ after) ≡ text_of_lines (lines ++ line ∷ []) ++ after
one_more lines line after =
    ap (λ (bytes : List ℕ). text_of_lines lines ++ bytes) (sym (line_before line [] after))
    ∙ sym (append_assoc (text_of_lines lines) (text_of_lines (line ∷ [])) after)
    ∙ ap (λ (text : List ℕ). text ++ after) (sym (text_append lines (line ∷ [])))

-- a line that is not the word is passed
pub line_passed : (word bytes : List ℕ) (start : ℕ) (rest line after : List ℕ) → HasPassed word bytes start rest → IsLine line
    → rest ≡ line ++ 10 ∷ after → (¬ (line ≡ word)) → HasPassed word bytes (start + (length line + 1)) after
line_passed word bytes start rest line after passed is_line is other = record {
  lines = passed.lines ++ line ∷ [];
  are_lines = All-push IsLine passed.lines line passed.are_lines is_line;
  others = All-push (λ one. ¬ (one ≡ word)) passed.lines line passed.others other;
  is =
      passed.is
      ∙ ap (λ (last : List ℕ). text_of_lines passed.lines ++ last) is
      ∙ one_more passed.lines line after;
  size =
      let more = ap length (text_append passed.lines (line ∷ [])) in
      let both = length-append (text_of_lines passed.lines) (text_of_lines (line ∷ [])) in
      let alone = length-append (line ++ 10 ∷ []) [] in
      let pushed = length_push line 10 in
      let before = passed.size in
      omega (arith, more, both, alone, pushed, before);
}

-- the line that is the word divides
pub word_passed : (word bytes : List ℕ) (start : ℕ) (rest line after : List ℕ) → HasPassed word bytes start rest → IsLine line
    → rest ≡ line ++ 10 ∷ after → line ≡ word → IsDivided word bytes (take start bytes) after
word_passed word bytes start rest line after passed is_line is same = record {
  is_line = is_line_of same;
  lines = passed.lines;
  are_lines = passed.are_lines;
  others = passed.others;
  before = front;
  laid_out =
      passed.is
      ∙ ap (λ (text : List ℕ). text ++ rest) (sym front)
      ∙ ap (λ (last : List ℕ). take start bytes ++ last) (is ∙ ap (λ (one : List ℕ). one ++ 10 ∷ after) same);
}
  where
    is_line_of : line ≡ word → IsLine word
    is_line_of e = subst IsLine e is_line

    front : take start bytes ≡ text_of_lines passed.lines
    front = ap (take start) passed.is ∙ take_at (text_of_lines passed.lines) rest start (sym passed.size)

-- no line is the word
pub all_passed : (word bytes : List ℕ) (start : ℕ) (rest : List ℕ) → HasPassed word bytes start rest → IsLine rest → division_of word bytes ≡ None
all_passed word bytes start rest passed is_line =
    division_none word bytes passed.lines rest passed.are_lines passed.others is_line passed.is
