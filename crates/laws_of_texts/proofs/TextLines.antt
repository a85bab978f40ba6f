-- Texts as lines: each text is whole lines and a rest, in one way.
use Rattle.std.proofs.Common.{◌≡◌, ℕ, ◌==◌, Bool, true, false, List, [], ◌∷◌, ◌++◌, refl, sym, ap, ◌∙◌, arith, All, append_assoc}
use Rattle.std.proofs.lemmas.List.{append-nil}
use Rattle.std.proofs.lemmas.List.Concat.{flat_map-append}
use Rattle.std.proofs.lemmas.List.Splits.{slice_split_none, slice_split_at}
use Rattle.std.proofs.lemmas.List.Elements.{All-cons, All-head, All-tail, All-nil, All-weaker}
use Rattle.std.proofs.lemmas.Bool.Decides.{nat_tests}
use Rattle.market_text.specs.Text.{lines_of}
use Rattle.laws_of_texts.specs.Lines.{IsLine, with_line_feed, text_of_lines}

-- a byte that is no line feed
no_line_feed : (byte : ℕ) → (¬ (byte ≡ 10)) → (byte == 10) ≡ false
no_line_feed byte differs = grind (arith, nat_tests)

-- the bytes of a line are no line feeds
no_line_feeds : (line : List ℕ) → IsLine line → All (λ byte. (byte == 10) ≡ false) line
no_line_feeds line is = All-weaker (λ byte. ¬ (byte ≡ 10)) (λ byte. (byte == 10) ≡ false) no_line_feed line is

-- a line and what follows its line feed
pub line_first : (line rest : List ℕ) → IsLine line → lines_of (line ++ 10 ∷ rest) ≡ line ∷ lines_of rest
line_first line rest is = slice_split_at (λ byte. byte == 10) line 10 rest (no_line_feeds line is) refl

-- what follows the last line feed
pub line_last : (rest : List ℕ) → IsLine rest → lines_of rest ≡ rest ∷ []
line_last rest is = slice_split_none (λ byte. byte == 10) rest (no_line_feeds rest is)

-- a line in front of others
pub line_before : (line text rest : List ℕ) → with_line_feed line ++ text ++ rest ≡ line ++ 10 ∷ (text ++ rest)
line_before line text rest = append_assoc (line ++ 10 ∷ []) text rest ∙ append_assoc line (10 ∷ []) (text ++ rest)

-- whole lines and what follows them
pub lines_first : (lines : List (List ℕ)) (rest : List ℕ) → All IsLine lines → lines_of (text_of_lines lines ++ rest) ≡ lines ++ lines_of rest
lines_first [] rest are = refl
lines_first (line ∷ lines) rest are =
    ap lines_of (line_before line (text_of_lines lines) rest)
    ∙ line_first line (text_of_lines lines ++ rest) (All-head IsLine line lines are)
    ∙ ap (λ (parts : List (List ℕ)). line ∷ parts) (lines_first lines rest (All-tail IsLine line lines are))

-- whole lines and the rest of a text
pub record Split (bytes : List ℕ) : Type 0 where
  pub lines : List (List ℕ)
  pub are_lines : All IsLine lines
  pub rest : List ℕ
  pub is_line : IsLine rest
  pub is : bytes ≡ text_of_lines lines ++ rest

-- one byte more in front, in the first line
more_in_line : (byte : ℕ) (bytes : List ℕ) → (byte == 10) ≡ false → Split bytes → Split (byte ∷ bytes)
more_in_line byte bytes other s = by s.lines s.are_lines s.is
  where
    differs : ¬ (byte ≡ 10)
    differs = λ same. grind (arith, nat_tests)

    by : (lines : List (List ℕ)) → All IsLine lines → bytes ≡ text_of_lines lines ++ s.rest → Split (byte ∷ bytes)
    by [] are is = record {
      lines = [];
      are_lines = are;
      rest = byte ∷ s.rest;
      is_line = All-cons (λ b. ¬ (b ≡ 10)) byte s.rest differs s.is_line;
      is = ap (λ (bs : List ℕ). byte ∷ bs) is;
    }
    by (line ∷ lines) are is = record {
      lines = (byte ∷ line) ∷ lines;
      are_lines = All-cons IsLine (byte ∷ line) lines (All-cons (λ b. ¬ (b ≡ 10)) byte line differs (All-head IsLine line lines are)) (All-tail IsLine line lines are);
      rest = s.rest;
      is_line = s.is_line;
      is = ap (λ (bs : List ℕ). byte ∷ bs) is;
    }

-- a line feed more in front
more_lines : (byte : ℕ) (bytes : List ℕ) → (byte == 10) ≡ true → Split bytes → Split (byte ∷ bytes)
more_lines byte bytes feed s =
    let same : byte ≡ 10 = grind (arith, nat_tests) in
    record {
      lines = [] ∷ s.lines;
      are_lines = All-cons IsLine [] s.lines (All-nil (λ b. ¬ (b ≡ 10))) s.are_lines;
      rest = s.rest;
      is_line = s.is_line;
      is = ap (λ (b : ℕ). b ∷ bytes) same ∙ ap (λ (bs : List ℕ). 10 ∷ bs) s.is;
    }

-- each text is whole lines and a rest
pub split : (bytes : List ℕ) → Split bytes
split [] = record { lines = []; are_lines = All-nil IsLine; rest = []; is_line = All-nil (λ b. ¬ (b ≡ 10)); is = refl }
split (byte ∷ bytes) = by (byte == 10) refl (split bytes)
  where
    by : (b : Bool) → (byte == 10) ≡ b → Split bytes → Split (byte ∷ bytes)
    by true feed rest = more_lines byte bytes feed rest
    by false other rest = more_in_line byte bytes other rest

-- the parts of whole lines and a rest
pub parts_of : (lines : List (List ℕ)) (rest : List ℕ) → All IsLine lines → IsLine rest
    → lines_of (text_of_lines lines ++ rest) ≡ lines ++ rest ∷ []
parts_of lines rest are is = lines_first lines rest are ∙ ap (λ (parts : List (List ℕ)). lines ++ parts) (line_last rest is)

-- the parts of whole lines
pub whole_parts : (lines : List (List ℕ)) → All IsLine lines → lines_of (text_of_lines lines) ≡ lines ++ [] ∷ []
whole_parts lines are = ap lines_of (sym (append-nil (text_of_lines lines))) ∙ lines_first lines [] are

-- the text of lines after others
pub text_append : (lines others : List (List ℕ)) → text_of_lines (lines ++ others) ≡ text_of_lines lines ++ text_of_lines others
text_append lines others = flat_map-append with_line_feed lines others
