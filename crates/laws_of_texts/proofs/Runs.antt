-- What lines make of what was read, one after another.
use Rattle.std.proofs.Common.{◌≡◌, ℕ, ◌+◌, ◌≤◌, Bool, true, false, not, cond, List, [], ◌∷◌, ◌++◌, length, map, refl, ap, ◌∙◌, arith, ◌⊎◌, inl, inr, Option, Some, None, Err, length-append}
use Rattle.std.specs.List.{filter}
use Rattle.market_spelling.specs.Chain.{◌>>=◌}
use Rattle.market_text.specs.declared.reader.Reader.{Reader}
use Rattle.market_text.specs.Steps.{words_step}
use Rattle.market_text.specs.Text.{words_of, is_passed_over, line_step, after_line, end_of_text, text_from}
use Rattle.laws_of_texts.specs.Lines.{counting_lines}

-- what whole lines make of what was read before them
abbrev pub after_lines : Reader → List (List ℕ) → Option Reader
after_lines reader [] = Some reader
after_lines reader (line ∷ lines) = line_step reader line >>= λ read. after_lines read lines

-- what lines that count make of it, by their words
abbrev pub after_rows : Reader → List (List (List ℕ)) → Option Reader
after_rows reader [] = Some reader
after_rows reader (row ∷ rows) = words_step reader row >>= λ read. after_rows read rows

-- the first step of several
pub first_step : {A B : Type 0} (option : Option A) (f : A → Option B) (b : B) → (option >>= f) ≡ Some b
    → (a : A) × (option ≡ Some a) × (f a ≡ Some b)
first_step None f b h = absurd cc
first_step (Some a) f b h = (a, refl, h)

-- the lines that count alone change what was read
pub rows_alone : (reader : Reader) (lines : List (List ℕ)) → after_lines reader lines ≡ after_rows reader (counting_lines lines)
unfolding line_step
rows_alone reader [] = refl
rows_alone reader (line ∷ lines) = by (is_passed_over line) (rows_alone reader lines) (λ read. rows_alone read lines)
  where
    by : (passed : Bool) → after_lines reader lines ≡ after_rows reader (counting_lines lines)
        → ((read : Reader) → after_lines read lines ≡ after_rows read (counting_lines lines))
        → (cond passed (Some reader) (words_step reader (words_of line)) >>= λ read. after_lines read lines)
        ≡ after_rows reader (map words_of (cond (not passed) (line ∷ filter (λ line. not (is_passed_over line)) lines) (filter (λ line. not (is_passed_over line)) lines)))
    by true here there = here
    by false here there = λ i. words_step reader (words_of line) >>= λ read. there read i

-- lines after others
pub lines_after : (lines others : List (List ℕ)) (reader read : Reader) → after_lines reader lines ≡ Some read
    → after_lines reader (lines ++ others) ≡ after_lines read others
lines_after [] others reader read is = let same : reader ≡ read = cc in ap (λ r. after_lines r others) same
lines_after (line ∷ lines) others reader read is =
    let step = first_step (line_step reader line) (λ r. after_lines r lines) read is in
    ap (λ o. o >>= λ r. after_lines r (lines ++ others)) step.1 ∙ lines_after lines others step.0 read step.2

-- rows after others
pub rows_after : (rows others : List (List (List ℕ))) (reader read : Reader) → after_rows reader rows ≡ Some read
    → after_rows reader (rows ++ others) ≡ after_rows read others
rows_after [] others reader read is = let same : reader ≡ read = cc in ap (λ r. after_rows r others) same
rows_after (row ∷ rows) others reader read is =
    let step = first_step (words_step reader row) (λ r. after_rows r rows) read is in
    ap (λ o. o >>= λ r. after_rows r (rows ++ others)) step.1 ∙ rows_after rows others step.0 read step.2

-- a line that others follow
pub followed : (reader : Reader) (number : ℕ) (line : List ℕ) (parts : List (List ℕ)) → 1 ≤ length parts
    → text_from reader number (line ∷ parts) ≡ after_line (λ read. text_from read (number + 1) parts) number (line_step reader line)
followed reader number line [] some = absurd (omega arith)
followed reader number line (next ∷ more) some = refl

-- parts after lines
some_part : (lines tail : List (List ℕ)) → 1 ≤ length tail → 1 ≤ length (lines ++ tail)
some_part lines tail some = omega (arith, length-append lines tail)

-- a text after lines that are not bad
pub passed : (lines tail : List (List ℕ)) (reader read : Reader) (number : ℕ) → 1 ≤ length tail → after_lines reader lines ≡ Some read
    → text_from reader number (lines ++ tail) ≡ text_from read (number + length lines) tail
passed [] tail reader read number some is =
    let same : reader ≡ read = cc in
    let here : number + 0 ≡ number = omega arith in
    rw here (ap (λ r. text_from r number tail) same)
passed (line ∷ lines) tail reader read number some is =
    let step = first_step (line_step reader line) (λ r. after_lines r lines) read is in
    let next : number + 1 + length lines ≡ number + length (line ∷ lines) = omega arith in
    followed reader number line (lines ++ tail) (some_part lines tail some)
    ∙ ap (after_line (λ r. text_from r (number + 1) (lines ++ tail)) number) step.1
    ∙ passed lines tail step.0 read (number + 1) some step.2
    ∙ ap (λ n. text_from read n tail) next

-- lines of which one is the first that is bad
pub record Stop (reader : Reader) (lines : List (List ℕ)) : Type 0 where
  pub before : List (List ℕ)
  pub line : List ℕ
  pub after : List (List ℕ)
  pub is : lines ≡ before ++ line ∷ after
  pub read : Reader
  pub reached : after_lines reader before ≡ Some read
  pub bad : line_step read line ≡ None

-- lines that are not bad
pub record Pass (reader : Reader) (lines : List (List ℕ)) : Type 0 where
  pub read : Reader
  pub reached : after_lines reader lines ≡ Some read

-- either no line is bad or one is the first
pub run_cases : (lines : List (List ℕ)) (reader : Reader) → Pass reader lines ⊎ Stop reader lines
run_cases [] reader = inl (record { read = reader; reached = refl })
run_cases (line ∷ lines) reader = by (line_step reader line) refl (λ read. run_cases lines read)
  where
    later : (read : Reader) → line_step reader line ≡ Some read → Pass read lines ⊎ Stop read lines → Pass reader (line ∷ lines) ⊎ Stop reader (line ∷ lines)
    later read step (inl p) = inl (record { read = p.read; reached = ap (λ o. o >>= λ r. after_lines r lines) step ∙ p.reached })
    later read step (inr s) = inr (record {
      before = line ∷ s.before;
      line = s.line;
      after = s.after;
      is = ap (λ (ls : List (List ℕ)). line ∷ ls) s.is;
      read = s.read;
      reached = ap (λ o. o >>= λ r. after_lines r s.before) step ∙ s.reached;
      bad = s.bad;
    })

    by : (step : Option Reader) → line_step reader line ≡ step → ((read : Reader) → Pass read lines ⊎ Stop read lines) → Pass reader (line ∷ lines) ⊎ Stop reader (line ∷ lines)
    by None is rest = inr (record { before = []; line = line; after = lines; is = refl; read = reader; reached = refl; bad = is })
    by (Some read) is rest = later read is (rest read)

-- the first bad line is reported
pub stopped : (lines tail : List (List ℕ)) (line : List ℕ) (reader read : Reader) (number : ℕ) → 1 ≤ length tail
    → after_lines reader lines ≡ Some read → line_step read line ≡ None
    → text_from reader number (lines ++ line ∷ tail) ≡ Err (number + length lines)
stopped lines tail line reader read number some reached bad =
    let more : 1 ≤ length (line ∷ tail) = omega arith in
    passed lines (line ∷ tail) reader read number more reached
    ∙ followed read (number + length lines) line tail some
    ∙ ap (after_line (λ r. text_from r (number + length lines + 1) tail) (number + length lines)) bad

-- a text whose lines are not bad ends like this
pub ended : (lines : List (List ℕ)) (rest : List ℕ) (reader read : Reader) (number : ℕ) → after_lines reader lines ≡ Some read
    → text_from reader number (lines ++ rest ∷ []) ≡ end_of_text read (number + length lines) rest
ended lines rest reader read number reached = let one : 1 ≤ length (rest ∷ []) = omega arith in passed lines (rest ∷ []) reader read number one reached
