-- Which line divides an input, and what it leaves.
use Rattle.std.proofs.Common.{◌≡◌, ℕ, ◌+◌, ◌<◌, ◌==◌, Bool, true, false, cond, nat_eq, nat_lt, List, [], ◌∷◌, ◌++◌, length, take, drop, get_or, refl, sym, ap, ◌∙◌, subst, arith, All, Some, None, append_assoc, length-append}
use Rattle.std.specs.List.{position, position_or_len}
use Rattle.std.specs.Option.{option_map}
use Rattle.std.specs.Cmp.Lexicographic.{pointwise, same_text, other_text}
use Rattle.std.proofs.lemmas.Bool.Decides.{nat_tests}
use Rattle.std.proofs.lemmas.List.{length_push, take_at, drop_at, get_or_append_left, get_or_at}
use Rattle.std.proofs.lemmas.List.Elements.{All-append, All-cons, All-nil, All-take, All-drop, All-head}
use Rattle.std.proofs.lemmas.List.Splits.{length-slice_split}
use Rattle.std.proofs.lemmas.List.Sums.{position_or_len_is}
use Rattle.command_lines.specs.Names.{place_of}
use Rattle.market_text.specs.Text.{lines_of}
use Rattle.laws_of_texts.specs.Lines.{IsLine, text_of_lines}
use Rattle.laws_of_texts.proofs.Places.{other_fails, same_passes, no_place}
use Rattle.laws_of_texts.proofs.TextLines.{split, Split, parts_of, line_before, text_append}
use Rattle.journal_audit.specs.Dividing.{line_count, whole_lines, Parts, text_before, parts_at, division_of}
use Rattle.journal_audit.specs.DividingLaws.{IsDivided}

-- the whole lines of whole lines and a rest
pub lines_are : (lines : List (List ℕ)) (rest : List ℕ) → All IsLine lines → IsLine rest
    → whole_lines (text_of_lines lines ++ rest) ≡ lines
lines_are lines rest are is =
    ap (λ n. take n (lines_of (text_of_lines lines ++ rest))) count
    ∙ ap (take (length lines)) parts
    ∙ take_at lines (rest ∷ []) (length lines) refl
  where
    parts : lines_of (text_of_lines lines ++ rest) ≡ lines ++ rest ∷ []
    parts = parts_of lines rest are is

    count : line_count (text_of_lines lines ++ rest) ≡ length lines
    count =
        let pieces = length-slice_split (λ byte. byte == 10) (text_of_lines lines ++ rest) in
        let same = ap length parts in
        let pushed = length_push lines rest in
        omega (arith, pieces, same, pushed)

-- an item that passes is found where those before it fail
found_at : {A : Type 0} (p : A → Bool) (xs : List A) (n : ℕ) → position_or_len p xs ≡ n → n < length xs → position p xs ≡ Some n
found_at p xs n is lt =
    let e : nat_lt (position_or_len p xs) (length xs) ≡ true = grind (arith, nat_tests) in
    ap (λ b. cond b (Some (position_or_len p xs)) None) e ∙ ap Some is

-- the first line that is the word stands behind the others
place_behind : (before more : List (List ℕ)) (word : List ℕ) → All (λ line. ¬ (line ≡ word)) before
    → place_of (before ++ word ∷ more) word ≡ Some (length before)
place_behind before more word others =
    found_at (pointwise nat_eq word) (before ++ word ∷ more) (length before)
    (position_or_len_is (pointwise nat_eq word) (before ++ word ∷ more) (length before) [] (omega (arith, size)) (λ k lt. fails k lt) (λ lt. here))
    (omega (arith, size))
  where
    size : length (before ++ word ∷ more) ≡ length before + length (word ∷ more)
    size = length-append before (word ∷ more)

    fails : (k : ℕ) → k < length before → pointwise nat_eq word (get_or (before ++ word ∷ more) k []) ≡ false
    fails k lt = ap (pointwise nat_eq word) (get_or_append_left before (word ∷ more) [] k lt) ∙ other_fails word (get_or before k []) (others k [] lt)

    here : pointwise nat_eq word (get_or (before ++ word ∷ more) (length before) []) ≡ true
    here = ap (pointwise nat_eq word) (get_or_at before word more [] (length before) refl) ∙ same_passes word

-- parts that are the same
same_parts : (text other rest last : List ℕ) → text ≡ other → rest ≡ last
    → ◌≡◌ {A = Parts} (record { text = text; rest = rest }) (record { text = other; rest = last })
same_parts text other rest last is_text is_rest = rw (is_text, is_rest) refl

-- a line of whole lines, the lines behind it and what follows them
behind : (lines more : List (List ℕ)) (word last : List ℕ)
    → text_of_lines lines ++ (word ++ 10 ∷ (text_of_lines more ++ last)) ≡ text_of_lines (lines ++ word ∷ more) ++ last
behind lines more word last =
    ap (λ (bytes : List ℕ). text_of_lines lines ++ bytes) (sym (line_before word (text_of_lines more) last))
    ∙ sym (append_assoc (text_of_lines lines) (text_of_lines (word ∷ more)) last)
    ∙ ap (λ (text : List ℕ). text ++ last) (sym (text_append lines (word ∷ more)))

-- what follows the word and its line feed
rest_behind : (text word rest : List ℕ) → drop (length text + length word + 1) (text ++ (word ++ 10 ∷ rest)) ≡ rest
rest_behind text word rest =
    ap (drop (length text + length word + 1)) together ∙ drop_at (text ++ (word ++ 10 ∷ [])) rest (length text + length word + 1) size
  where
    together : text ++ (word ++ 10 ∷ rest) ≡ (text ++ (word ++ 10 ∷ [])) ++ rest
    together =
        ap (λ (bytes : List ℕ). text ++ bytes) (sym (append_assoc word (10 ∷ []) rest))
        ∙ sym (append_assoc text (word ++ 10 ∷ []) rest)

    size : length (text ++ (word ++ 10 ∷ [])) ≡ length text + length word + 1
    size = let all = length-append text (word ++ 10 ∷ []) in let line = length_push word 10 in omega (arith, all, line)

-- the first line that is the word divides the input
pub division_is : (word bytes text rest : List ℕ) → IsDivided word bytes text rest
    → division_of word bytes ≡ Some (record { text = text; rest = rest })
unfolding division_of
division_is word bytes text rest d =
    ap (option_map (parts_at word bytes)) place ∙ ap Some (same_parts (text_before bytes (length d.lines)) text _ rest before after)
  where
    more : Split rest
    more = split rest

    laid_out : bytes ≡ text_of_lines (d.lines ++ word ∷ more.lines) ++ more.rest
    laid_out =
        d.laid_out
        ∙ ap (λ (front : List ℕ). front ++ (word ++ 10 ∷ rest)) d.before
        ∙ ap (λ (last : List ℕ). text_of_lines d.lines ++ (word ++ 10 ∷ last)) more.is
        ∙ behind d.lines more.lines word more.rest

    whole : whole_lines bytes ≡ d.lines ++ word ∷ more.lines
    whole =
        ap whole_lines laid_out
        ∙ lines_are (d.lines ++ word ∷ more.lines) more.rest
        (All-append IsLine d.lines (word ∷ more.lines) d.are_lines (All-cons IsLine word more.lines d.is_line more.are_lines)) more.is_line

    place : place_of (whole_lines bytes) word ≡ Some (length d.lines)
    place = ap (λ (lines : List (List ℕ)). place_of lines word) whole ∙ place_behind d.lines more.lines word d.others

    before : text_before bytes (length d.lines) ≡ text
    before =
        ap (λ (lines : List (List ℕ)). text_of_lines (take (length d.lines) lines)) whole
        ∙ ap text_of_lines (take_at d.lines (word ∷ more.lines) (length d.lines) refl)
        ∙ sym d.before

    after : drop (length (text_before bytes (length d.lines)) + length word + 1) bytes ≡ rest
    after =
        ap (λ (front : List ℕ). drop (length front + length word + 1) bytes) before
        ∙ ap (drop (length text + length word + 1)) d.laid_out
        ∙ rest_behind text word rest

-- nothing divides an input none of whose whole lines is the word
pub division_none : (word bytes : List ℕ) (lines : List (List ℕ)) (rest : List ℕ) → All IsLine lines → All (λ line. ¬ (line ≡ word)) lines
    → IsLine rest → bytes ≡ text_of_lines lines ++ rest → division_of word bytes ≡ None
unfolding division_of
division_none word bytes lines rest are others is laid_out =
    ap (λ (found : List (List ℕ)). option_map (parts_at word bytes) (place_of found word)) (ap whole_lines laid_out ∙ lines_are lines rest are is)
    ∙ ap (option_map (parts_at word bytes)) (no_place lines word others)

-- the first of some lines that is the word, if one is
pub data First (word : List ℕ) (lines : List (List ℕ)) : Type 0 where
  found : (before more : List (List ℕ)) → lines ≡ before ++ word ∷ more → All (λ line. ¬ (line ≡ word)) before → First word lines
  absent : All (λ line. ¬ (line ≡ word)) lines → First word lines

pub first : (word : List ℕ) (lines : List (List ℕ)) → First word lines
first word [] = absent (All-nil (λ line. ¬ (line ≡ word)))
first word (line ∷ lines) = by (pointwise nat_eq word line) refl (first word lines)
  where
    by : (b : Bool) → pointwise nat_eq word line ≡ b → First word lines → First word (line ∷ lines)
    by true same rest =
        found [] lines (ap (λ (one : List ℕ). one ∷ lines) (sym (same_text word line (sym same)))) (All-nil (λ other. ¬ (other ≡ word)))
    by false other (found before more is others) =
        found (line ∷ before) more (ap (λ (ls : List (List ℕ)). line ∷ ls) is)
        (All-cons (λ one. ¬ (one ≡ word)) line before (λ same. other_text word line (sym other) (sym same)) others)
    by false other (absent others) =
        absent (All-cons (λ one. ¬ (one ≡ word)) line lines (λ same. other_text word line (sym other) (sym same)) others)

-- an input is divided, or it is not
pub data Division (word bytes : List ℕ) : Type 0 where
  at : (text rest : List ℕ) → IsDivided word bytes text rest → Division word bytes
  nowhere : division_of word bytes ≡ None → Division word bytes

pub divided_or_not : (word bytes : List ℕ) → Division word bytes
divided_or_not word bytes = by (first word whole.lines)
  where
    whole : Split bytes
    whole = split bytes

    by : First word whole.lines → Division word bytes
    by (absent others) = nowhere (division_none word bytes whole.lines whole.rest whole.are_lines others whole.is_line whole.is)
    by (found before more is others) =
        at (text_of_lines before) (text_of_lines more ++ whole.rest) (record {
          is_line = All-head IsLine word more (subst (All IsLine) (drop_at before (word ∷ more) (length before) refl) (All-drop IsLine (length before) (before ++ word ∷ more) all));
          lines = before;
          are_lines = subst (All IsLine) (take_at before (word ∷ more) (length before) refl) (All-take IsLine (length before) (before ++ word ∷ more) all);
          others = others;
          before = refl;
          laid_out =
              whole.is
              ∙ ap (λ (lines : List (List ℕ)). text_of_lines lines ++ whole.rest) is
              ∙ sym (behind before more word whole.rest);
        })
      where
        all : All IsLine (before ++ word ∷ more)
        all = subst (All IsLine) is whole.are_lines
