-- Lines of a text one by one, and what they make of the answer.
use Rattle.std.proofs.Common.{◌≡◌, ℕ, suc, ◌+◌, ◌<◌, ◌≤◌, ◌==◌, Bool, true, false, not, cond, List, [], ◌∷◌, length, take, drop, refl, sym, ◌∙◌, ap, arith, Option, Some, None, Result, Err, position}
use Rattle.std.specs.List.{onto_first, position_or_len}
use Rattle.std.proofs.lemmas.Bool.{true≢false}
use Rattle.std.proofs.lemmas.List.Quantifiers.{position-Some}
use Rattle.std.proofs.lemmas.List.Sums.{fails_before_first}
use Rattle.std.proofs.lemmas.List.Splits.{length-slice_split}
use Rattle.memchr.specs.Find.{IsFirstByte}
use Rattle.market_text.specs.declared.reader.Reader.{Reader}
use Rattle.market_text.specs.declared.session.Session.{Session}
use Rattle.command_lines.specs.declared.fault.LineFault.{LineFault}
use Rattle.command_lines.specs.declared.fault.LineFault.TheVariants as line_fault
use Rattle.market_text.specs.Fault.{fault_at}
use Rattle.market_text.specs.Steps.{Takes}
use Rattle.market_text.specs.Text.{lines_of, line_step, after_line, text_from, IsAnswer}
use Rattle.command_lines.proofs.NameLemmas.{none_past_end, some_place}

-- the first place whose byte passes a test is its position
pub position-first : (p : ℕ → Bool) (xs : List ℕ) (first found : Option ℕ) → position p xs ≡ found → IsFirstByte p xs first → found ≡ first
position-first p xs None None is none = refl
position-first p xs None (Some i) is none =
    let at = position-Some p xs i 0 is in
    absurd (none i (omega arith) at.0 at.1)
position-first p xs (Some k) None is first =
    let past = none_past_end (position_or_len p xs) (length xs) is in
    absurd (true≢false (sym first.1 ∙ fails_before_first p xs k 0 (omega (arith, first.0.high))))
position-first p xs (Some k) (Some i) is first =
    let at = position-Some p xs i 0 is in
    let not_after : k < i → ⊥ = λ lt. true≢false (sym first.1 ∙ at.2 k lt) in
    let not_before : i < k → ⊥ = λ lt. first.0.before i (omega arith) lt at.1 in
    ap Some (omega arith)

-- the place of the first line feed, or the length
abbrev pub first_line_feed : List ℕ → ℕ
first_line_feed bytes = position_or_len (λ byte. byte == 10) bytes

-- a text without a line feed is one line
whole_line : (bytes : List ℕ) → length bytes ≤ first_line_feed bytes → lines_of bytes ≡ bytes ∷ []
whole_line [] h = refl
whole_line (x ∷ xs) h = by (x == 10) h (whole_line xs)
  where
    by : (b : Bool) → length (x ∷ xs) ≤ cond (not b) (1 + first_line_feed xs) 0
        → (length xs ≤ first_line_feed xs → lines_of xs ≡ xs ∷ [])
        → cond b ([] ∷ lines_of xs) (onto_first x (lines_of xs)) ≡ (x ∷ xs) ∷ []
    by true past rest = absurd (omega arith)
    by false past rest = ap (onto_first x) (rest (omega arith))

-- the line before the first line feed, and those after it
first_line : (bytes : List ℕ) → first_line_feed bytes < length bytes
    → lines_of bytes ≡ take (first_line_feed bytes) bytes ∷ lines_of (drop (suc (first_line_feed bytes)) bytes)
first_line [] h = absurd (omega arith)
first_line (x ∷ xs) h = by (x == 10) h (first_line xs)
  where
    by : (b : Bool) → cond (not b) (1 + first_line_feed xs) 0 < length (x ∷ xs)
        → (first_line_feed xs < length xs → lines_of xs ≡ take (first_line_feed xs) xs ∷ lines_of (drop (suc (first_line_feed xs)) xs))
        → cond b ([] ∷ lines_of xs) (onto_first x (lines_of xs))
        ≡ take (cond (not b) (1 + first_line_feed xs) 0) (x ∷ xs) ∷ lines_of (drop (suc (cond (not b) (1 + first_line_feed xs) 0)) (x ∷ xs))
    by true there rest = refl
    by false there rest =
        let r = rest (omega arith) in
        let next : 1 + first_line_feed xs ≡ suc (first_line_feed xs) = omega arith in
        rw next (ap (onto_first x) r)

-- a text in which no line feed is found
pub none_found : (text : List ℕ) → position (λ byte. byte == 10) text ≡ None → lines_of text ≡ text ∷ []
none_found text h = whole_line text (none_past_end (first_line_feed text) (length text) h)

-- a text in which a line feed is found, cut before and after it
pub line_found : (text : List ℕ) (end : ℕ) → position (λ byte. byte == 10) text ≡ Some end
    → (line rest : List ℕ) → line ≡ take end text → rest ≡ drop (end + 1) text → lines_of text ≡ line ∷ lines_of rest
line_found text end h line rest is_line is_rest =
    let place = some_place (first_line_feed text) (length text) end h in
    let at : end ≡ first_line_feed text = place.0 in
    let next : end + 1 ≡ suc (first_line_feed text) = omega arith in
    rw (is_line, is_rest, next, at) (first_line text place.1)

-- a line that is followed by others
followed : (reader : Reader) (line : ℕ) (text : List ℕ) (parts : List (List ℕ)) (step : Option Reader) → 1 ≤ length parts
    → line_step reader text ≡ step → text_from reader line (text ∷ parts) ≡ after_line (λ read. text_from read (line + 1) parts) line step
followed reader line text [] step some is = absurd (omega arith)
followed reader line text (next ∷ more) step some is = ap (after_line (λ read. text_from read (line + 1) (next ∷ more)) line) is

-- there is a line, if only what follows the last line feed
pub some_line : (bytes : List ℕ) → 1 ≤ length (lines_of bytes)
some_line bytes = let count = length-slice_split (λ byte. byte == 10) bytes in omega arith

-- the lines after one that is not bad
pub line_taken : (reader read : Reader) (line : ℕ) (text rest : List ℕ) → line_step reader text ≡ Some read
    → text_from reader line (text ∷ lines_of rest) ≡ text_from read (line + 1) (lines_of rest)
line_taken reader read line text rest is = followed reader line text (lines_of rest) (Some read) (some_line rest) is

-- a bad line
pub line_refused : (reader : Reader) (line : ℕ) (text rest : List ℕ) → line_step reader text ≡ None
    → text_from reader line (text ∷ lines_of rest) ≡ Err line
line_refused reader line text rest is = followed reader line text (lines_of rest) None (some_line rest) is

-- a fault at a line answers a text of which that is the first bad one
pub answer_at : (text : Result Session ℕ) (step : Option Reader) (read : Reader) (fault : LineFault) (line : ℕ)
    → Takes step read (Err fault) → (step ≡ None → text ≡ Err line) → IsAnswer text (Err (fault_at fault line))
answer_at text step read line_fault.Bad line none bad = bad none.is
answer_at text step read line_fault.NoMemory line none bad = tt
