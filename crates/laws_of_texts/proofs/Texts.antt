-- What is read of a text is what the grammar has, and the first bad line is reported.
use Rattle.std.proofs.Common.{◌≡◌, ℕ, ◌+◌, ◌<◌, ◌≤◌, ◌==◌, Bool, true, false, cond, List, [], ◌∷◌, ◌++◌, length, get_or, refl, sym, ap, ◌∙◌, subst, arith, All, Option, Some, None, Result, Ok, Err, append_assoc, length-append, ◌⊎◌, inl, inr}
use Rattle.std.proofs.lemmas.Bool.Decides.{nat_tests}
use Rattle.std.proofs.lemmas.List.{append-nil, get_or_append_left, get_or_at}
use Rattle.std.proofs.lemmas.List.Elements.{All-append, All-cons, All-nil}
use Rattle.zone_graph.specs.Name.{IsName}
use Rattle.contract_calendar.specs.Day.{DeliveryDay}
use Rattle.market_spelling.specs.Chain.{◌>>=◌}
use Rattle.market_text.specs.declared.fault.TextFault.{TextFault}
use Rattle.market_text.specs.declared.fault.TextFault.TheVariants as fault
use Rattle.market_text.specs.declared.reader.Reader.{Reader}
use Rattle.market_text.specs.declared.session.Session.{Session}
use Rattle.market_text.specs.Steps.{nothing_read, session_of}
use Rattle.market_text.specs.Text.{lines_of, line_step, end_of_text, or_line, text_from, session_of_text, IsAnswer}
use Rattle.market_text.proofs.TextLemmas.{some_line}
use Rattle.laws_of_texts.specs.Contents.{session_of_contents}
use Rattle.laws_of_texts.specs.Grammar.{IsSessionText, CanGoOn, IsBadNext, IsBadEnd, IsFirstBadLine}
use Rattle.laws_of_texts.specs.Laws.{IsAnswerByGrammar}
use Rattle.laws_of_texts.specs.Lines.{IsLine, text_of_lines, counting_lines}
use Rattle.laws_of_texts.proofs.Complete.{contents_read, with_commands_of}
use Rattle.laws_of_texts.proofs.Drafts.{IsDraft, reader_of, no_lines, nothing_is}
use Rattle.laws_of_texts.proofs.Going.{can_end}
use Rattle.laws_of_texts.proofs.Runs.{after_lines, after_rows, rows_alone, lines_after, run_cases, Pass, Stop, stopped, ended}
use Rattle.laws_of_texts.proofs.SoundRows.{said, session_at_end, lines_at_end, allowed_at_end, begun_of_session, day_by_begin, contents_of}
use Rattle.laws_of_texts.proofs.TextLines.{split, Split, parts_of, whole_parts, lines_first, line_first, line_before, text_append}

-- two answers to one text
one_answer : {A B : Type 0} (text : Result A B) (value : A) (fault : B) → text ≡ Ok value → text ≡ Err fault → ⊥
one_answer text value fault ok err = cc

-- what follows from whole lines
whole : (lines : List (List ℕ)) (read : Reader) (session : Session) → All IsLine lines → after_lines nothing_read lines ≡ Some read
    → session_of read ≡ Some session → session_of_text (text_of_lines lines) ≡ Ok session
unfolding session_of_text
whole lines read session are reached is =
    ap (text_from nothing_read 1) (whole_parts lines are)
    ∙ ended lines [] nothing_read read 1 reached
    ∙ ap (λ (o : Option Session). or_line o (1 + length lines)) is

-- the grammar's texts are read
pub grammar-accepted : (bytes : List ℕ) (session : Session) → IsSessionText bytes session → session_of_text bytes ≡ Ok session
grammar-accepted bytes session text =
    let start : List ℕ × DeliveryDay = (text.contents.date, text.contents.day) in
    let reached : after_lines nothing_read text.lines ≡ Some (reader_of (with_commands_of text.contents text.contents.commands)) =
    rows_alone nothing_read text.lines ∙ ap (after_rows nothing_read) text.counting ∙ contents_read text.contents text.allowed in
    ap session_of_text text.laid_out
    ∙ whole text.lines (reader_of (with_commands_of text.contents text.contents.commands)) (session_of_contents text.contents) text.are_lines reached
    (session_at_end (with_commands_of text.contents text.contents.commands) start refl refl)
    ∙ ap Ok (sym text.stands_for)

-- nothing breaks no rule
no_lines_are : IsDraft no_lines
no_lines_are = record {
  day = tt;
  day_first = λ some. absurd (omega arith);
  few_zones = omega arith;
  zone_names = All-nil IsName;
  zones_differ = λ i j d lt below. absurd (omega arith);
  few_borders = omega arith;
  zones_joined = λ k d lt. absurd (omega arith);
  borders_differ = λ i j d lt below. absurd (omega arith);
  zone_first = λ some. absurd (omega arith);
  few_callers = omega arith;
  names_of_callers = All-nil IsName;
  callers_differ = λ i j d lt below. absurd (omega arith);
  begun = λ never. absurd (apart never);
  not_begun = λ _. refl;
  commands = λ day same k d lt. absurd (omega arith);
  few_commands = omega arith;
}
  where
    apart : ◌≡◌ {A = Bool} false true → ⊥
    apart never = cc

-- lines that are read to a session are in the grammar
in_grammar : (bytes : List ℕ) (lines : List (List ℕ)) (read : Reader) (session : Session) → All IsLine lines → bytes ≡ text_of_lines lines
    → after_lines nothing_read lines ≡ Some read → session_of read ≡ Some session → IsSessionText bytes session
in_grammar bytes lines read session are laid_out reached is =
    let s = said (counting_lines lines) no_lines read no_lines_are
    (ap (λ (reader : Reader). after_rows reader (counting_lines lines)) nothing_is ∙ sym (rows_alone nothing_read lines) ∙ reached) in
    let same : session_of (reader_of s.next) ≡ Some session = ap (λ (o : Option Reader). o >>= session_of) (sym s.is_read) ∙ is in
    let begun = begun_of_session (reader_of s.next) session same in
    let start = day_by_begin s.next s.is_draft begun in
    record {
      lines = lines;
      are_lines = are;
      laid_out = laid_out;
      contents = contents_of s.next start.0;
      counting = sym s.rows_are ∙ lines_at_end s.next start.0 start.1 begun;
      allowed = allowed_at_end s.next start.0 s.is_draft start.1 begun;
      stands_for = one session _ (sym same ∙ session_at_end s.next start.0 start.1 begun);
    }
  where
    one : (first second : Session) → Some first ≡ Some second → first ≡ second
    one first second same = cc

-- the parts of a text
parts : (bytes : List ℕ) (s : Split bytes) → session_of_text bytes ≡ text_from nothing_read 1 (s.lines ++ s.rest ∷ [])
unfolding session_of_text
parts bytes s = ap (λ (bs : List ℕ). text_from nothing_read 1 (lines_of bs)) s.is ∙ ap (text_from nothing_read 1) (parts_of s.lines s.rest s.are_lines s.is_line)

-- a text that stops at a line
stopped_text : (bytes : List ℕ) (s : Split bytes) (stop : Stop nothing_read s.lines) → session_of_text bytes ≡ Err (1 + length stop.before)
stopped_text bytes s stop =
    let shape : s.lines ++ s.rest ∷ [] ≡ stop.before ++ stop.line ∷ (stop.after ++ s.rest ∷ []) =
    ap (λ (ls : List (List ℕ)). ls ++ s.rest ∷ []) stop.is ∙ append_assoc stop.before (stop.line ∷ stop.after) (s.rest ∷ []) in
    let some : 1 ≤ length (stop.after ++ s.rest ∷ []) = let h = length-append stop.after (s.rest ∷ []) in omega arith in
    parts bytes s ∙ ap (text_from nothing_read 1) shape
    ∙ stopped stop.before (stop.after ++ s.rest ∷ []) stop.line nothing_read stop.read 1 some stop.reached stop.bad

-- a text whose lines pass
passed_text : (bytes : List ℕ) (s : Split bytes) (pass : Pass nothing_read s.lines) → session_of_text bytes ≡ end_of_text pass.read (1 + length s.lines) s.rest
passed_text bytes s pass = parts bytes s ∙ ended s.lines s.rest nothing_read pass.read 1 pass.reached

-- a text that ends well ends after its last line feed, with a session
ends_well : (read : Reader) (line : ℕ) (rest : List ℕ) (session : Session) → end_of_text read line rest ≡ Ok session
    → (rest ≡ []) × (session_of read ≡ Some session)
ends_well read line [] session is = (refl, by (session_of read) is)
  where
    by : (o : Option Session) → or_line o line ≡ Ok session → o ≡ Some session
    by None err = absurd cc
    by (Some found) ok = let same : found ≡ session = cc in ap Some same
ends_well read line (byte ∷ more) session is =
    let some : (length (byte ∷ more) == 0) ≡ false = grind (arith, nat_tests) in
    absurd (clash (ap (λ b. cond b (or_line (session_of read) line) (Err line)) (sym some) ∙ is))
  where
    clash : Err line ≡ Ok session → ⊥
    clash same = cc

-- a text that is read is in the grammar
pub accepted-in-grammar : (bytes : List ℕ) (session : Session) → session_of_text bytes ≡ Ok session → IsSessionText bytes session
accepted-in-grammar bytes session ok = by (split bytes) (λ s. run_cases s.lines nothing_read)
  where
    by_case : (s : Split bytes) → Pass nothing_read s.lines ⊎ Stop nothing_read s.lines → IsSessionText bytes session
    by_case s (inr stop) = absurd (one_answer (session_of_text bytes) session (1 + length stop.before) ok (stopped_text bytes s stop))
    by_case s (inl pass) =
        let end = ends_well pass.read (1 + length s.lines) s.rest session (sym (passed_text bytes s pass) ∙ ok) in
        let laid_out : bytes ≡ text_of_lines s.lines = s.is ∙ ap (λ (rest : List ℕ). text_of_lines s.lines ++ rest) end.0 ∙ append-nil (text_of_lines s.lines) in
        in_grammar bytes s.lines pass.read session s.are_lines laid_out pass.reached end.1

    by : (s : Split bytes) → ((s : Split bytes) → Pass nothing_read s.lines ⊎ Stop nothing_read s.lines) → IsSessionText bytes session
    by s run = by_case s (run s)

-- lines that are not bad can be gone on from
goes_on : (lines : List (List ℕ)) (read : Reader) → All IsLine lines → after_lines nothing_read lines ≡ Some read → CanGoOn (text_of_lines lines)
goes_on lines read are reached =
    let s = said (counting_lines lines) no_lines read no_lines_are
    (ap (λ (reader : Reader). after_rows reader (counting_lines lines)) nothing_is ∙ sym (rows_alone nothing_read lines) ∙ reached) in
    let e = can_end s.next s.is_draft in
    let all = lines_after lines e.lines nothing_read (reader_of s.next) (reached ∙ s.is_read) ∙ rows_alone (reader_of s.next) e.lines ∙ e.reached in
    record {
      more = text_of_lines e.lines;
      session = e.session;
      is_text = in_grammar (text_of_lines lines ++ text_of_lines e.lines) (lines ++ e.lines) e.read e.session
          (All-append IsLine lines e.lines are e.are_lines) (sym (text_append lines e.lines)) all e.is_session;
    }

-- a front of lines is lines
are_front : (front rest all : List (List ℕ)) → all ≡ front ++ rest → All IsLine all → All IsLine front
are_front front rest all is are k d lt =
    let at : get_or all k d ≡ get_or front k d = ap (λ (ls : List (List ℕ)). get_or ls k d) is ∙ get_or_append_left front rest d k lt in
    let longer : k < length all = omega (arith, ap length is, length-append front rest) in
    subst IsLine at (are k d longer)

-- the line after others is one
is_next : (front : List (List ℕ)) (line : List ℕ) (rest : List (List ℕ)) → All IsLine (front ++ line ∷ rest) → IsLine line
is_next front line rest are =
    let within : length front < length (front ++ line ∷ rest) = let h = length-append front (line ∷ rest) in omega arith in
    subst IsLine (get_or_at front line rest line (length front) refl) (are (length front) line within)

-- the answer to a text by its parts
text_is : (bytes : List ℕ) (all : List (List ℕ)) → lines_of bytes ≡ all → session_of_text bytes ≡ text_from nothing_read 1 all
unfolding session_of_text
text_is bytes all is = ap (text_from nothing_read 1) is

-- a text cut after a line and others
cut : (before : List (List ℕ)) (line : List ℕ) (after : List (List ℕ)) (rest : List ℕ)
    → text_of_lines (before ++ line ∷ after) ++ rest ≡ text_of_lines before ++ (line ++ 10 ∷ (text_of_lines after ++ rest))
cut before line after rest =
    ap (λ (bytes : List ℕ). bytes ++ rest) (text_append before (line ∷ after))
    ∙ append_assoc (text_of_lines before) (text_of_lines (line ∷ after)) rest
    ∙ ap (λ (bytes : List ℕ). text_of_lines before ++ bytes) (line_before line (text_of_lines after) rest)

-- an end that is no session is bad at its own line
not_ok : (read : Reader) (line : ℕ) (rest : List ℕ) (number : ℕ) → end_of_text read line rest ≡ Err number → end_of_text read line rest ≡ Err line
not_ok read line [] number err = by (session_of read) err
  where
    by : (o : Option Session) → or_line o line ≡ Err number → or_line o line ≡ Err line
    by None err = refl
    by (Some session) err = absurd cc
not_ok read line (byte ∷ more) number err =
    let some : (length (byte ∷ more) == 0) ≡ false = grind (arith, nat_tests) in
    ap (λ b. cond b (or_line (session_of read) line) (Err line)) some

-- the first bad line is the one that is reported
pub reported-first-bad : (bytes : List ℕ) (line : ℕ) → session_of_text bytes ≡ Err line → IsFirstBadLine bytes line
reported-first-bad bytes line err = by (split bytes) (λ s. run_cases s.lines nothing_read)
  where
    one : (number : ℕ) → session_of_text bytes ≡ Err number → line ≡ number
    one number is = let same = sym err ∙ is in equal same
      where
        equal : ◌≡◌ {A = Result Session ℕ} (Err line) (Err number) → line ≡ number
        equal same = cc

    next_refused : (s : Split bytes) (stop : Stop nothing_read s.lines) → ¬ CanGoOn (text_of_lines (stop.before ++ stop.line ∷ []))
    next_refused s stop go =
        let all = are_front (stop.before ++ stop.line ∷ []) stop.after s.lines (stop.is ∙ sym (append_assoc stop.before (stop.line ∷ []) stop.after)) s.are_lines in
        let some : 1 ≤ length (lines_of go.more) = some_line go.more in
        one_answer (session_of_text (text_of_lines (stop.before ++ stop.line ∷ []) ++ go.more)) go.session (1 + length stop.before)
        (grammar-accepted (text_of_lines (stop.before ++ stop.line ∷ []) ++ go.more) go.session go.is_text)
        (text_is (text_of_lines (stop.before ++ stop.line ∷ []) ++ go.more) (stop.before ++ stop.line ∷ lines_of go.more)
        (lines_first (stop.before ++ stop.line ∷ []) go.more all ∙ append_assoc stop.before (stop.line ∷ []) (lines_of go.more))
        ∙ stopped stop.before (lines_of go.more) stop.line nothing_read stop.read 1 some stop.reached stop.bad)

    by_case : (s : Split bytes) → Pass nothing_read s.lines ⊎ Stop nothing_read s.lines → IsFirstBadLine bytes line
    by_case s (inr stop) =
        let number : line ≡ 1 + length stop.before = one (1 + length stop.before) (stopped_text bytes s stop) in
        let before = are_front stop.before (stop.line ∷ stop.after) s.lines stop.is s.are_lines in
        let all : All IsLine (stop.before ++ stop.line ∷ stop.after) = subst (All IsLine) stop.is s.are_lines in
        let next = is_next stop.before stop.line stop.after all in
        record {
          before = stop.before;
          are_lines = before;
          number = omega arith;
          goes_on = goes_on stop.before stop.read before stop.reached;
          rest = stop.line ++ 10 ∷ (text_of_lines stop.after ++ s.rest);
          split = s.is ∙ ap (λ (ls : List (List ℕ)). text_of_lines ls ++ s.rest) stop.is ∙ cut stop.before stop.line stop.after s.rest;
          bad = inl (record { line = stop.line; is_line = next; after = text_of_lines stop.after ++ s.rest; next = refl; refused = next_refused s stop });
        }
    by_case s (inl pass) =
        let number : line ≡ 1 + length s.lines = one (1 + length s.lines) (passed_text bytes s pass ∙ not_ok pass.read (1 + length s.lines) s.rest line (sym (passed_text bytes s pass) ∙ err)) in
        record {
          before = s.lines;
          are_lines = s.are_lines;
          number = omega arith;
          goes_on = goes_on s.lines pass.read s.are_lines pass.reached;
          rest = s.rest;
          split = s.is;
          bad = inr (record { is_line = s.is_line; refused = λ session text. one_answer (session_of_text bytes) session line (grammar-accepted bytes session text) err });
        }

    by : (s : Split bytes) → ((s : Split bytes) → Pass nothing_read s.lines ⊎ Stop nothing_read s.lines) → IsFirstBadLine bytes line
    by s run = by_case s (run s)

-- lines that can be gone on from are not bad
not_bad : (before : List (List ℕ)) → All IsLine before → CanGoOn (text_of_lines before) → Pass nothing_read before
not_bad before are go = by (run_cases before nothing_read)
  where
    by : Pass nothing_read before ⊎ Stop nothing_read before → Pass nothing_read before
    by (inl pass) = pass
    by (inr stop) =
        let some : 1 ≤ length (stop.after ++ lines_of go.more) = let h = length-append stop.after (lines_of go.more) in let m = some_line go.more in omega arith in
        let shape : before ++ lines_of go.more ≡ stop.before ++ stop.line ∷ (stop.after ++ lines_of go.more) =
        ap (λ (ls : List (List ℕ)). ls ++ lines_of go.more) stop.is ∙ append_assoc stop.before (stop.line ∷ stop.after) (lines_of go.more) in
        absurd (one_answer (session_of_text (text_of_lines before ++ go.more)) go.session (1 + length stop.before)
        (grammar-accepted (text_of_lines before ++ go.more) go.session go.is_text)
        (text_is (text_of_lines before ++ go.more) (before ++ lines_of go.more) (lines_first before go.more are)
        ∙ ap (text_from nothing_read 1) shape
        ∙ stopped stop.before (stop.after ++ lines_of go.more) stop.line nothing_read stop.read 1 some stop.reached stop.bad))

-- the first bad line is reported
pub first-bad-reported : (bytes : List ℕ) (line : ℕ) → IsFirstBadLine bytes line → session_of_text bytes ≡ Err line
first-bad-reported bytes line first = by_bad first.bad ∙ ap Err (sym number)
  where
    number : line ≡ 1 + length first.before
    number = let h = first.number in omega arith

    pass : Pass nothing_read first.before
    pass = not_bad first.before first.are_lines first.goes_on

    by_step : (b : IsBadNext first.before first.rest) (step : Option Reader) → line_step pass.read b.line ≡ step → line_step pass.read b.line ≡ None
    by_step b None is = is
    by_step b (Some read) is =
        let reached : after_lines nothing_read (first.before ++ b.line ∷ []) ≡ Some read =
        lines_after first.before (b.line ∷ []) nothing_read pass.read pass.reached ∙ ap (λ (o : Option Reader). o >>= λ r. after_lines r []) is in
        let are = All-append IsLine first.before (b.line ∷ []) first.are_lines (All-cons IsLine b.line [] b.is_line (All-nil IsLine)) in
        absurd (b.refused (goes_on (first.before ++ b.line ∷ []) read are reached))

    by_end : (answer : Result Session ℕ) → session_of_text bytes ≡ answer → (b : IsBadEnd bytes first.rest)
        → session_of_text bytes ≡ end_of_text pass.read (1 + length first.before) first.rest → session_of_text bytes ≡ Err (1 + length first.before)
    by_end (Ok session) is b end = absurd (b.refused session (accepted-in-grammar bytes session is))
    by_end (Err number) is b end = end ∙ not_ok pass.read (1 + length first.before) first.rest number (sym end ∙ is)

    by_bad : IsBadNext first.before first.rest ⊎ IsBadEnd bytes first.rest → session_of_text bytes ≡ Err (1 + length first.before)
    by_bad (inl b) =
        let shape : lines_of bytes ≡ first.before ++ b.line ∷ lines_of b.after =
        ap lines_of first.split ∙ lines_first first.before first.rest first.are_lines
        ∙ ap (λ (rest : List ℕ). first.before ++ lines_of rest) b.next
        ∙ ap (λ (ls : List (List ℕ)). first.before ++ ls) (line_first b.line b.after b.is_line) in
        text_is bytes (first.before ++ b.line ∷ lines_of b.after) shape
        ∙ stopped first.before (lines_of b.after) b.line nothing_read pass.read 1 (some_line b.after) pass.reached (by_step b (line_step pass.read b.line) refl)
    by_bad (inr b) =
        let end : session_of_text bytes ≡ end_of_text pass.read (1 + length first.before) first.rest =
        ap session_of_text first.split
        ∙ text_is (text_of_lines first.before ++ first.rest) (first.before ++ first.rest ∷ []) (parts_of first.before first.rest first.are_lines b.is_line)
        ∙ ended first.before first.rest nothing_read pass.read 1 pass.reached in
        by_end (session_of_text bytes) refl b end

-- every answer is one by the grammar
pub answers-by-grammar : (bytes : List ℕ) (result : Result Session TextFault) → IsAnswer (session_of_text bytes) result → IsAnswerByGrammar bytes result
answers-by-grammar bytes (Ok session) is = accepted-in-grammar bytes session is
answers-by-grammar bytes (Err (fault.BadSession line)) is = reported-first-bad bytes line is
answers-by-grammar bytes (Err fault.NoMemory) is = tt
