-- No line of a session is the dividing line, so a session, that line and its journal are a record.
use Rattle.std.proofs.Common.{◌≡◌, ◌≢◌, ◌∙◌, ℕ, ◌==◌, Bool, true, false, not, cond, All, List, [], ◌∷◌, ◌++◌, Ok, eq-eqb, filter, map, refl, sym, ap, subst}
use Rattle.std.specs.List.{list_all}
use Rattle.std.proofs.lemmas.Bool.{and_parts, true≢false}
use Rattle.std.proofs.lemmas.List.Elements.{All-cons, All-nil}
use Rattle.market_text.specs.declared.session.Session.{Session}
use Rattle.market_text.specs.Text.{is_passed_over, session_of_text, words_of}
use Rattle.laws_of_texts.specs.Contents.{CallerLine, CommandLine, Contents, border_line, caller_line, command_line, lines_of_contents, zone_line}
use Rattle.laws_of_texts.specs.Grammar.{IsSessionText}
use Rattle.laws_of_texts.specs.Lines.{IsLine, counting_lines}
use Rattle.laws_of_texts.proofs.Texts.{accepted-in-grammar}
use Rattle.journal_audit.specs.DividingLaws.{IsDivided}
use Rattle.journal_audit.specs.Reading.{session_of_divided, with_rest}
use Rattle.journal_audit.proofs.Answering.{divided-read}
use Rattle.journal_audit.proofs.Journals.{journals-complete}
use Rattle.record_run.specs.Records.{dividing_line}
use Rattle.record_run.specs.Laws.{PrintedJournalsMakeRecords, TradedJournalsMakeRecords, recorded}

-- ---- lines of a session

-- no line of some, each as its words, is the dividing line
abbrev Without : List (List (List ℕ)) → Type 0
Without [] = Unit {0}
Without (words ∷ more) = (words ≢ dividing_line ∷ []) × Without more

without-append : (front back : List (List (List ℕ))) → Without front → Without back → Without (front ++ back)
without-append [] back none rest = rest
without-append (words ∷ front) back none rest = (none.0, without-append front back none.1 rest)

without-zones : (names : List (List ℕ)) → Without (map zone_line names)
without-zones [] = tt
without-zones (name ∷ names) = (λ same. cc, without-zones names)

without-borders : (borders : List (List ℕ × List ℕ)) → Without (map border_line borders)
without-borders [] = tt
without-borders (ends ∷ borders) = (λ same. cc, without-borders borders)

without-callers : (callers : List CallerLine) → Without (map caller_line callers)
without-callers [] = tt
without-callers (caller ∷ callers) = (λ same. cc, without-callers callers)

without-commands : (lines : List CommandLine) → Without (map command_line lines)
without-commands [] = tt
without-commands (line ∷ lines) = (λ same. cc, without-commands lines)

contents-without : (contents : Contents) → Without (lines_of_contents contents)
unfolding lines_of_contents
contents-without contents = (
  λ same. cc,
  without-append (map zone_line contents.zones) _ (without-zones contents.zones)
      (without-append (map border_line contents.borders) _ (without-borders contents.borders)
      (without-append (map caller_line contents.callers) _ (without-callers contents.callers)
      (λ same. cc, without-commands contents.commands))),
)

-- so none of its lines is
others : (lines : List (List ℕ)) → Without (counting_lines lines) → All (λ line. ¬ (line ≡ dividing_line)) lines
others [] none = All-nil (λ line. ¬ (line ≡ dividing_line))
others (line ∷ lines) none = by (is_passed_over line) refl (others lines) none
  where
    counting : List (List ℕ)
    counting = filter (λ (l : List ℕ). not (is_passed_over l)) lines

    by : (b : Bool) → is_passed_over line ≡ b → (Without (counting_lines lines) → All (λ l. ¬ (l ≡ dividing_line)) lines)
        → Without (map words_of (cond (not b) (line ∷ counting) counting)) → All (λ l. ¬ (l ≡ dividing_line)) (line ∷ lines)
    by true passed rest own =
        All-cons (λ l. ¬ (l ≡ dividing_line)) line lines (λ same. true≢false (sym passed ∙ ap is_passed_over same)) (rest own)
    by false passed rest own =
        All-cons (λ l. ¬ (l ≡ dividing_line)) line lines (λ same. own.0 (ap words_of same)) (rest own.1)

-- ---- the record

is-line : (bytes : List ℕ) → list_all (λ byte. not (byte == 10)) bytes ≡ true → IsLine bytes
is-line [] plain = All-nil (λ byte. ¬ (byte ≡ 10))
is-line (byte ∷ bytes) plain =
    let parts = and_parts (not (byte == 10)) (list_all (λ b. not (b == 10)) bytes) plain in
    All-cons (λ b. ¬ (b ≡ 10)) byte bytes (λ same. true≢false (sym parts.0 ∙ ap not (eq-eqb byte 10 same))) (is-line bytes parts.1)

read-divided : (bytes written : List ℕ) (session : Session) → session_of_text bytes ≡ Ok session
    → session_of_divided dividing_line (recorded bytes written) ≡ Ok (session, written)
read-divided bytes written session read =
    divided-read dividing_line (recorded bytes written) bytes written divided ∙ ap (with_rest written) read
  where
    text : IsSessionText bytes session
    text = accepted-in-grammar bytes session read

    divided : IsDivided dividing_line (recorded bytes written) bytes written
    divided = record {
      is_line = is-line dividing_line refl;
      lines = text.lines;
      are_lines = text.are_lines;
      others = others text.lines (subst Without (sym text.counting) (contents-without text.contents));
      before = text.laid_out;
      laid_out = refl;
    }

pub printed-records : PrintedJournalsMakeRecords
printed-records bytes written is = record {
  journal = written;
  divided = read-divided bytes written is.session is.read;
  complete = (journals-complete bytes written).0 is;
}

pub traded-records : TradedJournalsMakeRecords
traded-records bytes written is = record {
  journal = written;
  divided = read-divided bytes written is.session is.read;
  complete = (journals-complete bytes written).1 is;
}
