-- What is read of an input that a line divides, and of one that none does.
use Rattle.std.proofs.Common.{◌≡◌, ℕ, ◌+◌, List, refl, sym, ap, ◌∙◌, subst, Option, Some, None, Result, Ok, Err}
use Rattle.market_text.specs.declared.fault.TextFault.{TextFault}
use Rattle.market_text.specs.declared.fault.TextFault.TheVariants as fault
use Rattle.market_text.specs.declared.session.Session.{Session}
use Rattle.market_text.specs.Text.{session_of_text, IsAnswer}
use Rattle.laws_of_texts.specs.Grammar.{IsSessionText}
use Rattle.laws_of_texts.proofs.Texts.{accepted-in-grammar, grammar-accepted, reported-first-bad, first-bad-reported}
use Rattle.journal_audit.specs.Dividing.{line_count, Parts, division_of}
use Rattle.journal_audit.specs.Reading.{with_rest, bad_line_or, undivided_line, session_of_parts, session_of_divided, IsFaultOf}
use Rattle.journal_audit.specs.DividingLaws.{IsDivided, IsUndivided, IsGoodInput, IsBadInput, before, among_all, after_all, DividedInputsAreRead, UndividedInputsAreBad, GoodInputsAreByGrammar, BadLinesAreByGrammar}
use Rattle.journal_audit.proofs.Divisions.{division_is, Division, at, nowhere, divided_or_not}

-- the lines before the dividing one decide
pub divided-read : DividedInputsAreRead
unfolding session_of_divided
divided-read word bytes text rest d = ap (session_of_parts bytes) (division_is word bytes text rest d)

-- and where none divides, all lines do
pub none-read : (word bytes : List ℕ) → division_of word bytes ≡ None → session_of_divided word bytes ≡ Err (undivided_line bytes)
unfolding session_of_divided
none-read word bytes none = ap (session_of_parts bytes) none

-- where no division is found there is none
undivided : (word bytes : List ℕ) → division_of word bytes ≡ None → IsUndivided word bytes
undivided word bytes none text rest d = clash (sym none ∙ division_is word bytes text rest d)
  where
    clash : ◌≡◌ {A = Option Parts} None (Some (record { text = text; rest = rest })) → ⊥
    clash e = cc

pub undivided-bad : UndividedInputsAreBad
undivided-bad word bytes is = by (divided_or_not word bytes)
  where
    by : Division word bytes → session_of_divided word bytes ≡ Err (undivided_line bytes)
    by (at text rest d) = absurd (is text rest d)
    by (nowhere none) = none-read word bytes none

-- a session with a rest is no bad line
no_line : (pair : Session × List ℕ) (line : ℕ) → Ok pair ≡ Err line → ⊥
no_line pair line e = cc

-- a good input is read
good-read : (word bytes : List ℕ) (session : Session) (rest : List ℕ) → IsGoodInput word bytes session rest
    → session_of_divided word bytes ≡ Ok (session, rest)
good-read word bytes session rest good =
    divided-read word bytes good.text rest good.divided
    ∙ ap (with_rest rest) (grammar-accepted good.text session good.is_text)

-- what is read is a good input
read-good : (word bytes : List ℕ) (session : Session) (rest : List ℕ) → session_of_divided word bytes ≡ Ok (session, rest)
    → IsGoodInput word bytes session rest
read-good word bytes session rest is = by (divided_or_not word bytes)
  where
    same : (pair other : Session × List ℕ) → ◌≡◌ {A = Result (Session × List ℕ) ℕ} (Ok pair) (Ok other) → pair ≡ other
    same pair other e = cc

    of : (text last : List ℕ) → IsDivided word bytes text last → (answer : Result Session ℕ) → session_of_text text ≡ answer
        → with_rest last answer ≡ Ok (session, rest) → IsGoodInput word bytes session rest
    of text last d (Ok read) e found =
        let pair = same (read, last) (session, rest) found in
        record {
          text = text;
          divided = subst (IsDivided word bytes text) (ap (λ (p : Session × List ℕ). p.1) pair) d;
          is_text = subst (IsSessionText text) (ap (λ (p : Session × List ℕ). p.0) pair) (accepted-in-grammar text read e);
        }
    of text last d (Err line) e found = absurd (no_line (session, rest) line (sym found))

    by : Division word bytes → IsGoodInput word bytes session rest
    by (at text last d) = of text last d (session_of_text text) refl (sym (divided-read word bytes text last d) ∙ is)
    by (nowhere none) = absurd (no_line (session, rest) (undivided_line bytes) (sym is ∙ none-read word bytes none))

pub good-by-grammar : GoodInputsAreByGrammar
good-by-grammar word bytes session rest = (read-good word bytes session rest, good-read word bytes session rest)

-- the bad line of an input is reported
bad-read : (word bytes : List ℕ) (line : ℕ) → IsBadInput word bytes line → session_of_divided word bytes ≡ Err line
bad-read word bytes line (before text rest d bad) =
    divided-read word bytes text rest d ∙ ap (with_rest rest) (first-bad-reported text line bad)
bad-read word bytes line (among_all is bad) =
    undivided-bad word bytes is
    ∙ ap (λ (answer : Result Session ℕ). Err (bad_line_or (line_count bytes + 1) answer)) (first-bad-reported bytes line bad)
bad-read word bytes line (after_all is session text last) =
    undivided-bad word bytes is
    ∙ ap (λ (answer : Result Session ℕ). Err (bad_line_or (line_count bytes + 1) answer)) (grammar-accepted bytes session text)
    ∙ ap Err (sym last)

-- a line that is reported is the bad line of the input
read-bad : (word bytes : List ℕ) (line : ℕ) → session_of_divided word bytes ≡ Err line → IsBadInput word bytes line
read-bad word bytes line is = by (divided_or_not word bytes)
  where
    same : (one other : ℕ) → ◌≡◌ {A = Result (Session × List ℕ) ℕ} (Err one) (Err other) → one ≡ other
    same one other e = cc

    of : (text rest : List ℕ) → IsDivided word bytes text rest → (answer : Result Session ℕ) → session_of_text text ≡ answer
        → with_rest rest answer ≡ Err line → IsBadInput word bytes line
    of text rest d (Ok session) e found = absurd (no_line (session, rest) line found)
    of text rest d (Err bad) e found = before text rest d (reported-first-bad text line (e ∙ ap Err (same bad line found)))

    of_all : IsUndivided word bytes → (answer : Result Session ℕ) → session_of_text bytes ≡ answer
        → bad_line_or (line_count bytes + 1) answer ≡ line → IsBadInput word bytes line
    of_all un (Ok session) e last = after_all un session (accepted-in-grammar bytes session e) (sym last)
    of_all un (Err bad) e found = among_all un (reported-first-bad bytes line (e ∙ ap Err found))

    by : Division word bytes → IsBadInput word bytes line
    by (at text rest d) = of text rest d (session_of_text text) refl (sym (divided-read word bytes text rest d) ∙ is)
    by (nowhere none) =
        of_all (undivided word bytes none) (session_of_text bytes) refl (same (undivided_line bytes) line (sym (none-read word bytes none) ∙ is))

pub bad-by-grammar : BadLinesAreByGrammar
bad-by-grammar word bytes line = (read-bad word bytes line, bad-read word bytes line)

-- a fault of the text before the dividing line is one of the input
pub fault_before : (word bytes : List ℕ) (parts : Parts) (answer : TextFault) → division_of word bytes ≡ Some parts
    → IsAnswer (session_of_text parts.text) (Err answer) → IsFaultOf (session_of_divided word bytes) answer
unfolding session_of_divided
fault_before word bytes parts (fault.BadSession line) found is = ap (session_of_parts bytes) found ∙ ap (with_rest parts.rest) is
fault_before word bytes parts fault.NoMemory found is = tt

-- a fault of an input that nothing divides
pub fault_of_all : (word bytes : List ℕ) (answer : TextFault) → division_of word bytes ≡ None
    → IsFaultOf (session_of_parts bytes None) answer → IsFaultOf (session_of_divided word bytes) answer
unfolding session_of_divided
fault_of_all word bytes answer none is = subst (λ (read : Result (Session × List ℕ) ℕ). IsFaultOf read answer) (ap (session_of_parts bytes) (sym none)) is
