-- The text of a journal grows by one line after the other.
use Rattle.std.proofs.Common.{◌≡◌, ◌∙◌, ℕ, ◌+◌, ◌<◌, List, [], ◌∷◌, ◌++◌, append_assoc, Option, Some, None, Result, Ok, Err, OnErr, drop, get_or, length, take, sym, ap, arith}
use Rattle.std.specs.Io.KnownBytes.{Appends}
use Rattle.std.proofs.KnownBytes.{Appends-trans}
use Rattle.std.proofs.lemmas.List.{append-nil, length-take-le, take-append-drop, take_more}
use Rattle.journal_print.specs.Line.{entry_line}
use Rattle.market_model.specs.declared.entry.Entry.{Entry}
use Rattle.market_model.specs.declared.setup.Setup.{Setup}
use Rattle.session_io.specs.JournalText.{journal_text, lines_from}
use Rattle.session_io.specs.Writing.{Wrote}

-- nothing more
pub appends-nothing : (old : Option (List ℕ)) → Appends old old []
appends-nothing None = tt
appends-nothing (Some xs) = sym (append-nil xs)

-- the lines of two lists of entries
lines-append : (setup : Setup) (place : ℕ) (xs ys : List Entry) → lines_from setup place (xs ++ ys) ≡ lines_from setup place xs ++ lines_from setup (place + length xs) ys
lines-append setup place [] ys = ap (λ p. lines_from setup p ys) (omega arith)
lines-append setup place (entry ∷ xs) ys =
    ap (λ zs. entry_line setup place entry ++ zs) (lines-append setup (place + 1) xs ys)
    ∙ ap (λ p. entry_line setup place entry ++ (lines_from setup (place + 1) xs ++ lines_from setup p ys)) (omega arith)
    ∙ sym (append_assoc (entry_line setup place entry) (lines_from setup (place + 1) xs) (lines_from setup (place + length (entry ∷ xs)) ys))

-- the text up to an entry and its line are the text up to the next one
pub text-more : (setup : Setup) (entries : List Entry) (i : ℕ) (d : Entry) → i < length entries
    → journal_text setup (take (i + 1) entries) ≡ journal_text setup (take i entries) ++ entry_line setup (i + 1) (get_or entries i d)
text-more setup entries i d within =
    let size : 1 + length (take i entries) ≡ i + 1 = omega (arith, length-take-le i entries (omega (arith, within))) in
    ap (lines_from setup 1) (take_more entries i d within)
    ∙ lines-append setup 1 (take i entries) (get_or entries i d ∷ [])
    ∙ ap (λ p. journal_text setup (take i entries) ++ (entry_line setup p (get_or entries i d) ++ [])) size
    ∙ ap (λ zs. journal_text setup (take i entries) ++ zs) (append-nil (entry_line setup (i + 1) (get_or entries i d)))

-- the text up to an entry is a first part of the text
pub record IsFront (setup : Setup) (entries : List Entry) (i : ℕ) : Type 0 where
  pub rest : List ℕ
  pub text : journal_text setup entries ≡ journal_text setup (take i entries) ++ rest

pub front-of : (setup : Setup) (entries : List Entry) (i : ℕ) → IsFront setup entries i
front-of setup entries i = record {
  rest = lines_from setup (1 + length (take i entries)) (drop i entries);
  text = ap (lines_from setup 1) (sym (take-append-drop i entries)) ∙ lines-append setup 1 (take i entries) (drop i entries);
}

-- lines that were written are a first part of the text
pub wrote-lines : (setup : Setup) (entries : List Entry) (i : ℕ) (old now : Option (List ℕ)) → Appends old now (journal_text setup (take i entries))
    → (rest : List ℕ) × Wrote old now (journal_text setup entries) rest
wrote-lines setup entries i old now written =
    let front = front-of setup entries i in
    (front.rest, record { front = journal_text setup (take i entries); whole = front.text; appended = written })

-- so they are with a first part of the next line
pub wrote-part : (setup : Setup) (entries : List Entry) (i : ℕ) (d : Entry) (old now new : Option (List ℕ)) → i < length entries
    → Appends old now (journal_text setup (take i entries)) → (line : List ℕ) → line ≡ entry_line setup (i + 1) (get_or entries i d)
    → (left : List ℕ) → Wrote now new line left → (rest : List ℕ) × Wrote old new (journal_text setup entries) rest
wrote-part setup entries i d old now new within written line is left wrote =
    let front = front-of setup entries (i + 1) in
    let before : List ℕ = journal_text setup (take i entries) in
    let whole : journal_text setup entries ≡ (before ++ wrote.front) ++ (left ++ front.rest) =
    front.text ∙ ap (λ zs. zs ++ front.rest) (text-more setup entries i d within ∙ ap (λ zs. before ++ zs) (sym is ∙ wrote.whole))
    ∙ append_assoc before (wrote.front ++ left) front.rest
    ∙ ap (λ zs. before ++ zs) (append_assoc wrote.front left front.rest)
    ∙ sym (append_assoc before wrote.front (left ++ front.rest)) in
    (left ++ front.rest, record { front = before ++ wrote.front; whole = whole; appended = Appends-trans old now new before wrote.front written wrote.appended })

-- what is said of an error
pub on-err : {T E P : Type 0} (result : Result T E) → P → OnErr result P
on-err (Ok value) holds = tt
on-err (Err error) holds = holds
