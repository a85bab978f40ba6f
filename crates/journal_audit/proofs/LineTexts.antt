-- The first line of a text, and how lines begin.
use Rattle.std.proofs.Common.{◌≡◌, ◌≢◌, ◌∙◌, ℕ, ◌+◌, ◌<◌, ◌≤◌, ◌==◌, Bool, true, false, ◌&&◌, List, [], ◌∷◌, ◌++◌, append_assoc, drop, eq-eqb, eqb-true, get_or, length, nat_eq, take, Some, None, refl, sym, ap, subst, arith}
use Rattle.std.specs.Prelude.{codes, position}
use Rattle.std.specs.Cmp.Lexicographic.{pointwise}
use Rattle.std.specs.List.{starts_with}
use Rattle.std.proofs.lemmas.Bool.Decides.{Decides-eqb}
use Rattle.std.proofs.lemmas.List.{drop_all, take_all, take_more}
use Rattle.std.proofs.lemmas.List.Quantifiers.{position-Some}
use Rattle.std.proofs.lemmas.List.Splits.{length-slice_split}
use Rattle.std.proofs.lemmas.Slice.Eq.{starts_is}
use Rattle.market_text.proofs.TextLemmas.{line_found, none_found}
use Rattle.market_text.specs.Text.{lines_of}
use Rattle.market_model.specs.declared.setup.Caller.{Caller}
use Rattle.market_model.specs.declared.setup.Setup.{Setup}
use Rattle.journal_audit.specs.Lines.{caller_named, journal_lines, line_start, with_line_feeds}

-- ---- the first line

-- a part that others follow is ended
pub ended : (line : List ℕ) (parts : List (List ℕ)) → 1 ≤ length parts → with_line_feeds (line ∷ parts) ≡ (line ++ codes "\n") ∷ with_line_feeds parts
ended line [] some = absurd (omega (arith, some))
ended [] (next ∷ more) some = refl
ended (byte ∷ bytes) (next ∷ more) some = refl

-- a line that a line feed ends, and those after it
pub first-ended : (text : List ℕ) (place : ℕ) → position (λ byte. byte == 10) text ≡ Some place
    → journal_lines text ≡ take (place + 1) text ∷ journal_lines (drop (place + 1) text)
unfolding journal_lines
first-ended text place found =
    let rest : List ℕ = drop (place + 1) text in
    let at = position-Some (λ byte. byte == 10) text place 0 found in
    let some : 1 ≤ length (lines_of rest) = omega (arith, length-slice_split (λ byte. byte == 10) rest) in
    let feed : take (place + 1) text ≡ take place text ++ codes "\n" =
    take_more text place 0 at.0 ∙ ap (λ byte. take place text ++ byte ∷ []) (eqb-true (get_or text place 0) 10 at.1) in
    ap with_line_feeds (line_found text place found (take place text) rest refl refl)
    ∙ ended (take place text) (lines_of rest) some
    ∙ ap (λ line. line ∷ journal_lines rest) (sym feed)

-- a line that none ends
pub first-unended : (text : List ℕ) → 0 < length text → position (λ byte. byte == 10) text ≡ None
    → journal_lines text ≡ take (length text) text ∷ journal_lines (drop (length text) text)
unfolding journal_lines
first-unended [] some none = absurd (omega (arith, some))
first-unended (byte ∷ bytes) some none =
    let text : List ℕ = byte ∷ bytes in
    let whole : take (length text) text ≡ text = take_all (length text) text (omega arith) in
    let nothing : drop (length text) text ≡ [] = drop_all (length text) text (omega arith) in
    ap with_line_feeds (none_found text none)
    ∙ sym (ap (λ rest. take (length text) text ∷ with_line_feeds (lines_of rest)) nothing ∙ ap (λ line. line ∷ []) whole)

-- ---- how lines begin

-- a front that both have does not matter
pub starts-same : (front line start : List ℕ) → starts_with nat_eq (front ++ line) (front ++ start) ≡ starts_with nat_eq line start
starts-same [] line start = refl
starts-same (byte ∷ front) line start =
    ap (λ b. b && starts_with nat_eq (front ++ line) (front ++ start)) (eq-eqb byte byte refl) ∙ starts-same front line start

-- a line without a front does not begin with it
pub starts-none : (line front start : List ℕ) → ((rest : List ℕ) → line ≢ front ++ rest) → starts_with nat_eq line (front ++ start) ≡ false
starts-none line front start none = by (starts_with nat_eq line (front ++ start)) refl
  where
    by : (b : Bool) → starts_with nat_eq line (front ++ start) ≡ b → starts_with nat_eq line (front ++ start) ≡ false
    by true e =
        let is = (starts_is Decides-eqb line (front ++ start) (starts_with nat_eq line (front ++ start)) refl).0 e in
        absurd (none (start ++ drop (length (front ++ start)) line) (is ∙ append_assoc front start (drop (length (front ++ start)) line)))
    by false e = e

-- ---- who is named by a line without its line feed

-- behind the last byte of what a line begins with a line feed changes nothing
starts-ended : (line start : List ℕ) → starts_with nat_eq (line ++ 10 ∷ []) (start ++ 44 ∷ []) ≡ starts_with nat_eq line (start ++ 44 ∷ [])
starts-ended [] [] = refl
starts-ended [] (byte ∷ start) = both-false (nat_eq byte 10) (pointwise nat_eq (start ++ 44 ∷ []) (take (length (start ++ 44 ∷ [])) [])) (none-left start)
  where
    both-false : (b c : Bool) → c ≡ false → (b && c) ≡ false
    both-false true c is = is
    both-false false c is = refl

    none-left : (more : List ℕ) → pointwise nat_eq (more ++ 44 ∷ []) (take (length (more ++ 44 ∷ [])) []) ≡ false
    none-left [] = refl
    none-left (first ∷ more) = refl
starts-ended (first ∷ line) [] = refl
starts-ended (first ∷ line) (byte ∷ start) = ap (λ b. nat_eq byte first && b) (starts-ended line start)

-- so a line names the caller that it names with the line feed
pub named-ended : (setup : Setup) (line : List ℕ) → caller_named setup (line ++ codes "\n") ≡ caller_named setup line
unfolding caller_named line_start
named-ended setup line = λ i. position (λ (caller : Caller). same caller.name i) setup.callers
  where
    front : List ℕ → List ℕ
    front name = codes "{\"caller\":\"" ++ (name ++ 34 ∷ [])

    start : (name : List ℕ) → front name ++ 44 ∷ [] ≡ line_start name
    start name =
        append_assoc (codes "{\"caller\":\"") (name ++ 34 ∷ []) (44 ∷ [])
        ∙ ap (λ bytes. codes "{\"caller\":\"" ++ bytes) (append_assoc name (34 ∷ []) (44 ∷ []))

    same : (name : List ℕ) → starts_with nat_eq (line ++ codes "\n") (line_start name) ≡ starts_with nat_eq line (line_start name)
    same name = subst (λ s. starts_with nat_eq (line ++ 10 ∷ []) s ≡ starts_with nat_eq line s) (start name) (starts-ended line (front name))
