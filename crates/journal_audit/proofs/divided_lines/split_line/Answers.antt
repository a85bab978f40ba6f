use Rattle.std.proofs.Common.{◌≡◌, ℕ, ◌+◌, ◌<◌, ◌==◌, true, false, List, ◌∷◌, ◌++◌, length, take, drop, get_or, sym, ap, ◌∙◌, arith}
use Rattle.std.specs.List.{position_or_len}
use Rattle.std.proofs.lemmas.Bool.Decides.{nat_tests}
use Rattle.std.proofs.lemmas.List.{get_or-take, length-take, take-append-drop, drop_more, take_rest}
use Rattle.std.proofs.lemmas.List.Quantifiers.{position-Some}
use Rattle.std.proofs.lemmas.List.Sums.{fails_before_first}
use Rattle.command_lines.proofs.NameLemmas.{none_past_end}
use Rattle.journal_audit.proofs.divided_lines.split_line.Goals as goal

-- a byte that fails the test is no line feed
no_feed : (byte : ℕ) → (byte == 10) ≡ false → ¬ (byte ≡ 10)
no_feed byte other same = grind (arith, nat_tests)

-- a byte that passes it is one
feed : (byte : ℕ) → (byte == 10) ≡ true → byte ≡ 10
feed byte same = grind (arith, nat_tests)

pub returns-in-None-clause-none : goal.returns-in-None-clause-none
returns-in-None-clause-none c k d lt =
    let text = c.args.text.now in
    let past = none_past_end (position_or_len (λ byte. byte == 10) text) (length text) (sym c.in-None.ensures) in
    let before : k < position_or_len (λ byte. byte == 10) text = omega arith in
    no_feed (get_or text k d) (fails_before_first (λ byte. byte == 10) text k d before)

pub returns-in-Some-clause-first : goal.returns-in-Some-clause-first
returns-in-Some-clause-first c k d lt =
    let text = c.args.text.now in
    let end = c.in-Some.end in
    let at = position-Some (λ byte. byte == 10) text end d (sym c.in-Some.ensures) in
    let size = length-take end text in
    let before : k < end = omega (arith, size) in
    λ same. no_feed (get_or text k d) (at.2 k before) (sym (get_or-take end text k d before) ∙ same)

pub returns-in-Some-clause-parts : goal.returns-in-Some-clause-parts
returns-in-Some-clause-parts c =
    let text = c.args.text.now in
    let end = c.in-Some.end in
    let at = position-Some (λ byte. byte == 10) text end 0 (sym c.in-Some.ensures) in
    sym (take-append-drop end text)
    ∙ ap (λ (rest : List ℕ). take end text ++ rest)
    (drop_more text end 0 at.0
    ∙ ap (λ (byte : ℕ). byte ∷ drop (end + 1) text) (feed (get_or text end 0) at.1)
    ∙ ap (λ (rest : List ℕ). 10 ∷ rest) (sym (take_rest text (end + 1))))
