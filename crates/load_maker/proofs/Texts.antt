-- The text of a session, one command after another.
use Rattle.std.proofs.Common.{◌≡◌, ℕ, ◌+◌, List, [], ◌∷◌, ◌++◌, map, sym, ap, ◌∙◌, add-one, arith}
use Rattle.std.specs.Prelude.{codes}
use Rattle.std.specs.List.{range_with_len}
use Rattle.std.proofs.lemmas.List.{append-nil, append_assoc}
use Rattle.std.proofs.lemmas.List.Concat.{flat_map-append}
use Rattle.std.proofs.lemmas.List.FromFn.{map-range_with_len_more}
use Rattle.load_maker.specs.declared.drawn_lines.Given.{Given}
use Rattle.load_maker.specs.Commands.{command_from, state_left}
use Rattle.load_maker.specs.Lines.{line_of, text_of}
use Rattle.load_maker.specs.Session.{header, state_before, command_line, session_text}

-- one more line
text_of_push : (lines : List (List ℕ)) (line : List ℕ) → text_of (lines ++ line ∷ []) ≡ text_of lines ++ (line ++ codes "\n")
text_of_push lines line =
    flat_map-append (λ (own : List ℕ). own ++ codes "\n") lines (line ∷ [])
    ∙ ap (λ rest. text_of lines ++ rest) (append-nil (line ++ codes "\n"))

-- one more command
pub session_text_more : (place : ℕ) → session_text (place + 1) ≡ session_text place ++ (command_line place ++ codes "\n")
session_text_more place =
    ap (λ lines. text_of (header ++ lines)) (map-range_with_len_more command_line 0 place place (omega arith))
    ∙ ap text_of (sym (append_assoc header (map command_line (range_with_len 0 place)) (command_line place ∷ [])))
    ∙ text_of_push (header ++ map command_line (range_with_len 0 place)) (command_line place)

-- the text behind the command that was drawn and written
pub text_behind : (place state : ℕ) (given : Given) (before after : List ℕ)
    → before ≡ session_text place → state ≡ state_before place → given ≡ command_from place state
    → after ≡ before ++ (line_of given ++ codes "\n") → after ≡ session_text (place + 1)
unfolding command_line
text_behind place state given before after text drawn command wrote =
    wrote
    ∙ ap (λ own. own ++ (line_of given ++ codes "\n")) text
    ∙ ap (λ own. session_text place ++ (line_of own ++ codes "\n")) (command ∙ ap (command_from place) drawn)
    ∙ sym (session_text_more place)

-- the state behind it
pub state_behind : (place before after : ℕ) → before ≡ state_before place → after ≡ state_left place before
    → after ≡ state_before (place + 1)
unfolding state_before
state_behind place before after drawn moved =
    moved ∙ ap (state_left place) drawn ∙ ap state_before (sym (add-one place))
