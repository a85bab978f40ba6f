-- The lines of the first callers of an order are the first of all its lines.
use Rattle.std.proofs.Common.{◌≡◌, ◌∙◌, ℕ, ◌+◌, ◌==◌, List, [], ◌∷◌, ◌++◌, append_assoc, count_by, length, Option, sym, ap, arith}
use Rattle.std.specs.List.{filter_map}
use Rattle.std.proofs.lemmas.List.{append-nil}
use Rattle.std.proofs.lemmas.List.Elements.{filter_map-append}
use Rattle.market_model.specs.declared.command.Command.{Command}
use Rattle.market_model.specs.declared.entry.Entry.{Entry}
use Rattle.market_model.specs.declared.setup.Setup.{Setup}
use Rattle.market_model.specs.Market.{Turn, entry_of, in_turn, in_turn_after, run_after, turn_at}
use Rattle.market_model.specs.Sweep.{all_parts}
use Rattle.market_text.specs.declared.session.Session.{Session}
use Rattle.stored_journal.specs.Lines.{stored_from, stored_line, stored_lines}
use Rattle.stored_journal.proofs.Fronts.{IsFront}
use Rattle.session_storing.specs.Playing.{journal_in_order, lines_in_order}

turns-append : (commands : List (List Command)) (past callers more : List ℕ)
    → in_turn_after commands past (callers ++ more) ≡ in_turn_after commands past callers ++ in_turn_after commands (past ++ callers) more
turns-append commands past [] more = ap (λ before. in_turn_after commands before more) (sym (append-nil past))
turns-append commands past (caller ∷ callers) more =
    let turn = turn_at commands caller (count_by (λ other. other == caller) past) in
    ap (λ turns. turn ∷ turns) (turns-append commands (past ++ caller ∷ []) callers more)
    ∙ ap (λ before. turn ∷ (in_turn_after commands (past ++ caller ∷ []) callers ++ in_turn_after commands before more)) (append_assoc past (caller ∷ []) callers)

run-append : (setup : Setup) (before : List Entry) (turns more : List Turn)
    → run_after all_parts setup before (turns ++ more)
    ≡ run_after all_parts setup before turns ++ run_after all_parts setup (before ++ run_after all_parts setup before turns) more
unfolding run_after
run-append setup before [] more = ap (λ es. run_after all_parts setup es more) (sym (append-nil before))
run-append setup before (turn ∷ turns) more =
    let entry : Entry = entry_of all_parts setup before turn in
    let rest : List Entry = run_after all_parts setup (before ++ entry ∷ []) turns in
    ap (λ es. entry ∷ es) (run-append setup (before ++ entry ∷ []) turns more)
    ∙ ap (λ es. entry ∷ (rest ++ run_after all_parts setup es more)) (append_assoc before (entry ∷ []) rest)

stored-append : (setup : Setup) (place : ℕ) (entries more : List Entry)
    → stored_from setup place (entries ++ more) ≡ stored_from setup place entries ++ stored_from setup (place + length entries) more
stored-append setup place [] more = ap (λ p. stored_from setup p more) (omega arith)
stored-append setup place (entry ∷ entries) more =
    ap (λ lines. stored_line setup place entry ∷ lines) (stored-append setup (place + 1) entries more)
    ∙ ap (λ p. stored_line setup place entry ∷ (stored_from setup (place + 1) entries ++ stored_from setup p more)) (omega arith)

pub order-front : (session : Session) (callers more : List ℕ) → IsFront (lines_in_order session callers) (lines_in_order session (callers ++ more))
order-front session callers more = record {
  rest = stored_from session.setup (1 + length (journal_in_order session callers)) (run_after all_parts session.setup (journal_in_order session callers) behind);
  whole =
      ap (λ turns. stored_lines session.setup (run_after all_parts session.setup [] turns)) turns
      ∙ ap (stored_lines session.setup) (run-append session.setup [] (in_turn session.commands callers) behind)
      ∙ stored-append session.setup 1 (journal_in_order session callers) (run_after all_parts session.setup (journal_in_order session callers) behind);
}
  where
    behind : List Turn
    behind = filter_map (λ (turn : Option Turn). turn) (in_turn_after session.commands callers more)

    turns : in_turn session.commands (callers ++ more) ≡ in_turn session.commands callers ++ behind
    turns =
        ap (filter_map (λ (turn : Option Turn). turn)) (turns-append session.commands [] callers more)
        ∙ filter_map-append (λ (turn : Option Turn). turn) (in_turn_after session.commands [] callers) (in_turn_after session.commands callers more)
