-- The entry of a caller's next command, and the journal and the text with one entry more.
use Rattle.std.proofs.Common.{◌≡◌, ◌∙◌, ℕ, zero, suc, ◌+◌, ◌<◌, ◌==◌, List, [], ◌∷◌, ◌++◌, append_assoc, count_by, get_or, length, Option, None, Some, refl, sym, ap, arith}
use Rattle.std.specs.List.{filter_map, slice_get}
use Rattle.std.specs.Option.{option_and_then, option_map}
use Rattle.std.proofs.lemmas.List.{append-nil}
use Rattle.std.proofs.lemmas.List.Elements.{filter_map-append}
use Rattle.std.proofs.lemmas.Option.{slice_get-get_or}
use Rattle.market_model.specs.declared.command.Command.{Command}
use Rattle.market_model.specs.declared.entry.Entry.{Entry}
use Rattle.market_model.specs.declared.setup.Setup.{Setup}
use Rattle.market_model.specs.Market.{Turn, entry_of, in_turn, in_turn_after, run_of, turn_at}
use Rattle.market_model.specs.Sweep.{all_parts}
use Rattle.laws_of_market.proofs.Journals.{run_after-more}
use Rattle.journal_print.specs.Line.{entry_line}
use Rattle.market_text.specs.Commands.{commands_of}
use Rattle.market_text.specs.declared.session.Session.{Session}
use Rattle.session_io.specs.JournalText.{journal_text, lines_from}
use Rattle.session_journal.proofs.Journals.{count-callers}
use Rattle.journal_audit.specs.Course.{callers_of, entries_of, next_entry}

-- ---- a caller's next command

-- the command at a place of a caller's list
abbrev pub command_at : (commands : List (List Command)) → (caller place : ℕ) → Option Command
command_at commands caller place = slice_get (commands_of commands caller) place

command-of : (commands : List (List Command)) (caller place : ℕ) → option_and_then (λ own. slice_get own place) (slice_get commands caller) ≡ command_at commands caller place
command-of [] caller place = refl
command-of (own ∷ lists) zero place = refl
command-of (own ∷ lists) (suc caller) place = command-of lists caller place

-- the turn of a caller that had so many before
turn-is : (commands : List (List Command)) (caller place : ℕ) → turn_at commands caller place ≡ option_map (λ command. record { caller = caller; command = command }) (command_at commands caller place)
turn-is commands caller place = ap (option_map (λ command. record { caller = caller; command = command })) (command-of commands caller place)

-- the turn of a command that is there
pub turn-some : (commands : List (List Command)) (caller place : ℕ) (command : Command) → command_at commands caller place ≡ Some command
    → turn_at commands caller place ≡ Some (record { caller = caller; command = command })
turn-some commands caller place command is = turn-is commands caller place ∙ ap (option_map (λ given. record { caller = caller; command = given })) is

-- a place that a list has
pub there : {X : Type 0} (own : List X) (place : ℕ) → place < length own → (item : X) × (slice_get own place ≡ Some item)
there [] place within = absurd (omega (arith, within))
there (first ∷ rest) place within = (get_or (first ∷ rest) place first, slice_get-get_or (first ∷ rest) place first within)

pub within : {X : Type 0} (own : List X) (place : ℕ) (item : X) → slice_get own place ≡ Some item → place < length own
within [] place item is = cc
within (first ∷ rest) zero item is = omega arith
within (first ∷ rest) (suc place) item is = let rest = within rest place item is in omega (arith, rest)

-- ---- the entry of it

module _ (session : Session) (entries : List Entry) (caller : ℕ) where
  next-is : next_entry session entries caller
      ≡ option_map (λ turn. entry_of all_parts session.setup entries turn)
      (option_map (λ command. record { caller = caller; command = command }) (command_at session.commands caller (entries_of entries caller)))
  next-is = ap (option_map (λ turn. entry_of all_parts session.setup entries turn)) (turn-is session.commands caller (entries_of entries caller))

  -- the entry of a command
  abbrev pub entry_with : Command → Entry
  entry_with command = entry_of all_parts session.setup entries (record { caller = caller; command = command })

  -- a caller without a command left has none
  pub next-none : command_at session.commands caller (entries_of entries caller) ≡ None → next_entry session entries caller ≡ None
  next-none none =
      next-is ∙ ap (λ o. option_map (λ turn. entry_of all_parts session.setup entries turn) (option_map (λ command. record { caller = caller; command = command }) o)) none

  pub next-some : (command : Command) → command_at session.commands caller (entries_of entries caller) ≡ Some command → next_entry session entries caller ≡ Some (entry_with command)
  next-some command some =
      next-is ∙ ap (λ o. option_map (λ turn. entry_of all_parts session.setup entries turn) (option_map (λ command. record { caller = caller; command = command }) o)) some

-- the command of a next entry
pub record IsNext (session : Session) (entries : List Entry) (caller : ℕ) (entry : Entry) : Type 0 where
  pub command : Command
  pub given : command_at session.commands caller (entries_of entries caller) ≡ Some command
  pub is : entry_with session entries caller command ≡ entry

pub next-from : (session : Session) (entries : List Entry) (caller : ℕ) (entry : Entry) → next_entry session entries caller ≡ Some entry → IsNext session entries caller entry
next-from session entries caller entry next = by (command_at session.commands caller (entries_of entries caller)) refl
  where
    by : (o : Option Command) → command_at session.commands caller (entries_of entries caller) ≡ o → IsNext session entries caller entry
    by None e = let none = next-none session entries caller e in cc
    by (Some command) e = let some = next-some session entries caller command e in record { command = command; given = e; is = cc }

-- ---- one more entry

-- the turns of one more caller
in_turn_after-more : (commands : List (List Command)) (past callers : List ℕ) (caller : ℕ)
    → in_turn_after commands past (callers ++ caller ∷ [])
    ≡ in_turn_after commands past callers ++ turn_at commands caller (count_by (λ other. other == caller) (past ++ callers)) ∷ []
in_turn_after-more commands past [] caller =
    ap (λ before. turn_at commands caller (count_by (λ other. other == caller) before) ∷ []) (sym (append-nil past))
in_turn_after-more commands past (first ∷ callers) caller =
    let turn = turn_at commands first (count_by (λ other. other == first) past) in
    let rest = in_turn_after commands (past ++ first ∷ []) callers in
    ap (λ turns. turn ∷ turns) (in_turn_after-more commands (past ++ first ∷ []) callers caller)
    ∙ ap (λ before. turn ∷ (rest ++ turn_at commands caller (count_by (λ other. other == caller) before) ∷ [])) (append_assoc past (first ∷ []) callers)

-- with the next entry of a caller, the journal of some callers is that of one caller more
pub journal-more : (session : Session) (entries : List Entry) (caller : ℕ) (entry : Entry)
    → entries ≡ run_of session.setup (in_turn session.commands (callers_of entries)) → next_entry session entries caller ≡ Some entry
    → entries ++ entry ∷ [] ≡ run_of session.setup (in_turn session.commands (callers_of entries ++ caller ∷ []))
journal-more session entries caller entry journal next =
    ap (λ es. es ++ entry ∷ []) journal
    ∙ ap (λ e. before ++ e ∷ []) (sym made.is ∙ ap (λ es. entry_of all_parts session.setup es given) journal)
    ∙ sym (run_after-more all_parts session.setup [] turns given)
    ∙ ap (run_of session.setup) (sym turns-more)
  where
    callers : List ℕ
    callers = callers_of entries

    made : IsNext session entries caller entry
    made = next-from session entries caller entry next

    given : Turn
    given = record { caller = caller; command = made.command }

    turns : List Turn
    turns = in_turn session.commands callers

    before : List Entry
    before = run_of session.setup turns

    turn : turn_at session.commands caller (count_by (λ other. other == caller) callers) ≡ Some given
    turn =
        ap (turn_at session.commands caller) (sym (count-callers entries caller))
        ∙ turn-some session.commands caller (entries_of entries caller) made.command made.given

    turns-more : in_turn session.commands (callers ++ caller ∷ []) ≡ turns ++ given ∷ []
    turns-more =
        ap (filter_map (λ t. t)) (in_turn_after-more session.commands [] callers caller)
        ∙ filter_map-append (λ t. t) (in_turn_after session.commands [] callers) (turn_at session.commands caller (count_by (λ other. other == caller) callers) ∷ [])
        ∙ ap (λ o. turns ++ filter_map (λ t. t) (o ∷ [])) turn

-- ---- the text

lines-more : (setup : Setup) (place : ℕ) (entries : List Entry) (entry : Entry)
    → lines_from setup place (entries ++ entry ∷ []) ≡ lines_from setup place entries ++ entry_line setup (place + length entries) entry
lines-more setup place [] entry = append-nil (entry_line setup place entry) ∙ ap (λ p. entry_line setup p entry) (omega arith)
lines-more setup place (first ∷ entries) entry =
    ap (λ bytes. entry_line setup place first ++ bytes) (lines-more setup (place + 1) entries entry)
    ∙ ap (λ p. entry_line setup place first ++ (lines_from setup (place + 1) entries ++ entry_line setup p entry)) (omega arith)
    ∙ sym (append_assoc (entry_line setup place first) (lines_from setup (place + 1) entries) (entry_line setup (place + length (first ∷ entries)) entry))

-- one more entry puts its line behind
pub text-more : (setup : Setup) (entries : List Entry) (entry : Entry)
    → journal_text setup (entries ++ entry ∷ []) ≡ journal_text setup entries ++ entry_line setup (length entries + 1) entry
text-more setup entries entry =
    lines-more setup 1 entries entry ∙ ap (λ p. journal_text setup entries ++ entry_line setup p entry) (omega arith)
