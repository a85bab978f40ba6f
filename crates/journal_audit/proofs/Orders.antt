-- The complete journals of a session are those of the orders of its commands.
use Rattle.std.proofs.Common.{◌≡◌, ◌∙◌, inl, inr, ℕ, ◌+◌, ◌<◌, ◌≤◌, ◌==◌, Bool, true, false, not, cond, All, List, [], ◌∷◌, ◌++◌, append_assoc, codes, count_by, get_or, length, length-append, nat_eq, Some, eq-eqb, refl, sym, ap, subst, arith}
use Rattle.std.specs.List.{concat, filter_map, join_with_byte, slice_get}
use Rattle.std.proofs.lemmas.Bool.{and_parts, cases_lt, ne_eqb}
use Rattle.std.proofs.lemmas.List.{append-nil, get_or_past, map-append, take_all}
use Rattle.std.proofs.lemmas.List.Elements.{All-cons, All-head, All-nil, All-tail}
use Rattle.std.proofs.lemmas.List.Splits.{join_with_byte-slice_split, length-slice_split, slice_split_at}
use Rattle.std.proofs.lemmas.List.Sums.{sum_by-append, sum_by-cons}
use Rattle.journal_print.specs.Json.{braces}
use Rattle.journal_print.specs.Line.{entry_line, entry_members}
use Rattle.market_model.specs.declared.command.Command.{Command}
use Rattle.market_model.specs.declared.entry.Entry.{Entry}
use Rattle.market_model.specs.Market.{in_turn, in_turn_after, run_after, run_of, turn_at}
use Rattle.market_model.specs.Sweep.{all_parts}
use Rattle.market_text.specs.Commands.{commands_of}
use Rattle.market_text.specs.Session.{IsSession}
use Rattle.market_text.specs.Text.{lines_of}
use Rattle.market_text.specs.declared.session.Session.{Session}
use Rattle.session_io.specs.JournalText.{lines_from}
use Rattle.session_journal.proofs.Journals.{count-callers}
use Rattle.laws_of_texts.specs.Lines.{IsLine}
use Rattle.journal_audit.specs.Audit.{AreRight, AreRightThroughout, IsComplete, IsFirstWrongAmong, IsJournalWith}
use Rattle.journal_audit.specs.Course.{IsNextLine, callers_of, entries_of}
use Rattle.journal_audit.specs.Laws.{AreNamedApart, CompleteJournalsAreInOrder, FirstFaultIsOne, IsJournalInOrder, LinesAreAudited, LinesMakeTheText}
use Rattle.journal_audit.specs.Lines.{callers_named, ended_lines, journal_lines, with_line_feeds}
use Rattle.journal_audit.proofs.Audits.{IsAudited, IsJournal, complete-audited, lines-are, more-audited, nothing-audited, nothing-made}
use Rattle.journal_audit.proofs.LineTexts.{ended}
use Rattle.journal_audit.proofs.NamedLines.{caller-is, line-begins}
use Rattle.journal_audit.proofs.NextEntries.{entry_with, journal-more, next-some, there, turn-some}
use Rattle.journal_audit.proofs.OneLines.{IsOneLine, one-entry}

-- ---- the lines of a text

-- each of them with its line feed, they are joined by line feeds
joined : (parts : List (List ℕ)) → concat (with_line_feeds parts) ≡ join_with_byte 10 parts
joined [] = refl
joined ([] ∷ []) = refl
joined ((byte ∷ bytes) ∷ []) = append-nil (byte ∷ bytes)
joined (line ∷ next ∷ more) =
    ap concat (ended line (next ∷ more) (omega arith))
    ∙ append_assoc line (codes "\n") (concat (with_line_feeds (next ∷ more)))
    ∙ ap (λ bytes. line ++ (10 ∷ bytes)) (joined (next ∷ more))

pub lines-make : LinesMakeTheText
unfolding journal_lines
lines-make text = joined (lines_of text) ∙ join_with_byte-slice_split 10 text

-- no byte is a line feed
none-feeds : (bytes : List ℕ) → IsOneLine bytes → All (λ byte. (byte == 10) ≡ false) bytes
none-feeds [] one = All-nil (λ byte. (byte == 10) ≡ false)
none-feeds (byte ∷ bytes) one =
    let parts = and_parts _ _ one in
    All-cons (λ b. (b == 10) ≡ false) byte bytes (other (byte == 10) parts.0) (none-feeds bytes parts.1)
  where
    other : (b : Bool) → not b ≡ true → b ≡ false
    other true is = sym is
    other false is = refl

-- a line and what follows it
line-first : (body rest : List ℕ) → All (λ byte. (byte == 10) ≡ false) body → journal_lines ((body ++ codes "\n") ++ rest) ≡ (body ++ codes "\n") ∷ journal_lines rest
unfolding journal_lines
line-first body rest none =
    let some : 1 ≤ length (lines_of rest) = omega (arith, length-slice_split (λ byte. byte == 10) rest) in
    ap with_line_feeds (ap lines_of (append_assoc body (codes "\n") rest) ∙ slice_split_at (λ byte. byte == 10) body 10 rest none refl)
    ∙ ended body (lines_of rest) some

-- lines without their line feeds
lines-ended : (lines : List (List ℕ)) → All IsLine lines → journal_lines (concat (ended_lines lines)) ≡ ended_lines lines
unfolding journal_lines
lines-ended [] are = refl
lines-ended (line ∷ lines) are =
    line-first line (concat (ended_lines lines)) (λ k d within. ne_eqb (get_or line k d) 10 (All-head IsLine line lines are k d within))
    ∙ ap (λ ls. (line ++ codes "\n") ∷ ls) (lines-ended lines (All-tail IsLine line lines are))

pub lines-audited : LinesAreAudited
lines-audited session lines are = (
  (subst (AreRightThroughout session) (sym same), subst (AreRightThroughout session) same),
  λ place.
      (subst (λ ls. IsFirstWrongAmong session ls place) (sym same), subst (λ ls. IsFirstWrongAmong session ls place) same),
)
  where
    same : journal_lines (concat (ended_lines lines)) ≡ ended_lines lines
    same = lines-ended lines are

-- ---- one first fault

pub first-fault-one : FirstFaultIsOne
first-fault-one session journal place other (inl first) (inl also) = elim (cases_lt place other) [
  | inl less ↦ absurd (first.wrong (also.before place less))
  | inr more ↦ elim (cases_lt other place) [
    | inl less ↦ absurd (also.wrong (first.before other less))
    | inr least ↦ omega (arith, more, least)
  ]
]
first-fault-one session journal place other (inl first) (inr also) = absurd (first.wrong (also.right place first.within))
first-fault-one session journal place other (inr first) (inl also) = absurd (also.wrong (first.right other also.within))
first-fault-one session journal place other (inr first) (inr also) = first.behind ∙ sym also.behind

-- ---- how often callers are named

-- how often a caller is among callers
abbrev times : List ℕ → (caller : ℕ) → ℕ
times callers caller = count_by (λ other. other == caller) callers

-- one where a test holds
abbrev one_if : Bool → ℕ
one_if b = cond b 1 0

times-first : (first : ℕ) (callers : List ℕ) (caller : ℕ) → times (first ∷ callers) caller ≡ one_if (nat_eq first caller) + times callers caller
times-first first callers caller = sum_by-cons (λ other. cond (nat_eq other caller) 1 0) first callers

times-last : (callers : List ℕ) (last caller : ℕ) → times (callers ++ last ∷ []) caller ≡ times callers caller + one_if (nat_eq last caller)
times-last callers last caller =
    let parts = sum_by-append (λ other. cond (nat_eq other caller) 1 0) callers (last ∷ []) in
    let one = times-first last [] caller in
    omega (arith, parts, one)

-- who has a command is there
owner : (commands : List (List Command)) (caller : ℕ) → 0 < length (commands_of commands caller) → caller < length commands
owner commands caller some = elim (cases_lt caller (length commands)) [
  | inl here ↦ here
  | inr past ↦
      let none : length (commands_of commands caller) ≡ 0 = ap length (get_or_past commands caller [] past) in
      absurd (omega (arith, none, some))
]

-- ---- the journal of an order

-- an audit that came to the end of the lines of some callers
pub record IsEnded (session : Session) (journal : List ℕ) (callers : List ℕ) : Type 0 where
  pub entries : List Entry
  pub audited : IsAudited session journal [] entries
  pub made : IsJournal session entries
  pub named : callers_of entries ≡ callers

module _ (session : Session) (is : IsSession session) (apart : AreNamedApart session.setup) (journal : List ℕ) where
  -- each caller has commands enough
  abbrev AreEnough : (past future : List ℕ) → Type 0
  AreEnough past future = (caller : ℕ) → times past caller + times future caller ≤ length (commands_of session.commands caller)

  -- the lines of what callers are still to give, after entries, are right one after the other
  audit-on : (future past : List ℕ) (before : List Entry) → callers_of before ≡ past → IsJournal session before → AreEnough past future
      → IsAudited session journal (lines_from session.setup (length before + 1) (run_after all_parts session.setup before (filter_map (λ turn. turn) (in_turn_after session.commands past future)))) before
      → IsEnded session journal (past ++ future)
  unfolding run_after
  audit-on [] past before same made enough audited = record { entries = before; audited = audited; made = made; named = same ∙ sym (append-nil past) }
  audit-on (caller ∷ future) past before same made enough audited =
      subst (IsEnded session journal) (append_assoc past (caller ∷ []) future)
      (audit-on future (past ++ caller ∷ []) (before ++ entry ∷ []) callers-more made-more enough-more
      (more-audited session (journal_lines journal) (journal_lines (line ++ after)) (journal_lines after) before line entry (subst (λ rest. IsAudited session journal rest before) text audited)
      (line-first (braces (entry_members session.setup (length before + 1) entry)) after (none-feeds (braces (entry_members session.setup (length before + 1) entry)) (one-entry session.setup is.named (length before + 1) entry)))
      next made-more))
    where
      own-times : entries_of before caller ≡ times past caller
      own-times = count-callers before caller ∙ ap (λ callers. times callers caller) same

      left : entries_of before caller < length (commands_of session.commands caller)
      left =
          let one : one_if (nat_eq caller caller) ≡ one_if true = ap one_if (eq-eqb caller caller refl) in
          omega (arith, enough caller, times-first caller future caller, one, own-times)

      own : (command : Command) × (slice_get (commands_of session.commands caller) (entries_of before caller) ≡ Some command)
      own = there (commands_of session.commands caller) (entries_of before caller) left

      entry : Entry
      entry = entry_with session before caller own.0

      line : List ℕ
      line = entry_line session.setup (length before + 1) entry

      after : List ℕ
      after = lines_from session.setup (length (before ++ entry ∷ []) + 1)
          (run_after all_parts session.setup (before ++ entry ∷ []) (filter_map (λ turn. turn) (in_turn_after session.commands (past ++ caller ∷ []) future)))

      known : caller < length session.setup.callers
      known =
          let here = owner session.commands caller (omega (arith, left)) in
          let matched = is.matched in
          omega (arith, here, matched)

      text : lines_from session.setup (length before + 1) (run_after all_parts session.setup before (filter_map (λ turn. turn) (in_turn_after session.commands past (caller ∷ future))))
          ≡ line ++ after
      text =
          ap (λ o. lines_from session.setup (length before + 1) (run_after all_parts session.setup before (filter_map (λ turn. turn) (o ∷ in_turn_after session.commands (past ++ caller ∷ []) future))))
          (ap (turn_at session.commands caller) (sym own-times) ∙ turn-some session.commands caller (entries_of before caller) own.0 own.1)
          ∙ ap (λ place. line ++ lines_from session.setup place (run_after all_parts session.setup (before ++ entry ∷ []) (filter_map (λ turn. turn) (in_turn_after session.commands (past ++ caller ∷ []) future))))
          (omega (arith, length-append before (entry ∷ [])))

      next : IsNextLine session before line entry
      next = record {
        named = caller-is session.setup caller line is.named apart known (line-begins session.setup (length before + 1) entry);
        next = next-some session before caller own.0 own.1;
        text = refl;
      }

      callers-more : callers_of (before ++ entry ∷ []) ≡ past ++ caller ∷ []
      callers-more = map-append (λ (e : Entry). e.caller) before (entry ∷ []) ∙ ap (λ callers. callers ++ caller ∷ []) same

      enough-more : AreEnough (past ++ caller ∷ []) future
      enough-more other = omega (arith, enough other, times-first caller future other, times-last past caller other)

      made-more : IsJournal session (before ++ entry ∷ [])
      made-more = record {
        journal = journal-more session before caller entry made.journal (next-some session before caller own.0 own.1)
            ∙ ap (λ callers. run_of session.setup (in_turn session.commands callers)) (ap (λ callers. callers ++ caller ∷ []) same ∙ sym callers-more);
        given = λ other.
            let its : entries_of (before ++ entry ∷ []) other ≡ times (past ++ caller ∷ []) other =
            count-callers (before ++ entry ∷ []) other ∙ ap (λ callers. times callers other) callers-more in
            omega (arith, its, enough-more other);
      }

-- the journal of an order of a session's commands
module _ (session : Session) (journal : List ℕ) (is : IsSession session) (apart : AreNamedApart session.setup) (ordered : IsJournalInOrder session journal) where
  pub ended-in-order : IsEnded session journal ordered.callers
  ended-in-order =
      let start : IsAudited session journal (lines_from session.setup 1 (run_of session.setup (in_turn session.commands ordered.callers))) [] =
      subst (λ rest. IsAudited session journal rest []) ordered.text (nothing-audited session (journal_lines journal)) in
      audit-on session is apart journal ordered.callers [] [] refl (nothing-made session) (λ caller. omega (arith, ordered.order caller)) start

  -- is complete, with what the market makes of that order
  pub with-entries : IsJournalWith session journal (run_of session.setup (in_turn session.commands ordered.callers))
  with-entries =
      let end = ended-in-order in
      subst (IsJournalWith session journal) (end.made.journal ∙ ap (λ callers. run_of session.setup (in_turn session.commands callers)) end.named)
      (complete-audited session journal end.entries end.audited end.made
      (λ caller. count-callers end.entries caller ∙ ap (λ callers. times callers caller) end.named ∙ ordered.order caller))

  -- and its lines name the callers in that order
  pub named-in-order : callers_named session.setup (journal_lines journal) ≡ ordered.callers
  named-in-order =
      let end = ended-in-order in
      ap (callers_named session.setup) (lines-are session journal end.entries end.audited end.made) ∙ end.audited.are.callers ∙ end.named

pub complete-in-order : CompleteJournalsAreInOrder
complete-in-order session journal is apart = (whole, λ ordered. (with-entries session journal is apart ordered).complete)
  where
    whole : IsComplete session journal → IsJournalInOrder session journal
    whole complete =
        let lines : List (List ℕ) = journal_lines journal in
        let right : AreRight session lines = subst (AreRight session) (take_all (length lines) lines (omega arith)) (complete.right (length lines) (omega arith)) in
        record { callers = callers_named session.setup lines; order = complete.done; text = sym (lines-make journal) ∙ right.text }
