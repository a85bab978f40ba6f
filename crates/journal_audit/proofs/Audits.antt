-- What an audit knows of the lines so far, and what it tells of them.
use Rattle.std.proofs.Common.{◌≡◌, ◌∙◌, inl, inr, ℕ, ◌+◌, ◌<◌, ◌≤◌, ◌==◌, Bool, true, cond, eq-eqb, nat_eq, All, List, [], ◌∷◌, ◌++◌, append_assoc, count_by, length, length-append, take, Option, None, Some, refl, sym, ap, subst, arith}
use Rattle.std.specs.Prelude.{IsSome, is_some}
use Rattle.std.specs.List.{concat, filter_map}
use Rattle.std.proofs.lemmas.Bool.{cases_lt, false≢true}
use Rattle.std.proofs.lemmas.List.{append-nil, append_cancel_left, get_or_at, map-append, take_all, take_at, take-append-le}
use Rattle.std.proofs.lemmas.List.Elements.{All-nil, All-push, filter_map-append}
use Rattle.std.proofs.lemmas.List.Folds.{concat-append}
use Rattle.std.proofs.lemmas.List.Sums.{sum_by-append, sum_by-cons}
use Rattle.market_model.specs.declared.entry.Entry.{Entry}
use Rattle.market_model.specs.Market.{in_turn, run_after, run_of}
use Rattle.journal_print.specs.Line.{entry_line}
use Rattle.market_text.specs.Commands.{commands_of}
use Rattle.market_text.specs.declared.session.Session.{Session}
use Rattle.session_io.specs.JournalText.{journal_text}
use Rattle.session_journal.proofs.Journals.{count-callers}
use Rattle.journal_audit.specs.Audit.{AreRight, AreRightThroughout, IsComplete, IsFirstFault, IsFirstWanting, IsFirstWrongAmong, IsJournalWith, IsNoJournal, IsRightThroughout, entries_named, times_named}
use Rattle.journal_audit.specs.Course.{IsNextLine, callers_of, entries_of, next_entry}
use Rattle.journal_audit.specs.Lines.{caller_named, callers_named, journal_lines}
use Rattle.journal_audit.proofs.NextEntries.{entry_with, journal-more, next-some, text-more, there}

-- entries are the journal of their callers, each with its next command
pub record IsJournal (session : Session) (entries : List Entry) : Type 0 where
  pub journal : entries ≡ run_of session.setup (in_turn session.commands (callers_of entries))
  pub given : (caller : ℕ) → entries_of entries caller ≤ length (commands_of session.commands caller)

-- lines name the callers of entries, and are their text
pub record AreLines (session : Session) (entries : List Entry) (lines : List (List ℕ)) : Type 0 where
  pub named : All (λ line. IsSome (caller_named session.setup line)) lines
  pub callers : callers_named session.setup lines ≡ callers_of entries
  pub text : concat lines ≡ journal_text session.setup entries

-- one where a test holds
abbrev one_if : Bool → ℕ
one_if b = cond b 1 0

-- one more of a caller
count-last : (callers : List ℕ) (caller : ℕ) → count_by (λ named. named == caller) (callers ++ caller ∷ []) ≡ count_by (λ named. named == caller) callers + 1
count-last callers caller =
    let parts = sum_by-append (λ named. cond (nat_eq named caller) 1 0) callers (caller ∷ []) in
    let last = sum_by-cons (λ named. cond (nat_eq named caller) 1 0) caller [] in
    let one : one_if (nat_eq caller caller) ≡ one_if true = ap one_if (eq-eqb caller caller refl) in
    omega (arith, parts, last, one)

module _ (session : Session) where
  -- how often a caller is named is how many entries it has
  times-are : (entries : List Entry) (lines : List (List ℕ)) → callers_named session.setup lines ≡ callers_of entries → (caller : ℕ)
      → times_named session lines caller ≡ entries_of entries caller
  times-are entries lines callers caller = ap (count_by (λ named. named == caller)) callers ∙ sym (count-callers entries caller)

  entries-are : (entries : List Entry) (lines : List (List ℕ)) → IsJournal session entries → callers_named session.setup lines ≡ callers_of entries
      → entries ≡ entries_named session lines
  entries-are entries lines journal callers = journal.journal ∙ ap (λ cs. run_of session.setup (in_turn session.commands cs)) (sym callers)

  -- the lines of a journal are right
  are-right : (entries : List Entry) (lines : List (List ℕ)) → IsJournal session entries → AreLines session entries lines → AreRight session lines
  are-right entries lines journal are = record {
    named = are.named;
    given = λ caller. subst (λ n. n ≤ length (commands_of session.commands caller)) (sym (times-are entries lines are.callers caller)) (journal.given caller);
    text = are.text ∙ ap (journal_text session.setup) (entries-are entries lines journal are.callers);
  }

  -- the callers that one more line names
  callers-more : (lines : List (List ℕ)) (line : List ℕ) (caller : ℕ) → caller_named session.setup line ≡ Some caller
      → callers_named session.setup (lines ++ line ∷ []) ≡ callers_named session.setup lines ++ caller ∷ []
  callers-more lines line caller named =
      filter_map-append (caller_named session.setup) lines (line ∷ [])
      ∙ ap (λ o. callers_named session.setup lines ++ filter_map (λ (x : Option ℕ). x) (o ∷ [])) named

  text-of-more : (lines : List (List ℕ)) (line : List ℕ) → concat (lines ++ line ∷ []) ≡ concat lines ++ line
  text-of-more lines line = concat-append lines (line ∷ []) ∙ ap (λ bytes. concat lines ++ bytes) (append-nil line)

  -- one more line that is the next one
  lines-more : (entries : List Entry) (lines : List (List ℕ)) (line : List ℕ) (entry : Entry) → AreLines session entries lines → IsNextLine session entries line entry
      → AreLines session (entries ++ entry ∷ []) (lines ++ line ∷ [])
  lines-more entries lines line entry are next = record {
    named = All-push (λ l. IsSome (caller_named session.setup l)) lines line are.named (ap is_some next.named);
    callers = callers-more lines line entry.caller next.named ∙ ap (λ cs. cs ++ entry.caller ∷ []) are.callers
        ∙ sym (map-append (λ (e : Entry). e.caller) entries (entry ∷ []));
    text = text-of-more lines line ∙ ap (λ bytes. bytes ++ line) are.text ∙ ap (λ bytes. journal_text session.setup entries ++ bytes) next.text
        ∙ sym (text-more session.setup entries entry);
  }

  -- a line that is right behind others is the next one
  next-line : (entries : List Entry) (lines : List (List ℕ)) (line : List ℕ) → IsJournal session entries → AreLines session entries lines
      → AreRight session (lines ++ line ∷ []) → (entry : Entry) × IsNextLine session entries line entry
  next-line entries lines line journal are right = by (caller_named session.setup line) refl
    where
      whom : All (λ l. IsSome (caller_named session.setup l)) (lines ++ line ∷ []) → IsSome (caller_named session.setup line)
      whom named =
          subst (λ l. IsSome (caller_named session.setup l)) (get_or_at lines line [] [] (length lines) refl)
          (named (length lines) [] (omega (arith, length-append lines (line ∷ []))))

      by : (o : Option ℕ) → caller_named session.setup line ≡ o → (entry : Entry) × IsNextLine session entries line entry
      by None e = absurd (false≢true (sym (ap is_some e) ∙ whom right.named))
      by (Some caller) e =
          let callers : callers_named session.setup (lines ++ line ∷ []) ≡ callers_of entries ++ caller ∷ [] =
          callers-more lines line caller e ∙ ap (λ cs. cs ++ caller ∷ []) are.callers in
          let times : times_named session (lines ++ line ∷ []) caller ≡ times_named session lines caller + 1 =
          ap (count_by (λ named. named == caller)) (callers-more lines line caller e) ∙ count-last (callers_named session.setup lines) caller in
          let left : entries_of entries caller < length (commands_of session.commands caller) =
          omega (arith, right.given caller, times, times-are entries lines are.callers caller) in
          let own = there (commands_of session.commands caller) (entries_of entries caller) left in
          let entry : Entry = entry_with session entries caller own.0 in
          let next : next_entry session entries caller ≡ Some entry = next-some session entries caller own.0 own.1 in
          let whole : concat lines ++ line ≡ concat lines ++ entry_line session.setup (length entries + 1) entry =
          sym (text-of-more lines line) ∙ right.text
          ∙ ap (λ cs. journal_text session.setup (run_of session.setup (in_turn session.commands cs))) callers
          ∙ ap (journal_text session.setup) (sym (journal-more session entries caller entry journal.journal next))
          ∙ text-more session.setup entries entry
          ∙ ap (λ bytes. bytes ++ entry_line session.setup (length entries + 1) entry) (sym are.text) in
          (entry, record { named = e; next = next; text = append_cancel_left (concat lines) line (entry_line session.setup (length entries + 1) entry) whole })

  -- before the first line
  pub nothing-made : IsJournal session []
  unfolding run_after
  nothing-made = record { journal = refl; given = λ caller. omega arith }

  nothing-named : AreLines session [] []
  nothing-named = record { named = All-nil (λ line. IsSome (caller_named session.setup line)); callers = refl; text = refl }

-- lines up to a rest were right, and these are their entries
pub record AreAudited (session : Session) (all rest : List (List ℕ)) (entries : List Entry) : Type 0 where
  pub lines : List (List ℕ)
  pub whole : all ≡ lines ++ rest
  pub right : (place : ℕ) → place ≤ length lines → AreRight session (take place lines)
  pub are : AreLines session entries lines
  pub size : length lines ≡ length entries

-- so were those of a journal
abbrev pub IsAudited : Session → (journal rest : List ℕ) → List Entry → Type 0
IsAudited session journal rest entries = AreAudited session (journal_lines journal) (journal_lines rest) entries

module _ (session : Session) (all : List (List ℕ)) where
  -- before the first line
  pub nothing-audited : AreAudited session all all []
  nothing-audited = record {
    lines = [];
    whole = refl;
    right = λ place within. subst (AreRight session) (sym (take_all place [] (omega arith))) (are-right session [] [] (nothing-made session) (nothing-named session));
    are = nothing-named session;
    size = refl;
  }

  -- one more line, the next one
  pub more-audited : (rest after : List (List ℕ)) (entries : List Entry) (line : List ℕ) (entry : Entry) → AreAudited session all rest entries
      → rest ≡ line ∷ after → IsNextLine session entries line entry → IsJournal session (entries ++ entry ∷ [])
      → AreAudited session all after (entries ++ entry ∷ [])
  more-audited rest after entries line entry so_far first next made = record {
    lines = lines;
    whole = so_far.whole ∙ ap (λ ls. so_far.lines ++ ls) first ∙ sym (append_assoc so_far.lines (line ∷ []) after);
    right = right;
    are = are;
    size = length-append so_far.lines (line ∷ []) ∙ ap (λ n. n + 1) so_far.size ∙ sym (length-append entries (entry ∷ []));
  }
    where
      lines : List (List ℕ)
      lines = so_far.lines ++ line ∷ []

      are : AreLines session (entries ++ entry ∷ []) lines
      are = lines-more session entries so_far.lines line entry so_far.are next

      right : (place : ℕ) → place ≤ length lines → AreRight session (take place lines)
      right place within = elim (cases_lt (length so_far.lines) place) [
        | inl past ↦ subst (AreRight session) (sym (take_all place lines (omega (arith, past, length-append so_far.lines (line ∷ [])))))
            (are-right session (entries ++ entry ∷ []) lines made are)
        | inr before ↦ subst (AreRight session) (sym (take-append-le place so_far.lines (line ∷ []) before)) (so_far.right place before)
      ]

  -- a line that is not the next one is the first that is wrong
  pub wrong-audited : (rest after : List (List ℕ)) (entries : List Entry) (line : List ℕ) → AreAudited session all rest entries → IsJournal session entries
      → rest ≡ line ∷ after → ((entry : Entry) → ¬ IsNextLine session entries line entry)
      → IsFirstWrongAmong session all (length entries + 1)
  wrong-audited rest after entries line so_far made first none = record {
    some = omega arith;
    within = omega (arith, ap length whole, length-append so_far.lines (line ∷ after), so_far.size);
    before = λ earlier below.
        let early : earlier ≤ length so_far.lines = omega (arith, below, so_far.size) in
        subst (AreRight session) (sym (ap (take earlier) whole ∙ take-append-le earlier so_far.lines (line ∷ after) early)) (so_far.right earlier early);
    wrong = λ right. let found = next-line session entries so_far.lines line made so_far.are (subst (AreRight session) upto right) in none found.0 found.1;
  }
    where
      whole : all ≡ so_far.lines ++ (line ∷ after)
      whole = so_far.whole ∙ ap (λ ls. so_far.lines ++ ls) first

      upto : take (length entries + 1) all ≡ so_far.lines ++ line ∷ []
      upto =
          ap (take (length entries + 1)) (whole ∙ sym (append_assoc so_far.lines (line ∷ []) after))
          ∙ take_at (so_far.lines ++ line ∷ []) after (length entries + 1) (omega (arith, length-append so_far.lines (line ∷ []), so_far.size))

  -- behind the last line all were right
  module _ (entries : List Entry) (so_far : AreAudited session all [] entries) where
    pub all-are : all ≡ so_far.lines
    all-are = so_far.whole ∙ append-nil so_far.lines

    pub right-throughout : AreRightThroughout session all
    right-throughout place within =
        subst (λ lines. AreRight session (take place lines)) (sym all-are) (so_far.right place (subst (λ lines. place ≤ length lines) all-are within))

    pub callers-named : callers_named session.setup all ≡ callers_of entries
    callers-named = ap (callers_named session.setup) all-are ∙ so_far.are.callers

module _ (session : Session) (journal : List ℕ) where
  -- behind the last line
  module _ (entries : List Entry) (so_far : IsAudited session journal [] entries) (made : IsJournal session entries) where
    pub lines-are : journal_lines journal ≡ so_far.lines
    unfolding journal_lines
    lines-are = all-are session (journal_lines journal) entries so_far

    right : IsRightThroughout session journal
    unfolding journal_lines
    right = right-throughout session (journal_lines journal) entries so_far

    times : (caller : ℕ) → times_named session (journal_lines journal) caller ≡ entries_of entries caller
    times caller = ap (λ lines. times_named session lines caller) lines-are ∙ times-are session entries so_far.lines so_far.are.callers caller

    -- where no caller has a command left the journal is complete
    pub complete-audited : ((caller : ℕ) → entries_of entries caller ≡ length (commands_of session.commands caller)) → IsJournalWith session journal entries
    complete-audited done = record {
      complete = record { right = right; done = λ caller. times caller ∙ done caller };
      are = entries-are session entries so_far.lines made so_far.are.callers ∙ ap (entries_named session) (sym lines-are);
    }

    -- where one has, the next line is wanting
    pub wanting-audited : (caller : ℕ) → entries_of entries caller < length (commands_of session.commands caller) → IsFirstWanting session journal (length entries + 1)
    wanting-audited caller left = record {
      right = right;
      left = (caller, omega (arith, times caller, left));
      behind = omega (arith, ap length lines-are, so_far.size);
    }

  -- where there is a fault the journal is not complete
  pub no-journal : (place : ℕ) → IsFirstFault session journal place → IsNoJournal session journal place
  no-journal place fault = record { incomplete = incomplete fault; fault = fault }
    where
      incomplete : IsFirstFault session journal place → ¬ IsComplete session journal
      incomplete (inl first) complete = first.wrong (complete.right place first.within)
      incomplete (inr wanting) complete = omega (arith, wanting.left.1, complete.done wanting.left.0)
