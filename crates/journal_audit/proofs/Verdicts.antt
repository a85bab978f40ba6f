-- The verdict behind the last line.
use Rattle.std.proofs.Common.{◌≡◌, ◌≢◌, ◌∙◌, inl, inr, ℕ, ◌+◌, ◌<◌, ◌≤◌, List, [], length, slice_index, sym, ap, subst, arith}
use Rattle.std.proofs.lemmas.Bool.{cases_lt}
use Rattle.std.proofs.lemmas.List.{get_or_past}
use Rattle.market_model.specs.Market.{IsLegal}
use Rattle.market_text.specs.Commands.{commands_of}
use Rattle.market_text.specs.declared.session.Session.{Session}
use Rattle.journal_audit.specs.Audit.{IsJournalWith, IsNoJournal}
use Rattle.journal_audit.specs.Course.{IsCourse, entries_of}
use Rattle.journal_audit.specs.Verdict.{IfIllegal, IfLegal, IsVerdict}
use Rattle.journal_audit.specs.declared.auditing.Verdict.{Verdict}
use Rattle.journal_audit.specs.declared.auditing.Verdict.TheVariants as verdict
use Rattle.journal_audit.specs.declared.course.Course.{Course}
use Rattle.journal_audit.proofs.Audits.{IsAudited, complete-audited, no-journal, wanting-audited}
use Rattle.journal_audit.proofs.Courses.{course-legal, journal-of}

module _ (session : Session) (course : Course) (is : IsCourse session course) where
  -- a caller that is not there has no command
  done-past : (caller : ℕ) → length session.commands ≤ caller → entries_of course.entries caller ≡ length (commands_of session.commands caller)
  done-past caller past =
      let none : length (commands_of session.commands caller) ≡ 0 = ap length (get_or_past session.commands caller [] past) in
      omega (arith, none, is.given caller)

  -- so where each that is there is done, each is
  done-each : ((caller : ℕ) → caller < length session.commands → slice_index course.given caller ≡ length (commands_of session.commands caller))
      → (caller : ℕ) → entries_of course.entries caller ≡ length (commands_of session.commands caller)
  done-each done caller = elim (cases_lt caller (length session.commands)) [
    | inl there ↦ sym (is.counted caller) ∙ done caller there
    | inr past ↦ done-past caller past
  ]

  -- what is answered is the verdict
  pub verdict-behind : (journal : List ℕ) (v : Verdict) → IsAudited session journal [] course.entries
      → IfLegal (λ entries. entries ≡ course.entries) v
      → IfLegal (λ entries. (caller : ℕ) → caller < length session.commands → slice_index course.given caller ≡ length (commands_of session.commands caller)) v
      → IfIllegal (λ place. place ≡ length course.entries + 1) v
      → IfIllegal (λ place. (caller : ℕ) × (slice_index course.given caller ≢ length (commands_of session.commands caller))) v
      → IsVerdict session journal v
  verdict-behind journal (verdict.Legal entries) audited are done place left =
      subst (IsJournalWith session journal) (sym are) (complete-audited session journal course.entries audited (journal-of session course is) (done-each done))
  verdict-behind journal (verdict.Illegal entry) audited are done place left =
      let some : entries_of course.entries left.0 < length (commands_of session.commands left.0) =
      omega (arith, is.given left.0, is.counted left.0, left.1) in
      subst (IsNoJournal session journal) (sym place)
      (no-journal session journal (length course.entries + 1) (inr (wanting-audited session journal course.entries audited (journal-of session course is) left.0 some)))

  -- and its entries are a legal journal
  pub legal-behind : (v : Verdict) → IfLegal (λ entries. entries ≡ course.entries) v → IfLegal (IsLegal session.setup) v
  legal-behind (verdict.Legal entries) are = subst (IsLegal session.setup) (sym are) (course-legal session course is)
  legal-behind (verdict.Illegal entry) are = tt
