-- What a verdict on a journal says.
use Rattle.std.specs.Prelude.{ℕ, List}
use Rattle.market_model.specs.declared.entry.Entry.{Entry}
use Rattle.market_text.specs.declared.session.Session.{Session}
use Rattle.journal_audit.specs.declared.auditing.Verdict.{Verdict}
use Rattle.journal_audit.specs.declared.auditing.Verdict.TheVariants as verdict
use Rattle.journal_audit.specs.Audit.{IsJournalWith, IsNoJournal}

-- a verdict is that on a journal of a session
abbrev pub IsVerdict : Session → (journal : List ℕ) → Verdict → Type 0
IsVerdict session journal (verdict.Legal entries) = IsJournalWith session journal entries
IsVerdict session journal (verdict.Illegal entry) = IsNoJournal session journal entry

-- a fact of the entries, where a journal is legal
abbrev pub IfLegal : (List Entry → Type 0) → Verdict → Type 0
IfLegal P (verdict.Legal entries) = P entries
IfLegal P (verdict.Illegal entry) = Unit {0}

-- a fact of the place of the first fault, where it is not
abbrev pub IfIllegal : (ℕ → Type 0) → Verdict → Type 0
IfIllegal P (verdict.Legal entries) = Unit {0}
IfIllegal P (verdict.Illegal entry) = P entry
