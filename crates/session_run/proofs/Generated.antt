-- The text that is generated has no bad line, and the summary of its journal begins with nothing.
use Rattle.std.proofs.Common.{◌≡◌, ◌∙◌, ℕ, ◌≤◌, List, [], Option, Ok, Err, refl, sym, arith}
use Rattle.load_maker.specs.Session.{session_text}
use Rattle.load_maker.specs.Summary.{summary_text}
use Rattle.market_text.specs.Text.{session_of_text}
use Rattle.laws_of_texts.proofs.GeneratedSessions.{generated_texts}
use Rattle.session_journal.specs.Journal.{journal_of_session}
use Rattle.session_run.specs.Journal.{IsSummaryOf}
use Rattle.session_io.specs.Outcomes.{IsWrittenInPart}
use Rattle.session_io.proofs.JournalTexts.{appends-nothing}

pub no-bad-line : (commands line : ℕ) → commands ≤ 100000 → session_of_text (session_text commands) ≡ Err line → ⊥
no-bad-line commands line few bad =
    let read = generated_texts commands (omega (arith, few)) in
    let none : Ok read.0 ≡ Err line = sym read.1 ∙ bad in
    cc

-- nothing is a first part of the summary
pub nothing_of_summary : (commands : ℕ) (old : Option (List ℕ)) → commands ≤ 100000 → IsWrittenInPart (IsSummaryOf commands) old old
nothing_of_summary commands old few =
    let read = generated_texts commands (omega (arith, few)) in
    record {
      front = [];
      rest = summary_text (journal_of_session read.0);
      asked = record { session = read.0; read = read.1; text = refl };
      appended = appends-nothing old;
    }
