-- What is asked for is done where no read and no write fails, unless memory is wanting.
use Rattle.std.proofs.Common.{◌≡◌, ◌≢◌, ◌∙◌, ◌⊎◌, ℕ, ◌≤◌, List, Option, Ok, Err, Some, length, sym}
use Rattle.market_text.specs.declared.session.Session.{Session}
use Rattle.market_text.specs.Text.{session_of_text}
use Rattle.session_io.specs.Reading.{longest_session}
use Rattle.session_io.specs.declared.status.Status.{Status}
use Rattle.session_io.specs.declared.status.Status.TheVariants as status
use Rattle.session_io.proofs.Completion.{completes}
use Rattle.session_run.specs.Outcomes.{Played}
use Rattle.session_run.specs.Reading.{HasNoEntry, IsBadText, Reads}

-- a session that is not too long is played, and its text written
pub plays : (IsAsked : List ℕ → Type 0) (bytes : List ℕ) (session : Session) (end : Status) (left new old written : Option (List ℕ)) → left ≡ Some bytes → session_of_text bytes ≡ Ok session
    → length bytes ≤ longest_session → Played IsAsked bytes end old written → (end ≢ status.NoMemory → Reads left new end)
    → end ≢ status.Usage → end ≢ status.ReadFault → end ≢ status.WriteFault → (end ≡ status.Done) ⊎ (end ≡ status.NoMemory)
plays IsAsked bytes session end left new old written is read short outcome reads no_usage no_read no_write =
    completes longest_session IsAsked (IsBadText bytes) (HasNoEntry bytes) bytes end left new old written is short
    (λ line bad. let none : Ok session ≡ Err line = sym read ∙ bad in cc) (λ entry illegal. illegal) outcome reads no_usage no_read no_write
