-- A text that was written is what was asked for.
use Rattle.std.proofs.Common.{inr, ℕ, List, Option, subst}
use Rattle.session_io.specs.declared.status.Status.{Status}
use Rattle.session_io.specs.declared.status.Status.TheVariants as status
use Rattle.session_io.specs.Outcomes.{Answers}
use Rattle.record_run.specs.Writing.{Writes}

pub writes-answer : (IsAsked : List ℕ → Type 0) (IsBad IsIllegal : ℕ → Type 0) (text : List ℕ) (end : Status) (old new : Option (List ℕ))
    → IsAsked text → Writes text end old new → Answers IsAsked IsBad IsIllegal end old new
writes-answer IsAsked IsBad IsIllegal text status.Done old new asked writes = record { text = text; asked = asked; appended = writes }
writes-answer IsAsked IsBad IsIllegal text status.WriteFault old new asked writes =
    let wrote = writes.1 in
    record { front = wrote.front; rest = writes.0; asked = subst IsAsked wrote.whole asked; appended = wrote.appended }
writes-answer IsAsked IsBad IsIllegal text status.NoMemory old new asked writes =
    let wrote = writes.1 in
    inr (record { front = wrote.front; rest = writes.0; asked = subst IsAsked wrote.whole asked; appended = wrote.appended })
writes-answer IsAsked IsBad IsIllegal text status.Usage old new asked writes = absurd writes
writes-answer IsAsked IsBad IsIllegal text status.ReadFault old new asked writes = absurd writes
writes-answer IsAsked IsBad IsIllegal text status.TooLong old new asked writes = absurd writes
writes-answer IsAsked IsBad IsIllegal text (status.BadSession line) old new asked writes = absurd writes
writes-answer IsAsked IsBad IsIllegal text (status.Illegal entry) old new asked writes = absurd writes
writes-answer IsAsked IsBad IsIllegal text status.DiskFault old new asked writes = absurd writes
writes-answer IsAsked IsBad IsIllegal text (status.BadImage place) old new asked writes = absurd writes
