use Rattle.std.proofs.Common.{subst}
use Rattle.command_words.specs.Words.{IsInRange}
use Rattle.command_words.proofs.Asking.{asked_in_range}
use Rattle.session_run.proofs.Generated.{nothing_of_summary}
use Rattle.journal_audit.specs.Journal.{IsJournalOf}
use Rattle.disk_model.proofs.Moments.{started}
use Rattle.session_run.specs.Storing.{StoresPartOf}
use Rattle.session_run.proofs.Completion.{plays}
use Rattle.session_run.proofs.Stored.{nothing-yet, told-empty}
use Rattle.session_run.proofs.running.run_alone.Goals as goal

-- a session that is not too long is played where nothing fails
pub returns-in-Ok-Some-Replay-clause-complete : goal.returns-in-Ok-Some-Replay-clause-complete
returns-in-Ok-Some-Replay-clause-complete g c means bytes session is read short no_read_fault no_write_fault =
    plays (IsJournalOf bytes) bytes session c.replay.result (g.S.Source.left c.args.source.now) (g.S.Source.left c.replay.new.source)
    (g.K.Sink.written c.args.sink.now) (g.K.Sink.written c.replay.new.sink) is read short (c.replay.ensures.replayed bytes is) c.replay.ensures.reads
    c.replay.ensures.usage (λ e. no_read_fault (c.replay.ensures.read_fault e)) (λ e. no_write_fault (c.replay.ensures.write_fault e))

-- where the words could not be taken apart nothing was written
pub returns-in-Err-clause-generated : goal.returns-in-Err-clause-generated
returns-in-Err-clause-generated g c commands means =
    nothing_of_summary commands (g.K.Sink.written c.args.sink.now) (subst IsInRange means (asked_in_range c.args.words.now)).1

-- a record with a complete journal is audited and shipped where nothing fails
pub returns-in-Ok-Some-Audit-clause-complete_record : goal.returns-in-Ok-Some-Audit-clause-complete_record
returns-in-Ok-Some-Audit-clause-complete_record g c asked bytes session entries is recorded short no_read_fault no_write_fault =
    c.audit_record.ensures.complete bytes session entries is recorded short no_read_fault no_write_fault

pub returns-in-Ok-Some-Ship-clause-complete_record : goal.returns-in-Ok-Some-Ship-clause-complete_record
returns-in-Ok-Some-Ship-clause-complete_record g c asked bytes session entries is recorded short no_read_fault no_write_fault =
    c.ship_record.ensures.complete bytes session entries is recorded short no_read_fault no_write_fault

-- a session whose lines are not too large is stored where nothing fails
pub returns-in-Ok-Some-Store-clause-complete_stored : goal.returns-in-Ok-Some-Store-clause-complete_stored
returns-in-Ok-Some-Store-clause-complete_stored g c asked bytes session is tells read short fits no_read_fault no_write_fault no_disk_fault =
    c.store.ensures.complete bytes session is tells read short fits no_read_fault no_write_fault no_disk_fault

-- where the words could not be taken apart nothing is on the disk
pub returns-in-Err-clause-stored_any_moment : goal.returns-in-Err-clause-stored_any_moment
returns-in-Err-clause-stored_any_moment g c bytes asked is tells =
    started g.D.Disk.moment g.D.Disk.left_since c.args.disk.now (StoresPartOf bytes)
    (λ image left. nothing-yet bytes (g.D.Disk.contents c.args.disk.now) (told-empty (g.D.Disk.contents c.args.disk.now) c.requires.empty tells) image
    (g.met.D.Disk.only_now c.args.disk.now image left))

-- a session is recovered from an image whose lines are right, where nothing fails
pub returns-in-Ok-Some-Recover-clause-complete_recovered : goal.returns-in-Ok-Some-Recover-clause-complete_recovered
returns-in-Ok-Some-Recover-clause-complete_recovered g c asked bytes session image front is tells has short fits no_read_fault no_write_fault no_disk_fault =
    c.recover.ensures.complete bytes session image front is tells has short fits no_read_fault no_write_fault no_disk_fault
