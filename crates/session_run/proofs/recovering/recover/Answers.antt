-- What is answered of an input that is read and recovered, or is not.
use Rattle.std.proofs.Common.{◌≡◌, ◌∙◌, inl, sym, subst}
use Rattle.session_io.specs.JournalText.{journal_text}
use Rattle.session_io.specs.Reading.{longest_record}
use Rattle.record_run.specs.Inputs.{Is}
use Rattle.session_io.proofs.Answering.{has-read, is-known}
use Rattle.stored_journal.specs.Lines.{TellsContents}
use Rattle.session_run.specs.Recovering.{EndsInput, IsRecoveredOn, IsRecoveredTextOf}
use Rattle.session_run.proofs.Recovered.{ends-completes, ends-not-done, ends-reads, ends-recovered, unread-completes, unread-early, unread-reads, unread-recovered, written-recovered}
use Rattle.session_run.proofs.Stored.{written-completes, written-short}
use Rattle.session_run.proofs.recovering.recover.Goals as goal

-- ---- no input was read

pub returns-in-Err-clause-recovered : goal.returns-in-Err-clause-recovered
returns-in-Err-clause-recovered g c = λ bytes is.
    unread-recovered (TellsContents (g.D.Disk.contents c.args.disk.now)) bytes longest_record (g.S.Source.left c.args.source.now) (g.S.Source.left c.input_from.new.source)
    (g.K.Sink.written c.args.sink.now) c.in-Err.status c.in-Err.ensures.stops

pub returns-in-Err-clause-on_disk : goal.returns-in-Err-clause-on_disk
returns-in-Err-clause-on_disk g c = λ bytes is tells done.
    absurd (unread-early longest_record (g.S.Source.left c.args.source.now) (g.S.Source.left c.input_from.new.source) c.in-Err.status c.in-Err.ensures.stops done)

pub returns-in-Err-clause-complete : goal.returns-in-Err-clause-complete
returns-in-Err-clause-complete g c = λ bytes session image front is tells has short fits no_read no_write no_disk.
    unread-completes bytes (g.S.Source.left c.args.source.now) (g.S.Source.left c.input_from.new.source) c.in-Err.status is short c.in-Err.ensures.stops
    (λ e. no_read (c.in-Err.ensures.fault (cc)))

pub returns-in-Err-clause-reads : goal.returns-in-Err-clause-reads
returns-in-Err-clause-reads g c = λ memory.
    inl (unread-reads longest_record (g.S.Source.left c.args.source.now) (g.S.Source.left c.input_from.new.source) c.in-Err.status c.in-Err.ensures.stops memory)

-- ---- an input was read, but not recovered

pub returns-clause-recovered : goal.returns-clause-recovered
returns-clause-recovered g c = λ bytes is.
    let tells = TellsContents (g.D.Disk.contents c.args.disk.now) in
    let same : bytes ≡ c.in-Ok.bytes.items = is-known longest_record (Is c.in-Ok.bytes.items) (g.S.Source.left c.args.source.now) (g.S.Source.left c.input_from.new.source) bytes c.in-Ok.ensures.read is in
    ends-recovered tells bytes c.in-Err-recover_input.status (g.K.Sink.written c.args.sink.now)
    (subst (λ b. EndsInput tells b c.in-Err-recover_input.status) (c.as_slice.ensures.value ∙ sym same) c.in-Err-recover_input.ensures.ends)

pub returns-clause-on_disk : goal.returns-clause-on_disk
returns-clause-on_disk g c = λ bytes is tells done.
    absurd (ends-not-done (TellsContents (g.D.Disk.contents c.args.disk.now)) c.as_slice.result.now c.in-Err-recover_input.status c.in-Err-recover_input.ensures.ends done)

pub returns-clause-complete : goal.returns-clause-complete
returns-clause-complete g c = λ bytes session image front is told has short fits no_read no_write no_disk.
    let tells = TellsContents (g.D.Disk.contents c.args.disk.now) in
    let same : bytes ≡ c.in-Ok.bytes.items = is-known longest_record (Is c.in-Ok.bytes.items) (g.S.Source.left c.args.source.now) (g.S.Source.left c.input_from.new.source) bytes c.in-Ok.ensures.read is in
    ends-completes tells bytes told session image has front fits c.in-Err-recover_input.status
    (subst (λ b. EndsInput tells b c.in-Err-recover_input.status) (c.as_slice.ensures.value ∙ sym same) c.in-Err-recover_input.ensures.ends)
    (λ e. no_disk (c.in-Err-recover_input.ensures.fault (cc)))

pub returns-clause-reads : goal.returns-clause-reads
returns-clause-reads g c = λ memory.
    let tells = TellsContents (g.D.Disk.contents c.args.disk.now) in
    ends-reads tells c.in-Ok.bytes.items c.in-Err-recover_input.status (g.S.Source.left c.args.source.now) (g.S.Source.left c.input_from.new.source)
    (subst (λ b. EndsInput tells b c.in-Err-recover_input.status) c.as_slice.ensures.value c.in-Err-recover_input.ensures.ends) c.in-Ok.ensures.read

-- ---- and recovered

pub returns-in-Ok-recover_input-clause-recovered : goal.returns-in-Ok-recover_input-clause-recovered
returns-in-Ok-recover_input-clause-recovered g c = λ bytes is.
    let tells = TellsContents (g.D.Disk.contents c.args.disk.now) in
    let journal = c.in-Ok-recover_input.journal in
    let same : bytes ≡ c.in-Ok.bytes.items = is-known longest_record (Is c.in-Ok.bytes.items) (g.S.Source.left c.args.source.now) (g.S.Source.left c.input_from.new.source) bytes c.in-Ok.ensures.read is in
    written-recovered tells bytes (journal_text journal.setup journal.entries) c.write_to.result (g.K.Sink.written c.args.sink.now) (g.K.Sink.written c.write_to.new.sink)
    (subst (λ b. IsRecoveredTextOf tells b (journal_text journal.setup journal.entries)) (c.as_slice.ensures.value ∙ sym same) c.in-Ok-recover_input.ensures.text)
    c.write_to.ensures.text

pub returns-in-Ok-recover_input-clause-on_disk : goal.returns-in-Ok-recover_input-clause-on_disk
returns-in-Ok-recover_input-clause-on_disk g c = λ bytes is tells done.
    let same : bytes ≡ c.in-Ok.bytes.items = is-known longest_record (Is c.in-Ok.bytes.items) (g.S.Source.left c.args.source.now) (g.S.Source.left c.input_from.new.source) bytes c.in-Ok.ensures.read is in
    subst (λ b. IsRecoveredOn (g.D.Disk.contents c.recover_input.new.disk) b) (c.as_slice.ensures.value ∙ sym same) (c.in-Ok-recover_input.ensures.on_disk tells)

pub returns-in-Ok-recover_input-clause-complete : goal.returns-in-Ok-recover_input-clause-complete
returns-in-Ok-recover_input-clause-complete g c = λ bytes session image front is told has short fits no_read no_write no_disk.
    let journal = c.in-Ok-recover_input.journal in
    written-completes (journal_text journal.setup journal.entries) c.write_to.result (g.K.Sink.written c.args.sink.now) (g.K.Sink.written c.write_to.new.sink) c.write_to.ensures.text
    (λ e. no_write (c.write_to.ensures.fault e))

pub returns-in-Ok-recover_input-clause-reads : goal.returns-in-Ok-recover_input-clause-reads
returns-in-Ok-recover_input-clause-reads g c = λ memory.
    let journal = c.in-Ok-recover_input.journal in
    inl (has-read longest_record (Is c.in-Ok.bytes.items) (g.S.Source.left c.args.source.now) (g.S.Source.left c.input_from.new.source) c.write_to.result c.in-Ok.ensures.read
    (written-short (journal_text journal.setup journal.entries) c.write_to.result (g.K.Sink.written c.args.sink.now) (g.K.Sink.written c.write_to.new.sink) c.write_to.ensures.text))
