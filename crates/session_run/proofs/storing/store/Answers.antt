-- What is answered of a session that is read and stored, or is not.
use Rattle.std.proofs.Common.{◌<◌, ◌∙◌, inl, length, arith, subst}
use Rattle.disk_model.proofs.Moments.{leaves_more, started}
use Rattle.durable_journal.specs.Appending.{most_stored}
use Rattle.durable_journal.specs.Resting.{IsImageOf}
use Rattle.durable_journal.specs.Stored.{image_of}
use Rattle.market_text.specs.declared.session.Session.{Session}
use Rattle.session_io.specs.Reading.{longest_session}
use Rattle.session_io.proofs.Answering.{has-read}
use Rattle.stored_journal.specs.Lines.{StoresFront, TellsContents}
use Rattle.session_run.specs.Reading.{IsTextOf}
use Rattle.session_run.specs.Storing.{StoresPartOf, lines_of_session}
use Rattle.session_run.proofs.Stored.{nothing-yet, part-of, same-session, session-is, stored-answers, told-empty, unread-answers, unread-completes, unread-not-done, unstored-answers, unstored-completes, unstored-not-done, unstored-reads, written-completes, written-short}
use Rattle.session_run.proofs.storing.store.Goals as goal

-- ---- no session was read

pub returns-in-Err-clause-stored : goal.returns-in-Err-clause-stored
returns-in-Err-clause-stored g c = λ bytes is.
    unread-answers (g.S.Source.left c.args.source.now) (g.S.Source.left c.session_from.new.source) c.in-Err.status c.in-Err.ensures.stops
    (TellsContents (g.D.Disk.contents c.args.disk.now)) bytes (g.K.Sink.written c.args.sink.now) is

pub returns-in-Err-clause-on_disk : goal.returns-in-Err-clause-on_disk
returns-in-Err-clause-on_disk g c = λ bytes session is tells read done.
    absurd (unread-not-done (g.S.Source.left c.args.source.now) (g.S.Source.left c.session_from.new.source) c.in-Err.status c.in-Err.ensures.stops done)

pub returns-in-Err-clause-any_moment : goal.returns-in-Err-clause-any_moment
returns-in-Err-clause-any_moment g c = λ bytes is tells.
    started g.D.Disk.moment g.D.Disk.left_since c.args.disk.now (StoresPartOf bytes)
    (λ image left. nothing-yet bytes (g.D.Disk.contents c.args.disk.now) (told-empty (g.D.Disk.contents c.args.disk.now) c.requires.empty tells) image
    (g.met.D.Disk.only_now c.args.disk.now image left))

pub returns-in-Err-clause-complete : goal.returns-in-Err-clause-complete
returns-in-Err-clause-complete g c = λ bytes session is tells read short fits no_read no_write no_disk.
    unread-completes (g.S.Source.left c.args.source.now) (g.S.Source.left c.session_from.new.source) c.in-Err.status c.in-Err.ensures.stops bytes session is read short
    (λ e. no_read (c.in-Err.ensures.fault (cc)))

pub returns-in-Err-clause-reads : goal.returns-in-Err-clause-reads
returns-in-Err-clause-reads g c = λ memory. inl (c.in-Err.ensures.stops.reads memory)

-- ---- a session was read and stored

pub returns-in-Ok-store_session-clause-stored : goal.returns-in-Ok-store_session-clause-stored
returns-in-Ok-store_session-clause-stored g c = λ bytes is.
    stored-answers (TellsContents (g.D.Disk.contents c.args.disk.now)) bytes c.as_slice.result.now c.write_text.result
    (g.K.Sink.written c.args.sink.now) (g.K.Sink.written c.write_text.new.sink)
    (λ tells. record {
      session = c.in-Ok.session;
      read = session-is c.in-Ok.session (g.S.Source.left c.args.source.now) (g.S.Source.left c.session_from.new.source) bytes c.in-Ok.ensures.read is;
      lines = c.as_slice.ensures.value ∙ c.in-Ok-store_session.ensures.image tells;
      fits = c.in-Ok-store_session.ensures.fits tells;
    }) c.write_text.ensures.text

pub returns-in-Ok-store_session-clause-on_disk : goal.returns-in-Ok-store_session-clause-on_disk
returns-in-Ok-store_session-clause-on_disk g c = λ bytes other is tells read done.
    subst (λ (s : Session). IsImageOf (g.D.Disk.contents c.store_session.new.disk) (lines_of_session s))
    (same-session bytes c.in-Ok.session other
    (session-is c.in-Ok.session (g.S.Source.left c.args.source.now) (g.S.Source.left c.session_from.new.source) bytes c.in-Ok.ensures.read is) read)
    (c.in-Ok-store_session.ensures.on_disk tells)

pub returns-in-Ok-store_session-clause-any_moment : goal.returns-in-Ok-store_session-clause-any_moment
returns-in-Ok-store_session-clause-any_moment g c = λ bytes is tells.
    leaves_more g.D.Disk.moment g.D.Disk.left_since c.args.disk.now c.store_session.new.disk (StoresFront (lines_of_session c.in-Ok.session)) (StoresPartOf bytes)
    (λ image stores. part-of bytes c.in-Ok.session image
    (session-is c.in-Ok.session (g.S.Source.left c.args.source.now) (g.S.Source.left c.session_from.new.source) bytes c.in-Ok.ensures.read is) stores)
    (c.store_session.ensures.any_moment tells)

pub returns-in-Ok-store_session-clause-complete : goal.returns-in-Ok-store_session-clause-complete
returns-in-Ok-store_session-clause-complete g c = λ bytes session is tells read short fits no_read no_write no_disk.
    written-completes c.as_slice.result.now c.write_text.result (g.K.Sink.written c.args.sink.now) (g.K.Sink.written c.write_text.new.sink) c.write_text.ensures.text
    (λ e. no_write (c.write_text.ensures.fault e))

pub returns-in-Ok-store_session-clause-reads : goal.returns-in-Ok-store_session-clause-reads
returns-in-Ok-store_session-clause-reads g c = λ memory.
    inl (has-read longest_session (IsTextOf c.in-Ok.session) (g.S.Source.left c.args.source.now) (g.S.Source.left c.session_from.new.source) c.write_text.result c.in-Ok.ensures.read
    (written-short c.as_slice.result.now c.write_text.result (g.K.Sink.written c.args.sink.now) (g.K.Sink.written c.write_text.new.sink) c.write_text.ensures.text))

-- ---- a session was read, but not stored

pub returns-in-Err-store_session-clause-stored : goal.returns-in-Err-store_session-clause-stored
returns-in-Err-store_session-clause-stored g c = λ bytes is.
    unstored-answers (TellsContents (g.D.Disk.contents c.args.disk.now)) bytes c.in-Err-store_session.status (g.K.Sink.written c.args.sink.now)
    c.in-Err-store_session.ensures.ends (λ place e. c.in-Err-store_session.ensures.bad_image place (cc))

pub returns-in-Err-store_session-clause-on_disk : goal.returns-in-Err-store_session-clause-on_disk
returns-in-Err-store_session-clause-on_disk g c = λ bytes other is tells read done.
    absurd (unstored-not-done c.in-Err-store_session.status c.in-Err-store_session.ensures.ends done)

pub returns-in-Err-store_session-clause-any_moment : goal.returns-in-Err-store_session-clause-any_moment
returns-in-Err-store_session-clause-any_moment g c = λ bytes is tells.
    leaves_more g.D.Disk.moment g.D.Disk.left_since c.args.disk.now c.store_session.new.disk (StoresFront (lines_of_session c.in-Ok.session)) (StoresPartOf bytes)
    (λ image stores. part-of bytes c.in-Ok.session image
    (session-is c.in-Ok.session (g.S.Source.left c.args.source.now) (g.S.Source.left c.session_from.new.source) bytes c.in-Ok.ensures.read is) stores)
    (c.store_session.ensures.any_moment tells)

pub returns-in-Err-store_session-clause-complete : goal.returns-in-Err-store_session-clause-complete
returns-in-Err-store_session-clause-complete g c = λ bytes other is tells read short fits no_read no_write no_disk.
    let same = same-session bytes c.in-Ok.session other
    (session-is c.in-Ok.session (g.S.Source.left c.args.source.now) (g.S.Source.left c.session_from.new.source) bytes c.in-Ok.ensures.read is) read in
    unstored-completes c.in-Err-store_session.status c.in-Err-store_session.ensures.ends
    (λ e. no_disk (c.in-Err-store_session.ensures.fault (cc)))
    (λ e.
    let large : most_stored < length (image_of (lines_of_session other)) =
    subst (λ (s : Session). most_stored < length (image_of (lines_of_session s))) same (c.in-Err-store_session.ensures.too_long tells (cc)) in
    omega (arith, large, fits))
    (λ place e. c.in-Err-store_session.ensures.bad_image place (cc) tells)

pub returns-in-Err-store_session-clause-reads : goal.returns-in-Err-store_session-clause-reads
returns-in-Err-store_session-clause-reads g c = λ memory.
    unstored-reads (TellsContents (g.D.Disk.contents c.args.disk.now)) c.in-Ok.session c.in-Err-store_session.status
    (g.S.Source.left c.args.source.now) (g.S.Source.left c.session_from.new.source) c.in-Err-store_session.ensures.ends c.in-Ok.ensures.read
    (λ tells e. c.in-Err-store_session.ensures.too_long tells (cc))
