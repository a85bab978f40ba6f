use Rattle.std.proofs.Common.{◌≡◌, IfOk, ap, subst}
use Rattle.record_run.specs.Records.{legal_line, verdict_of}
use Rattle.record_run.proofs.Recorded.{completes-stopped, records-made}
use Rattle.record_run.proofs.recording.audit_record.Goals as goal

-- the line that is written is that of the record
pub returns-in-Ok-clause-audited : goal.returns-in-Ok-clause-audited
returns-in-Ok-clause-audited g c bytes is =
    records-made verdict_of c.in-Ok.audited bytes (g.S.Source.left c.args.source.now) (g.S.Source.left c.audited_from.new.source) c.write_made.result
    (g.K.Sink.written c.args.sink.now) (g.K.Sink.written c.write_made.new.sink) c.verdict_line.result (c.write_made.new.sink ≡ c.args.sink.now)
    (λ e. ap g.K.Sink.written e) c.in-Ok.ensures.read is
    (subst (λ n. IfOk c.verdict_line.result (λ text. text ≡ legal_line n)) c.len.ensures c.verdict_line.ensures) c.write_made.ensures.text

-- a record with a complete journal is audited where nothing fails
pub returns-in-Err-clause-complete : goal.returns-in-Err-clause-complete
returns-in-Err-clause-complete g c bytes session entries is recorded short no_read_fault no_write_fault =
    completes-stopped bytes session entries c.in-Err.status (g.S.Source.left c.args.source.now) (g.S.Source.left c.audited_from.new.source)
    is recorded short c.in-Err.ensures.stops (λ e. no_read_fault (c.in-Err.ensures.fault (cc)))
