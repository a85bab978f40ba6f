use Rattle.record_run.proofs.Recorded.{completes-stopped}
use Rattle.record_run.proofs.recording.ship_record.Goals as goal

-- a record with a complete journal is shipped where nothing fails
pub returns-in-Err-clause-complete : goal.returns-in-Err-clause-complete
returns-in-Err-clause-complete g c bytes session entries is recorded short no_read_fault no_write_fault =
    completes-stopped bytes session entries c.in-Err.status (g.S.Source.left c.args.source.now) (g.S.Source.left c.audited_from.new.source)
    is recorded short c.in-Err.ensures.stops (λ e. no_read_fault (c.in-Err.ensures.fault (cc)))
