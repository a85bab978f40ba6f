use Rattle.journal_audit.specs.Journal.{IsTradedJournalOf}
use Rattle.session_run.proofs.Completion.{plays}
use Rattle.session_run.proofs.running.run.Goals as goal

-- a session that is not too long is traded where nothing fails
pub returns-then-is_trade-clause-complete_traded : goal.returns-then-is_trade-clause-complete_traded
returns-then-is_trade-clause-complete_traded g c trades bytes session is read short no_read_fault no_write_fault =
    plays (IsTradedJournalOf bytes) bytes session c.trade.result (g.S.Source.left c.args.source.now) (g.S.Source.left c.trade.new.source)
    (g.K.Sink.written c.args.sink.now) (g.K.Sink.written c.trade.new.sink) is read short (c.trade.ensures.traded bytes is) c.trade.ensures.reads
    c.trade.ensures.usage (λ e. no_read_fault (c.trade.ensures.read_fault e)) (λ e. no_write_fault (c.trade.ensures.write_fault e))
