use Rattle.std.proofs.Common.{◌≡◌, ◌∙◌, ◌++◌, take, ap, sym, arith, rules, get_or, subst, ◌+◌}
use Rattle.std.proofs.KnownBytes.{Appends-trans}
use Rattle.std.specs.Io.KnownBytes.{Appends}
use Rattle.journal_print.specs.Line.{entry_line}
use Rattle.session_io.specs.JournalText.{journal_text}
use Rattle.session_io.proofs.JournalTexts.{on-err, text-more, wrote-lines, wrote-part}
use Rattle.session_io.proofs.writing.write_journal.Goals as goal

pub returns-in_err-line-clause-front : goal.returns-in_err-line-clause-front
returns-in_err-line-clause-front g c =
    on-err c.from_residual.result
    (wrote-lines c.args.setup.now c.args.entries.now c.loop-index.index (g.K.Sink.written c.args.sink.now) (g.K.Sink.written c.loop-index.sink) c.loop-index.invariant.written)

pub returns-in_err-write_line-clause-front : goal.returns-in_err-write_line-clause-front
returns-in_err-write_line-clause-front g c =
    on-err c.from_residual-in_err-write_line.result
    (wrote-part c.args.setup.now c.args.entries.now c.loop-index.index c.index-entries-index.result (g.K.Sink.written c.args.sink.now) (g.K.Sink.written c.loop-index.sink)
    (g.K.Sink.written c.write_line.new.sink) c.loop-index-test.true c.loop-index.invariant.written c.bytes.result.now
    (search rules) c.in_err-write_line.ensures.front.0 c.in_err-write_line.ensures.front.1)

pub loop-index-preserved : goal.loop-index-preserved
loop-index-preserved g c = record {
  written =
      let line : c.bytes.result.now ≡ entry_line c.args.setup.now (c.loop-index.index + 1) (get_or c.args.entries.now c.loop-index.index c.index-entries-index.result) = search rules in
      subst (Appends (g.K.Sink.written c.args.sink.now) (g.K.Sink.written c.write_line.new.sink))
      (ap (λ bytes. journal_text c.args.setup.now (take c.loop-index.index c.args.entries.now) ++ bytes) line
      ∙ sym (text-more c.args.setup.now c.args.entries.now c.loop-index.index c.index-entries-index.result c.loop-index-test.true))
      (Appends-trans (g.K.Sink.written c.args.sink.now) (g.K.Sink.written c.loop-index.sink) (g.K.Sink.written c.write_line.new.sink)
      (journal_text c.args.setup.now (take c.loop-index.index c.args.entries.now)) c.bytes.result.now c.loop-index.invariant.written c.in_ok-write_line.ensures.ok);
  count = omega (arith, c.loop-index.invariant.count, c.write_line.ensures.count);
}
