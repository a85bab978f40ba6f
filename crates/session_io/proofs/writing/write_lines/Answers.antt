use Rattle.std.proofs.Common.{◌≡◌, ◌++◌, arith, sym, take-append-drop}
use Rattle.session_io.proofs.JournalTexts.{on-err}
use Rattle.session_io.proofs.WritingLemmas.{Wrote-line, Wrote-part}
use Rattle.session_io.proofs.writing.write_lines.Goals as goal

-- a front of the line was written
pub returns-in_err-write_line-clause-front : goal.returns-in_err-write_line-clause-front
returns-in_err-write_line-clause-front g c =
    let parts : c.loop-rest.rest.now ≡ c.split_at.result.0.now ++ c.split_at.result.1.now =
    rw (c.split_at.ensures.front, c.split_at.ensures.back) (sym (take-append-drop c.line_length.result c.loop-rest.rest.now)) in
    let part = c.in_err-write_line.ensures.front in
    on-err c.from_residual.result (
      part.0 ++ c.split_at.result.1.now,
      Wrote-part (g.K.Sink.written c.args.sink.now) (g.K.Sink.written c.loop-rest.sink) (g.K.Sink.written c.write_line.new.sink) c.args.text.now c.loop-rest.rest.now
          c.split_at.result.0.now c.split_at.result.1.now part.0 c.loop-rest.invariant.wrote parts part.1,
    )

-- the line was written
pub loop-rest-preserved : goal.loop-rest-preserved
loop-rest-preserved g c =
    let parts : c.loop-rest.rest.now ≡ c.split_at.result.0.now ++ c.split_at.result.1.now =
    rw (c.split_at.ensures.front, c.split_at.ensures.back) (sym (take-append-drop c.line_length.result c.loop-rest.rest.now)) in
    record {
      wrote = Wrote-line (g.K.Sink.written c.args.sink.now) (g.K.Sink.written c.loop-rest.sink) (g.K.Sink.written c.write_line.new.sink) c.args.text.now c.loop-rest.rest.now
          c.split_at.result.0.now c.split_at.result.1.now c.loop-rest.invariant.wrote parts c.in_ok-write_line.ensures.ok;
      count = omega (arith, c.loop-rest.invariant.count, c.write_line.ensures.count);
    }
