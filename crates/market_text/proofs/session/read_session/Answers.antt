use Rattle.std.proofs.Common.{◌∙◌, ap, sym, arith}
use Rattle.market_text.specs.declared.reader.Reader.{Reader}
use Rattle.market_text.specs.Text.{text_from, lines_of, line_step, session_of_text}
use Rattle.market_text.proofs.TextLemmas.{answer_at, line_taken, line_refused}
use Rattle.market_text.proofs.session.read_session.Goals as goal

pub loop-text-init : goal.loop-text-init
unfolding session_of_text
loop-text-init c =
    record {
      reading = c.new-reader.ensures.kept;
      decided = ap (λ (reader : Reader). text_from reader 1 (lines_of c.args.bytes.now)) c.new-reader.ensures.value;
      counted = omega arith;
    }

pub loop-text-preserved : goal.loop-text-preserved
loop-text-preserved c =
    let lines = ap (text_from c.loop-text.reader c.loop-text.line) c.in-Some.ensures.lines in
    let next = line_taken c.loop-text.reader c.read_line.new.reader c.loop-text.line c.in-Some.text.now c.in-Some.after.now c.in-Ok.ensures.exact.is in
    let counted = c.loop-text.invariant.counted in
    let shorter = c.in-Some.ensures.shorter in
    record { reading = c.in-Ok.ensures.kept; decided = sym next ∙ (sym lines ∙ c.loop-text.invariant.decided); counted = omega arith }

pub returns-in-Err-clause-exact : goal.returns-in-Err-clause-exact
returns-in-Err-clause-exact c =
    let lines = ap (text_from c.loop-text.reader c.loop-text.line) c.in-Some.ensures.lines in
    rw c.at.ensures
    (answer_at (session_of_text c.args.bytes.now) (line_step c.loop-text.reader c.in-Some.text.now) _ c.in-Err.fault c.loop-text.line c.in-Err.ensures.exact
    (λ none. sym c.loop-text.invariant.decided ∙ (lines ∙ line_refused c.loop-text.reader c.loop-text.line c.in-Some.text.now c.in-Some.after.now none)))
