use Rattle.std.proofs.Common.{ap, ◌∙◌}
use Rattle.journal_audit.specs.Reading.{with_rest, session_of_parts, session_of_divided}
use Rattle.journal_audit.proofs.Answering.{fault_before, fault_of_all}
use Rattle.journal_audit.proofs.reading.read_divided.Goals as goal

pub returns-in_default-clause-bad : goal.returns-in_default-clause-bad
returns-in_default-clause-bad c =
    fault_of_all c.args.word.now c.args.bytes.now c.refuse_undivided.result c.in_default.ensures.parts c.refuse_undivided.ensures

pub returns-in-Ok-clause-good : goal.returns-in-Ok-clause-good
unfolding session_of_divided
returns-in-Ok-clause-good c =
    ap (session_of_parts c.args.bytes.now) c.in-Some.ensures.parts ∙ ap (with_rest c.in-Some.rest.now) c.in-Ok.ensures.exact

pub returns-in-Err-clause-bad : goal.returns-in-Err-clause-bad
returns-in-Err-clause-bad c =
    fault_before c.args.word.now c.args.bytes.now (record { text = c.in-Some.text.now; rest = c.in-Some.rest.now }) c.in-Err.fault
    c.in-Some.ensures.parts c.in-Err.ensures.exact
