use Rattle.std.proofs.Common.{◌≡◌, get_or, refl, rules}
use Rattle.durable_journal.proofs.Counting.{line_read}
use Rattle.durable_journal.proofs.opening.read_lines.Goals as goal

pub loop-rest-preserved : goal.loop-rest-preserved
loop-rest-preserved c =
    let open_gate : get_or c.loop-rest.rest.now 0 0 ≡ 1 = search rules in
    let read = line_read c.args.image.now c.loop-rest.rest.now _ c.in-Some.line.now c.in-Some.behind.now c.in_ok-new.field-0 c.loop-rest.lines c.push.new.self
    c.loop-rest.invariant.each c.loop-rest.invariant.whole c.loop-rest.invariant.some open_gate refl c.in-Some.ensures.whole c.in-Some.ensures.line c.in_ok-new.ensures c.in_ok-push.ensures.ok in
    record { each = read.0; whole = read.1; some = c.in-Some.ensures.more }
