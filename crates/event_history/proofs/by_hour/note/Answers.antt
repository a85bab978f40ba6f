use Rattle.std.proofs.Common.{◌<◌, arith}
use Rattle.event_history.proofs.ByHour.{on-err, taken-back}
use Rattle.event_history.proofs.by_hour.note.Goals as goal

pub returns-then-is_err-clause-err : goal.returns-then-is_err-clause-err
returns-then-is_err-clause-err c =
    let end = c.min-hour-end.ensures in
    let before : c.loop-hour.hour < c.args.hours.end = omega (arith, c.loop-hour-test.true, end) in
    on-err c.push_copy-noted.result
    (taken-back c.args.hours.first c.args.hours.end c.loop-hour.hour c.args.event.now c.args.lists.now c.loop-hour.lists c.forget.new.lists c.push_copy-noted.new.list
    c.index-lists-hour.result before c.loop-hour.invariant.size c.forget.auto.lists c.loop-hour.invariant.so_far c.forget.ensures)
    c.push_copy-noted.ensures.err
