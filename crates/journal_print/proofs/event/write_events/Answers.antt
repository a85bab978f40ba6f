use Rattle.std.proofs.Common.{rules, arith}
use Rattle.journal_print.specs.Json.{row}
use Rattle.journal_print.specs.Line as printed
use Rattle.journal_print.proofs.Joined.{joined-more, row-printed}
use Rattle.journal_print.proofs.event.write_events.Goals as goal

pub loop-place-preserved : goal.loop-place-preserved
loop-place-preserved c =
    joined-more (λ happened. row (printed.event_parts c.args.setup.now happened)) c.args.events.now c.loop-place.place c.index-events-place.result _ _ _ _
    c.loop-place-test.true c.loop-place.invariant c.in_ok-write_comma.ensures (search rules)

pub returns : goal.returns
returns c =
    row-printed (λ happened. row (printed.event_parts c.args.setup.now happened)) c.args.events.now c.loop-place.place _ _ _ _ (omega arith) c.in_ok-push.ensures.items c.loop-place.invariant c.in_ok-push-2.ensures.items
