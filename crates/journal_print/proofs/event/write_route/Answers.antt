use Rattle.std.proofs.Common.{arith}
use Rattle.journal_print.specs.Json.{quote}
use Rattle.journal_print.specs.Line as printed
use Rattle.journal_print.proofs.Joined.{joined-more, row-printed}
use Rattle.journal_print.proofs.event.write_route.Goals as goal

pub loop-place-preserved : goal.loop-place-preserved
loop-place-preserved c =
    joined-more (λ arc. quote (printed.arc_text c.args.setup.now arc)) c.args.route.now c.loop-place.place _ _ _ _ _
    c.loop-place-test.true c.loop-place.invariant c.in_ok-write_comma.ensures c.in_ok-write_arc.ensures

pub returns : goal.returns
returns c =
    row-printed (λ arc. quote (printed.arc_text c.args.setup.now arc)) c.args.route.now c.loop-place.place _ _ _ _ (omega arith) c.in_ok-push.ensures.items c.loop-place.invariant c.in_ok-push-2.ensures.items
