use Rattle.std.proofs.Common.{◌++◌, ◌∙◌, ap, arith}
use Rattle.journal_print.specs.Json.{quote}
use Rattle.journal_print.specs.Line as printed
use Rattle.journal_print.proofs.Joined.{joined-more, row-printed}
use Rattle.journal_print.proofs.refusal.write_zones.Goals as goal

pub loop-place-preserved : goal.loop-place-preserved
loop-place-preserved c =
    joined-more (λ zone. quote (printed.zone_name c.args.setup.now zone)) c.args.zones.now c.loop-place.place _ _ _ _ _
    c.loop-place-test.true c.loop-place.invariant c.in_ok-write_comma.ensures (c.in_ok-write_word.ensures ∙ ap (λ name. c.write_comma.new.out.items ++ quote name) c.zone_name.ensures)

pub returns : goal.returns
returns c =
    row-printed (λ zone. quote (printed.zone_name c.args.setup.now zone)) c.args.zones.now c.loop-place.place _ _ _ _ (omega arith) c.in_ok-push.ensures.items c.loop-place.invariant c.in_ok-push-2.ensures.items
