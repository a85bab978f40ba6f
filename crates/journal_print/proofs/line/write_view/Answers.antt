use Rattle.std.proofs.Common.{arith, [], ◌∷◌}
use Rattle.order_kinds.specs.Price.{price_text}
use Rattle.journal_print.specs.Json.{quote, row}
use Rattle.journal_print.specs.Line as printed
use Rattle.journal_print.proofs.Joined.{joined-more, row-printed}
use Rattle.journal_print.proofs.line.write_view.Goals as goal

pub loop-place-preserved : goal.loop-place-preserved
loop-place-preserved c =
    joined-more (λ offer. row (quote (price_text offer.price) ∷ quote (printed.quantity_text offer.lots) ∷ [])) c.args.rows.now c.loop-place.place _ _ _ _ _
    c.loop-place-test.true c.loop-place.invariant c.in_ok-write_comma.ensures c.in_ok-write_offer.ensures

pub returns : goal.returns
returns c =
    row-printed (λ offer. row (quote (price_text offer.price) ∷ quote (printed.quantity_text offer.lots) ∷ [])) c.args.rows.now c.loop-place.place _ _ _ _ (omega arith) c.in_ok-push.ensures.items c.loop-place.invariant c.in_ok-push-2.ensures.items
