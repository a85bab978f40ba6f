use Rattle.std.proofs.Common.{◌≡◌, get_or, below_more, arith}
use Rattle.std.proofs.lemmas.Nat.{le_or_l, le_or_r}
use Rattle.local_view.proofs.ways.has_lots.Goals as goal

pub loop-lots-preserved : goal.loop-lots-preserved
loop-lots-preserved c = λ none.
    let lots = get_or c.args.load.now c.loop-lots.lots-index 0 in
    let before : c.loop-lots.bits ≡ 0 = let less = le_or_l c.loop-lots.bits lots in omega (arith, less, none) in
    let here : lots ≡ 0 = let less = le_or_r c.loop-lots.bits lots in omega (arith, less, none) in
    below_more (λ zone. get_or c.args.load.now zone 0 ≡ 0) c.loop-lots.lots-index (c.loop-lots.invariant before) here
