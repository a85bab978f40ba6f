use Rattle.std.proofs.Common.{◌≡◌, ◌∙◌, ◌+◌, Bool, Option, Some, ap, if◌then◌else◌, sym, take}
use Rattle.std.specs.List.{find}
use Rattle.order_kinds.specs.Side.{opposite}
use Rattle.market_model.specs.Orders.{Standing}
use Rattle.plain_orders.specs.Listed.{is_first}
use Rattle.plain_orders.proofs.First.{first-next}
use Rattle.plain_matching.specs.Over.{is_in_reach, other_line}
use Rattle.plain_matching.proofs.partner.first_among.Goals as goal
use Rattle.plain_matching.proofs.partner.first_among.Goals.{then-is_first, else-is_first}

pub loop-other-preserved : goal.loop-other-preserved
loop-other-preserved c =
    let choice : Bool → Option Standing = λ b. if b then Some c.other-item.result else c.loop-other.first in
    let next : find (is_in_reach c.args.distances.now c.args.own.now) (other_line (take (c.loop-other.other-index + 1) c.args.orders.now) c.args.own.now) ≡ choice c.is_first.result =
    first-next (is_in_reach c.args.distances.now c.args.own.now) c.args.own.now.order.contract (opposite c.args.own.now.order.side) c.args.orders.now c.loop-other.other-index
    c.other-item.result c.loop-other-test.true c.other-item.is
    ∙ ap (λ first. if is_first (is_in_reach c.args.distances.now c.args.own.now) c.args.own.now.order.contract (opposite c.args.own.now.order.side) c.other-item.result first
    then Some c.other-item.result else first) (sym c.loop-other.invariant)
    ∙ ap choice (sym c.is_first.ensures) in
    elim c.if-is_first.branch [
      | then-is_first w ↦ w.first-is ∙ sym (next ∙ ap choice w.if-is_first.true)
      | else-is_first w ↦ w.first-is ∙ sym (next ∙ ap choice w.if-is_first.false)
    ]
