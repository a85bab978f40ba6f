use Rattle.std.proofs.Common.{◌≡◌, ◌∙◌, ap, filter, rules}
use Rattle.std.proofs.lemmas.List.{take_all}
use Rattle.std.proofs.lemmas.Fn.{always_returns_same}
use Rattle.std.specs.Ordering.{is_lt}
use Rattle.market_model.specs.Lines.{priority_cmp}
use Rattle.market_model.specs.Orders.{Standing}
use Rattle.plain_orders.specs.Listed.{is_in_line}
use Rattle.laws_of_market.proofs.Lines.{priority_weak}
use Rattle.plain_orders.proofs.Stable.{sorted-in_order}
use Rattle.plain_orders.proofs.lines.line.Goals as goal
use Rattle.zone_graph.specs.InOrder.{in_order}

pub returns : goal.returns
returns c =
    let weak = priority_weak c.args.side in
    let all : c.loop-order.line.items ≡ filter (is_in_line c.args.contract c.args.side) c.args.orders.now =
    c.loop-order.invariant ∙ ap (filter (is_in_line c.args.contract c.args.side)) (take_all c.loop-order.order-index c.args.orders.now c.loop-order-test.false) in
    sorted-in_order (priority_cmp c.args.side) weak c.loop-order.line.items c.sort_by.new.self.items
    (c.in_ok-sort_by.ensures.sorted (λ (a b : Standing). is_lt (priority_cmp c.args.side a b)) weak (always_returns_same _ _ _ (λ a r f k. search rules)))
    (c.sort_by.ensures.stable (λ (a b : Standing). is_lt (priority_cmp c.args.side a b)) weak (always_returns_same _ _ _ (λ a r f k. search rules)))
    ∙ ap (in_order (priority_cmp c.args.side)) all
