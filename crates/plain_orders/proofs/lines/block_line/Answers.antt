use Rattle.std.proofs.Common.{◌≡◌, ◌∙◌, ap, filter, rules}
use Rattle.std.proofs.lemmas.List.{take_all}
use Rattle.std.proofs.lemmas.Fn.{always_returns_same}
use Rattle.std.specs.Ordering.{is_lt}
use Rattle.market_model.specs.Blocks.{StandingBlock, block_priority_cmp}
use Rattle.plain_orders.specs.Listed.{is_in_block_line}
use Rattle.plain_orders.proofs.LineLaws.{block_priority_weak}
use Rattle.plain_orders.proofs.Stable.{sorted-in_order}
use Rattle.plain_orders.proofs.lines.block_line.Goals as goal
use Rattle.zone_graph.specs.InOrder.{in_order}

pub returns : goal.returns
returns c =
    let weak = block_priority_weak c.args.side in
    let all : c.loop-block.line.items ≡ filter (is_in_block_line c.args.first c.args.last c.args.side) c.args.blocks.now =
    c.loop-block.invariant ∙ ap (filter (is_in_block_line c.args.first c.args.last c.args.side)) (take_all c.loop-block.block-index c.args.blocks.now c.loop-block-test.false) in
    sorted-in_order (block_priority_cmp c.args.side) weak c.loop-block.line.items c.sort_by.new.self.items
    (c.in_ok-sort_by.ensures.sorted (λ (a b : StandingBlock). is_lt (block_priority_cmp c.args.side a b)) weak (always_returns_same _ _ _ (λ a r f k. search rules)))
    (c.sort_by.ensures.stable (λ (a b : StandingBlock). is_lt (block_priority_cmp c.args.side a b)) weak (always_returns_same _ _ _ (λ a r f k. search rules)))
    ∙ ap (in_order (block_priority_cmp c.args.side)) all
