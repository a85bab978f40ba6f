-- The lines that the orders and blocks of an hour make.
use Rattle.std.proofs.Common.{◌≡◌, ◌∙◌, ℕ, ◌&&◌, true, List, filter, map, nat_eq, eqb-true, eq-eqb, ap}
use Rattle.std.specs.Cmp.{IsStrictWeakOrder, IsTotalOrder}
use Rattle.std.specs.Ordering.{is_lt}
use Rattle.std.proofs.lemmas.Cmp.{nat_cmp_total, on_total, then_total}
use Rattle.std.proofs.lemmas.List.Sorted.{ranks_by}
use Rattle.std.proofs.lemmas.Bool.{and_parts}
use Rattle.order_kinds.specs.declared.contract.Contract.{Contract}
use Rattle.order_kinds.specs.declared.side.Side.{Side}
use Rattle.order_kinds.specs.Same.{same_contract, same_side}
use Rattle.order_kinds.proofs.PriceOrder.{price_cmp_total}
use Rattle.zone_graph.specs.Route.{IsIn}
use Rattle.market_model.specs.declared.event.Event.{Event}
use Rattle.market_model.specs.Blocks.{StandingBlock, block_line, block_priority_cmp, block_stands_in, is_of_period, standing_block}
use Rattle.market_model.specs.Lines.{line, priority_cmp, stands_in}
use Rattle.market_model.specs.Orders.{Placed, PlacedBlock, blocks_placed, is_open, placed, standing}
use Rattle.laws_of_market.proofs.Placed.{all_are_sound}
use Rattle.laws_of_market.proofs.Tests.{same_contract-eq}
use Rattle.laws_of_market.proofs.Restrict.{filter-filter, filter-map}
use Rattle.plain_orders.specs.Histories.{IsSomeHistory}
use Rattle.plain_orders.specs.Listed.{block_line_of, blocks_of, is_block_of, is_in_block_line, is_in_line, is_order_of, line_of, open_orders, stands_open}
use Rattle.zone_graph.specs.InOrder.{in_order}

-- priority of blocks is an order in which any two compare
block_priority_total : (side : Side) → IsTotalOrder (block_priority_cmp side)
block_priority_total side =
    then_total (on_total (λ (s : StandingBlock). s.order.price) (price_cmp_total side))
    (then_total (on_total (λ (s : StandingBlock). s.moment) nat_cmp_total) (on_total (λ (s : StandingBlock). s.name.number) nat_cmp_total))

pub block_priority_weak : (side : Side) → IsStrictWeakOrder (λ (a b : StandingBlock). is_lt (block_priority_cmp side a b))
block_priority_weak side = ranks_by (block_priority_total side) (λ (s : StandingBlock). s)

pub line-of_orders : (events : List Event) (contract : Contract) (side : Side) → IsSomeHistory events
    → line_of (open_orders events contract.hour) contract side ≡ line events contract side
unfolding line
line-of_orders events contract side history =
    ap (in_order (priority_cmp side)) (
    filter-map (is_in_line contract side) (standing events) (filter (stands_open events) (filter (is_order_of contract.hour) (placed events)))
    ∙ ap (map (standing events))
    (filter-filter (stands_in events contract side) (stands_open events) (filter (is_order_of contract.hour) (placed events)) opened
    ∙ filter-filter (stands_in events contract side) (is_order_of contract.hour) (placed events) in_hour)
    )
  where
    opened : (order : Placed) → IsIn order (filter (is_order_of contract.hour) (placed events)) → stands_in events contract side order ≡ true
        → stands_open events order ≡ true
    opened order i stands =
        let both = and_parts (is_open events order.name && same_contract order.order.contract contract) (same_side order.order.side side) stands in
        (and_parts (is_open events order.name) (same_contract order.order.contract contract) both.0).0

    in_hour : (order : Placed) → IsIn order (placed events) → stands_in events contract side order ≡ true → is_order_of contract.hour order ≡ true
    in_hour order i stands =
        let both = and_parts (is_open events order.name && same_contract order.order.contract contract) (same_side order.order.side side) stands in
        let front = and_parts (is_open events order.name) (same_contract order.order.contract contract) both.0 in
        let same = same_contract-eq order.order.contract contract front.1 in
        let sound = (all_are_sound history.setup events history.fit).orders order i in
        eq-eqb order.name.hour contract.hour (sound.named ∙ ap (λ (c : Contract). c.hour) same)

pub line-of_blocks : (events : List Event) (first last : ℕ) (side : Side) → IsSomeHistory events
    → block_line_of (blocks_of events first) first last side ≡ block_line events first last side
unfolding block_line
line-of_blocks events first last side history =
    ap (in_order (block_priority_cmp side)) (
    filter-map (is_in_block_line first last side) (standing_block events) (filter (is_block_of first) (blocks_placed events))
    ∙ ap (map (standing_block events)) (filter-filter (block_stands_in events first last side) (is_block_of first) (blocks_placed events) in_hour)
    )
  where
    in_hour : (block : PlacedBlock) → IsIn block (blocks_placed events) → block_stands_in events first last side block ≡ true → is_block_of first block ≡ true
    in_hour block i stands =
        let both = and_parts (is_open events block.name && is_of_period first last block.order) (same_side block.order.side side) stands in
        let front = and_parts (is_open events block.name) (is_of_period first last block.order) both.0 in
        let period = and_parts (nat_eq block.order.first first) (nat_eq block.order.last last) front.1 in
        let sound = (all_are_sound history.setup events history.fit).blocks block i in
        eq-eqb block.name.hour first (sound.named ∙ eqb-true block.order.first first period.0)
