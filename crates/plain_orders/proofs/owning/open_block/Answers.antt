use Rattle.std.proofs.Common.{◌∙◌, arith, sym, ◌≡◌, true, false}
use Rattle.std.proofs.lemmas.Bool.{le-ltb, lt-ltb}
use Rattle.market_model.specs.Orders.{PlacedBlock, is_open, left, blocks_placed}
use Rattle.plain_orders.proofs.Found.{find-closed, find-open}
use Rattle.plain_orders.proofs.Near.{near-block_placed}
use Rattle.plain_orders.proofs.owning.open_block.Goals as goal

pub returns-then-left-gt0 : goal.returns-then-left-gt0
returns-then-left-gt0 c =
    let is : is_open c.args.events.now c.args.name ≡ true = lt-ltb 0 (left c.args.events.now c.args.name) (omega (arith, c.if-left-gt0.true, c.left.ensures)) in
    c.placed_block.ensures ∙ near-block_placed c.args.events.now c.near.result.now c.args.name c.near.ensures ∙ sym (find-open (λ (x : PlacedBlock). x.name) c.args.events.now c.args.name (blocks_placed c.args.events.now) is)

pub returns-else-left-gt0 : goal.returns-else-left-gt0
returns-else-left-gt0 c =
    let is : is_open c.args.events.now c.args.name ≡ false = le-ltb 0 (left c.args.events.now c.args.name) (omega (arith, c.if-left-gt0.false, c.left.ensures)) in
    sym (find-closed (λ (x : PlacedBlock). x.name) c.args.events.now c.args.name (blocks_placed c.args.events.now) is)
