use Rattle.std.proofs.Common.{◌∙◌, arith, sym, ◌≡◌, true, false}
use Rattle.std.proofs.lemmas.Bool.{le-ltb, lt-ltb}
use Rattle.market_model.specs.Orders.{Placed, is_open, left, placed}
use Rattle.plain_orders.proofs.Found.{find-closed, find-open}
use Rattle.plain_orders.proofs.Near.{near-placed}
use Rattle.plain_orders.proofs.owning.open_order.Goals as goal

pub returns-then-left-gt0 : goal.returns-then-left-gt0
returns-then-left-gt0 c =
    let is : is_open c.args.events.now c.args.name ≡ true = lt-ltb 0 (left c.args.events.now c.args.name) (omega (arith, c.if-left-gt0.true, c.left.ensures)) in
    c.placed_order.ensures ∙ near-placed c.args.events.now c.near.result.now c.args.name c.near.ensures ∙ sym (find-open (λ (x : Placed). x.name) c.args.events.now c.args.name (placed c.args.events.now) is)

pub returns-else-left-gt0 : goal.returns-else-left-gt0
returns-else-left-gt0 c =
    let is : is_open c.args.events.now c.args.name ≡ false = le-ltb 0 (left c.args.events.now c.args.name) (omega (arith, c.if-left-gt0.false, c.left.ensures)) in
    sym (find-closed (λ (x : Placed). x.name) c.args.events.now c.args.name (placed c.args.events.now) is)
