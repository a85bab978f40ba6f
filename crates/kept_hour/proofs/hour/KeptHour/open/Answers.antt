use Rattle.std.proofs.Common.{◌∙◌, length, ap, arith}
use Rattle.contract_book.specs.Book.{order_count}
use Rattle.market_model.specs.Board.{resting_names}
use Rattle.kept_hour.specs.State.{HourState}
use Rattle.kept_hour.proofs.Counting.{open-count}
use Rattle.kept_hour.proofs.Keeping.{own}
use Rattle.kept_hour.proofs.hour.KeptHour.open.Goals as goal

pub returns : goal.returns
returns c =
    let count = open-count (own c.self.inside.grid.value c.self.inside.hour c.self.inside.events c.self.inside.settled c.self.inside.hand)
    c.self.inside.numbers c.self.inside.settled_numbers c.self.inside.store c.self.invariant.keeps in
    let orders = c.len-orders.ensures.count ∙ ap order_count c.book.ensures.book in
    let blocks = c.len-blocks.ensures.count ∙ ap length c.blocks-2.ensures.blocks in
    let seen = ap (λ (h : HourState). length (resting_names h.board)) c.self.view_is in
    omega (arith, count, orders, blocks, seen)
