use Rattle.std.proofs.Common.{◌∙◌, Some, None, sym}
use Rattle.desk_changes.proofs.Found.{order-told}
use Rattle.desk_changes.proofs.still_open.open_order.Goals as goal

pub returns-in_err-order : goal.returns-in_err-order
returns-in_err-order c =
    c.from_residual.ensures
    ∙ sym (order-told c.args.hour.now.board.grid c.args.hour.now.board.hour c.args.hour.now.board.events c.requires.board.stands c.args.name c.requires.hour c.args.part c.requires.entered
    c.args.hour.now.board.hand c.book.result.now c.get.result None c.requires.free c.book.ensures c.get.ensures c.in_err-order.was)

pub returns : goal.returns
returns c =
    sym (order-told c.args.hour.now.board.grid c.args.hour.now.board.hour c.args.hour.now.board.events c.requires.board.stands c.args.name c.requires.hour c.args.part c.requires.entered
    c.args.hour.now.board.hand c.book.result.now c.get.result (Some c.in_ok-order.order) c.requires.free c.book.ensures c.get.ensures c.in_ok-order.was)
