use Rattle.std.proofs.Common.{◌∙◌, ap}
use Rattle.contract_book.specs.Book.{order_of}
use Rattle.hour_store.proofs.UndoneBooks.{absent-without}
use Rattle.hour_store.proofs.orders.put_back.Goals as goal

pub rest-requires-clause-absent : goal.rest-requires-clause-absent
rest-requires-clause-absent c = ap (λ b. order_of b c.args.was.number) c.withdraw.ensures.without ∙ absent-without c.args.book.now c.args.was.number
