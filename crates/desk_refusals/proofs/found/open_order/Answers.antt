use Rattle.std.proofs.Common.{◌∙◌, ap}
use Rattle.contract_book.specs.Book.{order_of}
use Rattle.laws_of_books.specs.BookOf.{book_of}
use Rattle.laws_of_hours.specs.OrderEvents.{without_hand}
use Rattle.kept_hour.specs.State.{name_in}
use Rattle.desk_refusals.proofs.Books.{found-number, order-found}
use Rattle.desk_refusals.proofs.found.open_order.Goals as goal

pub returns-clause-order : goal.returns-clause-order
returns-clause-order c =
    let board = c.args.hour.now.board in
    c.get.ensures
    ∙ ap (λ b. order_of b c.args.number) (c.book.ensures ∙ ap (λ h. without_hand h (book_of board.events board.hour)) c.requires.free)
    ∙ order-found board.grid board.hour board.events c.events.ensures.board.stands c.args.number

pub returns-clause-number : goal.returns-clause-number
returns-clause-number c =
    let board = c.args.hour.now.board in
    found-number board.events (name_in c.args.hour.now c.args.number) c.get.result
    (c.get.ensures
    ∙ ap (λ b. order_of b c.args.number) (c.book.ensures ∙ ap (λ h. without_hand h (book_of board.events board.hour)) c.requires.free)
    ∙ order-found board.grid board.hour board.events c.events.ensures.board.stands c.args.number)
