use Rattle.std.proofs.Common.{◌≡◌, ◌∙◌, ap, IfSome, None, Some, Option, subst, sym}
use Rattle.contract_book.specs.Book.{order_of}
use Rattle.laws_of_books.specs.BookOf.{book_of}
use Rattle.hour_store.specs.Contents.{IsOfPart}
use Rattle.kept_hour.specs.State.{name_in}
use Rattle.market_model.specs.Orders.{open_order}
use Rattle.desk_refusals.specs.declared.owning.Own.{Own}
use Rattle.desk_refusals.specs.Found as found
use Rattle.desk_refusals.specs.Owned.{part_of}
use Rattle.desk_refusals.proofs.Owners.{own-block, own-order, rests-in}
use Rattle.desk_refusals.proofs.owning.own_of.Goals as goal

pub returns-in-Some-clause-part : goal.returns-in-Some-clause-part
returns-in-Some-clause-part c =
    let board = c.args.hour.now.board in
    let name = name_in c.args.hour.now c.args.number in
    let order = c.in-Some.order in
    let is : found.own_order board.events c.args.caller name ≡ Some order = cc in
    let number : order.number ≡ c.args.number = subst (λ o. IfSome o (λ held. held.number ≡ c.args.number)) c.in-Some.is c.own_order.ensures.number in
    let own = own-order board.events c.args.caller name order c.part_of.result is
    (λ placed there. c.part_of.ensures placed (ap (λ n. open_order board.events (name_in c.args.hour.now n)) number ∙ there)) in
    subst (λ (told : Option Own). IfSome told (λ own. IfSome (order_of (book_of board.events board.hour) c.args.number) (λ held. IsOfPart (book_of board.events board.hour) (part_of own) held)))
    (sym own) (rests-in board.grid board.hour board.events c.events.ensures.board.stands c.args.caller c.args.number)

pub returns-in_ok-block-in-None-clause-part : goal.returns-in_ok-block-in-None-clause-part
returns-in_ok-block-in-None-clause-part c =
    let board = c.args.hour.now.board in
    let name = name_in c.args.hour.now c.args.number in
    let none : found.own_order board.events c.args.caller name ≡ None = cc in
    let is : found.own_block board.events c.args.caller name ≡ Some c.in_ok-block-in-None.block = sym c.in_ok-block-in-None.ensures in
    subst (λ (told : Option Own). IfSome told (λ own. IfSome (order_of (book_of board.events board.hour) c.args.number) (λ held. IsOfPart (book_of board.events board.hour) (part_of own) held)))
    (sym (own-block board.events c.args.caller name c.in_ok-block-in-None.block none is))
    (rests-in board.grid board.hour board.events c.events.ensures.board.stands c.args.caller c.args.number)
