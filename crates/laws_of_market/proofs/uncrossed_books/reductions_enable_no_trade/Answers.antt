use Rattle.market_model.specs.declared.event.Event.TheVariants as event
use Rattle.market_model.specs.History.{and_then}
use Rattle.laws_of_market.proofs.Uncrossed.{uncrossed-reduced}
use Rattle.laws_of_market.proofs.UncrossedReplies.{book_of_hours, hour_of_book}
use Rattle.laws_of_market.proofs.uncrossed_books.reductions_enable_no_trade.Goals as goal

pub returns : goal.returns
returns c = λ graph events name by book.
    book_of_hours graph (and_then events (event.Reduced name by)) (λ hour. uncrossed-reduced graph hour events name by (hour_of_book graph events book hour))
