use Rattle.market_model.specs.declared.event.Event.TheVariants as event
use Rattle.market_model.specs.History.{and_then}
use Rattle.laws_of_market.proofs.Uncrossed.{uncrossed-withdrawn}
use Rattle.laws_of_market.proofs.UncrossedReplies.{book_of_hours, hour_of_book}
use Rattle.laws_of_market.proofs.uncrossed_books.withdrawals_enable_no_trade.Goals as goal

pub returns : goal.returns
returns c = λ graph events name lots book.
    book_of_hours graph (and_then events (event.Withdrawn name lots)) (λ hour. uncrossed-withdrawn graph hour events name lots (hour_of_book graph events book hour))
