use Rattle.std.proofs.Common.{◌++◌}
use Rattle.market_model.specs.Grid.{graph_of}
use Rattle.market_model.specs.History.{events_of}
use Rattle.market_model.specs.Market.{reply_to}
use Rattle.laws_of_market.proofs.Commands.{reply-uncrossed}
use Rattle.laws_of_market.proofs.UncrossedReplies.{book_of_hours, hour_of_book}
use Rattle.laws_of_market.proofs.uncrossed_books.replies_keep_books_uncrossed.Goals as goal

pub returns : goal.returns
returns c = λ setup events caller given is_setup history book.
    book_of_hours (graph_of setup) (events ++ events_of (reply_to setup events caller given))
    (λ hour. reply-uncrossed setup is_setup events caller given history hour (hour_of_book (graph_of setup) events book hour))
