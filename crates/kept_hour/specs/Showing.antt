-- What an hour shows of a record of its book.
use Rattle.market_model.specs.declared.board.Shown.{Shown}
use Rattle.contract_book.specs.declared.resting.Resting.{Resting}

-- what a board shows of a record
abbrev pub shown_record : Resting → Shown
shown_record order = record {
  number = order.number;
  zone = order.zone;
  side = order.side;
  price = order.price;
  lots = order.shown;
  moment = order.moment;
}
