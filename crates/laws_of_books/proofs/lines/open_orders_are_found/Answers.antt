use Rattle.laws_of_books.proofs.FoundOrders.{order-found}
use Rattle.laws_of_books.proofs.lines.open_orders_are_found.Goals as goal

pub returns : goal.returns
returns c = λ setup events name fit. order-found setup events fit name
