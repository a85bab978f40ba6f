use Rattle.plain_orders.proofs.LineLaws.{line-of_orders}
use Rattle.plain_orders.proofs.lines.lines_are_of_orders.Goals as goal

pub returns : goal.returns
returns c = line-of_orders
