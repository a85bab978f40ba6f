use Rattle.std.proofs.Common.{arith}
use Rattle.plain_orders.proofs.naming.next_name.Goals as goal

pub overflow_cast-result : goal.overflow_cast-result
overflow_cast-result c = omega (arith, c.entered_in.ensures, c.requires)

pub overflow_add-result : goal.overflow_add-result
overflow_add-result c = omega (arith, c.entered_in.ensures, c.requires)
