use Rattle.std.proofs.Common.{ap}
use Rattle.order_pool.proofs.FilledLemmas.{laid-none}
use Rattle.order_pool.proofs.region.Region.new.Goals as goal

pub invariant_of-result : goal.invariant_of-result
invariant_of-result g c =
    let made = c.in_ok-base.ensures in
    (made.0, made.2, made.3, made.4, (laid-none c.in_ok-base.cells.slots c.args.room made.1).0)

pub returns : goal.returns
returns g c = ap (λ l. record { items = l; room = c.args.room }) (laid-none c.in_ok-base.cells.slots c.args.room c.in_ok-base.ensures.1).1
