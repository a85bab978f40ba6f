use Rattle.std.proofs.Common.{◌∙◌, ap}
use Rattle.plain_orders.specs.Tallies.{left_at}
use Rattle.plain_orders.proofs.Taken.{left-told}
use Rattle.plain_orders.proofs.sums.left_over.Goals as goal

pub returns-clause-left : goal.returns-clause-left
returns-clause-left c =
    let sums = c.in_ok-summed.ensures.sums in
    c.left_in-lots.ensures ∙ ap (λ tallies. left_at tallies c.args.name.number) c.as_slice.ensures.value
    ∙ left-told c.args.events.now c.args.name c.in_ok-summed.summed.tallies.items c.requires.history sums.size sums.tell
