use Rattle.kept_hour.proofs.Beginning.{new-kept}
use Rattle.kept_hour.proofs.hour.KeptHour.new.Goals as goal

pub invariant_of-result : goal.invariant_of-result
invariant_of-result c =
    new-kept c.args.grid.now c.args.hour c.in_ok-store.store c.zones-zones.ensures.grid.is_graph c.in_ok-store.ensures.book c.in_ok-store.ensures.blocks
    c.in_ok-store.ensures.flows c.in_ok-store.ensures.settled c.of.result.value c.new-2.result c.of.ensures c.new-2.ensures
