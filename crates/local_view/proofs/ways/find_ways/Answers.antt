use Rattle.std.proofs.Common.{false, replicate, true, arith}
use Rattle.std.proofs.lemmas.List.{get_or-set_same, length-replicate}
use Rattle.local_view.proofs.Leading.{alone_found}
use Rattle.local_view.proofs.ways.find_ways.Goals as goal

pub lead_on-count-requires-clause-begun : goal.lead_on-count-requires-clause-begun
lead_on-count-requires-clause-begun c = get_or-set_same (replicate 64 false) c.args.root true false (omega (arith, c.requires.zone, c.zones-zones.ensures.grid.few_zones, length-replicate 64 false))

pub lead_on-count-requires-clause-found : goal.lead_on-count-requires-clause-found
lead_on-count-requires-clause-found c = alone_found c.args.grid.now c.args.ways.now c.args.root c.requires.places (omega (arith, c.requires.zone, c.zones-zones.ensures.grid.few_zones))
