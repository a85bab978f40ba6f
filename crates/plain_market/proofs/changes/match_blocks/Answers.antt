use Rattle.std.proofs.Common.{subst}
use Rattle.zone_graph.specs.Graph.{IsGraph}
use Rattle.plain_market.proofs.Happenings.{deals-legal, matched-is, on-ok}
use Rattle.plain_market.proofs.Kept.{kept-more}
use Rattle.plain_market.proofs.changes.match_blocks.Goals as goal

pub sweeps-requires-clause-legal : goal.sweeps-requires-clause-legal
sweeps-requires-clause-legal c =
    deals-legal c.args.grid.now c.args.first c.args.last c.args.events.now c.match_deals.new.events c.requires.history
    (subst IsGraph c.requires.history.over c.zones-zones.ensures.grid.is_graph) c.in_ok-match_deals.ensures.ok

pub sweeps-requires-clause-summed : goal.sweeps-requires-clause-summed
sweeps-requires-clause-summed c =
    kept-more c.args.events.now c.match_deals.new.events _ c.args.kept.now c.in_ok-match_deals.ensures.ok c.requires.summed

pub returns-clause-ok : goal.returns-clause-ok
returns-clause-ok c = on-ok c.sweeps.result c.sweeps.ensures.ok
    (matched-is c.args.grid.now c.args.first c.args.last c.args.events.now c.match_deals.new.events c.sweeps.new.events c.in_ok-match_deals.ensures.ok)
