use Rattle.std.proofs.Common.{◌≡◌, false, rules}
use Rattle.route_choice.specs.Freshness.{is_known}
use Rattle.route_choice.proofs.Fresh.{tells_reach}
use Rattle.route_choice.proofs.tree.RouteTree.reaches.Goals as goal

pub returns-in-Some-clause-reach : goal.returns-in-Some-clause-reach
returns-in-Some-clause-reach c =
    let known : c.is_some.result ≡ is_known c.args.self.now c.args.other = search rules in
    tells_reach c.args.self.now c.args.other c.is_some.result known

pub returns-in-None-clause-reach : goal.returns-in-None-clause-reach
returns-in-None-clause-reach c =
    let known : false ≡ is_known c.args.self.now c.args.other = search rules in
    tells_reach c.args.self.now c.args.other false known
