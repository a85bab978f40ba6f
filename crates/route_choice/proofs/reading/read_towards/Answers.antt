use Rattle.std.proofs.Common.{rules, length}
use Rattle.route_choice.proofs.ReadRoutes.{read_first}
use Rattle.route_choice.proofs.reading.read_towards.Goals as goal

pub loop-arc-preserved : goal.loop-arc-preserved
loop-arc-preserved c = record {
  zone = c.requires.within c.loop-arc.zone;
  size = search rules;
  read = read_first c.args.steps.now c.args.other c.loop-arc.zone (length c.args.route.now) c.loop-arc.arc-index c.loop-arc.route c.loop-arc-test.true c.loop-arc.invariant.size c.loop-arc.invariant.read;
}
