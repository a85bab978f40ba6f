use Rattle.std.proofs.Common.{◌≡◌, ◌*◌, ◌^◌, get_or, arith, subst}
use Rattle.zone_graph.specs.Graph.{border_count}
use Rattle.local_view.specs.Moved.{flow_in}
use Rattle.local_view.proofs.Standing.{IsBalanced, balanced-more, passes}
use Rattle.local_view.proofs.balance.is_balanced.Goals as goal

pub loop-border-preserved : goal.loop-border-preserved
loop-border-preserved c =
    let so_far = c.loop-border.invariant in
    let more = c.add.ensures.few (c.loop-border.border * 2 ^ 32) so_far.few in
    record {
      balanced = balanced-more c.args.grid.now c.args.side (flow_in c.args.flow.now) c.loop-border.border c.loop-border.balance c.add.new.self so_far.balanced c.add.ensures.passed;
      few = record {
        up = λ zone small. let most = more.up zone small in omega (arith, most);
        down = λ zone small. let most = more.down zone small in omega (arith, most);
      };
    }

pub returns : goal.returns
returns c = λ is other there apart.
    let all : c.loop-border.border ≡ border_count c.args.grid.now = omega (arith, c.loop-border-test.false, c.loop-border.auto.border-end, c.borders-border-end.ensures.count) in
    let known : c.loop-other.other ≡ c.zones-other-end.result = omega (arith, c.loop-other-test.false, c.loop-other.auto.other-end) in
    passes c.args.grid.now c.args.side (flow_in c.args.flow.now) c.loop-border.balance
    (subst (λ n. IsBalanced c.args.grid.now c.args.side (flow_in c.args.flow.now) n c.loop-border.balance) all c.loop-border.invariant.balanced) other (get_or c.args.given.now other 0)
    (omega (arith, there, c.zones-other-end.ensures.grid.few_zones))
    (c.loop-other.invariant other (omega (arith, there, known, c.zones-other-end.ensures.count)) apart)
