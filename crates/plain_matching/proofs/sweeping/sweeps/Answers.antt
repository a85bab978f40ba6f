use Rattle.std.proofs.Common.{arith, rules, ◌+◌}
use Rattle.plain_matching.proofs.Hours.{all-swept, grew-on, more-swept, nothing-swept}
use Rattle.plain_matching.proofs.sweeping.sweeps.Goals as goal

pub loop-hour-init : goal.loop-hour-init
loop-hour-init c = record {
  swept = nothing-swept c.args.grid.now c.args.first c.args.last c.args.events.now;
  legal = c.requires.legal;
  summed = c.requires.summed;
}

pub returns-in_err-sweep_kept-clause-err : goal.returns-in_err-sweep_kept-clause-err
returns-in_err-sweep_kept-clause-err c = search (rules, grew-on)

pub loop-hour-preserved : goal.loop-hour-preserved
loop-hour-preserved c = record {
  swept = more-swept c.args.grid.now c.args.first c.args.last c.loop-hour.hour c.args.events.now c.loop-hour.events c.sweep_kept.new.events
      c.loop-hour.invariant.swept c.loop-hour-test.true c.in_ok-sweep_kept.ensures.ok;
  legal = c.sweep_kept.ensures.legal;
  summed = c.sweep_kept.ensures.summed;
}

pub returns-clause-ok : goal.returns-clause-ok
returns-clause-ok c = all-swept c.args.grid.now c.args.first c.args.last c.loop-hour.hour c.args.events.now c.loop-hour.events
    c.loop-hour.invariant.swept (omega (arith, c.loop-hour-test.false))

pub returns-clause-legal : goal.returns-clause-legal
returns-clause-legal c = c.loop-hour.invariant.legal

pub returns-in_ok-sweep_kept-clause-ok : goal.returns-in_ok-sweep_kept-clause-ok
returns-in_ok-sweep_kept-clause-ok c =
    let swept = more-swept c.args.grid.now c.args.first c.args.last c.loop-hour.hour c.args.events.now c.loop-hour.events c.sweep_kept.new.events
    c.loop-hour.invariant.swept c.loop-hour-test.true c.in_ok-sweep_kept.ensures.ok in
    all-swept c.args.grid.now c.args.first c.args.last (c.loop-hour.hour + 1) c.args.events.now c.sweep_kept.new.events swept
    (search rules)
