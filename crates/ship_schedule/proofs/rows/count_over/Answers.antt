use Rattle.std.proofs.Common.{◌∙◌, ◌<◌, ap, subst, refl, sym, arith}
use Rattle.ship_schedule.specs.Places.{period_has, quarter_at}
use Rattle.ship_schedule.specs.Rows.{amount, is_number}
use Rattle.ship_schedule.proofs.Counts.{all_done, none_yet, one_more}
use Rattle.ship_schedule.proofs.rows.count_over.Goals as goal

pub loop-place-init : goal.loop-place-init
loop-place-init c = record {
  counted = λ place number way within.
      none_yet (period_has c.args.period (quarter_at place)) (is_number c.args.number c.args.way number way) place c.places-start.result.0
      (amount c.args.rows.now place number way) c.args.lots (λ has. (c.places-start.ensures.covers place has).0);
  shape = λ place. refl;
}

pub loop-place-preserved : goal.loop-place-preserved
loop-place-preserved c = record {
  counted = λ place number way within.
      one_more (period_has c.args.period (quarter_at place)) c.has.result (is_number c.args.number c.args.way number way) place c.loop-place.place
      (amount c.args.rows.now place number way) (amount c.loop-place.rows place number way) (amount c.count_if.new.rows place number way) c.args.lots
      (λ same. c.has.ensures ∙ ap (period_has c.args.period) c.quarter_at.ensures ∙ ap (λ n. period_has c.args.period (quarter_at n)) same)
      (c.loop-place.invariant.counted place number way within)
      (c.in_ok-count_if.ensures.counted place number way (subst (λ n. number < n) (sym (c.loop-place.invariant.shape place)) within));
  shape = λ place. c.in_ok-count_if.ensures.shape place ∙ c.loop-place.invariant.shape place;
}

pub returns-clause-counted : goal.returns-clause-counted
returns-clause-counted c = λ place number way within.
    all_done (period_has c.args.period (quarter_at place)) (is_number c.args.number c.args.way number way) place c.loop-place.place
    (amount c.args.rows.now place number way) (amount c.loop-place.rows place number way) c.args.lots
    (λ has. let covered = (c.places-start.ensures.covers place has).1 in omega (arith, covered, c.loop-place-test.false))
    (c.loop-place.invariant.counted place number way within)
