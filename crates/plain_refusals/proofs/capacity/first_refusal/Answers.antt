use Rattle.std.proofs.Common.{◌∙◌, ◌+◌, refl, sym, arith}
use Rattle.plain_refusals.specs.Asked.{first_refusal, refusal_by}
use Rattle.plain_refusals.proofs.Capacities.{flows-most, refusals-same}
use Rattle.plain_refusals.proofs.Hours.{hour_answers, hour_is_silent, no_hour_left}
use Rattle.plain_refusals.proofs.capacity.first_refusal.Goals as goal
use Rattle.plain_refusals.proofs.capacity.first_refusal.Goals.{else-loop-hour-test, then-loop-hour-test+in_ok-capacity+in_default+else-hour-hour-end}

pub loop-hour-init : goal.loop-hour-init
unfolding first_refusal
loop-hour-init c = refl

pub refusal_in-requires-clause-most : goal.refusal_in-requires-clause-most
refusal_in-requires-clause-most c =
    flows-most c.args.grid.now c.args.events.now c.loop-hour.hour c.in_ok-capacity.capacity c.in_ok-capacity.ensures c.args.asked.now c.requires.legal

pub returns-in-Some : goal.returns-in-Some
returns-in-Some c =
    let same = refusals-same c.args.grid.now c.args.events.now c.loop-hour.hour c.in_ok-capacity.capacity c.in_ok-capacity.ensures c.args.asked.now c.args.rule c.requires.there in
    sym (hour_answers (refusal_by c.args.rule c.args.events.now c.args.asked.now) c.args.asked.now c.loop-hour.hour c.in-Some.refusal (omega arith)
    (sym same ∙ sym c.refusal_in.ensures ∙ c.in-Some.is))
    ∙ c.loop-hour.invariant

pub loop-hour-preserved : goal.loop-hour-preserved
loop-hour-preserved c =
    let same = refusals-same c.args.grid.now c.args.events.now c.loop-hour.hour c.in_ok-capacity.capacity c.in_ok-capacity.ensures c.args.asked.now c.args.rule c.requires.there in
    sym (hour_is_silent (refusal_by c.args.rule c.args.events.now c.args.asked.now) c.args.asked.now c.loop-hour.hour (omega arith)
    (sym same ∙ sym c.refusal_in.ensures ∙ c.in_default.is))
    ∙ c.loop-hour.invariant

pub returns : goal.returns
returns c = elim c.loop-hour-test.branch [
  | else-loop-hour-test w ↦
      sym (no_hour_left (refusal_by c.args.rule c.args.events.now c.args.asked.now) c.args.asked.now c.loop-hour.hour (omega arith))
      ∙ c.loop-hour.invariant
  | then-loop-hour-test+in_ok-capacity+in_default+else-hour-hour-end w ↦
      let same = refusals-same c.args.grid.now c.args.events.now c.loop-hour.hour w.in_ok-capacity.capacity w.in_ok-capacity.ensures c.args.asked.now c.args.rule c.requires.there in
      sym (no_hour_left (refusal_by c.args.rule c.args.events.now c.args.asked.now) c.args.asked.now (c.loop-hour.hour + 1) (omega arith))
      ∙ sym (hour_is_silent (refusal_by c.args.rule c.args.events.now c.args.asked.now) c.args.asked.now c.loop-hour.hour (omega arith)
      (sym same ∙ sym w.refusal_in.ensures ∙ w.in_default.is))
      ∙ c.loop-hour.invariant
]
