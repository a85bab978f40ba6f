use Rattle.std.proofs.Common.{◌∙◌, Ok, ap, subst}
use Rattle.desk_entering.specs.Entries.{IsJudged}
use Rattle.desk_entering.proofs.Finishing.{judged-then, nothing-then}
use Rattle.desk_entering.proofs.Planning.{planned-is, settled-then}
use Rattle.desk_entering.proofs.entering.plan.Goals as goal

pub sweep_if_opened-requires-clause-quiet : goal.sweep_if_opened-requires-clause-quiet
sweep_if_opened-requires-clause-quiet c =
    nothing-then c.args.hour.now c.end_taking.new.hour c.args.caller c.args.order.now c.requires.unplanned c.requires.enters c.args.part c.requires.part
    c.args.rooms.now c.requires.rooms c.requires.quiet
    (settled-then c.args.hour.now c.enter_and_take.new.hour c.end_taking.new.hour c.enter_and_take.ensures.kept c.end_taking.ensures.kept)
    (c.end_taking.ensures.ended (c.in_ok-obstacle.was ∙ ap Ok c.in-None.is))

pub returns-in-Some-clause-judged : goal.returns-in-Some-clause-judged
returns-in-Some-clause-judged c =
    subst (IsJudged c.args.hour.now c.args.caller c.args.order.now) c.in-Some.is
    (judged-then c.args.hour.now c.enter_and_take.new.hour c.args.caller c.args.order.now c.in_ok-obstacle.field-0 c.enter_and_take.ensures.kept c.in_ok-obstacle.ensures.judged)

pub returns-in_ok-sweep_if_opened-in-None-clause-planned : goal.returns-in_ok-sweep_if_opened-in-None-clause-planned
returns-in_ok-sweep_if_opened-in-None-clause-planned c = λ _.
    planned-is c.args.hour.now c.end_taking.new.hour c.sweep_if_opened.new.hour c.args.caller c.args.order.now
    (settled-then c.args.hour.now c.enter_and_take.new.hour c.end_taking.new.hour c.enter_and_take.ensures.kept c.end_taking.ensures.kept)
    (c.end_taking.ensures.ended (c.in_ok-obstacle.was ∙ ap Ok c.in-None.is)) c.in_ok-sweep_if_opened-in-None.ensures.swept

pub returns-in_ok-sweep_if_opened-in-None-clause-judged : goal.returns-in_ok-sweep_if_opened-in-None-clause-judged
returns-in_ok-sweep_if_opened-in-None-clause-judged c =
    subst (IsJudged c.args.hour.now c.args.caller c.args.order.now) c.in-None.is
    (judged-then c.args.hour.now c.enter_and_take.new.hour c.args.caller c.args.order.now c.in_ok-obstacle.field-0 c.enter_and_take.ensures.kept c.in_ok-obstacle.ensures.judged)
