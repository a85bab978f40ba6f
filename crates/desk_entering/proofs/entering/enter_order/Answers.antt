use Rattle.std.proofs.Common.{◌∙◌, sym, subst}
use Rattle.kept_hour.specs.State.{HourState}
use Rattle.desk_entering.specs.Entries.{Enters, IsJudged}
use Rattle.desk_entering.proofs.Entry.{can-enter, enters_here}
use Rattle.desk_entering.proofs.Finishing.{refused-for}
use Rattle.desk_entering.proofs.entering.enter_order.Goals as goal

pub number_of-part-requires : goal.number_of-part-requires
number_of-part-requires c =
    let hour = c.args.hour.now in
    let can = can-enter hour c.args.caller c.args.order.now c.requires.unplanned.events c.requires.in_hour c.requires.next in
    record { known = (enters_here hour.board.grid hour.board.hour hour.settled c.args.caller c.args.order.now can).in_part }

pub refusal_for-refusal-requires-clause-enters : goal.refusal_for-refusal-requires-clause-enters
refusal_for-refusal-requires-clause-enters c =
    let can = can-enter c.args.hour.now c.args.caller c.args.order.now c.requires.unplanned.events c.requires.in_hour c.requires.next in (
      c.args.caller,
      subst (λ (h : HourState). Enters h.board.grid h.board.hour h.settled c.args.caller c.args.order.now) (sym (c.undo.ensures ∙ c.plan.ensures.kept)) can,
    )

pub returns-in-Ok-Some-clause-refusal : goal.returns-in-Ok-Some-clause-refusal
returns-in-Ok-Some-clause-refusal c =
    let hour = c.args.hour.now in
    let can = can-enter hour c.args.caller c.args.order.now c.requires.unplanned.events c.requires.in_hour c.requires.next in
    refused-for hour c.undo.new.self c.args.caller c.args.order.now c.in-Ok-Some.obstacle c.refusal_for-refusal.result c.args.grid.now c.requires.grid
    (c.undo.ensures ∙ c.plan.ensures.kept) can c.refusal_for-refusal.ensures
    (subst (IsJudged hour c.args.caller c.args.order.now) c.in-Ok-Some.field-0-is c.in-Ok-Some.ensures.judged)
