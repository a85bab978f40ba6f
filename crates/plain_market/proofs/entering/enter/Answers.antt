use Rattle.std.proofs.Common.{rules, ◌∙◌, ◌+◌, Ok, IfSome, length, take, refl, sym, ap, subst}
use Rattle.market_model.specs.Sweep.{all_parts}
use Rattle.plain_matching.specs.Grown.{Grew}
use Rattle.plain_market.proofs.Fitting.{can-part, can-zone, taken-legal}
use Rattle.plain_market.proofs.Growing.{goes-back}
use Rattle.plain_market.proofs.Judged.{order-found}
use Rattle.plain_market.proofs.Kept.{kept-back, kept-grew, kept-without}
use Rattle.plain_orders.specs.Tallies.{AreSums}
use Rattle.plain_market.proofs.Parts.{IsTaken, entered-is, few-in, taken, taken-back, taken-few, taken-grew}
use Rattle.plain_market.proofs.entering.enter.Goals as goal
use Rattle.plain_market.proofs.entering.enter.Goals.{In_ok-name}

-- what the order took
its_taking : (c : In_ok-name) → IsTaken c.args.grid.now c.args.events.now c.args.caller c.args.order.now (take (length c.as_slice-before.result.now + 1) c.enter_and_take.new.events) c.enter_and_take.new.events c.in_ok-name.name
its_taking c =
    taken c.args.grid.now c.args.events.now c.args.caller c.args.order.now c.enter_and_take.new.events c.in_ok-name.name (length c.as_slice-before.result.now)
    (ap length c.as_slice-before.ensures) c.in_ok-name.ensures.name c.in_ok-name.ensures.ok

pub enter_and_take-requires-clause-few : goal.enter_and_take-requires-clause-few
enter_and_take-requires-clause-few c = few-in c.args.events.now c.args.order.now.contract.hour c.requires.few

pub refusal_after-requires-clause-start : goal.refusal_after-requires-clause-start
refusal_after-requires-clause-start c =
    taken-legal c.args.grid.now c.args.events.now c.args.caller c.args.order.now _ c.enter_and_take.new.events c.in_ok-name.name c.requires.can (its_taking (goal.at.refusal_after-requires-clause-start c).In_ok-name)

pub refusal_after-requires-clause-few : goal.refusal_after-requires-clause-few
refusal_after-requires-clause-few c =
    taken-few c.args.grid.now c.args.events.now c.args.caller c.args.order.now _ c.enter_and_take.new.events c.in_ok-name.name (its_taking (goal.at.refusal_after-requires-clause-few c).In_ok-name) c.requires.few

pub refusal_after-requires-clause-part : goal.refusal_after-requires-clause-part
refusal_after-requires-clause-part c = can-part c.args.grid.now c.args.events.now c.args.caller c.args.order.now c.requires.can

pub refusal_after-requires-clause-zone : goal.refusal_after-requires-clause-zone
refusal_after-requires-clause-zone c = can-zone c.args.grid.now c.args.events.now c.args.caller c.args.order.now c.requires.can

pub returns-in_err-refusal-clause-err : goal.returns-in_err-refusal-clause-err
returns-in_err-refusal-clause-err c =
    let grown : Grew c.args.events.now c.refusal_after.new.events =
    taken-grew c.args.grid.now c.args.events.now c.args.caller c.args.order.now _ c.enter_and_take.new.events c.refusal_after.new.events c.in_ok-name.name
    (length c.as_slice-before.result.now + 1) refl (its_taking (goal.at.returns-in_err-refusal-clause-err c).In_ok-name) c.refusal_after.ensures.cut in
    search (rules, grown)

pub returns-in-Some-clause-refusal : goal.returns-in-Some-clause-refusal
returns-in-Some-clause-refusal c =
    sym c.in-Some.is
    ∙ order-found c.args.grid.now c.args.events.now c.args.caller c.args.order.now _ c.enter_and_take.new.events c.in_ok-name.name (its_taking (goal.at.returns-in-Some-clause-refusal c).In_ok-name)
    c.in_ok-refusal.field-0 c.in_ok-refusal.ensures.refusal

pub returns-in-Some-clause-kept : goal.returns-in-Some-clause-kept
returns-in-Some-clause-kept c = λ _ _.
    c.cut_back.ensures
    ∙ taken-back c.args.grid.now c.args.events.now c.args.caller c.args.order.now c.enter_and_take.new.events c.refusal_after.new.events c.in_ok-name.name
    (length c.as_slice-before.result.now) (ap length c.as_slice-before.ensures) (its_taking (goal.at.returns-in-Some-clause-kept c).In_ok-name) c.refusal_after.ensures.cut

pub returns-clause-refusal : goal.returns-clause-refusal
returns-clause-refusal c =
    sym c.in-None.is
    ∙ order-found c.args.grid.now c.args.events.now c.args.caller c.args.order.now _ c.enter_and_take.new.events c.in_ok-name.name (its_taking (goal.at.returns-clause-refusal c).In_ok-name)
    c.in_ok-refusal.field-0 c.in_ok-refusal.ensures.refusal

pub returns-clause-entered : goal.returns-clause-entered
returns-clause-entered c =
    λ _. entered-is all_parts c.args.grid.now c.args.events.now c.refusal_after.new.events c.finish.new.events c.args.caller c.args.order.now c.in_ok-name.name
    (c.in_ok-refusal.ensures.kept (ap Ok c.in-None.is) ∙ c.in_ok-name.ensures.ok) c.in_ok-name.ensures.name c.in_ok-finish-in-None.ensures.ok

pub enter_and_take-requires-clause-summed : goal.enter_and_take-requires-clause-summed
enter_and_take-requires-clause-summed c =
    c.of-sums.ensures.summed c.args.grid.now c.args.events.now c.args.order.now.contract.hour
    (subst (λ o. IfSome o (AreSums c.args.events.now c.args.order.now.contract.hour)) (sym c.take.ensures.taken)
    (c.requires.summed.each c.args.order.now.contract.hour))

pub returns-in_err-name-clause-summed : goal.returns-in_err-name-clause-summed
returns-in_err-name-clause-summed c =
    kept-without c.args.events.now c.enter_and_take.new.events c.args.kept.now c.take.new.self c.args.order.now.contract.hour c.take.ensures.left
    c.in_err-name.ensures.err c.requires.summed

pub returns-in_err-refusal-clause-summed : goal.returns-in_err-refusal-clause-summed
returns-in_err-refusal-clause-summed c =
    let grown : Grew c.args.events.now c.refusal_after.new.events =
    taken-grew c.args.grid.now c.args.events.now c.args.caller c.args.order.now _ c.enter_and_take.new.events c.refusal_after.new.events c.in_ok-name.name
    (length c.as_slice-before.result.now + 1) refl (its_taking (goal.at.returns-in_err-refusal-clause-summed c).In_ok-name) c.refusal_after.ensures.cut in
    kept-without c.args.events.now c.refusal_after.new.events c.args.kept.now c.take.new.self c.args.order.now.contract.hour c.take.ensures.left grown c.requires.summed

pub returns-in_err-finish-in-None-clause-summed : goal.returns-in_err-finish-in-None-clause-summed
returns-in_err-finish-in-None-clause-summed c =
    let grown : Grew c.args.events.now c.refusal_after.new.events =
    taken-grew c.args.grid.now c.args.events.now c.args.caller c.args.order.now _ c.enter_and_take.new.events c.refusal_after.new.events c.in_ok-name.name
    (length c.as_slice-before.result.now + 1) refl (its_taking (goal.at.returns-in_err-finish-in-None-clause-summed c).In_ok-name) c.refusal_after.ensures.cut in
    kept-grew c.refusal_after.new.events c.finish.new.events c.take.new.self c.in_err-finish-in-None.ensures.err
    (kept-without c.args.events.now c.refusal_after.new.events c.args.kept.now c.take.new.self c.args.order.now.contract.hour c.take.ensures.left grown c.requires.summed)

pub returns-in-Some-clause-summed : goal.returns-in-Some-clause-summed
returns-in-Some-clause-summed c =
    kept-without c.args.events.now c.cut_back.new.events c.args.kept.now c.take.new.self c.args.order.now.contract.hour c.take.ensures.left
    (goes-back c.args.events.now c.cut_back.new.events
    (c.cut_back.ensures
    ∙ taken-back c.args.grid.now c.args.events.now c.args.caller c.args.order.now c.enter_and_take.new.events c.refusal_after.new.events c.in_ok-name.name
    (length c.as_slice-before.result.now) (ap length c.as_slice-before.ensures) (its_taking (goal.at.returns-in-Some-clause-summed c).In_ok-name) c.refusal_after.ensures.cut)) c.requires.summed

pub returns-clause-summed : goal.returns-clause-summed
returns-clause-summed c =
    kept-back c.args.events.now c.finish.new.events _ c.args.kept.now c.take.new.self c.put.new.self c.args.order.now.contract.hour _ c.take.ensures.left
    (entered-is all_parts c.args.grid.now c.args.events.now c.refusal_after.new.events c.finish.new.events c.args.caller c.args.order.now c.in_ok-name.name
    (c.in_ok-refusal.ensures.kept (ap Ok c.in-None.is) ∙ c.in_ok-name.ensures.ok) c.in_ok-name.ensures.name c.in_ok-finish-in-None.ensures.ok)
    c.requires.summed
    (subst (λ o. IfSome o (AreSums c.finish.new.events c.args.order.now.contract.hour)) (sym c.take-in-None.ensures.value)
    c.in_ok-finish-in-None.ensures.summed.orders_are) c.put.ensures
