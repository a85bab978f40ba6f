use Rattle.std.proofs.Common.{rules, ◌∙◌, ◌+◌, length, take, refl, ap}
use Rattle.plain_matching.specs.Grown.{Grew}
use Rattle.plain_market.proofs.Fitting.{can-part, can-zone, taken-legal}
use Rattle.plain_market.proofs.Judged.{one-found}
use Rattle.plain_market.proofs.Parts.{IsTaken, few-in, taken, taken-back, taken-few, taken-grew}
use Rattle.plain_market.proofs.basket.unfilled_alone.Goals as goal
use Rattle.plain_market.proofs.basket.unfilled_alone.Goals.{In_ok-name}

-- what the order took
its_taking : (c : In_ok-name) → IsTaken c.args.grid.now c.args.events.now c.args.caller c.args.order.now (take (length c.as_slice-before.result.now + 1) c.enter_and_take.new.events) c.enter_and_take.new.events c.in_ok-name.name
its_taking c =
    taken c.args.grid.now c.args.events.now c.args.caller c.args.order.now c.enter_and_take.new.events c.in_ok-name.name (length c.as_slice-before.result.now)
    (ap length c.as_slice-before.ensures) c.in_ok-name.ensures.name c.in_ok-name.ensures.ok

pub enter_and_take-requires-clause-few : goal.enter_and_take-requires-clause-few
enter_and_take-requires-clause-few c = few-in c.args.events.now c.args.order.now.contract.hour c.requires.few

pub unfilled-requires-clause-start : goal.unfilled-requires-clause-start
unfilled-requires-clause-start c =
    taken-legal c.args.grid.now c.args.events.now c.args.caller c.args.order.now _ c.enter_and_take.new.events c.in_ok-name.name c.requires.can (its_taking (goal.at.unfilled-requires-clause-start c).In_ok-name)

pub unfilled-requires-clause-few : goal.unfilled-requires-clause-few
unfilled-requires-clause-few c =
    taken-few c.args.grid.now c.args.events.now c.args.caller c.args.order.now _ c.enter_and_take.new.events c.in_ok-name.name (its_taking (goal.at.unfilled-requires-clause-few c).In_ok-name) c.requires.few

pub unfilled-requires-clause-part : goal.unfilled-requires-clause-part
unfilled-requires-clause-part c = can-part c.args.grid.now c.args.events.now c.args.caller c.args.order.now c.requires.can

pub unfilled-requires-clause-zone : goal.unfilled-requires-clause-zone
unfilled-requires-clause-zone c = can-zone c.args.grid.now c.args.events.now c.args.caller c.args.order.now c.requires.can

pub returns-in_err-found-clause-err : goal.returns-in_err-found-clause-err
returns-in_err-found-clause-err c =
    let grown : Grew c.args.events.now c.unfilled.new.events =
    taken-grew c.args.grid.now c.args.events.now c.args.caller c.args.order.now _ c.enter_and_take.new.events c.unfilled.new.events c.in_ok-name.name
    (length c.as_slice-before.result.now + 1) refl (its_taking (goal.at.returns-in_err-found-clause-err c).In_ok-name) c.unfilled.ensures.cut in
    search (rules, grown)

pub returns-clause-refusal : goal.returns-clause-refusal
returns-clause-refusal c =
    c.refuse.ensures
    ∙ one-found c.args.grid.now c.args.events.now c.args.caller c.args.order.now _ c.enter_and_take.new.events c.in_ok-name.name (its_taking (goal.at.returns-clause-refusal c).In_ok-name)
    c.in_ok-found.found c.in_ok-found.ensures.certificate

pub returns-clause-kept : goal.returns-clause-kept
returns-clause-kept c =
    c.cut_back.ensures
    ∙ taken-back c.args.grid.now c.args.events.now c.args.caller c.args.order.now c.enter_and_take.new.events c.unfilled.new.events c.in_ok-name.name
    (length c.as_slice-before.result.now) (ap length c.as_slice-before.ensures) (its_taking (goal.at.returns-clause-kept c).In_ok-name) c.unfilled.ensures.cut

pub enter_and_take-requires-clause-summed : goal.enter_and_take-requires-clause-summed
enter_and_take-requires-clause-summed c = c.none-sums.ensures c.args.grid.now c.args.events.now c.args.order.now.contract.hour
