use Rattle.std.proofs.Common.{◌∙◌, ◌∷◌, [], ap}
use Rattle.market_model.specs.declared.command.Command.TheVariants as command
use Rattle.joint_plan.proofs.Histories.{touched-concerned}
use Rattle.basket_match.proofs.orders.plan_at.Goals as goal

pub plan-requires-clause-grid : goal.plan-requires-clause-grid
plan-requires-clause-grid g c = (c.requires.can c.desk_mut.result.now c.desk_mut.ensures.value).over

pub plan-requires-clause-setup : goal.plan-requires-clause-setup
plan-requires-clause-setup g c = (c.requires.can c.desk_mut.result.now c.desk_mut.ensures.value).over_setup

pub plan-requires-clause-alone : goal.plan-requires-clause-alone
plan-requires-clause-alone g c =
    let can = c.requires.can c.desk_mut.result.now c.desk_mut.ensures.value in
    touched-concerned c.args.setup.now c.args.caller (command.Enter c.args.order.now) can.early ∙ ap (λ hour. hour ∷ []) can.here

pub plan-requires-clause-early : goal.plan-requires-clause-early
plan-requires-clause-early g c = (c.requires.can c.desk_mut.result.now c.desk_mut.ensures.value).early

pub plan-requires-clause-few : goal.plan-requires-clause-few
plan-requires-clause-few g c = (c.requires.can c.desk_mut.result.now c.desk_mut.ensures.value).numbers
