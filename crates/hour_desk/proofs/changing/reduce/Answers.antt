use Rattle.std.proofs.Common.{◌∙◌, ◌-◌, None, ap, is_some, sym, subst, arith}
use Rattle.std.proofs.lemmas.Bool.{false≢true}
use Rattle.desk_changes.proofs.Planning.{on-ok}
use Rattle.desk_changes.specs.State.{CanBeNext, after_event, reduction_of}
use Rattle.hour_desk.proofs.Commands.{reduce-below, reduce-known, reduce-next, reduce-planned}
use Rattle.hour_desk.proofs.changing.reduce.Goals as goal

pub overflow_sub-left : goal.overflow_sub-left
overflow_sub-left c =
    let below = reduce-below c.args.setup.now c.args.hour.now c.args.caller c.args.name c.args.to c.requires c.in-Some.own (sym c.own_of.ensures.own ∙ c.in-Some.is) in
    let left = c.left.ensures in
    omega arith

pub reduce-requires-clause-next : goal.reduce-requires-clause-next
reduce-requires-clause-next c =
    subst (λ lots. CanBeNext c.args.hour.now (reduction_of c.args.hour.now c.args.name.number (lots - c.args.to))) (sym c.left.ensures)
    (reduce-next c.args.setup.now c.args.hour.now c.args.caller c.args.name c.args.to c.requires c.in-Some.own (sym c.own_of.ensures.own ∙ c.in-Some.is))

pub unreachable-requires : goal.unreachable-requires
unreachable-requires c =
    absurd (false≢true (ap is_some (sym c.in-None.is) ∙ c.own_of.ensures.known ∙ reduce-known c.args.setup.now c.args.hour.now c.args.caller c.args.name c.args.to c.requires))

pub returns-clause-done : goal.returns-clause-done
returns-clause-done c =
    on-ok c.reduce.result _ _
    (λ is. reduce-planned c.args.setup.now c.args.hour.now c.args.caller c.args.name c.args.to c.requires c.in-Some.own c.reduce.new.self (sym c.own_of.ensures.own ∙ c.in-Some.is)
    (is ∙ ap (λ lots. after_event c.args.hour.now (reduction_of c.args.hour.now c.args.name.number (lots - c.args.to)) None) c.left.ensures))
    c.reduce.ensures.reduced
