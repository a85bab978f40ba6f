use Rattle.std.proofs.Common.{◌∙◌, None, ap, is_some, sym, subst}
use Rattle.std.proofs.lemmas.Bool.{false≢true}
use Rattle.desk_changes.proofs.Planning.{on-ok}
use Rattle.desk_changes.specs.State.{CanBeNext, after_event, withdrawal_of}
use Rattle.hour_desk.proofs.Commands.{cancel-known, cancel-next, cancel-planned}
use Rattle.hour_desk.proofs.changing.cancel.Goals as goal

pub withdraw-requires-clause-next : goal.withdraw-requires-clause-next
withdraw-requires-clause-next c =
    subst (λ lots. CanBeNext c.args.hour.now (withdrawal_of c.args.hour.now c.args.name.number lots)) (sym c.left.ensures)
    (cancel-next c.args.setup.now c.args.hour.now c.args.caller c.args.name c.requires c.in-Some.own (sym c.own_of.ensures.own ∙ c.in-Some.is))

pub unreachable-requires : goal.unreachable-requires
unreachable-requires c =
    absurd (false≢true (ap is_some (sym c.in-None.is) ∙ c.own_of.ensures.known ∙ cancel-known c.args.setup.now c.args.hour.now c.args.caller c.args.name c.requires))

pub returns-clause-done : goal.returns-clause-done
returns-clause-done c =
    on-ok c.withdraw.result _ _
    (λ is. cancel-planned c.args.setup.now c.args.hour.now c.args.caller c.args.name c.requires c.in-Some.own c.withdraw.new.self (sym c.own_of.ensures.own ∙ c.in-Some.is)
    (is ∙ ap (λ lots. after_event c.args.hour.now (withdrawal_of c.args.hour.now c.args.name.number lots) None) c.left.ensures))
    c.withdraw.ensures.withdrawn
