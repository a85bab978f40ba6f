use Rattle.std.proofs.Common.{◌∙◌, ap, refl, sym, subst}
use Rattle.market_model.specs.Market.{events_done}
use Rattle.market_model.specs.Sweep.{all_parts}
use Rattle.desk_changes.specs.Planned.{with_planned}
use Rattle.desk_changes.proofs.Planning.{on-ok}
use Rattle.hour_desk.specs.Placed.{CanChange}
use Rattle.hour_desk.proofs.Commands.{gate-next, gate-planned, quiet, view-planned}
use Rattle.hour_desk.proofs.Planned.{none-planned}
use Rattle.hour_desk.proofs.RangeParts.{other-kinds, part-can, part-done}
use Rattle.hour_desk.proofs.changing.change_others.Goals as goal

pub share-requires-clause-quiet : goal.share-requires-clause-quiet
share-requires-clause-quiet c = quiet c.args.setup.now c.args.hour.now c.args.caller c.args.command.now c.requires.can c.args.grid.now c.requires.grid

pub share-requires-clause-can : goal.share-requires-clause-can
share-requires-clause-can c =
    part-can c.args.setup.now c.args.hour.now c.args.caller c.args.command.now c.requires.can c.args.grid.now c.requires.grid c.in-Some.work c.in-Some.ensures.work

pub returns-in-Some-clause-done : goal.returns-in-Some-clause-done
returns-in-Some-clause-done c =
    on-ok c.share.result _ _ (λ is. is ∙ ap (with_planned c.args.hour.now)
    (part-done c.args.setup.now c.args.hour.now c.args.caller c.args.command.now c.requires.can c.args.grid.now c.requires.grid c.in-Some.work c.in-Some.ensures.work)) c.share.ensures.planned

pub gate-requires-clause-next : goal.gate-requires-clause-next
gate-requires-clause-next c =
    gate-next c.args.setup.now c.args.hour.now c.args.caller c.in-Gate.hour c.in-Gate.phase
    (subst (CanChange c.args.setup.now c.args.hour.now c.args.caller) c.in-Gate.is c.requires.can)

pub gate-requires-clause-quiet : goal.gate-requires-clause-quiet
gate-requires-clause-quiet c = quiet c.args.setup.now c.args.hour.now c.args.caller c.args.command.now c.requires.can c.args.hour.now.board.grid refl

pub returns-in-Gate-clause-done : goal.returns-in-Gate-clause-done
returns-in-Gate-clause-done c =
    on-ok c.gate.result _ _ (λ is. gate-planned c.args.setup.now c.args.hour.now c.args.caller c.in-Gate.hour c.in-Gate.phase
    (subst (CanChange c.args.setup.now c.args.hour.now c.args.caller) c.in-Gate.is c.requires.can) c.gate.new.hour is
    ∙ ap (λ g. with_planned c.args.hour.now (events_done all_parts c.args.setup.now c.args.hour.now.settled c.args.caller g)) (sym c.in-Gate.is)) c.gate.ensures.planned

pub returns-in-View-clause-done : goal.returns-in-View-clause-done
returns-in-View-clause-done c =
    none-planned c.args.hour.now (events_done all_parts c.args.setup.now c.args.hour.now.settled c.args.caller c.args.command.now) c.requires.can.placed.unplanned
    (ap (events_done all_parts c.args.setup.now c.args.hour.now.settled c.args.caller) c.in-View.is
    ∙ view-planned c.args.setup.now c.args.hour.now c.args.caller c.in-View.contract c.in-View.side c.in-View.zone)

pub unreachable-requires : goal.unreachable-requires
unreachable-requires c =
    other-kinds c.args.setup.now c.args.hour.now c.args.caller c.args.command.now c.requires.can c.args.grid.now c.requires.grid
    c.in_default.ensures.work c.requires.no_order c.in_default-command.not-Cancel c.in_default-command.not-Reduce c.in_default-command.not-Gate c.in_default-command.not-View
