use Rattle.std.proofs.Common.{◌∙◌, None, Some}
use Rattle.desk_refusals.proofs.Ranges.{offer-refused}
use Rattle.desk_refusals.proofs.capacity.refuse_offer.Goals as goal

pub returns-in_err-number : goal.returns-in_err-number
returns-in_err-number c =
    let board = c.args.hour.now.board in
    c.from_residual.ensures
    ∙ offer-refused board.hour c.args.first c.args.last board.grid board.events c.flows.result.now c.quarters_in_range-quarters.result c.args.arc c.args.lots c.flows.ensures c.requires.arc
    c.hour-own.result c.hour-own.ensures.number c.quarters_in_range-quarters.ensures None c.in_err-number.ensures

pub returns : goal.returns
returns c =
    let board = c.args.hour.now.board in
    offer-refused board.hour c.args.first c.args.last board.grid board.events c.flows.result.now c.quarters_in_range-quarters.result c.args.arc c.args.lots c.flows.ensures c.requires.arc
    c.hour-own.result c.hour-own.ensures.number c.quarters_in_range-quarters.ensures (Some (c.in_ok-number.number, c.in_ok-number.flow)) c.in_ok-number.ensures
