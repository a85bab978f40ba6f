use Rattle.std.proofs.Common.{◌∙◌, sym}
use Rattle.desk_refusals.proofs.Named.{no_capacity, offer-none, offer-over, request-none, request-over}
use Rattle.desk_refusals.proofs.capacity.refuse_by_capacity.Goals as goal

pub returns-in_err-arc-in-Offer : goal.returns-in_err-arc-in-Offer
returns-in_err-arc-in-Offer c =
    c.from_residual.ensures
    ∙ offer-none c.args.grid.now c.args.hour.now.board.events c.args.hour.now.board.hour c.args.command.now c.in-Offer.from c.in-Offer.to c.in-Offer.first c.in-Offer.last c.in-Offer.lots
    c.in-Offer.is (sym c.in_err-arc-in-Offer.ensures.arc)

pub returns-in_err-arc-in-Request : goal.returns-in_err-arc-in-Request
returns-in_err-arc-in-Request c =
    c.from_residual-in_err-arc-in-Request.ensures
    ∙ request-none c.args.grid.now c.args.hour.now.board.events c.args.hour.now.board.hour c.args.command.now c.in-Request.from c.in-Request.to c.in-Request.first c.in-Request.last c.in-Request.lots
    c.in-Request.is (sym c.in_err-arc-in-Request.ensures.arc)

pub returns-in_ok-arc-in-Offer : goal.returns-in_ok-arc-in-Offer
returns-in_ok-arc-in-Offer c =
    c.refuse_offer.ensures
    ∙ offer-over c.args.grid.now c.args.hour.now.board.events c.args.hour.now.board.hour c.args.command.now c.in-Offer.from c.in-Offer.to c.in-Offer.first c.in-Offer.last c.in-Offer.lots
    c.in_ok-arc-in-Offer.arc c.in-Offer.is c.requires.concerns (sym c.in_ok-arc-in-Offer.ensures.arc)

pub returns-in_ok-arc-in-Request : goal.returns-in_ok-arc-in-Request
returns-in_ok-arc-in-Request c =
    c.refuse_request.ensures
    ∙ request-over c.args.grid.now c.args.hour.now.board.events c.args.hour.now.board.hour c.args.command.now c.in-Request.from c.in-Request.to c.in-Request.first c.in-Request.last c.in-Request.lots
    c.in_ok-arc-in-Request.arc c.in-Request.is c.requires.concerns (sym c.in_ok-arc-in-Request.ensures.arc)

pub returns-in_default : goal.returns-in_default
returns-in_default c = no_capacity c.args.grid.now c.args.hour.now.board.events c.args.command.now c.in_default.not-Offer c.in_default.not-Request
