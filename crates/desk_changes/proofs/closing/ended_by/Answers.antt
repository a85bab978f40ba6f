use Rattle.std.proofs.Common.{◌∙◌, map, subst, sym, ap}
use Rattle.market_model.specs.Market.{withdrawals}
use Rattle.desk_changes.specs.StillOpen.{CanEnd, withdrawal}
use Rattle.desk_changes.proofs.Names.{all-withdrawn, can-end}
use Rattle.desk_changes.proofs.Planning.{if-ok}
use Rattle.desk_changes.proofs.closing.ended_by.Goals as goal

pub returns-in-Closed-clause-withdrawals : goal.returns-in-Closed-clause-withdrawals
returns-in-Closed-clause-withdrawals c =
    if-ok c.open_in.result _ _ (λ found is. ap (map (withdrawal c.args.hour.now.board.hour)) is
    ∙ all-withdrawn c.args.hour.now.board.grid c.args.hour.now.board.hour c.args.hour.now.board.events c.events.ensures.board.stands
    ∙ ap (withdrawals c.args.hour.now.board.events c.args.hour.now.board.hour) (sym c.in-Closed.is)) c.open_in.ensures

pub returns-in-Closed-clause-can : goal.returns-in-Closed-clause-can
returns-in-Closed-clause-can c =
    if-ok c.open_in.result _ _ (λ found is. subst (CanEnd c.args.hour.now.board) (sym is)
    (can-end c.args.hour.now.board c.events.ensures.board.stands c.requires.quiet)) c.open_in.ensures
