use Rattle.std.proofs.Common.{◌∙◌, ◌&&◌, not, sym, ap}
use Rattle.quarter_capacity.specs.Row as rows
use Rattle.market_model.specs.Room.{lots_of}
use Rattle.flow_netting.specs.Border.{row_in}
use Rattle.flow_netting.specs.QuarterSet.{quarters_in}
use Rattle.flow_netting.proofs.RoomLemmas.{least-not_traded, least-traded}
use Rattle.flow_netting.proofs.border.BorderFlows.room.Goals as goal

pub returns-then-trades-clause-room : goal.returns-then-trades-clause-room
returns-then-trades-clause-room c =
    c.least_remaining.ensures.least
    ∙ least-traded (c.args.is_open && not c.args.self.now.halted)
    (λ number. lots_of (rows.remaining (row_in c.args.self.now number) c.args.forward)) (quarters_in c.args.set)
    (ap (λ halted. c.args.is_open && not halted) (sym c.is_halted.ensures) ∙ sym c.trades.ensures ∙ c.if-trades.true)

pub returns-else-trades-clause-room : goal.returns-else-trades-clause-room
returns-else-trades-clause-room c =
    least-not_traded (c.args.is_open && not c.args.self.now.halted)
    (λ number. lots_of (rows.remaining (row_in c.args.self.now number) c.args.forward)) (quarters_in c.args.set)
    (ap (λ halted. c.args.is_open && not halted) (sym c.is_halted.ensures) ∙ sym c.trades.ensures ∙ c.if-trades.false)
