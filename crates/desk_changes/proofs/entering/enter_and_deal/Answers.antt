use Rattle.std.proofs.Common.{◌∙◌, ◌++◌, [], ◌∷◌, sym, ap, subst}
use Rattle.laws_of_joint_commands.specs.PeriodRooms.{hour_room}
use Rattle.kept_hour.specs.State.{HourState, block_entry_of}
use Rattle.desk_changes.specs.Quiet.{HasNoLeg}
use Rattle.desk_changes.proofs.Planning.{settled-quiet}
use Rattle.market_model.specs.Orders.{next_name}
use Rattle.block_match.specs.Market.{deal_events}
use Rattle.desk_changes.specs.LegOpenings.{AreOver, may_open}
use Rattle.desk_changes.proofs.Hours.{legs-over, others-follow}
use Rattle.desk_changes.proofs.LegsOpened.{entry-quiet}
use Rattle.desk_changes.proofs.BlockPlanning.{entry-closes}
use Rattle.desk_changes.proofs.entering.enter_and_deal.Goals as goal

pub may_open-opened-requires : goal.may_open-opened-requires
may_open-opened-requires c =
    let hour = c.args.hour.now in
    let order = c.args.order.now in
    let entry = block_entry_of hour c.args.caller order in
    subst (AreOver hour.board.grid) (sym c.as_slice.ensures)
    (legs-over hour.board.grid hour.board.hour (hour.board.events ++ entry ∷ []) order.first order.last c.args.deal.now
    (others-follow hour.board.grid hour.board.hour hour.board.events entry (deal_events order.first order.last c.args.deal.now) c.requires.next))

pub enter_dealt_block-requires-clause-whole : goal.enter_dealt_block-requires-clause-whole
enter_dealt_block-requires-clause-whole c = entry-closes c.args.hour.now c.args.caller c.args.order.now c.args.deal.now c.requires.whole

pub sweep_if-requires-clause-quiet : goal.sweep_if-requires-clause-quiet
sweep_if-requires-clause-quiet c = λ none.
    let hour = c.args.hour.now in
    let board = hour.board in
    let order = c.args.order.now in
    subst (λ (h : HourState). HasNoLeg h.board.grid h.board.hour h.board.events) (sym c.in_ok-enter_dealt_block.ensures.made)
    (entry-quiet board.hour board.events board.grid (next_name board.events board.hour) c.args.caller order order.first order.last c.args.deal.now c.requires.next
    (ap (may_open (hour_room board.events board.hour)) (sym c.as_slice.ensures) ∙ sym c.may_open-opened.ensures ∙ none)
    (settled-quiet hour c.args.grid.now c.requires.grid c.requires.unplanned c.requires.quiet))
