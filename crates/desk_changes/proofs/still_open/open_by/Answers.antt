use Rattle.std.proofs.Common.{◌∙◌, ap, sym}
use Rattle.desk_changes.specs.StillOpen.{open_by, open_one}
use Rattle.desk_changes.proofs.Found.{block-entered, order-entered}
use Rattle.desk_changes.proofs.still_open.open_by.Goals as goal

pub number_of-requires : goal.number_of-requires
number_of-requires c = record {
  known = (order-entered c.args.hour.now.board.grid c.args.hour.now.board.hour c.args.hour.now.board.events c.requires.board.stands c.args.event.now
      c.in-Entered.name c.in-Entered.caller c.in-Entered.order c.in-Entered.is c.requires.among).known;
}

pub open_order-requires-clause-hour : goal.open_order-requires-clause-hour
open_order-requires-clause-hour c =
    (order-entered c.args.hour.now.board.grid c.args.hour.now.board.hour c.args.hour.now.board.events c.requires.board.stands c.args.event.now
    c.in-Entered.name c.in-Entered.caller c.in-Entered.order c.in-Entered.is c.requires.among).in_hour

pub open_order-requires-clause-entered : goal.open_order-requires-clause-entered
open_order-requires-clause-entered c =
    (order-entered c.args.hour.now.board.grid c.args.hour.now.board.hour c.args.hour.now.board.events c.requires.board.stands c.args.event.now
    c.in-Entered.name c.in-Entered.caller c.in-Entered.order c.in-Entered.is c.requires.among).entered

pub open_block-requires-clause-hour : goal.open_block-requires-clause-hour
open_block-requires-clause-hour c =
    (block-entered c.args.hour.now.board.grid c.args.hour.now.board.hour c.args.hour.now.board.events c.requires.board.stands c.args.event.now
    c.in-EnteredBlock.name c.in-EnteredBlock.caller c.in-EnteredBlock.order c.in-EnteredBlock.is c.requires.among).0

pub open_block-requires-clause-entered : goal.open_block-requires-clause-entered
open_block-requires-clause-entered c =
    (block-entered c.args.hour.now.board.grid c.args.hour.now.board.hour c.args.hour.now.board.events c.requires.board.stands c.args.event.now
    c.in-EnteredBlock.name c.in-EnteredBlock.caller c.in-EnteredBlock.order c.in-EnteredBlock.is c.requires.among).1

pub returns-in-Entered : goal.returns-in-Entered
returns-in-Entered c =
    c.open_order.ensures ∙ ap (open_one c.args.hour.now.board.events c.in-Entered.name) c.number_of.ensures.number
    ∙ ap (open_by c.args.hour.now.board.events) (sym c.in-Entered.is)

pub returns-in-EnteredBlock : goal.returns-in-EnteredBlock
returns-in-EnteredBlock c = c.open_block.ensures ∙ ap (open_by c.args.hour.now.board.events) (sym c.in-EnteredBlock.is)
