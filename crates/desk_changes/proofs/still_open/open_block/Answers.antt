use Rattle.std.proofs.Common.{◌∙◌, Some, None, sym}
use Rattle.desk_changes.proofs.Found.{block-told}
use Rattle.desk_changes.proofs.still_open.open_block.Goals as goal

pub returns-in_err-block : goal.returns-in_err-block
returns-in_err-block c =
    c.from_residual.ensures
    ∙ sym (block-told c.args.hour.now.board.grid c.args.hour.now.board.hour c.args.hour.now.board.events c.requires.board.stands c.args.name c.requires.hour 0 c.requires.entered
    c.blocks-2.result.now c.get.result None c.blocks-2.ensures c.get.ensures c.in_err-block.was)

pub returns : goal.returns
returns c =
    sym (block-told c.args.hour.now.board.grid c.args.hour.now.board.hour c.args.hour.now.board.events c.requires.board.stands c.args.name c.requires.hour 0 c.requires.entered
    c.blocks-2.result.now c.get.result (Some c.in_ok-block.block) c.blocks-2.ensures c.get.ensures c.in_ok-block.was)
