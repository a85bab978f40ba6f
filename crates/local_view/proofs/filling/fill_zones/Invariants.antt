use Rattle.market_model.specs.Board.{resting_line}
use Rattle.local_view.proofs.filling.fill_zones.Given as goal

-- the line of the board
abbrev pub ghost-move_to : goal.ghost-move_to
ghost-move_to g a = resting_line g.of.board g.of.part g.of.side

-- of the same board
abbrev pub ghost-list_zones : goal.ghost-list_zones
ghost-list_zones g a = g.of.board
