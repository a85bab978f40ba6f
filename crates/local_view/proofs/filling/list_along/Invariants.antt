use Rattle.market_model.specs.Board.{resting_line}
use Rattle.local_view.proofs.filling.list_along.Given as goal

-- along the board's line
abbrev pub ghost-along : goal.ghost-along
ghost-along g a = resting_line g.of.board g.of.part g.of.side

abbrev pub ghost-are_certified : goal.ghost-are_certified
ghost-are_certified g a = resting_line g.of.board g.of.part g.of.side
