use Rattle.local_view.proofs.filling.fill_lists.Given as goal

-- of what the board stands for
abbrev pub ghost-fill_over : goal.ghost-fill_over
ghost-fill_over g a = g.B.Board.state a.board.now
