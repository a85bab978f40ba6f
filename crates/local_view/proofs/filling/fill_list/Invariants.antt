use Rattle.local_view.proofs.filling.fill_list.Given as goal

-- of the line of the board
abbrev pub ghost-list_certified : goal.ghost-list_certified
ghost-list_certified g a = record { board = g.board; part = a.line.part; side = a.line.side }
