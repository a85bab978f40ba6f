use Rattle.local_view.proofs.filling.fill_over.Given as goal

-- of the same board
abbrev pub ghost-fill_zones : goal.ghost-fill_zones
ghost-fill_zones g a = record { board = g.of_board; part = a.line.part; side = a.line.side }
