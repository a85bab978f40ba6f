use Rattle.local_view.proofs.filling.make_list.Given as goal

-- of the same board
abbrev pub ghost-fill_list : goal.ghost-fill_list
ghost-fill_list g a = g.board
