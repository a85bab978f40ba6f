use Rattle.local_view.proofs.filling.list_certified.Given as goal

-- of the same line
abbrev pub ghost-list_along : goal.ghost-list_along
ghost-list_along g a = g.of
