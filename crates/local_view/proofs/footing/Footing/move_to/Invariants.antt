use Rattle.local_view.proofs.footing.Footing.move_to.Given as goal

-- of the same line
abbrev pub ghost-still_certified : goal.ghost-still_certified
ghost-still_certified g a = g.line
