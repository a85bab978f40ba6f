use Rattle.journal_front.proofs.front.Front.commit.Given as goal

abbrev pub ghosts-add : goal.ghosts-add
ghosts-add g a = record { entry = a.entry.now }
