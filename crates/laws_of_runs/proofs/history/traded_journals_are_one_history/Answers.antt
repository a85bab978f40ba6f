use Rattle.laws_of_runs.proofs.Nexts.{traded-journals}
use Rattle.laws_of_runs.proofs.history.traded_journals_are_one_history.Goals as goal

pub returns : goal.returns
returns c = traded-journals
