use Rattle.laws_of_runs.proofs.Nexts.{printed-journals}
use Rattle.laws_of_runs.proofs.history.printed_journals_are_one_history.Goals as goal

pub returns : goal.returns
returns c = printed-journals
