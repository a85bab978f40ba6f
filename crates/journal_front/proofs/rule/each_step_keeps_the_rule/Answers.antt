use Rattle.journal_front.proofs.Turns.{committing, joining, learning, looking, making, splitting}
use Rattle.journal_front.proofs.rule.each_step_keeps_the_rule.Goals as goal

pub returns : goal.returns
returns c = record { making = making; splitting = splitting; joining = joining; learning = learning; committing = committing; looking = looking }
