use Rattle.laws_of_hours.proofs.OpenCounts.{all_rest}
use Rattle.laws_of_hours.proofs.counts.all_that_rests_is_in_the_books.Goals as goal

pub returns : goal.returns
returns c = all_rest
