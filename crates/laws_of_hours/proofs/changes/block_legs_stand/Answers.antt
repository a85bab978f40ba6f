use Rattle.laws_of_hours.proofs.Ranges.{block_legs}
use Rattle.laws_of_hours.proofs.changes.block_legs_stand.Goals as goal

pub returns : goal.returns
returns c = block_legs
