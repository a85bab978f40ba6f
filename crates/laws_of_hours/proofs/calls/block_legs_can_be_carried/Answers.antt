use Rattle.laws_of_hours.proofs.Callable.{block_legs}
use Rattle.laws_of_hours.proofs.calls.block_legs_can_be_carried.Goals as goal

pub returns : goal.returns
returns c = block_legs
