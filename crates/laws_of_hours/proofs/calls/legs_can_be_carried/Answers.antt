use Rattle.laws_of_hours.proofs.Callable.{legs}
use Rattle.laws_of_hours.proofs.calls.legs_can_be_carried.Goals as goal

pub returns : goal.returns
returns c = legs
