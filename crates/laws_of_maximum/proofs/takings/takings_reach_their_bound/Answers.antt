use Rattle.laws_of_maximum.proofs.Obtained.{reach-bound}
use Rattle.laws_of_maximum.proofs.takings.takings_reach_their_bound.Goals as goal

pub returns : goal.returns
returns c = λ setup events caller order is_setup fit enters flat. reach-bound setup is_setup events fit caller order enters flat
