use Rattle.std.proofs.Common.{refl}
use Rattle.market_model.specs.declared.event.Event.TheVariants as event
use Rattle.laws_of_boards.proofs.Stays.{never-quiet}
use Rattle.laws_of_boards.proofs.quiet.gates_stay_quiet.Goals as goal

pub returns : goal.returns
returns c = λ setup before hour phase contract. never-quiet setup before (event.Gated hour phase) contract tt (λ quarter arc. refl)
