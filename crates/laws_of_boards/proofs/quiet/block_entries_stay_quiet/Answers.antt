use Rattle.std.proofs.Common.{refl}
use Rattle.market_model.specs.declared.event.Event.TheVariants as event
use Rattle.laws_of_boards.proofs.Stays.{never-quiet}
use Rattle.laws_of_boards.proofs.quiet.block_entries_stay_quiet.Goals as goal

pub returns : goal.returns
returns c = λ setup before name caller order contract. never-quiet setup before (event.EnteredBlock name caller order) contract tt (λ quarter arc. refl)
