use Rattle.std.proofs.Common.{[]}
use Rattle.laws_of_market.proofs.Without.{run-same}
use Rattle.laws_of_market.proofs.halves.halves_change_nothing_else.Goals as goal

pub returns : goal.returns
returns c = λ setup turns is_setup name_none. run-same setup turns [] (λ e h. absurd h) name_none
