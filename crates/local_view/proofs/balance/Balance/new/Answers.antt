use Rattle.std.proofs.lemmas.List.{get_or-replicate}
use Rattle.local_view.proofs.balance.Balance.new.Goals as goal

pub returns : goal.returns
returns c = λ zone small. get_or-replicate 64 zone 2199023255552 0 small
