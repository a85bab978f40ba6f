use Rattle.durable_journal.proofs.Parsing.{damage_unique, damaged_stores_none}
use Rattle.durable_journal.proofs.laws.damage_is_unique.Goals as goal

pub returns : goal.returns
returns c = λ image place damaged. (λ other. damage_unique image place other damaged, damaged_stores_none image place damaged)
