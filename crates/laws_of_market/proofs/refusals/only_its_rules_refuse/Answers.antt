use Rattle.laws_of_market.proofs.Table.{refused-by_table}
use Rattle.laws_of_market.proofs.refusals.only_its_rules_refuse.Goals as goal

pub returns : goal.returns
returns c = λ setup events caller given broken within is. refused-by_table setup events caller given broken within is
