use Rattle.market_spelling.proofs.NameLemmas.{name_test}
use Rattle.market_spelling.proofs.words.spells_name.Goals as goal

pub returns : goal.returns
returns c = name_test c.args.bytes.now c.is_name.result c.is_name.ensures.0 c.is_name.ensures.1
