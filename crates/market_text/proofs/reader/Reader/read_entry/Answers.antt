use Rattle.std.proofs.Common.{◌∷◌, [], refl}
use Rattle.market_text.proofs.StepLemmas.{entry_taken, taken}
use Rattle.market_text.proofs.reader.Reader.read_entry.Goals as goal

pub returns-clause-exact : goal.returns-clause-exact
returns-clause-exact c =
    taken (entry_taken c.args.verb c.args.caller c.args.self.now _ c.in-Ok.command (c.in-Ok.command ∷ []) c.in-Ok.ensures.is refl)
    c.take_one.ensures.exact
