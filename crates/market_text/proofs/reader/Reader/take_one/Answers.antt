use Rattle.std.proofs.Common.{◌∷◌, [], arith}
use Rattle.market_text.proofs.ReadingLemmas.{with_turns}
use Rattle.market_text.proofs.reader.Reader.take_one.Goals as goal

pub returns-clause-kept : goal.returns-clause-kept
returns-clause-kept c =
    rw (c.in_ok-give_one.ensures, c.in_ok-push.ensures.ok)
    (with_turns c.args.self.now c.args.caller (c.args.command ∷ []) c.requires.reading c.requires.known (omega arith))
