use Rattle.std.proofs.Common.{arith}
use Rattle.market_text.proofs.ReadingLemmas.{with_turns}
use Rattle.market_text.proofs.reader.Reader.take.Goals as goal

pub returns-clause-kept : goal.returns-clause-kept
returns-clause-kept c =
    rw (c.in_ok-give.ensures, c.in_ok-add_turns.ensures, c.len-3.ensures)
    (with_turns c.args.self.now c.args.caller c.args.commands c.requires.reading c.requires.known (omega arith))
