use Rattle.market_text.proofs.ReadingLemmas.{border_added}
use Rattle.market_text.proofs.reader.Reader.read_border.Goals as goal

pub returns-clause-kept : goal.returns-clause-kept
returns-clause-kept c =
    border_added c.args.self.now _ c.in-Some.ends c.requires c.in-Some.ensures.few c.in-Some.ensures.one c.in-Some.ensures.other c.in_ok-push.ensures.ok
