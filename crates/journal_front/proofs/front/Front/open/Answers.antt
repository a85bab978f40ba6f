use Rattle.journal_front.proofs.Turns.{making}
use Rattle.journal_front.proofs.front.Front.open.Goals as goal

pub of_words-requires : goal.of_words-requires
of_words-requires c = making c.args.setup.now
