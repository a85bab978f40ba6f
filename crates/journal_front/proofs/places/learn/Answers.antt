use Rattle.std.proofs.Common.{arith}
use Rattle.journal_front.proofs.Seated.{learning_by}
use Rattle.journal_front.proofs.places.learn.Goals as goal

pub load-requires : goal.load-requires
load-requires c =
    let word = c.args.word.now in
    let lead = c.args.lead.now in
    (c.requires.place, omega (arith, c.requires.word), learning_by word.key word.table_id.slots lead.id lead.me c.requires.lead.holds_none c.requires.lead.leads)
