use Rattle.std.proofs.Common.{arith}
use Rattle.journal_front.proofs.Seated.{looking_by}
use Rattle.journal_front.proofs.places.look.Goals as goal

pub load-requires : goal.load-requires
load-requires c =
    let word = c.args.word.now in
    let place = c.args.place.now in
    (c.requires.place, omega (arith, c.requires.word), looking_by word.key word.table_id.slots place.id place.me c.requires.follows.1 c.requires.follows.0)
