use Rattle.std.proofs.Common.{arith}
use Rattle.journal_front.proofs.Turns.{splitting}
use Rattle.journal_front.proofs.places.deal.Goals as goal

pub split_seat-requires : goal.split_seat-requires
split_seat-requires c =
    (c.requires.place, omega (arith, c.requires.word), splitting c.args.word.now.key c.args.lead.now.id c.args.lead.now.me.0 c.requires.lead.leads c.requires.some)
