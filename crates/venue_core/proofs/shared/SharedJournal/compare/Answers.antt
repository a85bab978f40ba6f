use Rattle.venue_core.proofs.Sharing.{one-journal, same-held}
use Rattle.venue_core.proofs.shared.SharedJournal.compare.Goals as goal

pub returns-clause-shared : goal.returns-clause-shared
returns-clause-shared c = λ i. record { seat = c.compare.ensures.journal i; journal = c.args.self.now.journal; passes = c.args.self.now.passes }

pub returns-clause-held : goal.returns-clause-held
returns-clause-held c = same-held c.args.held.now c.compare.new.hours c.compare.ensures.rest c.compare.ensures.desks

pub returns-clause-journal : goal.returns-clause-journal
returns-clause-journal c =
    one-journal c.args.front.now c.args.self.now.seat c.args.self.now.journal c.args.held.now.seats c.requires.shared c.entries.ensures.journal c.compare.ensures.current
