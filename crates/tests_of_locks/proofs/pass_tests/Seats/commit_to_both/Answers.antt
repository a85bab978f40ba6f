use Rattle.std.proofs.Common.{◌∙◌, ap}
use Rattle.journal_front.specs.Seats.{hours_of}
use Rattle.tests_of_locks.proofs.Turns.{touches-both}
use Rattle.tests_of_locks.proofs.pass_tests.Seats.commit_to_both.Goals as goal

pub commit-requires-clause-hours : goal.commit-requires-clause-hours
commit-requires-clause-hours c =
    ap hours_of c.requires.seats.desks_are ∙ touches-both c.args.front.now.setup c.args.entry.now c.requires.seats.traders c.requires.known c.requires.hours
