use Rattle.std.proofs.Common.{◌∙◌, ap}
use Rattle.journal_front.specs.Seats.{hours_of}
use Rattle.tests_of_locks.proofs.Turns.{first-alone, touches-one}
use Rattle.tests_of_locks.proofs.pass_tests.Seats.commit_to_one.Goals as goal

pub commit-requires-clause-hours : goal.commit-requires-clause-hours
commit-requires-clause-hours g c =
    let seats = c.requires.seats in
    let desks = c.args.self.now.desks in
    ap hours_of (first-alone c.args.front.now seats.first seats.second desks.items c.pop.new.self.items desks.len seats.desks_are desks.ok.0 c.pop.ensures.rest)
    ∙ touches-one c.args.front.now.setup c.args.entry.now seats.traders c.requires.known c.requires.hours
