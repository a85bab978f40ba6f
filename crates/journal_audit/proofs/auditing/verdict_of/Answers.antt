use Rattle.std.proofs.Common.{arith}
use Rattle.journal_audit.proofs.Courses.{entries-few}
use Rattle.journal_audit.proofs.auditing.verdict_of.Goals as goal

pub next_place-place-requires : goal.next_place-place-requires
next_place-place-requires c =
    let few = entries-few c.args.session.now c.requires.session c.args.course c.requires.course in
    omega (arith, few)
