-- An image that is told as damaged is.
use Rattle.std.proofs.Common.{◌≡◌, rules, subst}
use Rattle.durable_journal.specs.Stored.{IsDamaged}
use Rattle.stored_journal.proofs.images.open_written.Goals as goal

pub returns-in-Err-BadImage-clause-bad : goal.returns-in-Err-BadImage-clause-bad
returns-in-Err-BadImage-clause-bad g c = λ place same empty.
    let equal : c.in-Err-BadImage.place ≡ place = cc in
    subst (IsDamaged c.args.image.now) equal (c.in-Err-BadImage.ensures.bad c.in-Err-BadImage.place (search rules) empty)
