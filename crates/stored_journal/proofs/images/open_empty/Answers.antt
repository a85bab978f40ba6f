-- Nothing is stored on an empty disk.
use Rattle.std.proofs.Common.{[], ℕ, List, rules, subst}
use Rattle.disk_model.specs.Contents.{settled}
use Rattle.durable_journal.specs.Resting.{HoldsLines}
use Rattle.stored_journal.proofs.Empties.{empty-lines, empty-stores, empty-whole}
use Rattle.stored_journal.proofs.images.open_empty.Goals as goal

pub returns-in-Ok-clause-holds : goal.returns-in-Ok-clause-holds
returns-in-Ok-clause-holds g c = λ empty.
    subst (λ (lines : List (List ℕ)). HoldsLines (g.D.Disk.contents c.open_image.new.disk) lines c.in-Ok.at)
    (empty-lines _ _ (c.in-Ok.ensures.lines (settled []) empty)) (c.in-Ok.ensures.holds (settled []) empty)

pub returns-in-Ok-clause-any_moment : goal.returns-in-Ok-clause-any_moment
returns-in-Ok-clause-any_moment g c = λ empty. c.open_image.ensures.any_moment [] [] empty empty-stores

pub returns-in-Err-DiskFault-clause-any_moment : goal.returns-in-Err-DiskFault-clause-any_moment
returns-in-Err-DiskFault-clause-any_moment g c = λ empty. c.open_image.ensures.any_moment [] [] empty empty-stores

pub returns-in-Err-BadImage-clause-any_moment : goal.returns-in-Err-BadImage-clause-any_moment
returns-in-Err-BadImage-clause-any_moment g c = λ empty. c.open_image.ensures.any_moment [] [] empty empty-stores

pub returns-in-Err-BadImage-clause-bad : goal.returns-in-Err-BadImage-clause-bad
returns-in-Err-BadImage-clause-bad g c = λ place same empty.
    empty-whole c.in-Err-BadImage.place (c.in-Err-BadImage.ensures.bad (settled []) c.in-Err-BadImage.place empty (search rules)).0

pub returns-in-Err-NoMemory-clause-any_moment : goal.returns-in-Err-NoMemory-clause-any_moment
returns-in-Err-NoMemory-clause-any_moment g c = λ empty. c.open_image.ensures.any_moment [] [] empty empty-stores
