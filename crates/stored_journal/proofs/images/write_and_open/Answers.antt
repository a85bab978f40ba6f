-- The image that was written is opened.
use Rattle.std.proofs.Common.{◌∙◌}
use Rattle.disk_model.specs.Contents.{settled}
use Rattle.stored_journal.proofs.Results.{if-ok}
use Rattle.stored_journal.proofs.images.write_and_open.Goals as goal

pub returns-clause-lines : goal.returns-clause-lines
returns-clause-lines g c = if-ok c.open_image.result _ _
    (λ opened stores empty. stores (settled c.args.image.now) (c.in_ok-write_image.ensures.written (c.reserve.ensures.contents ∙ empty)))
    c.open_image.ensures.lines

pub returns-clause-bad : goal.returns-clause-bad
returns-clause-bad g c = λ place same empty.
    (c.open_image.ensures.bad (settled c.args.image.now) place (c.in_ok-write_image.ensures.written (c.reserve.ensures.contents ∙ empty)) same).0
