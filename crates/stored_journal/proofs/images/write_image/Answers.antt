-- What was written is all that the disk reads as.
use Rattle.std.proofs.Common.{◌≡◌, ◌∙◌, ℕ, ◌+◌, List, [], ◌++◌, Some, arith, ap, length, sym}
use Rattle.std.proofs.lemmas.Bool.Decides.{nat_tests}
use Rattle.std.proofs.lemmas.List.{append-nil, drop_all, nil_from_length}
use Rattle.disk_model.specs.Contents.{overwritten, settled, written}
use Rattle.stored_journal.proofs.Results.{on-ok}
use Rattle.stored_journal.proofs.images.write_image.Goals as goal
use Rattle.stored_journal.proofs.images.write_image.Goals.{then-not-is_empty+in_ok-write_at, else-not-is_empty}

over-nothing : (image : List ℕ) → overwritten [] 0 image ≡ image
over-nothing image = ap (λ rest. image ++ rest) (drop_all (0 + length image) [] (omega arith)) ∙ append-nil image

pub returns-clause-written : goal.returns-clause-written
returns-clause-written g c =
    let image = c.args.image.now in
    elim c.if-not-is_empty.branch [
      | then-not-is_empty+in_ok-write_at w ↦ on-ok c.sync.result _ _
          (λ synced empty. synced (written (settled []) 0 image) (ap g.D.Disk.contents w.disk-is ∙ w.in_ok-write_at.ensures.written (settled []) empty)
          ∙ ap (λ bytes. Some (settled bytes)) (over-nothing image))
          c.sync.ensures.synced
      | else-not-is_empty w ↦ on-ok c.sync.result _ _
          (λ synced empty.
          let none : length image ≡ 0 = grind (arith, nat_tests, w.if-not-is_empty, c.is_empty.ensures) in
          synced (settled []) (ap g.D.Disk.contents w.disk-is ∙ empty) ∙ ap (λ bytes. Some (settled bytes)) (sym (nil_from_length image none)))
          c.sync.ensures.synced
    ]
