-- What was read is all that the disk reads as.
use Rattle.std.proofs.Common.{◌≡◌, ℕ, ◌≤◌, Vec, Global, length, sym, ◌∙◌, ap, arith}
use Rattle.std.proofs.lemmas.Bool.Decides.{nat_tests}
use Rattle.std.proofs.lemmas.List.{take_all, nil_from_length, with_items_is}
use Rattle.stored_journal.proofs.images.read_bytes.Goals as goal
use Rattle.stored_journal.proofs.images.read_bytes.Goals.{then-not-is_empty+in_ok-read_at, else-not-is_empty}

pub returns-clause-told : goal.returns-clause-told
returns-clause-told g c = λ told tells.
    let image = c.in_ok-image.image in
    let long : length told.bytes ≡ length image.items = omega (arith, (c.len.ensures.told told tells).0, c.in_ok-image.ensures.len, image.ok.0) in
    elim c.if-not-is_empty.branch [
      | then-not-is_empty+in_ok-read_at w ↦
          let enough : length told.bytes ≤ length w.as_mut_slice.result.now = omega (arith, ap length w.as_mut_slice.ensures.value) in
          let read : w.read_at.new.into ≡ told.bytes = w.in_ok-read_at.ensures.read told tells ∙ take_all (length w.as_mut_slice.result.now) told.bytes enough in
          ap (λ (v : Vec ℕ Global). v.items) w.image-is ∙ with_items_is image w.read_at.new.into (omega (arith, ap length read, image.ok.0)) ∙ read
      | else-not-is_empty w ↦
          let none : length image.items ≡ 0 = grind (arith, nat_tests, w.if-not-is_empty, c.is_empty.ensures, image.ok.0) in
          ap (λ (v : Vec ℕ Global). v.items) w.image-is ∙ nil_from_length image.items none ∙ sym (nil_from_length told.bytes (omega arith))
    ]
