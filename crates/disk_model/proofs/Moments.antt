-- What a crash leaves in a run of calls, call by call.
use Rattle.std.proofs.Common.{◌≡◌, ◌⊎◌, inl, inr, ⊎_elim, ℕ, ◌≤◌, List, Option, Some, subst, arith}
use Rattle.disk_model.specs.Contents.{Contents, IsImage}
use Rattle.disk_model.specs.Moments.{MayLeave, Elapses, LeavesOnly}

-- what a crash now may leave, where the contents are told
pub told_image : (contents : Option Contents) (told : Contents) → contents ≡ Some told → (image : List ℕ) → MayLeave contents image → IsImage told image
told_image contents told tells image leaves = subst (λ (o : Option Contents). MayLeave o image) tells leaves

module _ {D : Type 0} (moment : D → ℕ) (left_since : D → ℕ → List ℕ → Type 0) where
  -- before the first call
  pub started : (old : D) (P : List ℕ → Type 0) → ((image : List ℕ) → left_since old (moment old) image → P image) → LeavesOnly moment left_since old old P
  started old P here = record { later = omega arith; each = here; before = λ t image le left. inl left }

  -- one call more, after which a crash leaves what has P
  pub goes_on : (old mid new : D) (P : List ℕ → Type 0) (contents : Option Contents) → LeavesOnly moment left_since old mid P
      → Elapses (moment mid) (moment new) (left_since mid) (left_since new) contents
      → ((image : List ℕ) → MayLeave contents image → P image) → LeavesOnly moment left_since old new P
  goes_on old mid new P contents so_far time here = record {
    later = omega (arith, so_far.later, time.later);
    each = λ image left. ⊎_elim (so_far.each image) (here image) (time.nothing_else (moment old) image so_far.later left);
    before = λ t image le left. ⊎_elim (so_far.before t image le) (λ now. inr (here image now)) (time.nothing_else t image (omega (arith, le, so_far.later)) left);
  }

  -- a run after a run
  pub runs_on : (old mid new : D) (P : List ℕ → Type 0) → LeavesOnly moment left_since old mid P → LeavesOnly moment left_since mid new P → LeavesOnly moment left_since old new P
  runs_on old mid new P first second = record {
    later = omega (arith, first.later, second.later);
    each = λ image left. ⊎_elim (first.each image) (λ here. here) (second.before (moment old) image first.later left);
    before = λ t image le left. ⊎_elim (first.before t image le) (λ here. inr here) (second.before t image (omega (arith, le, first.later)) left);
  }

  -- what has P has Q as well
  pub leaves_more : (old new : D) (P Q : List ℕ → Type 0) → ((image : List ℕ) → P image → Q image) → LeavesOnly moment left_since old new P → LeavesOnly moment left_since old new Q
  leaves_more old new P Q more run = record {
    later = run.later;
    each = λ image left. more image (run.each image left);
    before = λ t image le left. ⊎_elim (λ was. inl was) (λ has. inr (more image has)) (run.before t image le left);
  }
