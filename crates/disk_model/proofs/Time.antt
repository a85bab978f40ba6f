-- Time goes on for a disk in memory.
use Rattle.std.proofs.Common.{◌≡◌, ◌⊎◌, inl, inr, ⊎_elim, ℕ, zero, suc, ◌≤◌, List, [], ◌∷◌, ◌++◌, length, drop, Some, refl, sym, subst, arith, length-append}
use Rattle.disk_model.specs.Contents.{Contents, IsImage}
use Rattle.disk_model.specs.Moments.{Elapses}
use Rattle.disk_model.specs.Past.{HadImage, LeftSince}

keeps : (past : List Contents) (old : Contents) (image : List ℕ) → HadImage past image → HadImage (past ++ old ∷ []) image
keeps [] old image had = absurd had
keeps (first ∷ past) old image (inl here) = inl here
keeps (first ∷ past) old image (inr there) = inr (keeps past old image there)

adds : (past : List Contents) (old : Contents) (image : List ℕ) → HadImage (past ++ old ∷ []) image → HadImage past image ⊎ IsImage old image
adds [] old image (inl here) = inr here
adds [] old image (inr none) = absurd none
adds (first ∷ past) old image (inl here) = inl (inl here)
adds (first ∷ past) old image (inr there) = ⊎_elim (λ had. inl (inr had)) (λ new. inr new) (adds past old image there)

newest : (past : List Contents) (old : Contents) (image : List ℕ) → IsImage old image → HadImage (past ++ old ∷ []) image
newest [] old image is = inl is
newest (first ∷ past) old image is = inr (newest past old image is)

drop_push : (t : ℕ) (past : List Contents) (old : Contents) → t ≤ length past → drop t (past ++ old ∷ []) ≡ drop t past ++ old ∷ []
drop_push zero past old le = refl
drop_push (suc t) [] old le = absurd (omega arith)
drop_push (suc t) (first ∷ past) old le = drop_push t past old (omega arith)

elapses_push : (past : List Contents) (old new : Contents) → Elapses (length past) (length (past ++ old ∷ [])) (LeftSince past old) (LeftSince (past ++ old ∷ []) new) (Some new)
elapses_push past old new = record {
  later = omega (arith, length-append past (old ∷ []));
  nothing_else = λ t image le left. ⊎_elim (λ now. inr now) (λ had. inl (was t image (adds (drop t past) old image (subst (λ (l : List Contents). HadImage l image) (drop_push t past old le) had)))) left;
  keeps = λ t image le left. inr (subst (λ (l : List Contents). HadImage l image) (sym (drop_push t past old le)) (⊎_elim (λ now. newest (drop t past) old image now) (keeps (drop t past) old image) left));
}
  where
    was : (t : ℕ) (image : List ℕ) → HadImage (drop t past) image ⊎ IsImage old image → LeftSince past old t image
    was t image (inl had) = inr had
    was t image (inr now) = inl now

-- the contents up to now are past, and others have come
pub elapses_to : (past later : List Contents) (old new next : Contents) → later ≡ past ++ old ∷ [] → next ≡ new → Elapses (length past) (length later) (LeftSince past old) (LeftSince later next) (Some next)
elapses_to past later old new next same is =
    subst (λ (l : List Contents). Elapses (length past) (length l) (LeftSince past old) (LeftSince l next) (Some next)) (sym same) (elapses_push past old next)
