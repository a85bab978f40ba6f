-- The images of settled contents, and of those with one range pending.
use Rattle.std.proofs.Common.{◌≡◌, ◌⊎◌, inl, inr, ℕ, ◌+◌, ◌<◌, ◌≤◌, max, List, [], ◌∷◌, ◌++◌, length, take, drop, get_or, refl, sym, ◌∙◌, ap, subst, arith, length-drop}
use Rattle.std.proofs.lemmas.List.{length-take, get_or-take, get_or-drop, ext_get_or}
use Rattle.disk_model.specs.Contents.{Contents, IsImage, AreApart, FailedWrite, Torn, range, settled, written, greatest_end}

-- one image, the bytes as read
pub settled_image : (bytes image : List ℕ) → IsImage (settled bytes) image → image ≡ bytes
settled_image bytes image is =
    let same : length image ≡ length bytes = omega (arith, is.no_shorter, is.no_longer) in
    ext_get_or 0 image bytes same (λ k within. is.others k (omega arith) tt)

-- settled but for one range
pub record IsOnePending (bytes : List ℕ) (place count : ℕ) (contents : Contents) : Type 0 where
  pub synced : contents.synced ≡ bytes
  pub pending : contents.pending ≡ range place count ∷ []

pub written_pending : (bytes : List ℕ) (place : ℕ) (piece : List ℕ) → IsOnePending bytes place (length piece) (written (settled bytes) place piece)
written_pending bytes place piece = record { synced = refl; pending = refl }

pub failed_pending : (bytes : List ℕ) (place count : ℕ) (contents : Contents) → FailedWrite place count (settled bytes) contents → IsOnePending bytes place count contents
failed_pending bytes place count contents failed = record { synced = failed.synced; pending = failed.pending }

-- a crash may have torn that range
pub pending_image : (bytes : List ℕ) (place count : ℕ) (contents : Contents) (image : List ℕ) → place ≤ length bytes → IsOnePending bytes place count contents → IsImage contents image
    → Torn place count bytes image
pending_image bytes place count contents image begin one is =
    let end : greatest_end (length contents.synced) contents.pending ≡ max (length bytes) (place + count) =
    (λ i. greatest_end (length (one.synced i)) (one.pending i)) in
    let same_length = ap length one.synced in
    let short : length bytes ≤ length image = omega (arith, is.no_shorter) in
    let long : length image ≤ max (length bytes) (place + count) = omega (arith, is.no_longer) in
    let others : (k : ℕ) → k < length bytes → (k < place) ⊎ (place + count ≤ k) → get_or image k 0 ≡ get_or bytes k 0 =
    λ k within apart. is.others k (omega (arith, same_length)) (subst (AreApart k) (sym one.pending) (apart, tt)) ∙ ap (λ l. get_or l k 0) one.synced in
    let front_length : length (take place image) ≡ length (take place bytes) = omega (arith, length-take place image, length-take place bytes) in
    let back_length : length (drop (place + count) image) ≡ length (drop (place + count) bytes) = omega (arith, length-drop (place + count) image, length-drop (place + count) bytes) in
    record {
      before = ext_get_or 0 (take place image) (take place bytes) front_length (λ k within.
          let low : k < place = omega (arith, length-take place image) in
          get_or-take place image k 0 low ∙ others k (omega (arith, begin)) (inl low) ∙ sym (get_or-take place bytes k 0 low));
      behind = ext_get_or 0 (drop (place + count) image) (drop (place + count) bytes) back_length (λ k within.
          get_or-drop (place + count) image k 0 ∙ others (place + count + k) (omega (arith, length-drop (place + count) bytes)) (inr (omega arith)) ∙ sym (get_or-drop (place + count) bytes k 0));
      no_shorter = short;
      no_longer = long;
    }
