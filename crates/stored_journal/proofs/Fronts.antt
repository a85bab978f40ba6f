-- Images that store the first of some lines.
use Rattle.std.proofs.Common.{◌≡◌, ◌∙◌, inl, inr, ℕ, ◌≤◌, List, [], ◌∷◌, ◌++◌, append_assoc, length, length-append, refl, sym, ap, arith}
use Rattle.std.proofs.lemmas.List.{append-nil}
use Rattle.durable_journal.specs.Appending.{StoresOldOrNew}
use Rattle.durable_journal.specs.Stored.{StoresLines, block, blocks, image_of}
use Rattle.stored_journal.specs.Lines.{StoresFront}

-- lines are the first of others
pub record IsFront (lines others : List (List ℕ)) : Type 0 where
  pub rest : List (List ℕ)
  pub whole : others ≡ lines ++ rest

pub front-same : (lines : List (List ℕ)) → IsFront lines lines
front-same lines = record { rest = []; whole = sym (append-nil lines) }

pub front-one : (lines : List (List ℕ)) (line : List ℕ) → IsFront lines (lines ++ line ∷ [])
front-one lines line = record { rest = line ∷ []; whole = refl }

-- an image that stores lines stores the first of those of which they are
pub stores-front : (lines others : List (List ℕ)) (image : List ℕ) → IsFront lines others → StoresLines image lines → StoresFront others image
stores-front lines others image front stores = record { front = lines; rest = front.rest; whole = front.whole; stores = stores }

pub front-more : (lines others : List (List ℕ)) (image : List ℕ) → IsFront lines others → StoresFront lines image → StoresFront others image
front-more lines others image front stores = record {
  front = stores.front;
  rest = stores.rest ++ front.rest;
  whole = front.whole ∙ ap (λ ls. ls ++ front.rest) stores.whole ∙ append_assoc stores.front stores.rest front.rest;
  stores = stores.stores;
}

-- so one that stores lines, or these and a new one
pub old-or-new : (lines : List (List ℕ)) (line image : List ℕ) → StoresOldOrNew lines line image → StoresFront (lines ++ line ∷ []) image
old-or-new lines line image (inl old) = stores-front lines (lines ++ line ∷ []) image (front-one lines line) old
old-or-new lines line image (inr new) = stores-front (lines ++ line ∷ []) (lines ++ line ∷ []) image (front-same (lines ++ line ∷ [])) new

blocks-append : (lines more : List (List ℕ)) → blocks (lines ++ more) ≡ blocks lines ++ blocks more
blocks-append [] more = refl
blocks-append (line ∷ lines) more = ap (λ bytes. block line ++ bytes) (blocks-append lines more) ∙ sym (append_assoc (block line) (blocks lines) (blocks more))

-- the image of the first of some lines is no longer than that of all
pub front-shorter : (lines others : List (List ℕ)) → IsFront lines others → length (image_of lines) ≤ length (image_of others)
front-shorter lines others front =
    let parts = ap (λ ls. length (blocks ls)) front.whole ∙ ap length (blocks-append lines front.rest) ∙ length-append (blocks lines) (blocks front.rest) in
    omega (arith, parts, length-append (blocks lines) (0 ∷ []), length-append (blocks others) (0 ∷ []))
