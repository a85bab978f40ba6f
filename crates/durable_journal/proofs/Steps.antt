-- What a crash leaves in each step of an append.
use Rattle.std.proofs.Common.{◌≡◌, ◌⊎◌, inl, inr, ℕ, ◌+◌, ◌≤◌, List, [], ◌∷◌, ◌++◌, length, drop, Option, Some, None, Result, Ok, Err, OnOk, refl, sym, subst, arith}
use Rattle.disk_model.specs.Contents.{Contents, FailedWrite, settled, written, overwritten}
use Rattle.disk_model.specs.Moments.{MayLeave}
use Rattle.disk_model.proofs.Images.{IsOnePending, settled_image, pending_image, written_pending, failed_pending}
use Rattle.disk_model.proofs.Moments.{told_image}
use Rattle.durable_journal.specs.Stored.{IsLine, behind_gate, EndsAt, StoresLines}
use Rattle.durable_journal.specs.Resting.{HoldsLines}
use Rattle.durable_journal.specs.Appending.{end_behind, StoresOldOrNew}
use Rattle.durable_journal.proofs.Gates.{within, torn_behind, staged, staged_ends, staged_length, torn_gate, opened_ends}

-- a disk tells its contents or it does not
pub told_or_not : (contents : Option Contents) → (contents ≡ None) ⊎ ((told : Contents) × (contents ≡ Some told))
told_or_not None = inl refl
told_or_not (Some told) = inr (told, refl)

-- an image of a disk that holds lines stores them
pub held_image : (contents : Option Contents) (lines : List (List ℕ)) (place : ℕ) → HoldsLines contents lines place → (image : List ℕ) → MayLeave contents image → StoresLines image lines
held_image contents lines place holds image leaves =
    (place, inr (subst (λ (l : List ℕ). EndsAt l lines place) (sym (settled_image holds.bytes image (told_image contents (settled holds.bytes) holds.told image leaves))) holds.ends))

module _ (old : Option Contents) (lines : List (List ℕ)) (line piece : List ℕ) (place : ℕ) (is_line : IsLine line) (is_piece : piece ≡ behind_gate line ++ 0 ∷ []) (holds : HoldsLines old lines place) where
  -- each image that a crash may leave now stores the lines from before, or these and the new one
  abbrev pub Leaves : Option Contents → Type 0
  Leaves contents = (image : List ℕ) → MayLeave contents image → StoresOldOrNew lines line image

  abbrev pub with_line : List ℕ
  with_line = staged holds.bytes lines place holds.ends line piece is_line is_piece

  abbrev pub with_gate : List ℕ
  with_gate = overwritten with_line place (1 ∷ [])

  pub before_leaves : Leaves old
  before_leaves image leaves = inl (held_image old lines place holds image leaves)

  -- the line is being written
  behind_leaves : (contents : Option Contents) (told : Contents) → contents ≡ Some told → IsOnePending holds.bytes (place + 1) (length piece) told → Leaves contents
  behind_leaves contents told tells pending image leaves =
      let begin : place + 1 ≤ length holds.bytes = omega (arith, within holds.bytes lines place holds.ends) in
      inl (place, inr (torn_behind holds.bytes lines place holds.ends image (length piece) (pending_image holds.bytes (place + 1) (length piece) told image begin pending (told_image contents told tells image leaves))))

  pub line_written : (contents : Option Contents) → contents ≡ Some (written (settled holds.bytes) (place + 1) piece) → Leaves contents
  line_written contents tells = behind_leaves contents (written (settled holds.bytes) (place + 1) piece) tells (written_pending holds.bytes (place + 1) piece)

  pub line_failed : (contents : Option Contents) → (torn : Contents) × (contents ≡ Some torn) × FailedWrite (place + 1) (length piece) (settled holds.bytes) torn → Leaves contents
  line_failed contents failed = behind_leaves contents failed.0 failed.1 (failed_pending holds.bytes (place + 1) (length piece) failed.0 failed.2)

  -- it is on the disk
  pub line_synced : (contents : Option Contents) → contents ≡ Some (settled with_line) → Leaves contents
  line_synced contents tells image leaves =
      inl (
        place,
        inr (subst (λ (l : List ℕ). EndsAt l lines place) (sym (settled_image with_line image (told_image contents (settled with_line) tells image leaves)))
            (staged_ends holds.bytes lines place holds.ends line piece is_line is_piece)),
      )

  -- the gate is being opened
  gate_leaves : (contents : Option Contents) (told : Contents) → contents ≡ Some told → IsOnePending with_line place 1 told → Leaves contents
  gate_leaves contents told tells pending image leaves =
      let begin : place ≤ length with_line = omega (arith, staged_length holds.bytes lines place holds.ends line piece is_line is_piece) in
      torn_gate holds.bytes lines place holds.ends line piece is_line is_piece image (pending_image with_line place 1 told image begin pending (told_image contents told tells image leaves))

  pub gate_written : (contents : Option Contents) → contents ≡ Some (written (settled with_line) place (1 ∷ [])) → Leaves contents
  gate_written contents tells = gate_leaves contents (written (settled with_line) place (1 ∷ [])) tells (written_pending with_line place (1 ∷ []))

  pub gate_failed : (contents : Option Contents) → (torn : Contents) × (contents ≡ Some torn) × FailedWrite place 1 (settled with_line) torn → Leaves contents
  gate_failed contents failed = gate_leaves contents failed.0 failed.1 (failed_pending with_line place 1 failed.0 failed.2)

  -- it is open on the disk
  pub gate_ends : EndsAt with_gate (lines ++ line ∷ []) (end_behind place line)
  gate_ends = opened_ends holds.bytes lines place holds.ends line piece is_line is_piece

  pub gate_synced : (contents : Option Contents) → contents ≡ Some (settled with_gate) → Leaves contents
  gate_synced contents tells image leaves =
      inr (end_behind place line, inr (subst (λ (l : List ℕ). EndsAt l (lines ++ line ∷ []) (end_behind place line)) (sym (settled_image with_gate image (told_image contents (settled with_gate) tells image leaves))) gate_ends))

  pub gate_holds : (contents : Option Contents) → contents ≡ Some (settled with_gate) → HoldsLines contents (lines ++ line ∷ []) (end_behind place line)
  gate_holds contents tells = record { bytes = with_gate; told = tells; ends = gate_ends }

-- What a crash leaves while a closed gate is written to a disk of at most one byte.
abbrev pub LeavesNone : Option Contents → Type 0
LeavesNone contents = (image : List ℕ) → MayLeave contents image → StoresLines image []

pub short_stores : (image : List ℕ) → length image ≤ 1 → StoresLines image []
short_stores image short = (0, inl (record { short = short; none = refl; start = refl }))

module _ (bytes : List ℕ) (short : length bytes ≤ 1) where
  abbrev pub gated : List ℕ
  gated = overwritten bytes 0 (0 ∷ [])

  pub short_leaves : (contents : Option Contents) → contents ≡ Some (settled bytes) → LeavesNone contents
  short_leaves contents tells image leaves =
      subst (λ (l : List ℕ). StoresLines l []) (sym (settled_image bytes image (told_image contents (settled bytes) tells image leaves))) (short_stores bytes short)

  gating_leaves : (contents : Option Contents) (told : Contents) → contents ≡ Some told → IsOnePending bytes 0 1 told → LeavesNone contents
  gating_leaves contents told tells pending image leaves =
      let torn = pending_image bytes 0 1 told image (omega arith) pending (told_image contents told tells image leaves) in
      short_stores image (omega (arith, torn.no_longer))

  pub gating_written : (contents : Option Contents) → contents ≡ Some (written (settled bytes) 0 (0 ∷ [])) → LeavesNone contents
  gating_written contents tells = gating_leaves contents (written (settled bytes) 0 (0 ∷ [])) tells (written_pending bytes 0 (0 ∷ []))

  pub gating_failed : (contents : Option Contents) → (torn : Contents) × (contents ≡ Some torn) × FailedWrite 0 1 (settled bytes) torn → LeavesNone contents
  gating_failed contents failed = gating_leaves contents failed.0 failed.1 (failed_pending bytes 0 1 failed.0 failed.2)

  gated_ends : EndsAt gated [] 0
  gated_ends = record { each = tt; gate = 0; behind = drop 1 bytes; whole = refl; shut = omega arith; end = refl }

  pub gated_holds : (contents : Option Contents) → contents ≡ Some (settled gated) → HoldsLines contents [] 0
  gated_holds contents tells = record { bytes = gated; told = tells; ends = gated_ends }

  pub gated_leaves : (contents : Option Contents) → contents ≡ Some (settled gated) → LeavesNone contents
  gated_leaves contents tells image leaves = held_image contents [] 0 (gated_holds contents tells) image leaves

-- settled bytes store what they store
pub settled_leaves : (bytes : List ℕ) (lines : List (List ℕ)) → StoresLines bytes lines → (contents : Option Contents) → contents ≡ Some (settled bytes)
    → (image : List ℕ) → MayLeave contents image → StoresLines image lines
settled_leaves bytes lines stores contents tells image leaves =
    subst (λ (l : List ℕ). StoresLines l lines) (sym (settled_image bytes image (told_image contents (settled bytes) tells image leaves))) stores

-- a fact that holds whatever the result is
pub always_ok : {T E : Type 0} (result : Result T E) (P : Type 0) → P → OnOk result P
always_ok (Ok value) P fact = fact
always_ok (Err error) P fact = tt
