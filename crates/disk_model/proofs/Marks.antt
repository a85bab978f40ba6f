-- One more mark at the end of those of a disk.
use Rattle.std.proofs.Common.{◌≡◌, ℕ, ◌+◌, ◌≤◌, List, [], ◌∷◌, ◌++◌, length, drop, refl, sym, ◌∙◌, ap, arith, length-drop}
use Rattle.std.proofs.lemmas.List.{append-nil, take-append-le, drop-append-le, take_all, nil_from_length}
use Rattle.disk_model.specs.declared.mark.Mark.{Mark}
use Rattle.disk_model.specs.declared.mark.Mark.TheVariants as mark
use Rattle.disk_model.specs.Contents.{Contents, range, written}
use Rattle.disk_model.specs.RamInside.{after_mark, piece_length, total_length, contents_after, contents_before}

-- what stands behind a mark's own piece changes nothing for it
own_piece : (contents : Contents) (m : Mark) (pieces piece : List ℕ) → piece_length m ≤ length pieces
    → after_mark contents m (pieces ++ piece) ≡ after_mark contents m pieces
own_piece contents (mark.Written span) pieces piece enough =
    ap (λ (l : List ℕ). written contents span.place l) (take-append-le span.count pieces piece enough)
own_piece contents (mark.Failed span) pieces piece enough = refl
own_piece contents mark.Synced pieces piece enough = refl

pub after_more : (contents : Contents) (marks : List Mark) (pieces : List ℕ) (m : Mark) (piece : List ℕ) → length pieces ≡ total_length marks
    → contents_after contents (marks ++ m ∷ []) (pieces ++ piece) ≡ after_mark (contents_after contents marks pieces) m piece
after_more contents [] pieces m piece lengths =
    let none : pieces ≡ [] = nil_from_length pieces lengths in
    ap (λ (l : List ℕ). after_mark contents m (l ++ piece)) none
after_more contents (first ∷ marks) pieces m piece lengths =
    let enough : piece_length first ≤ length pieces = omega arith in
    let rest : length (drop (piece_length first) pieces) ≡ total_length marks = omega (arith, length-drop (piece_length first) pieces) in
    ap (λ (s : Contents). contents_after s (marks ++ m ∷ []) (drop (piece_length first) (pieces ++ piece))) (own_piece contents first pieces piece enough)
    ∙ ap (λ (l : List ℕ). contents_after (after_mark contents first pieces) (marks ++ m ∷ []) l) (drop-append-le (piece_length first) pieces piece enough)
    ∙ after_more (after_mark contents first pieces) marks (drop (piece_length first) pieces) m piece rest

pub before_more : (contents : Contents) (marks : List Mark) (pieces : List ℕ) (m : Mark) (piece : List ℕ) → length pieces ≡ total_length marks
    → contents_before contents (marks ++ m ∷ []) (pieces ++ piece) ≡ contents_before contents marks pieces ++ contents_after contents marks pieces ∷ []
before_more contents [] pieces m piece lengths = refl
before_more contents (first ∷ marks) pieces m piece lengths =
    let enough : piece_length first ≤ length pieces = omega arith in
    let rest : length (drop (piece_length first) pieces) ≡ total_length marks = omega (arith, length-drop (piece_length first) pieces) in
    ap (λ (l : List Contents). contents ∷ l)
    (ap (λ (s : Contents). contents_before s (marks ++ m ∷ []) (drop (piece_length first) (pieces ++ piece))) (own_piece contents first pieces piece enough)
    ∙ ap (λ (l : List ℕ). contents_before (after_mark contents first pieces) (marks ++ m ∷ []) l) (drop-append-le (piece_length first) pieces piece enough)
    ∙ before_more (after_mark contents first pieces) marks (drop (piece_length first) pieces) m piece rest)

pub total_more : (marks : List Mark) (m : Mark) → total_length (marks ++ m ∷ []) ≡ total_length marks + piece_length m
total_more [] m = omega arith
total_more (first ∷ marks) m = omega (arith, total_more marks m)

module _ (start : Contents) (marks : List Mark) (pieces : List ℕ) (lengths : length pieces ≡ total_length marks) where
  -- a piece was written
  pub now_written : (place : ℕ) (piece : List ℕ) (more : List Mark) (longer : List ℕ) → more ≡ marks ++ mark.Written (range place (length piece)) ∷ [] → longer ≡ pieces ++ piece
      → contents_after start more longer ≡ written (contents_after start marks pieces) place piece
  now_written place piece more longer same_marks same_pieces =
      (λ i. contents_after start (same_marks i) (same_pieces i))
      ∙ after_more start marks pieces (mark.Written (range place (length piece))) piece lengths
      ∙ ap (λ (l : List ℕ). written (contents_after start marks pieces) place l) (take_all (length piece) piece (omega arith))

  -- a mark without a piece came
  pub now_marked : (m : Mark) (more : List Mark) → more ≡ marks ++ m ∷ [] → contents_after start more pieces ≡ after_mark (contents_after start marks pieces) m []
  now_marked m more same_marks =
      (λ i. contents_after start (same_marks i) (sym (append-nil pieces) i)) ∙ after_more start marks pieces m [] lengths

  -- the contents up to now are past
  pub now_past : (m : Mark) (piece : List ℕ) (more : List Mark) (longer : List ℕ) → more ≡ marks ++ m ∷ [] → longer ≡ pieces ++ piece
      → contents_before start more longer ≡ contents_before start marks pieces ++ contents_after start marks pieces ∷ []
  now_past m piece more longer same_marks same_pieces =
      (λ i. contents_before start (same_marks i) (same_pieces i)) ∙ before_more start marks pieces m piece lengths

  pub marked_past : (m : Mark) (more : List Mark) → more ≡ marks ++ m ∷ [] → contents_before start more pieces ≡ contents_before start marks pieces ++ contents_after start marks pieces ∷ []
  marked_past m more same_marks = now_past m [] more pieces same_marks (sym (append-nil pieces))
