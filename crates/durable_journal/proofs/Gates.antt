-- What a crash leaves while a line is written behind a closed gate, and while the gate is opened.
use Rattle.std.proofs.Common.{◌≡◌, inl, inr, ℕ, ◌+◌, ◌<◌, ◌≤◌, List, [], ◌∷◌, ◌++◌, length, take, drop, get_or, sym, ◌∙◌, ap, arith, append_assoc, length-append, take-append-drop}
use Rattle.std.proofs.lemmas.Bool.{cases_eq}
use Rattle.std.proofs.lemmas.List.{take_at, drop_at, drop_more, drop_all}
use Rattle.disk_model.specs.Contents.{Torn, overwritten}
use Rattle.durable_journal.specs.Stored.{IsLine, behind_gate, blocks, image_of, EndsAt}
use Rattle.durable_journal.specs.Appending.{end_behind, StoresOldOrNew}
use Rattle.durable_journal.proofs.Blocks.{are_more, blocks_more, length-blocks_more}

module _ (bytes : List ℕ) (lines : List (List ℕ)) (place : ℕ) (ends : EndsAt bytes lines place) where
  -- up to and with the gate, and behind it
  split : bytes ≡ (blocks lines ++ ends.gate ∷ []) ++ ends.behind
  split = ends.whole ∙ sym (append_assoc (blocks lines) (ends.gate ∷ []) ends.behind)

  front_length : length (blocks lines ++ ends.gate ∷ []) ≡ place + 1
  front_length = omega (arith, ends.end, length-append (blocks lines) (ends.gate ∷ []))

  front : take (place + 1) bytes ≡ blocks lines ++ ends.gate ∷ []
  front = ap (λ (l : List ℕ). take (place + 1) l) split ∙ take_at (blocks lines ++ ends.gate ∷ []) ends.behind (place + 1) front_length

  pub within : place < length bytes
  within = omega (arith, ap length ends.whole, length-append (blocks lines) (ends.gate ∷ ends.behind), ends.end)

  -- the gate stands, whatever stands behind it
  stays_shut : (image rest : List ℕ) → image ≡ (blocks lines ++ ends.gate ∷ []) ++ rest → EndsAt image lines place
  stays_shut image rest is = record {
    each = ends.each;
    gate = ends.gate;
    behind = rest;
    whole = is ∙ append_assoc (blocks lines) (ends.gate ∷ []) rest;
    shut = ends.shut;
    end = ends.end;
  }

  -- any bytes are behind the closed gate
  pub torn_behind : (image : List ℕ) (count : ℕ) → Torn (place + 1) count bytes image → EndsAt image lines place
  torn_behind image count torn =
      stays_shut image (drop (place + 1) image) (sym (take-append-drop (place + 1) image) ∙ ap (λ (l : List ℕ). l ++ drop (place + 1) image) (torn.before ∙ front))

  module _ (line piece : List ℕ) (is_line : IsLine line) (is_piece : piece ≡ behind_gate line ++ 0 ∷ []) where
    abbrev pub staged : List ℕ
    staged = overwritten bytes (place + 1) piece

    abbrev rest : List ℕ
    rest = drop (place + 1 + length piece) bytes

    staged_is : staged ≡ (blocks lines ++ ends.gate ∷ []) ++ (piece ++ rest)
    staged_is = ap (λ (l : List ℕ). (l ++ piece) ++ rest) front ∙ append_assoc (blocks lines ++ ends.gate ∷ []) piece rest

    -- the line stands behind the closed gate
    pub staged_ends : EndsAt staged lines place
    staged_ends = stays_shut staged (piece ++ rest) staged_is

    staged_front : take place staged ≡ blocks lines
    staged_front = ap (λ (l : List ℕ). take place l) (staged_ends.whole) ∙ take_at (blocks lines) (staged_ends.gate ∷ staged_ends.behind) place (sym ends.end)

    staged_back : drop (place + 1) staged ≡ behind_gate line ++ 0 ∷ rest
    staged_back =
        ap (λ (l : List ℕ). drop (place + 1) l) staged_is ∙ drop_at (blocks lines ++ ends.gate ∷ []) (piece ++ rest) (place + 1) front_length
        ∙ ap (λ (l : List ℕ). l ++ rest) is_piece ∙ append_assoc (behind_gate line) (0 ∷ []) rest

    pub staged_length : place + 1 ≤ length staged
    staged_length = omega (arith, ap length staged_is, length-append (blocks lines ++ ends.gate ∷ []) (piece ++ rest), front_length)

    -- the gate is open
    open_ends : (image : List ℕ) → image ≡ blocks lines ++ 1 ∷ (behind_gate line ++ 0 ∷ rest) → EndsAt image (lines ++ line ∷ []) (end_behind place line)
    open_ends image is = record {
      each = are_more lines line ends.each is_line;
      gate = 0;
      behind = rest;
      whole = is ∙ sym (blocks_more lines line (0 ∷ rest));
      shut = omega arith;
      end = omega (arith, ends.end, length-blocks_more lines line);
    }

    -- the gate may be anything
    pub torn_gate : (image : List ℕ) → Torn place 1 staged image → StoresOldOrNew lines line image
    torn_gate image torn =
        let gate = get_or image place 0 in
        let long : place < length image = omega (arith, torn.no_shorter, staged_length) in
        let back : drop place image ≡ gate ∷ (behind_gate line ++ 0 ∷ rest) =
        drop_more image place 0 long ∙ ap (λ (l : List ℕ). gate ∷ l) (torn.behind ∙ staged_back) in
        let whole : image ≡ blocks lines ++ gate ∷ (behind_gate line ++ 0 ∷ rest) =
        sym (take-append-drop place image) ∙ (λ i. (torn.before ∙ staged_front) i ++ back i) in
        elim (cases_eq gate 1) [
          | inl is_open ↦ inr (end_behind place line, inr (open_ends image (whole ∙ ap (λ g. blocks lines ++ g ∷ (behind_gate line ++ 0 ∷ rest)) is_open)))
          | inr is_shut ↦ inl (place, inr (record { each = ends.each; gate = gate; behind = behind_gate line ++ 0 ∷ rest; whole = whole; shut = is_shut; end = ends.end }))
        ]

    -- the gate was opened
    pub opened_ends : EndsAt (overwritten staged place (1 ∷ [])) (lines ++ line ∷ []) (end_behind place line)
    opened_ends =
        open_ends (overwritten staged place (1 ∷ []))
        ((λ i. (staged_front i ++ 1 ∷ []) ++ staged_back i) ∙ append_assoc (blocks lines) (1 ∷ []) (behind_gate line ++ 0 ∷ rest))

    -- where nothing stood behind the closed gate, the image is that of the lines, and nothing more
    pub opened_image : length bytes ≤ place + 1 → overwritten staged place (1 ∷ []) ≡ image_of (lines ++ line ∷ [])
    opened_image last =
        let none : rest ≡ [] = drop_all (place + 1 + length piece) bytes (omega arith) in
        (λ i. (staged_front i ++ 1 ∷ []) ++ staged_back i) ∙ append_assoc (blocks lines) (1 ∷ []) (behind_gate line ++ 0 ∷ rest)
        ∙ ap (λ (l : List ℕ). blocks lines ++ 1 ∷ (behind_gate line ++ 0 ∷ l)) none ∙ sym (blocks_more lines line (0 ∷ []))
