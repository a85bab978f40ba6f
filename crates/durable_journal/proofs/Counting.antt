-- What stands behind an open gate.
use Rattle.std.proofs.Common.{◌≡◌, ◌⊎◌, inl, inr, ℕ, ◌-◌, ◌<◌, ◌≤◌, List, [], ◌∷◌, ◌++◌, length, take, drop, get_or, refl, sym, ◌∙◌, ap, subst, arith, append_assoc, length-append, take-append-drop}
use Rattle.std.specs.Int.{w64, from_be_bytes}
use Rattle.std.specs.List.{between}
use Rattle.std.proofs.lemmas.Bool.{cases_lt}
use Rattle.std.proofs.lemmas.List.{take_at, drop_at, take_rest, get_or-take, get_or_past, length-take}
use Rattle.std.proofs.lemmas.Slice.{first_rest}
use Rattle.durable_journal.specs.Stored.{IsLine, AreLines, number_bytes, behind_gate, blocks}
use Rattle.durable_journal.proofs.Numbers.{length-number_bytes, number_of, bytes_of_number}
use Rattle.durable_journal.proofs.Blocks.{length-behind_gate, are_more, blocks_more}

abbrev pub eight : List ℕ → List ℕ
eight after = get_or after 0 0 ∷ get_or after 1 0 ∷ get_or after 2 0 ∷ get_or after 3 0 ∷ get_or after 4 0 ∷ get_or after 5 0 ∷ get_or after 6 0 ∷ get_or after 7 0 ∷ []

front_eight : (after : List ℕ) → 8 ≤ length after → take 8 after ≡ eight after
front_eight [] le = absurd (omega arith)
front_eight (a ∷ []) le = absurd (omega arith)
front_eight (a ∷ b ∷ []) le = absurd (omega arith)
front_eight (a ∷ b ∷ c ∷ []) le = absurd (omega arith)
front_eight (a ∷ b ∷ c ∷ d ∷ []) le = absurd (omega arith)
front_eight (a ∷ b ∷ c ∷ d ∷ e ∷ []) le = absurd (omega arith)
front_eight (a ∷ b ∷ c ∷ d ∷ e ∷ f ∷ []) le = absurd (omega arith)
front_eight (a ∷ b ∷ c ∷ d ∷ e ∷ f ∷ g ∷ []) le = absurd (omega arith)
front_eight (a ∷ b ∷ c ∷ d ∷ e ∷ f ∷ g ∷ h ∷ rest) le = refl

-- too few bytes are no line
pub none_in_few : (after line behind : List ℕ) (gate : ℕ) → length after < 8 → after ≡ behind_gate line ++ gate ∷ behind → ⊥
none_in_few after line behind gate few is =
    omega (arith, ap length is, length-append (behind_gate line) (gate ∷ behind), length-behind_gate line)

-- nor are bytes whose number is none or too great
pub none_counted : (after : List ℕ) (count : ℕ) → 8 ≤ length after → count ≡ from_be_bytes w64 (eight after)
    → (count ≡ 0) ⊎ (length (take (length after - 8) (drop 8 after)) ≤ count)
    → (line : List ℕ) (gate : ℕ) (behind : List ℕ) → IsLine line → after ≡ behind_gate line ++ gate ∷ behind → ⊥
none_counted after count long counted wrong line gate behind is_line is =
    let whole : after ≡ number_bytes (length line) ++ (line ++ gate ∷ behind) = is ∙ append_assoc (number_bytes (length line)) line (gate ∷ behind) in
    let front : eight after ≡ number_bytes (length line) =
    sym (front_eight after long) ∙ ap (λ (l : List ℕ). take 8 l) whole ∙ take_at (number_bytes (length line)) (line ++ gate ∷ behind) 8 (length-number_bytes (length line)) in
    let same : count ≡ length line = counted ∙ ap (λ (l : List ℕ). from_be_bytes w64 l) front ∙ number_of (length line) is_line.short in
    let back : take (length after - 8) (drop 8 after) ≡ line ++ gate ∷ behind =
    take_rest after 8 ∙ ap (λ (l : List ℕ). drop 8 l) whole ∙ drop_at (number_bytes (length line)) (line ++ gate ∷ behind) 8 (length-number_bytes (length line)) in
    elim wrong [
      | inl none ↦ omega (arith, is_line.some)
      | inr much ↦ omega (arith, ap length back, length-append line (gate ∷ behind))
    ]

eight_small : (after : List ℕ) → 8 ≤ length after → ((i : ℕ) → get_or after i 0 < 256) → (i : ℕ) → get_or (eight after) i 0 < 256
eight_small after long small i =
    subst (λ (l : List ℕ). get_or l i 0 < 256) (front_eight after long) (elim (cases_lt i 8) [
      | inl low ↦ subst (λ n. n < 256) (sym (get_or-take 8 after i 0 low)) (small i)
      | inr high ↦ subst (λ n. n < 256) (sym (get_or_past (take 8 after) i 0 (omega (arith, length-take 8 after)))) (omega arith)
    ])

-- so many bytes are a line
pub line_counted : (after front back : List ℕ) (count : ℕ) → 8 ≤ length after → ((i : ℕ) → get_or after i 0 < 256) → count ≡ from_be_bytes w64 (eight after)
    → length front ≡ count → take (length after - 8) (drop 8 after) ≡ front ++ back → after ≡ behind_gate front ++ back
line_counted after front back count long small counted front_length parts =
    let number : number_bytes (length front) ≡ eight after =
    ap (λ n. number_bytes n) front_length ∙ bytes_of_number (eight after) count refl (eight_small after long small) counted in
    sym (take-append-drop 8 after)
    ∙ (λ i. (front_eight after long ∙ sym number) i ++ (sym (take_rest after 8) ∙ parts) i)
    ∙ sym (append_assoc (number_bytes (length front)) front back)

-- one more line was read
pub line_read : (image rest after line behind text : List ℕ) (lines more : List (List ℕ)) → AreLines lines → image ≡ blocks lines ++ rest → 0 < length rest
    → get_or rest 0 0 ≡ 1 → between 1 (length rest) rest ≡ after → after ≡ behind_gate line ++ behind → IsLine line → text ≡ line → more ≡ lines ++ text ∷ []
    → AreLines more × (image ≡ blocks more ++ behind)
line_read image rest after line behind text lines more each whole some open_gate tail is is_line same added =
    let all : more ≡ lines ++ line ∷ [] = added ∙ ap (λ (l : List ℕ). lines ++ l ∷ []) same in
    let split : rest ≡ 1 ∷ (behind_gate line ++ behind) = first_rest rest 0 some ∙ (λ i. open_gate i ∷ (tail ∙ is) i) in (
      subst AreLines (sym all) (are_more lines line each is_line),
      whole ∙ ap (λ (l : List ℕ). blocks lines ++ l) split ∙ sym (blocks_more lines line behind) ∙ ap (λ (l : List (List ℕ)). blocks l ++ behind) (sym all),
    )
