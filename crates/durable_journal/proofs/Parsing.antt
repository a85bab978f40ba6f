-- What an image stores is unique, and so is the place where it is damaged.
use Rattle.std.proofs.Common.{◌≡◌, ◌≢◌, inl, inr, ℕ, ◌≤◌, List, [], ◌∷◌, ◌++◌, length, refl, sym, ◌∙◌, ap, arith, append_assoc, length-append}
use Rattle.durable_journal.specs.Stored.{IsLine, AreLines, behind_gate, block, blocks, EndsAt, IsShort, Stores, StoresLines, IsDamaged}
use Rattle.durable_journal.proofs.Blocks.{length-behind_gate, same_line}

-- no line stands here with a further byte behind it
abbrev IsStop : List ℕ → Type 0
IsStop rest = (line : List ℕ) (gate : ℕ) (behind : List ℕ) → IsLine line → rest ≡ block line ++ gate ∷ behind → ⊥

shut_stops : (gate : ℕ) (behind : List ℕ) → gate ≢ 1 → IsStop (gate ∷ behind)
shut_stops gate behind shut line next rest is same = let open_gate : gate ≡ 1 = cc in shut open_gate

damage_stops : (rest : List ℕ) → ((line : List ℕ) (gate : ℕ) (behind : List ℕ) → IsLine line → rest ≡ behind_gate line ++ gate ∷ behind → ⊥) → IsStop (1 ∷ rest)
damage_stops rest none line gate behind is same = let tail : rest ≡ behind_gate line ++ gate ∷ behind = cc in none line gate behind is tail

-- a line stands before what follows
no_stop : (line : List ℕ) (lines : List (List ℕ)) (gate : ℕ) (behind rest : List ℕ) → IsLine line → IsStop rest → rest ≡ blocks (line ∷ lines) ++ gate ∷ behind → ⊥
no_stop line [] gate behind rest is stop same =
    stop line gate behind is (same ∙ append_assoc (block line) [] (gate ∷ behind))
no_stop line (next ∷ lines) gate behind rest is stop same =
    stop line 1 (behind_gate next ++ (blocks lines ++ gate ∷ behind)) is
    (same ∙ append_assoc (block line) (blocks (next ∷ lines)) (gate ∷ behind) ∙ ap (λ (l : List ℕ). block line ++ l) (append_assoc (block next) (blocks lines) (gate ∷ behind)))

pub same_stop : (lines others : List (List ℕ)) (gate other : ℕ) (behind rest : List ℕ) → AreLines lines → AreLines others → IsStop (gate ∷ behind) → IsStop (other ∷ rest)
    → blocks lines ++ gate ∷ behind ≡ blocks others ++ other ∷ rest → (lines ≡ others) × (gate ≡ other)
same_stop [] [] gate other behind rest each each_other stop stop_other same = (refl, cc)
same_stop [] (first ∷ others) gate other behind rest each each_other stop stop_other same =
    absurd (no_stop first others other rest (gate ∷ behind) each_other.0 stop same)
same_stop (first ∷ lines) [] gate other behind rest each each_other stop stop_other same =
    absurd (no_stop first lines gate behind (other ∷ rest) each.0 stop_other (sym same))
same_stop (line ∷ lines) (first ∷ others) gate other behind rest each each_other stop stop_other same =
    let whole : block line ++ (blocks lines ++ gate ∷ behind) ≡ block first ++ (blocks others ++ other ∷ rest) =
    sym (append_assoc (block line) (blocks lines) (gate ∷ behind)) ∙ same ∙ append_assoc (block first) (blocks others) (other ∷ rest) in
    let tail : behind_gate line ++ (blocks lines ++ gate ∷ behind) ≡ behind_gate first ++ (blocks others ++ other ∷ rest) = cc in
    let parts = same_line line first (blocks lines ++ gate ∷ behind) (blocks others ++ other ∷ rest) each.0 each_other.0 tail in
    let more = same_stop lines others gate other behind rest each.1 each_other.1 stop stop_other parts.1 in
    ((λ i. parts.0 i ∷ more.0 i), more.1)

-- at most one byte is no line
none_in_short : (lines : List (List ℕ)) (gate : ℕ) (behind image : List ℕ) → image ≡ blocks lines ++ gate ∷ behind → length image ≤ 1 → lines ≡ []
none_in_short [] gate behind image whole short = refl
none_in_short (line ∷ lines) gate behind image whole short =
    absurd (omega (arith, ap length whole, length-append (blocks (line ∷ lines)) (gate ∷ behind), length-append (block line) (blocks lines), length-behind_gate line))

short_and_ends : (image : List ℕ) (lines others : List (List ℕ)) (place other : ℕ) → IsShort image lines place → EndsAt image others other → (lines ≡ others) × (place ≡ other)
short_and_ends image lines others place other short ends =
    let none = none_in_short others ends.gate ends.behind image ends.whole short.short in
    (short.none ∙ sym none, short.start ∙ sym (ends.end ∙ ap (λ (l : List (List ℕ)). length (blocks l)) none))

pub stores_unique : (image : List ℕ) (lines others : List (List ℕ)) (place other : ℕ) → Stores image lines place → Stores image others other → (lines ≡ others) × (place ≡ other)
stores_unique image lines others place other (inl short) (inl too) = (short.none ∙ sym too.none, short.start ∙ sym too.start)
stores_unique image lines others place other (inl short) (inr ends) = short_and_ends image lines others place other short ends
stores_unique image lines others place other (inr ends) (inl short) =
    let same = short_and_ends image others lines other place short ends in (sym same.0, sym same.1)
stores_unique image lines others place other (inr ends) (inr too) =
    let same = same_stop lines others ends.gate too.gate ends.behind too.behind ends.each too.each (shut_stops ends.gate ends.behind ends.shut) (shut_stops too.gate too.behind too.shut) (sym ends.whole ∙ too.whole) in
    (same.0, ends.end ∙ ap (λ (l : List (List ℕ)). length (blocks l)) same.0 ∙ sym too.end)

pub damage_unique : (image : List ℕ) (place other : ℕ) → IsDamaged image place → IsDamaged image other → place ≡ other
damage_unique image place other damaged too =
    let same = same_stop damaged.before too.before 1 1 damaged.rest too.rest damaged.each too.each (damage_stops damaged.rest damaged.no_line) (damage_stops too.rest too.no_line) (sym damaged.whole ∙ too.whole) in
    damaged.at ∙ ap (λ (l : List (List ℕ)). length (blocks l)) same.0 ∙ sym too.at

pub damaged_stores_none : (image : List ℕ) (place : ℕ) → IsDamaged image place → (lines : List (List ℕ)) (end : ℕ) → Stores image lines end → ⊥
damaged_stores_none image place damaged lines end (inl short) = omega (arith, damaged.long, short.short)
damaged_stores_none image place damaged lines end (inr ends) =
    let same = same_stop damaged.before lines 1 ends.gate damaged.rest ends.behind damaged.each ends.each (damage_stops damaged.rest damaged.no_line) (shut_stops ends.gate ends.behind ends.shut) (sym damaged.whole ∙ ends.whole) in
    ends.shut (sym same.1)

-- at most one byte stores no line
pub short_stores_none : (image : List ℕ) (lines : List (List ℕ)) → length image ≤ 1 → StoresLines image lines → lines ≡ []
short_stores_none image lines short stores =
    (stores_unique image lines [] stores.0 0 stores.1 (inl (record { short = short; none = refl; start = refl }))).0
