-- Lines with their gates open.
use Rattle.std.proofs.Common.{◌≡◌, ℕ, ◌+◌, List, [], ◌∷◌, ◌++◌, length, refl, sym, ◌∙◌, ap, arith, append_assoc, length-append}
use Rattle.durable_journal.specs.Stored.{IsLine, AreLines, number_bytes, behind_gate, block, blocks}
use Rattle.durable_journal.proofs.Numbers.{length-number_bytes, same_number}

pub length-behind_gate : (line : List ℕ) → length (behind_gate line) ≡ 8 + length line
length-behind_gate line = omega (arith, length-append (number_bytes (length line)) line, length-number_bytes (length line))

pub are_more : (lines : List (List ℕ)) (line : List ℕ) → AreLines lines → IsLine line → AreLines (lines ++ line ∷ [])
are_more [] line each is = (is, tt)
are_more (first ∷ lines) line each is = (each.0, are_more lines line each.1 is)

-- one more line, and what stands behind it
pub blocks_more : (lines : List (List ℕ)) (line rest : List ℕ) → blocks (lines ++ line ∷ []) ++ rest ≡ blocks lines ++ 1 ∷ (behind_gate line ++ rest)
blocks_more [] line rest = append_assoc (block line) [] rest
blocks_more (first ∷ lines) line rest =
    append_assoc (block first) (blocks (lines ++ line ∷ [])) rest
    ∙ ap (λ (l : List ℕ). block first ++ l) (blocks_more lines line rest)
    ∙ sym (append_assoc (block first) (blocks lines) (1 ∷ (behind_gate line ++ rest)))

pub length-blocks_more : (lines : List (List ℕ)) (line : List ℕ) → length (blocks (lines ++ line ∷ [])) ≡ length (blocks lines) + 9 + length line
length-blocks_more [] line = omega (arith, length-append (block line) [], length-behind_gate line)
length-blocks_more (first ∷ lines) line =
    omega (arith, length-blocks_more lines line, length-append (block first) (blocks (lines ++ line ∷ [])), length-append (block first) (blocks lines))

-- parts of one length are the same parts
pub same_parts : (front back others behind : List ℕ) → length front ≡ length others → front ++ back ≡ others ++ behind → (front ≡ others) × (back ≡ behind)
same_parts [] back [] behind long same = (refl, same)
same_parts [] back (other ∷ others) behind long same = absurd (omega arith)
same_parts (x ∷ front) back [] behind long same = absurd (omega arith)
same_parts (x ∷ front) back (other ∷ others) behind long same =
    let head : x ≡ other = cc in
    let rest : front ++ back ≡ others ++ behind = cc in
    let parts = same_parts front back others behind (omega arith) rest in ((λ i. head i ∷ parts.0 i), parts.1)

-- a line and what stands behind it
pub same_line : (line other rest behind : List ℕ) → IsLine line → IsLine other → behind_gate line ++ rest ≡ behind_gate other ++ behind → (line ≡ other) × (rest ≡ behind)
same_line line other rest behind is is_other same =
    let whole : number_bytes (length line) ++ (line ++ rest) ≡ number_bytes (length other) ++ (other ++ behind) =
    sym (append_assoc (number_bytes (length line)) line rest) ∙ same ∙ append_assoc (number_bytes (length other)) other behind in
    let numbers = same_parts (number_bytes (length line)) (line ++ rest) (number_bytes (length other)) (other ++ behind) (length-number_bytes (length line) ∙ sym (length-number_bytes (length other))) whole in
    same_parts line rest other behind (same_number (length line) (length other) is.short is_other.short numbers.0) numbers.1
