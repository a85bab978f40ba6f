-- The summary of a journal, from the numbers in it.
use Rattle.std.proofs.Common.{◌≡◌, ℕ, ◌^◌, ◌<◌, List, [], ◌∷◌, ◌++◌, map, length, refl, sym, ap, ◌∙◌, arith}
use Rattle.std.specs.Prelude.{codes, decimal}
use Rattle.std.specs.List.{count_by}
use Rattle.std.proofs.lemmas.List.{append_assoc}
use Rattle.std.proofs.lemmas.List.Sums.{count_by-le-length}
use Rattle.market_model.specs.declared.entry.Entry.{Entry}
use Rattle.load_maker.specs.Lines.{spaced, text_of}
use Rattle.load_maker.specs.Summary.{is_refused, refused, legs, block_legs, lots, capped, summary_text}

-- words and digits, as they are written
abbrev written_lines : List (List ℕ × List ℕ) → List ℕ
written_lines [] = []
written_lines (line ∷ lines) = line.0 ++ (32 ∷ (line.1 ++ (10 ∷ written_lines lines)))

-- they are lines, each of a word and digits
written_lines_are : (lines : List (List ℕ × List ℕ))
    → written_lines lines ≡ text_of (map (λ line. spaced (line.0 ∷ line.1 ∷ [])) lines)
written_lines_are [] = refl
written_lines_are (line ∷ lines) =
    let others : List ℕ = text_of (map (λ own. spaced (own.0 ∷ own.1 ∷ [])) lines) in
    ap (λ rest. line.0 ++ (32 ∷ (line.1 ++ (10 ∷ rest)))) (written_lines_are lines)
    ∙ sym (append_assoc line.0 (32 ∷ line.1) (10 ∷ others))
    ∙ sym (append_assoc (line.0 ++ (32 ∷ line.1)) (10 ∷ []) others)

-- five lines, as they are written
five_lines : (count refused_count leg_count block_leg_count lot_count : List ℕ)
    → codes "entries " ++ (count ++ (codes "\nrefused " ++ (refused_count ++ (codes "\nlegs " ++ (leg_count
    ++ (codes "\nblocklegs " ++ (block_leg_count ++ (codes "\nlots " ++ (lot_count ++ codes "\n")))))))))
    ≡ text_of (spaced (codes "entries" ∷ count ∷ []) ∷ spaced (codes "refused" ∷ refused_count ∷ [])
    ∷ spaced (codes "legs" ∷ leg_count ∷ []) ∷ spaced (codes "blocklegs" ∷ block_leg_count ∷ [])
    ∷ spaced (codes "lots" ∷ lot_count ∷ []) ∷ [])
five_lines count refused_count leg_count block_leg_count lot_count =
    written_lines_are ((codes "entries", count) ∷ (codes "refused", refused_count) ∷ (codes "legs", leg_count)
    ∷ (codes "blocklegs", block_leg_count) ∷ (codes "lots", lot_count) ∷ [])

-- a number that is small enough is written as it is
capped_small : (number : ℕ) → number < 2 ^ 64 → number ≡ capped number
capped_small number small = omega arith

-- the summary, as it is written from these numbers
pub summary_written : (entries : List Entry) (count refused_count leg_count block_leg_count lot_count : ℕ) (written : List ℕ)
    → length entries < 2 ^ 64
    → count ≡ length entries → refused_count ≡ count_by is_refused entries → leg_count ≡ capped (legs entries)
    → block_leg_count ≡ capped (block_legs entries) → lot_count ≡ capped (lots entries)
    → written ≡ codes "entries " ++ (decimal count ++ (codes "\nrefused " ++ (decimal refused_count ++ (codes "\nlegs " ++ (decimal leg_count
    ++ (codes "\nblocklegs " ++ (decimal block_leg_count ++ (codes "\nlots " ++ (decimal lot_count ++ codes "\n")))))))))
    → written ≡ summary_text entries
summary_written entries count refused_count leg_count block_leg_count lot_count written few counted refusals orders blocks traded wrote =
    let counted_small : count ≡ capped (length entries) = counted ∙ capped_small (length entries) few in
    let refused_small : refused_count ≡ capped (refused entries) =
    refusals ∙ capped_small (refused entries) (omega (arith, count_by-le-length is_refused entries)) in
    wrote
    ∙ five_lines (decimal count) (decimal refused_count) (decimal leg_count) (decimal block_leg_count) (decimal lot_count)
    ∙ rw (counted_small, refused_small, orders, blocks, traded) refl
