-- The bits of a set of zones.
use Rattle.std.proofs.Common.{◌≡◌, ◌∙◌, ◌+◌, ◌*◌, ◌%◌, ◌^◌, ◌<◌, ◌==◌, ◌||◌, ◌⊎◌, inl, inr, ℕ, Bool, true, false, List, [], ◌∷◌, ◌++◌, length, get_or, take, nat_eq, refl, sym, ap, eq-eqb}
use Rattle.std.proofs.lemmas.Bool.{cases_eq, ne_eqb}
use Rattle.std.proofs.lemmas.List.{take_more}
use Rattle.std.proofs.lemmas.Nat.Bits.{bit_at_set_other, bit_at_set_same}
use Rattle.std.specs.Int.{w64}
use Rattle.std.specs.Int.RustNames.{bit_or}
use Rattle.zone_graph.specs.Route.{has}
use Rattle.zone_graph.proofs.Again.{or-false, or-true}
use Rattle.cut_proof.specs.ZoneSet.{HoldsZones, holds}

or_assoc : (a b c : Bool) → (a || (b || c)) ≡ ((a || b) || c)
or_assoc true b c = refl
or_assoc false b c = refl

has_push : (zone other : ℕ) (zones : List ℕ) → has zone (zones ++ other ∷ []) ≡ (has zone zones || nat_eq other zone)
has_push zone other [] = or-false (nat_eq other zone)
has_push zone other (first ∷ zones) = ap (λ b. nat_eq first zone || b) (has_push zone other zones) ∙ or_assoc (nat_eq first zone) (has zone zones) (nat_eq other zone)

-- the bit of one more zone
pub holds_more : (bits index : ℕ) (zones : List ℕ) → index < length zones → get_or zones index 0 < 64 → HoldsZones bits (take index zones)
    → HoldsZones (bit_or bits (1 * 2 ^ get_or zones index 0 % 2 ^ 64)) (take (index + 1) zones)
holds_more bits index zones within small held zone low = by (cases_eq zone (get_or zones index 0)) ∙ sym more
  where
    more : has zone (take (index + 1) zones) ≡ (has zone (take index zones) || nat_eq (get_or zones index 0) zone)
    more = ap (has zone) (take_more zones index 0 within) ∙ has_push zone (get_or zones index 0) (take index zones)

    by : (zone ≡ get_or zones index 0) ⊎ (zone ≡ get_or zones index 0 → ⊥)
        → holds (bit_or bits (1 * 2 ^ get_or zones index 0 % 2 ^ 64)) zone ≡ (has zone (take index zones) || nat_eq (get_or zones index 0) zone)
    by (inl same) =
        ap (holds (bit_or bits (1 * 2 ^ get_or zones index 0 % 2 ^ 64))) same
        ∙ ap (λ n. n == 1) (bit_at_set_same w64 bits (get_or zones index 0) small)
        ∙ sym (ap (λ b. has zone (take index zones) || b) (eq-eqb (get_or zones index 0) zone (sym same)) ∙ or-true (has zone (take index zones)))
    by (inr apart) =
        ap (λ n. n == 1) (bit_at_set_other w64 bits (get_or zones index 0) small zone apart)
        ∙ held zone low
        ∙ sym (ap (λ b. has zone (take index zones) || b) (ne_eqb (get_or zones index 0) zone (λ e. apart (sym e))) ∙ or-false (has zone (take index zones)))
