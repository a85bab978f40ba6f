-- The bits of the zones in which orders have changed.
use Rattle.std.proofs.Common.{◌≡◌, ◌∙◌, inl, inr, ℕ, ◌*◌, ◌%◌, ◌^◌, ◌<◌, ◌==◌, ◌&&◌, ◌||◌, Bool, true, false, List, get_or, length, set, refl, sym, ap, arith, eq-eqb, eqb-true}
use Rattle.std.proofs.lemmas.Bool.{cases_eq, ne_eqb}
use Rattle.std.proofs.lemmas.List.{get_or-set_other, get_or-set_same}
use Rattle.std.proofs.lemmas.Nat.Bits.{bit_at_set_other, bit_at_set_same}
use Rattle.std.specs.Int.{w64}
use Rattle.std.specs.Int.RustNames.{bit_or}
use Rattle.order_kinds.specs.declared.side.Side.{Side}
use Rattle.order_kinds.specs.declared.side.Side.TheVariants.{Buy, Sell}
use Rattle.order_kinds.specs.Same.{same_side}
use Rattle.zone_graph.proofs.Again.{or-false, or-true}
use Rattle.block_book.proofs.Lists.{is-same_side, same_side-is}
use Rattle.contract_book.specs.declared.resting.Resting.{Resting}
use Rattle.contract_book.specs.Book.{line_number}
use Rattle.cut_proof.specs.ZoneSet.{holds}
use Rattle.hour_store.specs.Changed.{stands_in, zones_of}
use Rattle.hour_store.proofs.Places.{line_number-same}
use Rattle.hour_store.proofs.Ranges.{both-true}

-- where an order of a part and side stands
pub from_stands_in : (own part : ℕ) (side : Side) (order : Resting) (zone : ℕ) → stands_in part side zone own order ≡ true
    → (part ≡ own) × (side ≡ order.side) × (zone ≡ order.zone)
from_stands_in own part side order zone is =
    let both = both-true ((own == part) && same_side order.side side) (order.zone == zone) is in
    let first = both-true (own == part) (same_side order.side side) both.0 in
    (sym (eqb-true own part first.0), sym (same_side-is order.side side first.1), sym (eqb-true order.zone zone both.1))

pub stands-own : (own part : ℕ) (side : Side) (order : Resting) (zone : ℕ) → part ≡ own → side ≡ order.side → zone ≡ order.zone → stands_in part side zone own order ≡ true
stands-own own part side order zone at on in_zone =
    ap (λ b. (b && same_side order.side side) && (order.zone == zone)) (eq-eqb own part (sym at))
    ∙ ap (λ b. b && (order.zone == zone)) (is-same_side order.side side (sym on)) ∙ eq-eqb order.zone zone (sym in_zone)

stands_not : (b : Bool) → (b ≡ true → ⊥) → b ≡ false
stands_not true wrong = absurd (wrong refl)
stands_not false wrong = refl

-- the bit of one more zone
pub bit_set : (zones zone other : ℕ) → zone < 64 → holds (bit_or zones (1 * 2 ^ zone % 2 ^ 64)) other ≡ (holds zones other || (zone == other))
bit_set zones zone other small = elim (cases_eq other zone) [
  | inl same ↦
      ap (holds (bit_or zones (1 * 2 ^ zone % 2 ^ 64))) same ∙ ap (λ n. n == 1) (bit_at_set_same w64 zones zone small)
      ∙ sym (ap (λ b. holds zones other || b) (eq-eqb zone other (sym same)) ∙ or-true (holds zones other))
  | inr apart ↦
      ap (λ n. n == 1) (bit_at_set_other w64 zones zone small other apart)
      ∙ sym (ap (λ b. holds zones other || b) (ne_eqb zone other (λ e. apart (sym e))) ∙ or-false (holds zones other))
]

module _ (lines : List ℕ) (own : ℕ) (order : Resting) (within : line_number own order.side < length lines) (small : order.zone < 64) where
  abbrev place : ℕ
  place = line_number own order.side

  abbrev bits : ℕ
  bits = bit_or (get_or lines place 0) (1 * 2 ^ order.zone % 2 ^ 64)

  -- the bit of the zone of an order is set
  pub zone_set : (part : ℕ) (side : Side) (zone : ℕ) → holds (zones_of (set lines place bits) part side) zone ≡ (holds (zones_of lines part side) zone || stands_in part side zone own order)
  zone_set part side zone = elim (cases_eq (line_number part side) place) [
    | inl same ↦
        let at = line_number-same part own side order.side same in
        ap (λ k. holds (get_or (set lines place bits) k 0) zone) same
        ∙ ap (λ n. holds n zone) (get_or-set_same lines place bits 0 within)
        ∙ bit_set (get_or lines place 0) order.zone zone small ∙ ap (λ b. holds (get_or lines place 0) zone || b) (here at.0 at.1)
        ∙ ap (λ k. holds (get_or lines k 0) zone || stands_in part side zone own order) (sym same)
    | inr apart ↦
        ap (λ n. holds n zone) (get_or-set_other lines place (line_number part side) bits 0 apart)
        ∙ sym (ap (λ b. holds (zones_of lines part side) zone || b)
        (stands_not (stands_in part side zone own order) (λ is.
        let at = from_stands_in own part side order zone is in
        apart (ap (λ p. line_number p side) at.0 ∙ ap (line_number own) at.1)))
        ∙ or-false (holds (zones_of lines part side) zone))
  ]
    where
      here : part ≡ own → side ≡ order.side → (order.zone == zone) ≡ stands_in part side zone own order
      here at on =
          sym (ap (λ b. (b && same_side order.side side) && (order.zone == zone)) (eq-eqb own part (sym at))
          ∙ ap (λ b. b && (order.zone == zone)) (is-same_side order.side side (sym on)))

-- the line of a part is one of the fourteen
pub line_within : (lines : List ℕ) (part : ℕ) (side : Side) → length lines ≡ 14 → part < 7 → line_number part side < length lines
line_within lines part Buy many low = omega (arith, many, low)
line_within lines part Sell many low = omega (arith, many, low)
