-- The rooms of flows that stand for a list of events.
use Rattle.std.proofs.Common.{◌≡◌, ◌∙◌, ℕ, zero, suc, Bool, true, [], ◌∷◌, filter, map, nat_le, refl, ap, ap₂, arith}
use Rattle.std.proofs.lemmas.Bool.{leb-true, and_parts}
use Rattle.order_kinds.specs.declared.contract.Part.{Part}
use Rattle.order_kinds.specs.declared.contract.Part.TheVariants as part
use Rattle.order_kinds.specs.Contract.{covers, is_known, quarters}
use Rattle.quarter_capacity.specs.Capacity.{remaining_of}
use Rattle.market_model.specs.Room.{is_open_phase, least}
use Rattle.laws_of_market.proofs.Rooms.{kept_part-is}
use Rattle.flow_netting.specs.declared.quarter_set.QuarterSet.{QuarterSet}
use Rattle.flow_netting.specs.Border as border
use Rattle.flow_netting.specs.Flows.{border_at}
use Rattle.flow_netting.specs.Flows as kept
use Rattle.flow_netting.specs.QuarterSet.{has, quarters_in}
use Rattle.laws_of_hours.specs.FlowLaws.{RemainingIsTheMarkets, RoomsAreTheMarkets}
use Rattle.laws_of_hours.specs.Standing.{IsSetOf}

-- the quarters of a set are those of the part that it stands for
some_numbers : (part : Part) → is_known part ≡ true → (counts : ℕ → Bool)
    → counts 1 ≡ covers part 1 → counts 2 ≡ covers part 2 → counts 3 ≡ covers part 3 → counts 4 ≡ covers part 4
    → filter counts (1 ∷ 2 ∷ 3 ∷ 4 ∷ []) ≡ quarters part
some_numbers (part.Quarter zero) known counts a b c d = absurd (let both = and_parts (nat_le 1 0) (nat_le 0 4) known in let low = leb-true 1 0 both.0 in omega (arith, low))
some_numbers (part.Quarter (suc (suc (suc (suc (suc n)))))) known counts a b c d =
    let number = suc (suc (suc (suc (suc n)))) in
    absurd (let both = and_parts (nat_le 1 number) (nat_le number 4) known in let high = leb-true number 4 both.1 in omega (arith, high))
some_numbers (part.Half zero) known counts a b c d = absurd (let both = and_parts (nat_le 1 0) (nat_le 0 2) known in let low = leb-true 1 0 both.0 in omega (arith, low))
some_numbers (part.Half (suc (suc (suc n)))) known counts a b c d =
    let number = suc (suc (suc n)) in
    absurd (let both = and_parts (nat_le 1 number) (nat_le number 2) known in let high = leb-true number 2 both.1 in omega (arith, high))
some_numbers _ known counts a b c d = rw (a, b, c, d) refl

numbers-are : (set : QuarterSet) (part : Part) → is_known part ≡ true → IsSetOf set part → quarters_in set ≡ quarters part
numbers-are set part known of_part =
    some_numbers part known (has set) (of_part 1 (omega arith) (omega arith)) (of_part 2 (omega arith) (omega arith)) (of_part 3 (omega arith) (omega arith))
    (of_part 4 (omega arith) (omega arith))

pub remains : RemainingIsTheMarkets
remains graph events hour flows arc is there number first last =
    ap₂ remaining_of (is.offered_same arc there number first last) (is.flow_same arc there number first last)

pub rooms : RoomsAreTheMarkets
rooms graph events contract flows set arc is known of_part there =
    ap (λ numbers. least (map kept_room numbers)) (numbers-are set contract.part known of_part)
    ∙ kept_part-is events contract.hour arc flows.phase (kept.is_halted flows arc.border) (kept.remaining_of flows arc) is.phase_same (is.halted_same arc.border there)
    (remains graph events contract.hour flows arc is there) contract.part known
  where
    kept_room : (number : ℕ) → ℕ
    kept_room number = border.quarter_room (is_open_phase flows.phase) (border_at flows.borders arc.border) arc.forward number
