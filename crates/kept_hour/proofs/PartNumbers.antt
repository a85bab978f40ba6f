-- Parts of an hour by their numbers.
use Rattle.std.proofs.Common.{◌≡◌, zero, suc, true, nat_le, refl, arith}
use Rattle.std.proofs.lemmas.Bool.{and_parts, leb-true}
use Rattle.order_kinds.specs.declared.contract.Part.{Part}
use Rattle.order_kinds.specs.declared.contract.Part.TheVariants as part
use Rattle.order_kinds.specs.Contract.{is_known, part_at, part_number}

-- the part of its number is the part
pub part-of_number : (p : Part) → is_known p ≡ true → part_at (part_number p) ≡ p
part-of_number part.Hour known = refl
part-of_number (part.Quarter zero) known = absurd (cc)
part-of_number (part.Quarter (suc zero)) known = refl
part-of_number (part.Quarter (suc (suc zero))) known = refl
part-of_number (part.Quarter (suc (suc (suc zero)))) known = refl
part-of_number (part.Quarter (suc (suc (suc (suc zero))))) known = refl
part-of_number (part.Quarter (suc (suc (suc (suc (suc more)))))) known =
    absurd (let both = and_parts (nat_le 1 (suc (suc (suc (suc (suc more)))))) (nat_le (suc (suc (suc (suc (suc more))))) 4) known in
    let most = leb-true (suc (suc (suc (suc (suc more))))) 4 both.1 in let no : ⊥ = omega (arith, most) in no)
part-of_number (part.Half zero) known = absurd (cc)
part-of_number (part.Half (suc zero)) known = refl
part-of_number (part.Half (suc (suc zero))) known = refl
part-of_number (part.Half (suc (suc (suc more)))) known =
    absurd (let both = and_parts (nat_le 1 (suc (suc (suc more)))) (nat_le (suc (suc (suc more))) 2) known in
    let most = leb-true (suc (suc (suc more))) 2 both.1 in let no : ⊥ = omega (arith, most) in no)
