-- What the tests of names, contracts and sides tell.
use Rattle.std.proofs.Common.{◌≡◌, true, refl, sym, ap, nat_eq, eqb-true, eq-eqb}
use Rattle.std.proofs.lemmas.Bool.{true≢false, and_parts, and_from}
use Rattle.order_kinds.specs.declared.contract.Contract.{Contract}
use Rattle.order_kinds.specs.declared.contract.Part.{Part}
use Rattle.order_kinds.specs.declared.contract.Part.TheVariants as part
use Rattle.order_kinds.specs.declared.order.OrderName.{OrderName}
use Rattle.order_kinds.specs.declared.side.Side.{Side}
use Rattle.order_kinds.specs.declared.side.Side.TheVariants.{Buy, Sell}
use Rattle.order_kinds.specs.Same.{same_contract, same_name, same_part, same_side}

pub same_name-eq : (a b : OrderName) → same_name a b ≡ true → a ≡ b
same_name-eq a b h =
    let both = and_parts (nat_eq a.hour b.hour) (nat_eq a.number b.number) h in
    let hours : a.hour ≡ b.hour = eqb-true a.hour b.hour both.0 in
    let numbers : a.number ≡ b.number = eqb-true a.number b.number both.1 in
    λ i. record { hour = hours i; number = numbers i }

pub same_name-refl : (a : OrderName) → same_name a a ≡ true
same_name-refl a = and_from (nat_eq a.hour a.hour) (nat_eq a.number a.number) (eq-eqb a.hour a.hour refl) (eq-eqb a.number a.number refl)

pub same_part-eq : (a b : Part) → same_part a b ≡ true → a ≡ b
same_part-eq part.Hour part.Hour h = refl
same_part-eq part.Hour (part.Quarter n) h = absurd (true≢false (sym h))
same_part-eq part.Hour (part.Half n) h = absurd (true≢false (sym h))
same_part-eq (part.Quarter m) part.Hour h = absurd (true≢false (sym h))
same_part-eq (part.Quarter m) (part.Quarter n) h = ap part.Quarter (eqb-true m n h)
same_part-eq (part.Quarter m) (part.Half n) h = absurd (true≢false (sym h))
same_part-eq (part.Half m) part.Hour h = absurd (true≢false (sym h))
same_part-eq (part.Half m) (part.Quarter n) h = absurd (true≢false (sym h))
same_part-eq (part.Half m) (part.Half n) h = ap part.Half (eqb-true m n h)

pub same_contract-eq : (a b : Contract) → same_contract a b ≡ true → a ≡ b
same_contract-eq a b h =
    let both = and_parts (nat_eq a.hour b.hour) (same_part a.part b.part) h in
    let hours : a.hour ≡ b.hour = eqb-true a.hour b.hour both.0 in
    let parts : a.part ≡ b.part = same_part-eq a.part b.part both.1 in
    λ i. record { hour = hours i; part = parts i }

pub same_side-eq : (a b : Side) → same_side a b ≡ true → a ≡ b
same_side-eq Buy Buy h = refl
same_side-eq Buy Sell h = absurd (true≢false (sym h))
same_side-eq Sell Buy h = absurd (true≢false (sym h))
same_side-eq Sell Sell h = refl
