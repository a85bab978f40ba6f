-- Which texts are plain: names, numbers, and what is put together of them.
use Rattle.std.proofs.Common.{◌≡◌, ◌≢◌, ℕ, zero, suc, ◌+◌, ◌/◌, ◌%◌, ◌<◌, ◌≤◌, ◌==◌, ℤ, pos, negsuc, List, [], ◌∷◌, ◌++◌, true, false, nat_lt, decimal, refl, ◌∙◌, arith}
use Rattle.std.proofs.lemmas.Bool.{and_parts, and_from, cond_both, le-leb, leb-true, ltb-false, ne_eqb, not_from_false}
use Rattle.std.proofs.lemmas.Bool.Decides.{nat_tests}
use Rattle.std.proofs.lemmas.List.Folds.{list_all-append}
use Rattle.std.specs.Fmt.{digits, digits_onto, digit_glyph}
use Rattle.std.specs.List.{list_all}
use Rattle.zone_graph.specs.Name.{is_name_byte, IsName}
use Rattle.order_kinds.specs.declared.contract.Part.{Part}
use Rattle.order_kinds.specs.declared.contract.Part.TheVariants as part
use Rattle.order_kinds.specs.declared.contract.Contract.{Contract}
use Rattle.order_kinds.specs.declared.contract.Quarter.{Quarter}
use Rattle.order_kinds.specs.declared.order.OrderName.{OrderName}
use Rattle.order_kinds.specs.declared.phase.Phase.{Phase}
use Rattle.order_kinds.specs.declared.phase.Phase.TheVariants as phase
use Rattle.order_kinds.specs.declared.price.Price.{Price}
use Rattle.order_kinds.specs.Contract.{hour_text, quarter_text, contract_text}
use Rattle.order_kinds.specs.Order.{name_text}
use Rattle.order_kinds.specs.Phase.{phase_text}
use Rattle.order_kinds.specs.Price.{price_text, cents_text}
use Rattle.journal_print.specs.Json.{is_plain_byte, IsPlain}
use Rattle.journal_print.specs.Line.{quantity_text}

plain_byte : (b : ℕ) → 35 ≤ b → b ≤ 126 → b ≢ 92 → is_plain_byte b ≡ true
plain_byte b low high other =
    and_from _ _ (le-leb 35 b low) (and_from _ _ (le-leb b 126 high) (not_from_false _ (ne_eqb b 92 other)))

pub plain_byte_range : (b : ℕ) → is_plain_byte b ≡ true → (35 ≤ b) × (b ≤ 126)
plain_byte_range b h =
    let outer = and_parts _ _ h in
    (leb-true 35 b outer.0, leb-true b 126 (and_parts _ _ outer.1).0)

plain_digit : (n : ℕ) → n < 10 → is_plain_byte (48 + n) ≡ true
plain_digit n small = plain_byte (48 + n) (omega arith) (omega arith) (λ e. omega arith)

plain_name_byte : (b : ℕ) → is_name_byte b ≡ true → is_plain_byte b ≡ true
plain_name_byte b h = grind (arith, nat_tests)

plain_bytes : (bytes : List ℕ) → list_all is_name_byte bytes ≡ true → IsPlain bytes
plain_bytes [] h = refl
plain_bytes (b ∷ bytes) h =
    let parts = and_parts _ _ h in
    and_from _ _ (plain_name_byte b parts.0) (plain_bytes bytes parts.1)

-- a name is plain
pub plain-name : (name : List ℕ) → IsName name → IsPlain name
plain-name name h = plain_bytes name h.each

pub plain-append : (xs ys : List ℕ) → IsPlain xs → IsPlain ys → IsPlain (xs ++ ys)
plain-append xs ys h k = list_all-append is_plain_byte xs ys ∙ and_from _ _ h k

plain-digits_onto : (k n : ℕ) (acc : List ℕ) → IsPlain acc → IsPlain (digits_onto k 10 false n acc)
plain-digits_onto zero n acc h = h
plain-digits_onto (suc k) n acc h =
    let d = digit_glyph false (n % 10) in
    let plain : is_plain_byte d ≡ true =
    cond_both (nat_lt (n % 10) 10) (48 + n % 10) (87 + n % 10) (λ b. is_plain_byte b ≡ true) (λ e. plain_digit (n % 10) (omega arith))
    (λ e. let high = ltb-false (n % 10) 10 e in absurd (omega (arith, high))) in
    let one : IsPlain (d ∷ acc) = and_from _ _ plain h in
    cond_both (n / 10 == 0) (d ∷ acc) (digits_onto k 10 false (n / 10) (d ∷ acc)) IsPlain (λ _. one)
    (λ _. plain-digits_onto k (n / 10) (d ∷ acc) one)

-- numbers
pub plain-decimal : (n : ℕ) → IsPlain (decimal n)
unfolding digits
plain-decimal n = plain-digits_onto 64 n [] refl

pub plain-hour_text : (hour : ℕ) → IsPlain (hour_text hour)
plain-hour_text hour = plain-decimal hour

pub plain-quarter_text : (quarter : Quarter) → IsPlain (quarter_text quarter)
plain-quarter_text quarter =
    plain-append (decimal quarter.hour) (113 ∷ decimal quarter.number) (plain-decimal quarter.hour) (plain-decimal quarter.number)

pub plain-name_text : (name : OrderName) → IsPlain (name_text name)
plain-name_text name =
    plain-append (decimal name.hour) (35 ∷ decimal name.number) (plain-decimal name.hour) (plain-decimal name.number)

plain_of_part : (hour : ℕ) (p : Part) → IsPlain (contract_text (record { hour = hour; part = p }))
plain_of_part hour part.Hour = plain-decimal hour
plain_of_part hour (part.Quarter n) = plain-append (decimal hour) (113 ∷ decimal n) (plain-decimal hour) (plain-decimal n)
plain_of_part hour (part.Half n) = plain-append (decimal hour) (102 ∷ decimal n) (plain-decimal hour) (plain-decimal n)

pub plain-contract_text : (contract : Contract) → IsPlain (contract_text contract)
plain-contract_text contract = plain_of_part contract.hour contract.part

pub plain-phase_text : (p : Phase) → IsPlain (phase_text p)
plain-phase_text phase.Open = refl
plain-phase_text phase.Local = refl
plain-phase_text phase.Closed = refl

plain-cents_text : (cents : ℕ) → IsPlain (cents_text cents)
plain-cents_text cents =
    plain-append (decimal (cents / 100)) (46 ∷ (48 + cents / 10 % 10) ∷ (48 + cents % 10) ∷ []) (plain-decimal (cents / 100))
    (and_from _ _ (plain_digit (cents / 10 % 10) (omega arith)) (and_from _ _ (plain_digit (cents % 10) (omega arith)) refl))

plain_signed : (z : ℤ) → IsPlain (price_text (record { 0 = z }))
plain_signed (pos n) = plain-cents_text n
plain_signed (negsuc n) = plain-cents_text (suc n)

pub plain-price_text : (price : Price) → IsPlain (price_text price)
plain-price_text price = plain_signed price.0

pub plain-quantity_text : (lots : ℕ) → IsPlain (quantity_text lots)
plain-quantity_text lots =
    plain-append (decimal (lots / 10)) (46 ∷ (48 + lots % 10) ∷ []) (plain-decimal (lots / 10)) (and_from _ _ (plain_digit (lots % 10) (omega arith)) refl)
