-- How long the lines and the text of a session are.
use Rattle.std.proofs.Common.{◌≡◌, ℕ, zero, suc, ◌+◌, ◌*◌, ◌/◌, ◌%◌, ◌^◌, ◌<◌, ◌≤◌, Bool, true, false, List, [], ◌∷◌, ◌++◌, length, refl, sym, ap, ◌∙◌, add-one, length-append, arith, rules, lit<}
use Rattle.std.specs.Prelude.{◌==◌, codes, decimal, nat_lt, slice_get, unwrap_or, if◌then◌else◌}
use Rattle.std.specs.Fmt.{digits}
use Rattle.std.proofs.Math.Nat.{mod-lt}
use Rattle.std.proofs.lemmas.Bool.Decides.{nat_tests}
use Rattle.std.proofs.lemmas.Fmt.{length-decimal-le}
use Rattle.order_kinds.specs.declared.contract.Part.{Part}
use Rattle.order_kinds.specs.declared.contract.Part.TheVariants as part
use Rattle.order_kinds.specs.declared.order.Kind.{Kind}
use Rattle.order_kinds.specs.declared.order.Kind.TheVariants as kind
use Rattle.order_kinds.specs.declared.price.Lots.{Lots}
use Rattle.order_kinds.specs.declared.side.Side.{Side}
use Rattle.order_kinds.specs.declared.side.Side.TheVariants.{Buy, Sell}
use Rattle.order_kinds.specs.Contract.{hour_text, quarter_text, contract_text}
use Rattle.order_kinds.specs.Price.{cents_text, price_text, lots_text}
use Rattle.order_kinds.specs.Side.{side_text}
use Rattle.load_maker.specs.declared.commands.Form.{Form}
use Rattle.load_maker.specs.declared.commands.Form.TheVariants as form
use Rattle.load_maker.specs.declared.commands.Terms.{Terms}
use Rattle.load_maker.specs.Draws.{number_of, state_after, draw}
use Rattle.load_maker.specs.Commands.{borders, order_on, block_on, first_hour, entry_of, terms_from, form_of, entry_from, offer_from, offered_arc, border_ends}
use Rattle.load_maker.specs.Lines.{spaced, zone_name, trader_name, kind_words, line_of}
use Rattle.load_maker.specs.Session.{header, state_before, command_line, session_text}
use Rattle.load_maker.proofs.Texts.{session_text_more}

-- ---- words

-- the bytes of words and of one byte behind each
abbrev room : List (List ℕ) → ℕ
room [] = 0
room (word ∷ words) = length word + (1 + room words)

-- words with single spaces between them have all of these but the last
length-spaced : (word : List ℕ) (words : List (List ℕ)) → length (spaced (word ∷ words)) + 1 ≡ room (word ∷ words)
length-spaced word [] = omega arith
length-spaced word (next ∷ words) =
    omega (arith, length-append word (32 ∷ spaced (next ∷ words)), length-spaced next words)

-- one digit, and two
one_digit : (number : ℕ) → number < 10 → length (decimal number) ≤ 1
one_digit number few = length-decimal-le 1 number (omega arith) (omega arith) (omega arith)

two_digits : (number : ℕ) → number < 100 → length (decimal number) ≤ 2
two_digits number few = length-decimal-le 2 number (omega arith) (omega arith) (omega arith)

zone_short : (zone : ℕ) → zone < 99 → length (zone_name zone) ≤ 3
zone_short zone few =
    let tens : length (decimal ((zone + 1) / 10)) ≤ 1 = one_digit ((zone + 1) / 10) (omega arith) in
    omega (arith, tens, length-append (decimal ((zone + 1) / 10)) ((48 + (zone + 1) % 10) ∷ []))

hour_short : (hour : ℕ) → hour < 100 → length (hour_text hour) ≤ 3
hour_short hour few = omega (arith, two_digits hour few)

quarter_short : (hour number : ℕ) → hour < 100 → number < 10
    → length (quarter_text (record { hour = hour; number = number })) ≤ 5
quarter_short hour number few one =
    omega (arith, hour_short hour few, one_digit number one, length-append (hour_text hour) (codes "q" ++ decimal number))

lots_short : (lots : Lots) → lots.0 < 1000 → length (lots_text lots) ≤ 4
lots_short lots few =
    let whole : length (decimal (lots.0 / 10)) ≤ 2 = two_digits (lots.0 / 10) (omega arith) in
    omega (arith, whole, length-append (decimal (lots.0 / 10)) (codes "." ++ ((48 + lots.0 % 10) ∷ [])))

cents_short : (cents : ℕ) → cents < 10000 → length (cents_text cents) ≤ 5
cents_short cents few =
    let whole : length (decimal (cents / 100)) ≤ 2 = two_digits (cents / 100) (omega arith) in
    omega (
      arith,
      whole,
      length-append (decimal (cents / 100)) (codes "." ++ ((48 + cents / 10 % 10) ∷ (48 + cents % 10) ∷ [])),
    )

side_short : (side : Side) → length (side_text side) ≤ 4
side_short Buy = omega arith
side_short Sell = omega arith

-- ---- commands

-- an order's words with room for a byte behind each
order_short : (trader side contract zone lots price : List ℕ) (kind : List (List ℕ)) → length trader ≤ 2 → length side ≤ 4
    → length contract ≤ 5 → length zone ≤ 3 → length lots ≤ 4 → length price ≤ 5 → room kind ≤ 19
    → length (spaced (trader ∷ side ∷ contract ∷ zone ∷ lots ∷ price ∷ kind)) + 1 ≤ 48
order_short trader side contract zone lots price kind t s c z l p k =
    omega (arith, length-spaced trader (side ∷ contract ∷ zone ∷ lots ∷ price ∷ kind))

-- the same of a block
block_short : (trader side first last zone lots price : List ℕ) → length trader ≤ 2 → length side ≤ 9
    → length first ≤ 3 → length last ≤ 3 → length zone ≤ 3 → length lots ≤ 4 → length price ≤ 5
    → length (spaced (trader ∷ side ∷ first ∷ last ∷ zone ∷ lots ∷ price ∷ [])) + 1 ≤ 48
block_short trader side first last zone lots price t s f e z l p =
    omega (arith, length-spaced trader (side ∷ first ∷ last ∷ zone ∷ lots ∷ price ∷ []))

-- the same of an offer
offer_short : (caller command arc first last lots : List ℕ) → length caller ≤ 3 → length command ≤ 5
    → length arc ≤ 7 → length first ≤ 5 → length last ≤ 5 → length lots ≤ 4
    → length (spaced (caller ∷ command ∷ arc ∷ first ∷ last ∷ lots ∷ [])) + 1 ≤ 48
offer_short caller command arc first last lots c o a f e l =
    omega (arith, length-spaced caller (command ∷ arc ∷ first ∷ last ∷ lots ∷ []))

-- numbers that need few digits
record IsShort (terms : Terms) : Type 0 where
  trader : terms.trader < 10
  hour : terms.hour < 25
  zone : terms.zone < 12
  lots : terms.lots.0 < 101
  price : length (price_text terms.price) ≤ 5

trader_short : (trader : ℕ) → trader < 10 → length (trader_name trader) ≤ 2
trader_short trader few = omega (arith, one_digit trader few)

first_hour_below : (hour : ℕ) → hour < 25 → first_hour hour < 25
first_hour_below hour few = grind (arith, nat_tests)

-- an order on such terms
order_on_short : (terms : Terms) (part : Part) (quantity : Lots) (kind : Kind) → IsShort terms
    → length (contract_text (record { hour = terms.hour; part = part })) ≤ 5 → quantity.0 < 1000
    → room (kind_words kind) ≤ 19 → length (line_of (order_on terms part quantity kind)) + 1 ≤ 48
order_on_short terms part quantity kind short contract lots kinds =
    order_short (trader_name terms.trader) (side_text terms.side)
    (contract_text (record { hour = terms.hour; part = part })) (zone_name terms.zone) (lots_text quantity)
    (price_text terms.price) (kind_words kind) (trader_short terms.trader short.trader) (side_short terms.side) contract
    (zone_short terms.zone (omega (arith, short.zone))) (lots_short quantity lots) short.price kinds

-- a block on such terms
block_on_short : (terms : Terms) → IsShort terms → length (line_of (block_on terms)) + 1 ≤ 48
block_on_short terms short =
    let first : first_hour terms.hour < 25 = first_hour_below terms.hour short.hour in
    let side : length (side_text terms.side ++ codes "block") ≤ 9 =
    omega (arith, side_short terms.side, length-append (side_text terms.side) (codes "block")) in
    block_short (trader_name terms.trader) (side_text terms.side ++ codes "block") (hour_text (first_hour terms.hour))
    (hour_text (first_hour terms.hour + 1)) (zone_name terms.zone) (lots_text (record { 0 = 50 })) (price_text terms.price)
    (trader_short terms.trader short.trader) side
    (hour_short (first_hour terms.hour) (omega arith)) (hour_short (first_hour terms.hour + 1) (omega arith))
    (zone_short terms.zone (omega (arith, short.zone))) (lots_short (record { 0 = 50 }) (lit< tt)) short.price

-- an entry of each form on such terms
entry_short : (drawn : Form) (terms : Terms) (quarter : ℕ) → IsShort terms → quarter < 10
    → length (line_of (entry_of drawn terms quarter)) + 1 ≤ 48
entry_short drawn terms quarter short few = by_form drawn
  where
    hour : length (hour_text terms.hour) ≤ 3
    hour = hour_short terms.hour (omega (arith, short.hour))

    whole : length (contract_text (record { hour = terms.hour; part = part.Hour })) ≤ 5
    whole = omega (arith, hour)

    part_of : length (contract_text (record { hour = terms.hour; part = part.Quarter quarter })) ≤ 5
    part_of = omega (arith, hour, one_digit quarter few, length-append (hour_text terms.hour) (codes "q" ++ decimal quarter))

    lots : terms.lots.0 < 1000
    lots = omega (arith, short.lots)

    icebergs : room (kind_words (kind.Iceberg (record { 0 = 10 }) 5)) ≤ 19
    icebergs = omega (arith, lots_short (record { 0 = 10 }) (lit< tt), cents_short 5 (lit< tt))

    by_form : (own : Form) → length (line_of (entry_of own terms quarter)) + 1 ≤ 48
    by_form form.Hour = order_on_short terms part.Hour terms.lots kind.Limit short whole lots (omega arith)
    by_form form.Quarter = order_on_short terms (part.Quarter quarter) terms.lots kind.Limit short part_of lots (omega arith)
    by_form form.Ioc = order_on_short terms part.Hour terms.lots kind.Ioc short whole lots (omega arith)
    by_form form.Fok = order_on_short terms part.Hour terms.lots kind.Fok short whole lots (omega arith)
    by_form form.Iceberg =
        order_on_short terms part.Hour (record { 0 = terms.lots.0 + 10 }) (kind.Iceberg (record { 0 = 10 }) 5) short whole
        (omega (arith, short.lots)) icebergs
    by_form form.Block = block_on_short terms short

-- a draw is below its bound
draw_below : (state bound : ℕ) → 0 < bound → number_of state bound < bound
unfolding number_of
draw_below state bound some = mod-lt (state / 2 ^ 33) some

-- the terms that are drawn
terms_short : (state : ℕ) → IsShort (terms_from state)
terms_short state = record {
  trader = omega (arith, draw_below (state_after state 1) 6 (lit< tt));
  hour = omega (arith, draw_below (state_after state 2) 24 (lit< tt));
  zone = draw_below (state_after state 3) 12 (lit< tt);
  lots = omega (arith, draw_below (state_after state 5) 100 (lit< tt));
  price = cents_short (4000 + draw state 6 2001) (omega (arith, draw_below (state_after state 6) 2001 (lit< tt)));
}

-- the zones of borders are among the twelve
AreZones : List (ℕ × ℕ) → Type 0
AreZones [] = Unit {0}
AreZones (ends ∷ others) = (ends.0 < 12) × (ends.1 < 12) × AreZones others

zones_at : (ends : List (ℕ × ℕ)) (place : ℕ) → AreZones ends
    → ((unwrap_or (slice_get ends place) (0, 0)).0 < 12) × ((unwrap_or (slice_get ends place) (0, 0)).1 < 12)
unfolding AreZones
zones_at [] place zones = (lit< tt, lit< tt)
zones_at (own ∷ others) zero zones = (zones.0, zones.1)
zones_at (own ∷ others) (suc place) zones = zones_at others place zones.2

borders_are_zones : AreZones borders
unfolding AreZones
borders_are_zones = search rules

arc_below : (place : ℕ) → ((offered_arc place).0 < 12) × ((offered_arc place).1 < 12)
arc_below place = by_test (place % 2 == 0)
  where
    ends : ((border_ends (place / 2)).0 < 12) × ((border_ends (place / 2)).1 < 12)
    ends = zones_at borders (place / 2) borders_are_zones

    by_test : (forward : Bool)
        → ((if forward then border_ends (place / 2) else ((border_ends (place / 2)).1, (border_ends (place / 2)).0)).0 < 12)
        × ((if forward then border_ends (place / 2) else ((border_ends (place / 2)).1, (border_ends (place / 2)).0)).1 < 12)
    by_test true = ends
    by_test false = (ends.1, ends.0)

-- the offer that is drawn
offer_from_short : (place state : ℕ) → length (line_of (offer_from place state)) + 1 ≤ 48
offer_from_short place state =
    let arc = arc_below place in
    let from : length (zone_name (offered_arc place).0) ≤ 3 = zone_short (offered_arc place).0 (omega (arith, arc.0)) in
    let to : length (zone_name (offered_arc place).1) ≤ 3 = zone_short (offered_arc place).1 (omega (arith, arc.1)) in
    let way : length (zone_name (offered_arc place).0 ++ (codes ">" ++ zone_name (offered_arc place).1)) ≤ 7 =
    omega (arith, from, to, length-append (zone_name (offered_arc place).0) (codes ">" ++ zone_name (offered_arc place).1)) in
    let amount : Lots = record { 0 = 500 + draw state 1 500 } in
    offer_short (codes "tso") (codes "offer") (zone_name (offered_arc place).0 ++ (codes ">" ++ zone_name (offered_arc place).1))
    (quarter_text (record { hour = 1; number = 1 })) (quarter_text (record { hour = 24; number = 4 })) (lots_text amount)
    (omega arith) (omega arith) way (quarter_short 1 1 (lit< tt) (lit< tt)) (quarter_short 24 4 (lit< tt) (lit< tt))
    (lots_short amount (omega (arith, draw_below (state_after state 1) 500 (lit< tt))))

-- the entry that is drawn
entry_from_short : (state : ℕ) → length (line_of (entry_from state)) + 1 ≤ 48
entry_from_short state =
    entry_short (form_of (draw state 7 10)) (terms_from state) (draw state 8 4 + 1) (terms_short state)
    (omega (arith, draw_below (state_after state 8) 4 (lit< tt)))

-- ---- the text

-- a command's line has at most 48 bytes, with its line feed
line_short : (place : ℕ) → length (command_line place) + 1 ≤ 48
unfolding command_line
line_short place = by_test (nat_lt place 40)
  where
    by_test : (first : Bool)
        → length (line_of (if first then offer_from place (state_before place) else entry_from (state_before place))) + 1 ≤ 48
    by_test true = offer_from_short place (state_before place)
    by_test false = entry_from_short (state_before place)

header_length : length (session_text 0) ≡ 502
unfolding header digits
header_length = refl

-- one more command
length-session_text_more : (place : ℕ)
    → length (session_text (suc place)) ≡ length (session_text place) + (length (command_line place) + 1)
length-session_text_more place =
    ap (λ commands. length (session_text commands)) (sym (add-one place))
    ∙ ap length (session_text_more place)
    ∙ length-append (session_text place) (command_line place ++ codes "\n")
    ∙ ap (λ more. length (session_text place) + more) (length-append (command_line place) (codes "\n"))

-- the text of a session has at most so many bytes
pub session_text_short : (commands : ℕ) → length (session_text commands) ≤ 502 + 48 * commands
session_text_short zero = omega (arith, header_length)
session_text_short (suc commands) =
    omega (arith, session_text_short commands, length-session_text_more commands, line_short commands)
