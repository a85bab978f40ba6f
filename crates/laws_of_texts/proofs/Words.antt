-- The words of generated lines: each is one word of one line, and is read.
use Rattle.std.proofs.Common.{◌≡◌, ℕ, ◌+◌, ◌-◌, ◌<◌, ◌≤◌, ◌==◌, ◌&&◌, not, Bool, true, List, ◌++◌, length, refl, sym, ap, ◌∙◌, arith, codes, decimal, pos, Option}
use Rattle.std.specs.Prelude.{is_some}
use Rattle.std.specs.Fmt.{digits}
use Rattle.std.specs.List.{list_all, range_with_len}
use Rattle.std.proofs.lemmas.List.FromFn.{length-range_with_len, get_or-range_with_len}
use Rattle.std.proofs.lemmas.List.Sums.{AllPass-from_list_all}
use Rattle.std.proofs.lemmas.Bool.{and_parts}
use Rattle.order_kinds.specs.Contract.{hour_text, quarter_text}
use Rattle.order_kinds.specs.Price.{lots_text, price_text}
use Rattle.market_spelling.specs.Hours.{hour_of, contract_of, quarter_of}
use Rattle.market_spelling.specs.Numbers.{number_of, digit_of, whole_of, quantity_of, cents_of, price_of}
use Rattle.market_spelling.specs.Words.{is_name, parts_around, arc_of}
use Rattle.load_maker.specs.Commands.{offered_arc}
use Rattle.load_maker.specs.Lines.{zone_name, trader_name}

-- a byte that is no space and no line feed
abbrev pub is_plain_byte : ℕ → Bool
is_plain_byte byte = not (byte == 32) && not (byte == 10)

-- bytes of one word of one line
abbrev pub is_plain : List ℕ → Bool
is_plain word = list_all is_plain_byte word

-- a word of which something is read: as a fact, and as a test
pub record IsRead {A : Type 0} (read : List ℕ → Option A) (word : List ℕ) : Type 0 where
  pub plain : is_plain word ≡ true
  pub some : is_some (read word) ≡ true

abbrev is_read : {A : Type 0} → (List ℕ → Option A) → List ℕ → Bool
is_read read word = is_plain word && is_some (read word)

pub read_from_test : {A : Type 0} (read : List ℕ → Option A) (word : List ℕ) → is_read read word ≡ true → IsRead read word
read_from_test read word passes =
    let tests = and_parts (is_plain word) (is_some (read word)) passes in
    record { plain = tests.0; some = tests.1 }

-- a word that is a name
pub record IsNameWord (word : List ℕ) : Type 0 where
  pub plain : is_plain word ≡ true
  pub name : is_name word ≡ true

-- a test that each number of a range passes
pub at_each : (test : ℕ → Bool) (first count number : ℕ) → list_all test (range_with_len first count) ≡ true
    → first ≤ number → number < first + count → test number ≡ true
at_each test first count number all from to =
    let place : number - first < count = omega arith in
    let inside : number - first < length (range_with_len first count) = omega (arith, length-range_with_len first count) in
    let same : number ≡ first + (number - first) = omega arith in
    ap test (same ∙ sym (get_or-range_with_len first count (number - first) 0 place))
    ∙ AllPass-from_list_all test (range_with_len first count) all (number - first) 0 inside

-- the names of the traders
abbrev is_trader : ℕ → Bool
is_trader trader = is_plain (trader_name trader)

traders : list_all is_trader (range_with_len 1 6) ≡ true
unfolding digits
traders = refl

pub trader_word : (trader : ℕ) → 1 ≤ trader → trader < 7 → is_plain (trader_name trader) ≡ true
trader_word trader from to = at_each is_trader 1 6 trader traders from to

-- hours
abbrev is_hour : ℕ → Bool
is_hour hour = is_read hour_of (hour_text hour)

hours : list_all is_hour (range_with_len 1 24) ≡ true
unfolding digits number_of hour_of
hours = refl

pub hour_word : (hour : ℕ) → 1 ≤ hour → hour < 25 → IsRead hour_of (hour_text hour)
hour_word hour from to = read_from_test hour_of (hour_text hour) (at_each is_hour 1 24 hour hours from to)

-- the contracts of whole hours
abbrev is_whole : ℕ → Bool
is_whole hour = is_read contract_of (hour_text hour)

wholes : list_all is_whole (range_with_len 1 24) ≡ true
unfolding digits number_of hour_of contract_of
wholes = refl

pub whole_word : (hour : ℕ) → 1 ≤ hour → hour < 25 → IsRead contract_of (hour_text hour)
whole_word hour from to = read_from_test contract_of (hour_text hour) (at_each is_whole 1 24 hour wholes from to)

-- those of quarters
abbrev quarter_contract : (hour quarter : ℕ) → List ℕ
quarter_contract hour quarter = hour_text hour ++ (codes "q" ++ decimal quarter)

abbrev is_quarter : (hour quarter : ℕ) → Bool
is_quarter hour quarter = is_read contract_of (quarter_contract hour quarter)

abbrev has_quarters : ℕ → Bool
has_quarters hour = list_all (is_quarter hour) (range_with_len 1 4)

quarters : list_all has_quarters (range_with_len 1 24) ≡ true
unfolding digits number_of digit_of hour_of contract_of
quarters = refl

pub quarter_word : (hour quarter : ℕ) → 1 ≤ hour → hour < 25 → 1 ≤ quarter → quarter < 5
    → IsRead contract_of (hour_text hour ++ (codes "q" ++ decimal quarter))
quarter_word hour quarter from to first last =
    read_from_test contract_of (quarter_contract hour quarter)
    (at_each (is_quarter hour) 1 4 quarter (at_each has_quarters 1 24 hour quarters from to) first last)

-- the first and the last quarter of the day
pub first_quarter : IsRead quarter_of (quarter_text (record { hour = 1; number = 1 }))
unfolding digits number_of digit_of hour_of quarter_of
first_quarter = record { plain = refl; some = refl }

pub last_quarter : IsRead quarter_of (quarter_text (record { hour = 24; number = 4 }))
unfolding digits number_of digit_of hour_of quarter_of
last_quarter = record { plain = refl; some = refl }

-- the names of the zones
abbrev is_zone : ℕ → Bool
is_zone zone = is_plain (zone_name zone) && is_name (zone_name zone)

zones : list_all is_zone (range_with_len 0 12) ≡ true
unfolding digits is_name
zones = refl

pub zone_word : (zone : ℕ) → zone < 12 → IsNameWord (zone_name zone)
zone_word zone to =
    let tests = and_parts (is_plain (zone_name zone)) (is_name (zone_name zone)) (at_each is_zone 0 12 zone zones (omega arith) (omega arith)) in
    record { plain = tests.0; name = tests.1 }

-- the arcs that are offered
abbrev pub arc_text : (place : ℕ) → List ℕ
arc_text place = zone_name (offered_arc place).0 ++ (codes ">" ++ zone_name (offered_arc place).1)

abbrev is_arc : ℕ → Bool
is_arc place = is_read arc_of (arc_text place)

arcs : list_all is_arc (range_with_len 0 40) ≡ true
unfolding digits is_name parts_around arc_of
arcs = refl

pub arc_word : (place : ℕ) → place < 40 → IsRead arc_of (arc_text place)
arc_word place to = read_from_test arc_of (arc_text place) (at_each is_arc 0 40 place arcs (omega arith) (omega arith))

-- quantities
abbrev is_quantity : ℕ → Bool
is_quantity lots = is_read quantity_of (lots_text (record { 0 = lots }))

quantities : list_all is_quantity (range_with_len 0 1000) ≡ true
unfolding digits number_of digit_of whole_of quantity_of
quantities = refl

pub lots_word : (lots : ℕ) → lots < 1000 → IsRead quantity_of (lots_text (record { 0 = lots }))
lots_word lots to =
    read_from_test quantity_of (lots_text (record { 0 = lots })) (at_each is_quantity 0 1000 lots quantities (omega arith) (omega arith))

-- prices
abbrev is_price : ℕ → Bool
is_price cents = is_read price_of (price_text (record { 0 = pos cents }))

prices : list_all is_price (range_with_len 4000 2001) ≡ true
unfolding digits number_of digit_of whole_of cents_of price_of
prices = refl

pub price_word : (cents : ℕ) → 4000 ≤ cents → cents < 6001 → IsRead price_of (price_text (record { 0 = pos cents }))
price_word cents from to = read_from_test price_of (price_text (record { 0 = pos cents })) (at_each is_price 4000 2001 cents prices from to)
