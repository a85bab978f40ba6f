-- Lines of words that are read as commands.
use Rattle.std.proofs.Common.{◌≡◌, ℕ, ◌<◌, ◌≤◌, nat_le, Bool, true, false, List, [], ◌∷◌, ◌++◌, length, refl, arith, codes, Option, Some, None}
use Rattle.std.specs.Prelude.{is_some, map}
use Rattle.std.specs.Fmt.{digits}
use Rattle.std.specs.List.{list_all, range_with_len}
use Rattle.order_kinds.specs.declared.order.Kind.{Kind}
use Rattle.order_kinds.specs.declared.order.Kind.TheVariants as kind
use Rattle.order_kinds.specs.declared.side.Side.{Side}
use Rattle.order_kinds.specs.declared.side.Side.TheVariants.{Buy, Sell}
use Rattle.order_kinds.specs.Side.{side_text}
use Rattle.market_spelling.specs.Hours.{hour_of, contract_of, quarter_of}
use Rattle.market_spelling.specs.Numbers.{number_of, digit_of, whole_of, quantity_of, cents_of, price_of}
use Rattle.market_spelling.specs.Words.{arc_of, side_of, block_verb_of, capacity_verb_of, verb_of}
use Rattle.market_spelling.specs.declared.words.Verb.{Verb}
use Rattle.market_spelling.specs.declared.words.Verb.TheVariants as verb
use Rattle.command_lines.specs.CommandLines.{order_of, short_kind_of, iceberg_of, kind_of, enter_of, block_of, offer_of, command_of}
use Rattle.command_lines.specs.Names.{place_of, zone_of, ends_of}
use Rattle.market_text.specs.Steps.{is_clock}
use Rattle.std.proofs.lemmas.Bool.Decides.{nat_tests}
use Rattle.load_maker.specs.Lines.{trader_name, kind_words}
use Rattle.laws_of_texts.proofs.Words.{is_plain, IsRead, IsNameWord, at_each}

-- what a test says that something is read
pub value_of : {A : Type 0} (read : Option A) → is_some read ≡ true → (value : A) × (read ≡ Some value)
value_of None some = absurd cc
value_of (Some value) some = (value, refl)

-- the names of the callers of a generated session
abbrev pub caller_names : List (List ℕ)
caller_names = map trader_name (range_with_len 1 6) ++ codes "tso" ∷ []

-- the line of a caller: the words of a command that is not a clock's
pub record IsCommand (name verb_word : List ℕ) (words : List (List ℕ)) : Type 0 where
  pub caller : ℕ
  pub declared : place_of caller_names name ≡ Some caller
  pub verb : Verb
  pub is_verb : verb_of verb_word ≡ Some verb
  pub no_clock : is_clock verb ≡ false
  pub found : (zones : List (List ℕ)) → is_some (command_of verb zones words) ≡ true

-- an offer
pub offer_found : (arc first last lots : List ℕ) → IsRead arc_of arc → IsRead quarter_of first → IsRead quarter_of last → IsRead quantity_of lots
    → (zones : List (List ℕ)) → is_some (offer_of zones (arc ∷ first ∷ last ∷ lots ∷ [])) ≡ true
unfolding offer_of ends_of
offer_found arc first last lots a f l q zones =
    rw ((value_of (arc_of arc) a.some).1, (value_of (quarter_of first) f.some).1, (value_of (quarter_of last) l.some).1, (value_of (quantity_of lots) q.some).1)
    refl

-- an order for an hour or for a part of one
order_found : (side : Side) (kind : Kind) (zones : List (List ℕ)) (contract zone lots price : List ℕ) → IsRead contract_of contract
    → IsNameWord zone → IsRead quantity_of lots → IsRead price_of price
    → is_some (order_of side kind zones contract zone lots price) ≡ true
unfolding order_of zone_of
order_found side kind zones contract zone lots price c z q p =
    rw ((value_of (contract_of contract) c.some).1, z.name, (value_of (quantity_of lots) q.some).1, (value_of (price_of price) p.some).1) refl

-- with the words of a kind
pub record IsKind (words : List (List ℕ)) : Type 0 where
  pub plain : list_all is_plain words ≡ true
  pub some : is_some (kind_of words) ≡ true

pub enter_found : (side : Side) (kinds : List (List ℕ)) (contract zone lots price : List ℕ) → IsKind kinds → IsRead contract_of contract
    → IsNameWord zone → IsRead quantity_of lots → IsRead price_of price
    → (zones : List (List ℕ)) → is_some (enter_of side zones (contract ∷ zone ∷ lots ∷ price ∷ kinds)) ≡ true
unfolding enter_of
enter_found side kinds contract zone lots price k c z q p zones =
    let enough : nat_le 4 (length (contract ∷ zone ∷ lots ∷ price ∷ kinds)) ≡ true = grind (arith, nat_tests) in
    let kind = value_of (kind_of kinds) k.some in
    let order = value_of (order_of side kind.0 zones contract zone lots price) (order_found side kind.0 zones contract zone lots price c z q p) in
    rw (enough, kind.1, order.1) refl

-- a block
pub block_found : (side : Side) (first last zone lots price : List ℕ) → IsRead hour_of first → IsRead hour_of last → IsNameWord zone
    → IsRead quantity_of lots → IsRead price_of price
    → (zones : List (List ℕ)) → is_some (block_of side zones (first ∷ last ∷ zone ∷ lots ∷ price ∷ [])) ≡ true
unfolding block_of zone_of
block_found side first last zone lots price f l z q p zones =
    rw ((value_of (hour_of first) f.some).1, (value_of (hour_of last) l.some).1, z.name, (value_of (quantity_of lots) q.some).1, (value_of (price_of price) p.some).1)
    refl

-- the verbs
pub enter_verb : (side : Side) → verb_of (side_text side) ≡ Some (verb.Enter side)
unfolding verb_of side_of block_verb_of capacity_verb_of
enter_verb Buy = refl
enter_verb Sell = refl

pub block_verb : (side : Side) → verb_of (side_text side ++ codes "block") ≡ Some (verb.EnterBlock side)
unfolding verb_of side_of block_verb_of capacity_verb_of
block_verb Buy = refl
block_verb Sell = refl

pub offer_verb : verb_of (codes "offer") ≡ Some verb.Offer
unfolding verb_of side_of block_verb_of capacity_verb_of
offer_verb = refl

-- they are words
pub side_plain : (side : Side) → is_plain (side_text side) ≡ true
side_plain Buy = refl
side_plain Sell = refl

pub block_plain : (side : Side) → is_plain (side_text side ++ codes "block") ≡ true
block_plain Buy = refl
block_plain Sell = refl

-- the kinds that are drawn
abbrev pub iceberg : Kind
iceberg = kind.Iceberg (record { 0 = 10 }) 5

pub limit_words : IsKind (kind_words kind.Limit)
unfolding kind_of
limit_words = record { plain = refl; some = refl }

pub ioc_words : IsKind (kind_words kind.Ioc)
unfolding kind_of short_kind_of
ioc_words = record { plain = refl; some = refl }

pub fok_words : IsKind (kind_words kind.Fok)
unfolding kind_of short_kind_of
fok_words = record { plain = refl; some = refl }

pub iceberg_words : IsKind (kind_words iceberg)
unfolding digits number_of digit_of whole_of quantity_of cents_of kind_of iceberg_of
iceberg_words = record { plain = refl; some = refl }

-- the operator and the traders are declared
pub operator_declared : place_of caller_names (codes "tso") ≡ Some 6
unfolding digits
operator_declared = refl

abbrev is_declared : ℕ → Bool
is_declared trader = is_some (place_of caller_names (trader_name trader))

traders_declared : list_all is_declared (range_with_len 1 6) ≡ true
unfolding digits
traders_declared = refl

pub trader_declared : (trader : ℕ) → 1 ≤ trader → trader < 7 → is_some (place_of caller_names (trader_name trader)) ≡ true
trader_declared trader from to = at_each is_declared 1 6 trader traders_declared from to
