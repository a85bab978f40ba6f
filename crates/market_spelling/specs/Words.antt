-- Words that stand for themselves, and pairs of names.
use Rattle.std.specs.Prelude.{ℕ, ◌+◌, Bool, ◌&&◌, ◌==◌, List, length, take, drop, codes, Option, Some, None, nat_eq, nat_le, position, if◌then◌else◌}
use Rattle.std.specs.List.{list_all}
use Rattle.std.specs.Cmp.Lexicographic.{pointwise}
use Rattle.zone_graph.specs.Name.{is_name_byte}
use Rattle.order_kinds.specs.declared.side.Side.{Side}
use Rattle.order_kinds.specs.declared.side.Side.TheVariants as side
use Rattle.order_kinds.specs.declared.phase.Phase.{Phase}
use Rattle.order_kinds.specs.declared.phase.Phase.TheVariants as phase
use Rattle.market_spelling.specs.declared.words.Heading.{Heading}
use Rattle.market_spelling.specs.declared.words.Heading.TheVariants as heading
use Rattle.market_spelling.specs.declared.words.Verb.{Verb}
use Rattle.market_spelling.specs.declared.words.Verb.TheVariants as verb
use Rattle.market_spelling.specs.Chain.{◌>>=◌}

-- bytes are this word
abbrev pub is_word : List ℕ → List ℕ → Bool
is_word word bytes = pointwise nat_eq bytes word

-- the value of this word, and else that of others
abbrev pub word_or : {A : Type 0} → List ℕ → A → List ℕ → Option A → Option A
word_or word value bytes others = if is_word word bytes then Some value else others

-- a value, and else that of others
abbrev pub value_or : {A : Type 0} → Option A → Option A → Option A
value_or None others = others
value_or (Some value) others = Some value

-- the first word of a line before the commands
unfoldable pub heading_of : List ℕ → Option Heading
heading_of bytes =
    word_or (codes "day") heading.Day bytes
    (word_or (codes "zone") heading.Zone bytes
    (word_or (codes "border") heading.Border bytes
    (word_or (codes "trader") heading.Trader bytes
    (word_or (codes "operator") heading.Operator bytes
    (word_or (codes "begin") heading.Begin bytes None)))))

-- a side in words
unfoldable pub side_of : List ℕ → Option Side
side_of bytes = word_or (codes "buy") side.Buy bytes (word_or (codes "sell") side.Sell bytes None)

-- a phase in words
unfoldable pub phase_of : List ℕ → Option Phase
phase_of bytes =
    word_or (codes "open") phase.Open bytes
    (word_or (codes "local") phase.Local bytes (word_or (codes "closed") phase.Closed bytes None))

-- the entry of an order: the side
abbrev pub enter_verb_of : List ℕ → Option Verb
enter_verb_of bytes = side_of bytes >>= λ side. Some (verb.Enter side)

-- the verbs of blocks and baskets
unfoldable pub block_verb_of : List ℕ → Option Verb
block_verb_of bytes =
    word_or (codes "buyblock") (verb.EnterBlock side.Buy) bytes
    (word_or (codes "sellblock") (verb.EnterBlock side.Sell) bytes
    (word_or (codes "blocks") verb.Blocks bytes
    (word_or (codes "basket") verb.Basket bytes None)))

-- the verbs of capacity and borders
unfoldable pub capacity_verb_of : List ℕ → Option Verb
capacity_verb_of bytes =
    word_or (codes "offer") verb.Offer bytes
    (word_or (codes "request") verb.Request bytes
    (word_or (codes "halt") verb.Halt bytes
    (word_or (codes "resume") verb.Resume bytes None)))

-- the word after the caller's name
unfoldable pub verb_of : List ℕ → Option Verb
verb_of bytes =
    value_or (enter_verb_of bytes) (value_or (block_verb_of bytes) (value_or (capacity_verb_of bytes)
    (word_or (codes "cancel") verb.Cancel bytes
    (word_or (codes "reduce") verb.Reduce bytes
    (word_or (codes "gate") verb.Gate bytes
    (word_or (codes "view") verb.View bytes
    (word_or (codes "clock") verb.Clock bytes None)))))))

-- what stands before the first such byte and what stands after it
unfoldable pub parts_around : ℕ → List ℕ → Option (List ℕ × List ℕ)
parts_around byte bytes = do
  place ← position (λ other. other == byte) bytes
  Some (take place bytes, drop (place + 1) bytes)

-- bytes are a name: 1 to 16 letters, digits, underscores and hyphens
unfoldable pub is_name : List ℕ → Bool
is_name bytes = list_all is_name_byte bytes && nat_le 1 (length bytes) && nat_le (length bytes) 16

-- both are names
abbrev pub are_names : List ℕ × List ℕ → Bool
are_names pair = is_name pair.0 && is_name pair.1

-- two names with `>` between
unfoldable pub arc_of : List ℕ → Option (List ℕ × List ℕ)
arc_of bytes = do
  ends ← parts_around 62 bytes
  if are_names ends then Some ends else None
