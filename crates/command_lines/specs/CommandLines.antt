-- The command for which the words of a line stand that follow the caller's name, by the numbers of
-- the zones: none where they are not of the verb's form.
use Rattle.std.specs.Prelude.{ℕ, ◌*◌, ◌/◌, ◌&&◌, ◌==◌, nat_le, List, [], ◌∷◌, length, drop, map, get_or, codes, Option, Some, None, if◌then◌else◌}
use Rattle.std.specs.List.{range_with_len}
use Rattle.order_kinds.specs.declared.side.Side.{Side}
use Rattle.order_kinds.specs.declared.order.Kind.{Kind}
use Rattle.order_kinds.specs.declared.order.Kind.TheVariants as kind
use Rattle.order_kinds.specs.declared.order.Order.{Order}
use Rattle.market_model.specs.declared.command.Command.{Command}
use Rattle.market_model.specs.declared.command.Command.TheVariants as command
use Rattle.market_spelling.specs.Chain.{◌>>=◌}
use Rattle.market_spelling.specs.Hours.{hour_of, contract_of, quarter_of, order_name_of}
use Rattle.market_spelling.specs.Numbers.{quantity_of, price_of, cents_of}
use Rattle.market_spelling.specs.Words.{is_word, word_or, side_of, phase_of}
use Rattle.market_spelling.specs.declared.words.Verb.{Verb}
use Rattle.market_spelling.specs.declared.words.Verb.TheVariants as verb
use Rattle.command_lines.specs.Names.{zone_of, ends_of}

-- the word at a place
abbrev pub word_at : ℕ → List (List ℕ) → List ℕ
word_at place words = get_or words place []

-- the first word and those after it
unfoldable pub first_word : List (List ℕ) → Option (List ℕ × List (List ℕ))
first_word words = if nat_le 1 (length words) then Some (word_at 0 words, drop 1 words) else None

-- the word, where there is one alone
unfoldable pub only_word : List (List ℕ) → Option (List ℕ)
only_word words = if length words == 1 then Some (word_at 0 words) else None

-- an order of a side and a kind: its contract, its zone, its quantity and its price
unfoldable pub order_of : Side → Kind → List (List ℕ) → (contract zone quantity price : List ℕ) → Option Order
order_of side kind zones contract_word zone_word quantity_word price_word = do
  contract ← contract_of contract_word
  zone ← zone_of zones zone_word
  quantity ← quantity_of quantity_word
  price ← price_of price_word
  Some (record { contract = contract; zone = zone; side = side; price = price; quantity = quantity; kind = kind })

-- `ioc` or `fok`
unfoldable pub short_kind_of : List ℕ → Option Kind
short_kind_of word = word_or (codes "ioc") kind.Ioc word (word_or (codes "fok") kind.Fok word None)

-- `iceberg`, the peak and the delta
unfoldable pub iceberg_of : (word peak delta : List ℕ) → Option Kind
iceberg_of word peak_word delta_word = if is_word (codes "iceberg") word then iceberg else None
  where
    iceberg : Option Kind
    iceberg = do
      peak ← quantity_of peak_word
      delta ← cents_of delta_word
      Some (kind.Iceberg peak delta)

-- the kind of an order: nothing for a plain limit order, one word, or an iceberg's three
unfoldable pub kind_of : List (List ℕ) → Option Kind
kind_of words =
    if length words == 0 then Some kind.Limit
    else (if length words == 1 then short_kind_of (word_at 0 words)
    else (if length words == 3 then iceberg_of (word_at 0 words) (word_at 1 words) (word_at 2 words)
    else None))

-- `CONTRACT ZONE QUANTITY PRICE`, and a kind
unfoldable pub enter_of : Side → List (List ℕ) → List (List ℕ) → Option Command
enter_of side zones words = if nat_le 4 (length words) then enter else None
  where
    enter : Option Command
    enter = do
      kind ← kind_of (drop 4 words)
      order ← order_of side kind zones (word_at 0 words) (word_at 1 words) (word_at 2 words) (word_at 3 words)
      Some (command.Enter order)

-- `HOUR HOUR ZONE QUANTITY PRICE`
unfoldable pub block_of : Side → List (List ℕ) → List (List ℕ) → Option Command
block_of side zones words = if length words == 5 then block else None
  where
    block : Option Command
    block = do
      first ← hour_of (word_at 0 words)
      last ← hour_of (word_at 1 words)
      zone ← zone_of zones (word_at 2 words)
      quantity ← quantity_of (word_at 3 words)
      price ← price_of (word_at 4 words)
      Some (command.EnterBlock (record { first = first; last = last; zone = zone; side = side; price = price; quantity = quantity }))

-- the item with which words begin: `SIDE CONTRACT ZONE QUANTITY PRICE`, a fill-or-kill order
unfoldable pub item_of : List (List ℕ) → List (List ℕ) → Option Order
item_of zones words = if nat_le 5 (length words) then item else None
  where
    item : Option Order
    item = do
      side ← side_of (word_at 0 words)
      order_of side kind.Fok zones (word_at 1 words) (word_at 2 words) (word_at 3 words) (word_at 4 words)

-- all values, where there is each of them
abbrev pub all_values : {A : Type 0} → List (Option A) → Option (List A)
all_values [] = Some []
all_values (one ∷ others) = do
  value ← one
  values ← all_values others
  Some (value ∷ values)

-- so many items, of five words each
unfoldable pub items_of : ℕ → List (List ℕ) → List (List ℕ) → Option (List Order)
items_of count zones words = all_values (map (λ item. item_of zones (drop (5 * item) words)) (range_with_len 0 count))

-- how many items so many words are: one to eight of five words each
unfoldable pub item_count : ℕ → Option ℕ
item_count words =
    let count = words / 5 in
    if (words == 5 * count) && nat_le 1 count && nat_le count 8 then Some count else None

-- one to eight items
unfoldable pub basket_of : List (List ℕ) → List (List ℕ) → Option Command
basket_of zones words = do
  count ← item_count (length words)
  orders ← items_of count zones words
  Some (command.EnterBasket orders)

-- `ORDER`
unfoldable pub cancel_of : List (List ℕ) → Option Command
cancel_of words = if length words == 1 then cancel else None
  where
    cancel : Option Command
    cancel = do
      name ← order_name_of (word_at 0 words)
      Some (command.Cancel name)

-- `ORDER QUANTITY`
unfoldable pub reduce_of : List (List ℕ) → Option Command
reduce_of words = if length words == 2 then reduce else None
  where
    reduce : Option Command
    reduce = do
      name ← order_name_of (word_at 0 words)
      quantity ← quantity_of (word_at 1 words)
      Some (command.Reduce name quantity.0)

-- `HOUR HOUR`
unfoldable pub blocks_of : List (List ℕ) → Option Command
blocks_of words = if length words == 2 then blocks else None
  where
    blocks : Option Command
    blocks = do
      first ← hour_of (word_at 0 words)
      last ← hour_of (word_at 1 words)
      Some (command.Blocks first last)

-- `ARC QUARTER QUARTER QUANTITY`
unfoldable pub offer_of : List (List ℕ) → List (List ℕ) → Option Command
offer_of zones words = if length words == 4 then offer else None
  where
    offer : Option Command
    offer = do
      ends ← ends_of zones (word_at 0 words)
      first ← quarter_of (word_at 1 words)
      last ← quarter_of (word_at 2 words)
      quantity ← quantity_of (word_at 3 words)
      Some (command.Offer ends.0 ends.1 first last quantity.0)

unfoldable pub request_of : List (List ℕ) → List (List ℕ) → Option Command
request_of zones words = if length words == 4 then request else None
  where
    request : Option Command
    request = do
      ends ← ends_of zones (word_at 0 words)
      first ← quarter_of (word_at 1 words)
      last ← quarter_of (word_at 2 words)
      quantity ← quantity_of (word_at 3 words)
      Some (command.Request ends.0 ends.1 first last quantity.0)

-- `ARC HOUR HOUR`
unfoldable pub halt_of : List (List ℕ) → List (List ℕ) → Option Command
halt_of zones words = if length words == 3 then halt else None
  where
    halt : Option Command
    halt = do
      ends ← ends_of zones (word_at 0 words)
      first ← hour_of (word_at 1 words)
      last ← hour_of (word_at 2 words)
      Some (command.Halt ends.0 ends.1 first last)

unfoldable pub resume_of : List (List ℕ) → List (List ℕ) → Option Command
resume_of zones words = if length words == 3 then resume else None
  where
    resume : Option Command
    resume = do
      ends ← ends_of zones (word_at 0 words)
      first ← hour_of (word_at 1 words)
      last ← hour_of (word_at 2 words)
      Some (command.Resume ends.0 ends.1 first last)

-- `HOUR PHASE`
unfoldable pub gate_line_of : List (List ℕ) → Option Command
gate_line_of words = if length words == 2 then gate else None
  where
    gate : Option Command
    gate = do
      hour ← hour_of (word_at 0 words)
      phase ← phase_of (word_at 1 words)
      Some (command.Gate hour phase)

-- `CONTRACT SIDE ZONE`
unfoldable pub view_of : List (List ℕ) → List (List ℕ) → Option Command
view_of zones words = if length words == 3 then view else None
  where
    view : Option Command
    view = do
      contract ← contract_of (word_at 0 words)
      side ← side_of (word_at 1 words)
      zone ← zone_of zones (word_at 2 words)
      Some (command.View contract side zone)

-- the command of a verb that stands for one command with no list in it
abbrev pub plain_command_of : Verb → List (List ℕ) → List (List ℕ) → Option Command
plain_command_of (verb.Enter side) zones words = enter_of side zones words
plain_command_of (verb.EnterBlock side) zones words = block_of side zones words
plain_command_of verb.Cancel zones words = cancel_of words
plain_command_of verb.Reduce zones words = reduce_of words
plain_command_of verb.Blocks zones words = blocks_of words
plain_command_of verb.Offer zones words = offer_of zones words
plain_command_of verb.Request zones words = request_of zones words
plain_command_of verb.Halt zones words = halt_of zones words
plain_command_of verb.Resume zones words = resume_of zones words
plain_command_of verb.Gate zones words = gate_line_of words
plain_command_of verb.View zones words = view_of zones words
plain_command_of _ zones words = None

-- the command of a verb
abbrev pub command_of : Verb → List (List ℕ) → List (List ℕ) → Option Command
command_of verb.Basket zones words = basket_of zones words
command_of other zones words = plain_command_of other zones words
