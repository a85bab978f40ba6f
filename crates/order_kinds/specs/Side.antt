-- The two sides: which prices meet, which price goes first, and how a side is printed.
use Rattle.std.specs.Prelude.{ℕ, Bool, List, int_le, codes}
use Rattle.std.specs.Ordering.{int_cmp, is_lt}
use Rattle.std.specs.declared.cmp.Ordering.{Ordering}
use Rattle.order_kinds.specs.declared.price.Price.{Price}
use Rattle.order_kinds.specs.declared.side.Side.{Side}
use Rattle.order_kinds.specs.declared.side.Side.TheVariants.{Buy, Sell}

-- the other side
abbrev pub opposite : Side → Side
opposite Buy = Sell
opposite Sell = Buy

-- a buy and a sell can trade: the buy pays at least what the sell asks
abbrev pub prices_cross : (buy sell : Price) → Bool
prices_cross buy sell = int_le sell.0 buy.0

-- an order of this side, at its own price, can trade with one of the other side at that price
abbrev pub crosses : Side → (own other : Price) → Bool
crosses Buy own other = prices_cross own other
crosses Sell own other = prices_cross other own

-- how two prices of a side stand in priority, the better first: the higher buy, the lower sell
abbrev pub price_cmp : Side → (one other : Price) → Ordering
price_cmp Buy one other = int_cmp other.0 one.0
price_cmp Sell one other = int_cmp one.0 other.0

-- one price of a side is better than another
abbrev pub prefers : Side → (one other : Price) → Bool
prefers side one other = is_lt (price_cmp side one other)

-- a side in words
abbrev pub side_text : Side → List ℕ
side_text Buy = codes "buy"
side_text Sell = codes "sell"
