-- The lines of a generated session: how its commands are spelled.
use Rattle.std.specs.Prelude.{ℕ, ◌+◌, ◌/◌, ◌%◌, List, [], ◌∷◌, ◌++◌, decimal, codes}
use Rattle.std.specs.List.{flat_map, join_with_byte}
use Rattle.order_kinds.specs.declared.order.Kind.{Kind}
use Rattle.order_kinds.specs.declared.order.Kind.TheVariants as kind
use Rattle.order_kinds.specs.declared.order.Order.{Order}
use Rattle.order_kinds.specs.declared.order.BlockOrder.{BlockOrder}
use Rattle.order_kinds.specs.Contract.{hour_text, quarter_text, contract_text}
use Rattle.order_kinds.specs.Price.{digit, cents_text, price_text, lots_text}
use Rattle.order_kinds.specs.Side.{side_text}
use Rattle.load_maker.specs.declared.drawn_lines.Given.{Given}
use Rattle.load_maker.specs.declared.drawn_lines.Given.TheVariants as given

-- words with single spaces between them
abbrev pub spaced : List (List ℕ) → List ℕ
spaced words = join_with_byte 32 words

-- the name of the zone of this number: `Z01` for number 0
abbrev pub zone_name : ℕ → List ℕ
zone_name zone = codes "Z" ++ (decimal ((zone + 1) / 10) ++ (digit ((zone + 1) % 10) ∷ []))

-- the name of the trader of this number
abbrev pub trader_name : ℕ → List ℕ
trader_name trader = codes "t" ++ decimal trader

-- how an order is executed: nothing for a limit order
abbrev pub kind_words : Kind → List (List ℕ)
kind_words kind.Limit = []
kind_words kind.Ioc = codes "ioc" ∷ []
kind_words kind.Fok = codes "fok" ∷ []
kind_words (kind.Iceberg peak delta) = codes "iceberg" ∷ lots_text peak ∷ cents_text delta ∷ []

-- the line of an order of a trader
abbrev pub order_line : (trader : ℕ) → Order → List ℕ
order_line trader order =
    spaced (trader_name trader ∷ side_text order.side ∷ contract_text order.contract ∷ zone_name order.zone
    ∷ lots_text order.quantity ∷ price_text order.price ∷ kind_words order.kind)

-- the line of a block of a trader
abbrev pub block_line : (trader : ℕ) → BlockOrder → List ℕ
block_line trader order =
    spaced (trader_name trader ∷ (side_text order.side ++ codes "block") ∷ hour_text order.first ∷ hour_text order.last
    ∷ zone_name order.zone ∷ lots_text order.quantity ∷ price_text order.price ∷ [])

-- the line of a command, without its line feed
abbrev pub line_of : Given → List ℕ
line_of (given.Offer from to first last lots) =
    spaced (codes "tso" ∷ codes "offer" ∷ (zone_name from ++ (codes ">" ++ zone_name to))
    ∷ quarter_text first ∷ quarter_text last ∷ lots_text lots ∷ [])
line_of (given.Order trader order) = order_line trader order
line_of (given.Block trader order) = block_line trader order

-- lines, each with its line feed
abbrev pub text_of : List (List ℕ) → List ℕ
text_of lines = flat_map (λ line. line ++ codes "\n") lines
