-- Blocks of opposite lines meet, and the deals of lines are those of the market.
use Rattle.std.proofs.Common.{◌≡◌, ◌∙◌, ℕ, List, sym, ap, subst}
use Rattle.std.specs.List.{find}
use Rattle.std.specs.Option.{option_map}
use Rattle.order_kinds.specs.declared.side.Side.{Side}
use Rattle.order_kinds.specs.declared.side.Side.TheVariants.{Buy, Sell}
use Rattle.order_kinds.specs.Side.{opposite}
use Rattle.zone_graph.specs.Graph.{Graph}
use Rattle.zone_graph.specs.Route.{IsIn}
use Rattle.market_model.specs.declared.event.Event.{Event}
use Rattle.market_model.specs.Blocks.{StandingBlock, block_deal, block_line, block_partner, can_trade_blocks, deal_of_buy, resting_block_legs}
use Rattle.market_model.specs.Sweep.{first_answer}
use Rattle.laws_of_market.proofs.BlockDeals.{IsInBlockLine, from_block_line}
use Rattle.laws_of_market.proofs.LocalLines.{first_answer-same}
use Rattle.plain_orders.specs.Listed.{block_line_of, blocks_of}
use Rattle.plain_orders.proofs.LineLaws.{line-of_blocks}
use Rattle.plain_matching.specs.BlockEntering.{IsHistoryOver}
use Rattle.plain_matching.specs.Meeting.{AllMeet, Meet, MeetsAll, Stands, deal_in}
use Rattle.plain_matching.proofs.Meetings.{some-history}

-- the lines that the blocks of an hour make
pub lines-are : (graph : Graph) (events : List Event) (listed : List StandingBlock) (first last : ℕ) (side : Side) → IsHistoryOver graph events
    → listed ≡ blocks_of events first → block_line_of listed first last side ≡ block_line events first last side
lines-are graph events listed first last side legal are =
    ap (λ blocks. block_line_of blocks first last side) are ∙ line-of_blocks events first last side (some-history graph events legal)

pub line-stands : (events : List Event) (first last : ℕ) (side : Side) (found : StandingBlock) → IsInBlockLine events first last side found → Stands events found
line-stands events first last side found in_line = record {
  block = in_line.block;
  is_placed = in_line.is_open.is_placed;
  is_left = in_line.is_open.is_left;
  is = in_line.is;
}

-- a block meets those of the line in which it seeks its partner
pub line-meets : (graph : Graph) (events : List Event) (own : StandingBlock) → IsHistoryOver graph events → Stands events own
    → MeetsAll graph events own (block_line events own.order.first own.order.last (opposite own.order.side))
line-meets graph events own legal stands = record { each = meets }
  where
    meets : (other : StandingBlock) → IsIn other (block_line events own.order.first own.order.last (opposite own.order.side)) → Meet graph events own other
    meets other i =
        let found = from_block_line events own.order.first own.order.last (opposite own.order.side) other i in
        record {
          legal = legal;
          own_stands = stands;
          other_stands = line-stands events own.order.first own.order.last (opposite own.order.side) other found;
          one_first = ap (λ (b : StandingBlock). b.order.first) found.is ∙ found.of_first;
          one_last = ap (λ (b : StandingBlock). b.order.last) found.is ∙ found.of_last;
          opposed = ap (λ (b : StandingBlock). b.order.side) found.is ∙ found.on_side;
        }

-- the line of sells is the one in which a block of the buy line seeks its partner
module _ (events : List Event) (first last : ℕ) (buy : StandingBlock) (i : IsIn buy (block_line events first last Buy)) where
  in_line : IsInBlockLine events first last Buy buy
  in_line = from_block_line events first last Buy buy i

  pub buy-stands : Stands events buy
  buy-stands = line-stands events first last Buy buy in_line

  pub sells-are : block_line events buy.order.first buy.order.last (opposite buy.order.side) ≡ block_line events first last Sell
  sells-are =
      ap (λ (b : StandingBlock). block_line events b.order.first b.order.last (opposite b.order.side)) in_line.is
      ∙ ap (λ h. block_line events h in_line.block.order.last (opposite in_line.block.order.side)) in_line.of_first
      ∙ ap (λ h. block_line events first h (opposite in_line.block.order.side)) in_line.of_last
      ∙ ap (λ s. block_line events first last (opposite s)) in_line.on_side

pub lines-meet : (graph : Graph) (events : List Event) (first last : ℕ) → IsHistoryOver graph events
    → AllMeet graph events (block_line events first last Buy) (block_line events first last Sell)
lines-meet graph events first last legal = record {
  each = λ buy i. subst (MeetsAll graph events buy) (sells-are events first last buy i) (line-meets graph events buy legal (buy-stands events first last buy i));
}

-- the deal of a buy of the line is that with its partner
deal-of_buy : (graph : Graph) (events : List Event) (first last : ℕ) (buy : StandingBlock) → IsIn buy (block_line events first last Buy)
    → deal_in graph events (block_line events first last Sell) buy ≡ deal_of_buy graph events buy
unfolding block_partner
deal-of_buy graph events first last buy i =
    ap (λ line. option_map (resting_block_legs graph events buy) (find (can_trade_blocks graph events buy) line)) (sym (sells-are events first last buy i))

pub deals-are : (graph : Graph) (events : List Event) (first last : ℕ) (buys sells : List StandingBlock)
    → buys ≡ block_line events first last Buy → sells ≡ block_line events first last Sell
    → first_answer (deal_in graph events sells) buys ≡ block_deal graph first last events
unfolding block_deal
deals-are graph events first last buys sells are_buys are_sells =
    ap (λ line. first_answer (deal_in graph events line) buys) are_sells
    ∙ ap (first_answer (deal_in graph events (block_line events first last Sell))) are_buys
    ∙ first_answer-same (deal_in graph events (block_line events first last Sell)) (deal_of_buy graph events) (block_line events first last Buy)
    (λ buy i. deal-of_buy graph events first last buy i)
