use Rattle.std.proofs.Common.{◌≡◌, length}
use Rattle.std.specs.Option.{IfSome}
use Rattle.order_kinds.specs.declared.side.Side.TheVariants.{Buy}
use Rattle.zone_graph.specs.Graph.{border_count}
use Rattle.zone_graph.specs.Rooms.{room_of}
use Rattle.block_book.specs.Book.{first_of, line_of}
use Rattle.market_model.specs.Sweep.{first_answer}
use Rattle.block_match.specs.Deals.{deal_of_buy}
use Rattle.block_match.specs.Walking.{from_block}
use Rattle.block_match.proofs.matching.match_resting.Given as goal

-- none of the buys so far has a partner
abbrev pub invariant-loop-next : goal.invariant-loop-next
invariant-loop-next l = record {
  scratch : IfSome l.scratch (λ rooms. length rooms ≡ border_count l.grid);
  stands : l.next ≡ first_of (from_block (line_of l.book l.last Buy) l.next);
  onward : first_answer (deal_of_buy l.grid (room_of l.rooms) l.book) (from_block (line_of l.book l.last Buy) l.next)
      ≡ first_answer (deal_of_buy l.grid (room_of l.rooms) l.book) (line_of l.book l.last Buy);
}

-- fewer buys are left with each
abbrev pub decreases-loop-next : goal.decreases-loop-next
decreases-loop-next l = length (from_block (line_of l.book l.last Buy) l.next)
