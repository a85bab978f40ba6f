use Rattle.std.proofs.Common.{◌≡◌, length}
use Rattle.std.specs.List.{find}
use Rattle.std.specs.Option.{IfSome}
use Rattle.zone_graph.specs.Graph.{border_count}
use Rattle.zone_graph.specs.Rooms.{room_of}
use Rattle.block_book.specs.Book.{first_of}
use Rattle.block_match.specs.Meeting.{carries_whole}
use Rattle.block_match.specs.Walking.{crossed_line, from_block}
use Rattle.block_match.proofs.partner.partner_of.Given as goal

-- none of the blocks so far is the partner
abbrev pub invariant-loop-next : goal.invariant-loop-next
invariant-loop-next l = record {
  scratch : IfSome l.scratch (λ rooms. length rooms ≡ border_count l.grid);
  stands : l.next ≡ first_of (from_block (crossed_line l.book l.own) l.next);
  onward : find (carries_whole l.grid (room_of l.rooms) l.own) (from_block (crossed_line l.book l.own) l.next)
      ≡ find (carries_whole l.grid (room_of l.rooms) l.own) (crossed_line l.book l.own);
}

-- fewer blocks are left with each
abbrev pub decreases-loop-next : goal.decreases-loop-next
decreases-loop-next l = length (from_block (crossed_line l.book l.own) l.next)
