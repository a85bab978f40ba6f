use Rattle.std.proofs.Common.{◌≡◌}
use Rattle.local_view.specs.Takers.{IsWalking}
use Rattle.local_view.proofs.Listed.{AreListed}
use Rattle.local_view.proofs.listing.list_rows.Given as goal

-- the rows so far are those of the orders in front of this one
abbrev pub invariant-loop-order : goal.invariant-loop-order
invariant-loop-order l = record {
  walking : IsWalking l.grid l.taker l.walk;
  side : l.taker.side ≡ l.fn.side;
  zone : l.taker.zone ≡ l.zone;
  listed : AreListed l.grid l.fn.side l.zone l.of_part l.orders l.walk.rooms l.left l.order-index l.rows.items;
}
