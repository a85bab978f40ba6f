use Rattle.std.proofs.Common.{◌≡◌, ◌≤◌, ◌<◌, ℕ}
use Rattle.order_kinds.specs.declared.side.Side.{Side}
use Rattle.local_view.specs.Kept.{line_of, made_after, views_forgotten}
use Rattle.desk_views.specs.Desk.{views_with_made}
use Rattle.desk_views.specs.Moved.{touched_of}
use Rattle.desk_views.specs.Standing.{AreComing, near_of_parts}
use Rattle.desk_views.proofs.refreshing.refresh_lines.Given as goal

-- the parts so far have their next rows, the others have none yet
abbrev pub invariant-loop-part : goal.invariant-loop-part
invariant-loop-part l = record {
  kept : views_forgotten l.views ≡ views_forgotten (views_with_made l.fn.views l.views.made);
  done : (part : ℕ) (side : Side) → part < l.part → AreComing l.hour.board part side (line_of l.views part side);
  rest : (part : ℕ) (side : Side) → l.part ≤ part → line_of l.views part side ≡ line_of l.fn.views part side;
  made : l.views.made ≡ made_after l.fn.views.made (near_of_parts l.grid l.rooms (touched_of l.changed l.moved) l.part);
  still : ((part : ℕ) (side : Side) → part < 7 → touched_of l.changed l.moved part side ≡ 0) → l.views ≡ l.fn.views;
}
