use Rattle.std.proofs.Common.{◌∙◌, ap, sym}
use Rattle.zone_graph.specs.Graph.{zone_count}
use Rattle.local_view.specs.Kept.{line_of}
use Rattle.local_view.proofs.Made.{on_ok_map}
use Rattle.local_view.proofs.Parts.{kept_forgotten}
use Rattle.local_view.proofs.Sums.{next-adds}
use Rattle.local_view.proofs.views.LocalViews.refresh_near.Goals as goal

pub returns-then-is_err-clause-kept : goal.returns-then-is_err-clause-kept
returns-then-is_err-clause-kept g c =
    kept_forgotten c.args.self.now c.try_refresh_near-refreshed.new.self c.forget.new.self c.forget.ensures c.try_refresh_near-refreshed.ensures.kept
    c.try_refresh_near-refreshed.ensures.zones

pub returns-else-is_err-clause-sums : goal.returns-else-is_err-clause-sums
returns-else-is_err-clause-sums g c =
    on_ok_map c.try_refresh_near-refreshed.result
    (next-adds (g.B.Board.state c.args.board.now) c.args.part c.args.side c.try_refresh_near-refreshed.new.self.zones
    (line_of c.try_refresh_near-refreshed.new.self c.args.part c.args.side)
    (c.try_refresh_near-refreshed.ensures.zones ∙ sym c.requires.zones ∙ ap zone_count c.requires.grid)) c.try_refresh_near-refreshed.ensures.next
