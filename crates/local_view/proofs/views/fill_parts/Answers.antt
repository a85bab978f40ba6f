use Rattle.std.proofs.Common.{◌∙◌, arith}
use Rattle.zone_graph.specs.Graph.{zone_count}
use Rattle.local_view.proofs.Parts.{kept_set, next_set, sized_alike}
use Rattle.local_view.proofs.views.fill_parts.Goals as goal

pub returns-in_err-refresh-clause-kept : goal.returns-in_err-refresh-clause-kept
returns-in_err-refresh-clause-kept g c =
    kept_set c.loop-part.parts c.loop-part.part c.refresh.new.self c.index-parts-part.result c.refresh.ensures.kept
    ∙ c.loop-part.invariant.kept

pub loop-part-preserved : goal.loop-part-preserved
loop-part-preserved g c =
    let kept = kept_set c.loop-part.parts c.loop-part.part c.refresh.new.self c.index-parts-part.result c.refresh.ensures.kept in
    record {
      work = c.refresh.ensures.work;
      kept = kept ∙ c.loop-part.invariant.kept;
      sized = sized_alike (zone_count c.args.grid.now) c.loop-part.parts _ kept c.loop-part.invariant.sized;
      next = next_set (g.B.Board.state c.args.board.now) (zone_count c.args.grid.now) c.loop-part.parts c.loop-part.part c.refresh.new.self
          (omega (arith, c.loop-part-test.true, c.loop-part.auto.parts)) c.loop-part.invariant.next c.in_ok-refresh.ensures.buys c.in_ok-refresh.ensures.sells;
    }
