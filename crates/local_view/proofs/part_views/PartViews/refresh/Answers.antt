use Rattle.std.proofs.Common.{arith}
use Rattle.order_kinds.specs.declared.side.Side.TheVariants.{Buy, Sell}
use Rattle.zone_graph.specs.Graph.{zone_count}
use Rattle.local_view.proofs.Bits.{holds-first}
use Rattle.local_view.proofs.Made.{all_next, on_ok, on_ok_map}
use Rattle.local_view.proofs.part_views.PartViews.refresh.Goals as goal

pub returns-clause-buys : goal.returns-clause-buys
returns-clause-buys g c =
    on_ok c.refresh-2.result
    (all_next (g.B.Board.state c.args.board.now) c.args.part Buy (zone_count c.args.grid.now) 18446744073709551615 c.args.self.now.buys.kept c.refresh.new.self
    c.requires.zones.0 (λ zone less. holds-first 64 zone (omega (arith, less, c.zones.ensures.grid.few_zones))) c.in_ok-refresh.ensures.next)

pub returns-clause-sells : goal.returns-clause-sells
returns-clause-sells g c =
    on_ok_map c.refresh-2.result
    (all_next (g.B.Board.state c.args.board.now) c.args.part Sell (zone_count c.args.grid.now) 18446744073709551615 c.args.self.now.sells.kept c.refresh-2.new.self
    c.requires.zones.1 (λ zone less. holds-first 64 zone (omega (arith, less, c.zones.ensures.grid.few_zones))))
    c.refresh-2.ensures.next
