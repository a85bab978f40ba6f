use Rattle.std.proofs.Common.{get_or, pos}
use Rattle.laws_of_rows.specs.declared.trades.MakerRow.{MakerRow}
use Rattle.laws_of_rows.specs.Filled.{with_lots}
use Rattle.laws_of_rows.proofs.Places.{at-now-in, set-next}
use Rattle.plain_market.proofs.rows.add_lots.Goals as goal

-- what stands for a row that is not there
abbrev no_row : MakerRow
no_row = record { maker = record { hour = 0; number = 0 }; row = record { price = record { 0 = pos 0 }; lots = 0 } }

pub with_lots-requires : goal.with_lots-requires
with_lots-requires c =
    c.requires.each (get_or c.loop-row.rows c.loop-row.row-index no_row)
    (at-now-in (with_lots c.args.maker c.args.lots) c.args.rows.now c.loop-row.rows c.loop-row.row-index no_row c.loop-row-test.true c.loop-row.invariant)

pub loop-row-preserved : goal.loop-row-preserved
loop-row-preserved c =
    set-next (with_lots c.args.maker c.args.lots) c.args.rows.now c.loop-row.rows c.loop-row.row-index no_row c.with_lots.result c.loop-row-test.true c.loop-row.invariant c.with_lots.ensures
