use Rattle.std.proofs.Common.{◌∙◌, ◌+◌, ap, sym, arith, length}
use Rattle.market_model.specs.HourSet.{has_hour}
use Rattle.desk_market.specs.Day.{DayState}
use Rattle.desk_market.proofs.Places.{counted-next, counted-skip}
use Rattle.desk_market.proofs.day.DayDesksDesks.len.Goals as goal
use Rattle.desk_market.proofs.day.DayDesksDesks.len.Goals.{then-contains, else-contains}

-- a chosen desk is counted
pub loop-i-preserved : goal.loop-i-preserved
loop-i-preserved c =
    let takes = has_hour c.args.self.now.chosen in
    let desks = c.args.self.now.desks in
    elim c.if-contains.branch [
      | then-contains w ↦ record {
        counted = rw w.count-is (counted-next takes desks c.loop-i.i c.loop-i.count c.loop-i.invariant.counted (omega (arith, ap (λ (d : DayState). length d.desks) c.self.view_is)) (ap (λ (d : DayState). has_hour d.chosen (c.loop-i.i + 1)) (sym c.self.view_is) ∙ sym c.contains.ensures ∙ w.if-contains.true));
        few = omega arith;
      }
      | else-contains w ↦ record {
        counted = rw w.count-is (counted-skip takes desks c.loop-i.i c.loop-i.count c.loop-i.invariant.counted (omega (arith, ap (λ (d : DayState). length d.desks) c.self.view_is)) (ap (λ (d : DayState). has_hour d.chosen (c.loop-i.i + 1)) (sym c.self.view_is) ∙ sym c.contains.ensures ∙ w.if-contains.false));
        few = omega arith;
      }
    ]
