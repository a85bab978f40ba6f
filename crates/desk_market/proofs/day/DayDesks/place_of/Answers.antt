use Rattle.std.proofs.Common.{◌∙◌, ◌+◌, ap, sym, arith, length}
use Rattle.market_model.specs.HourSet.{has_hour}
use Rattle.desk_market.specs.Day.{DayState}
use Rattle.desk_market.proofs.Places.{sought-here, sought-next, sought-skip}
use Rattle.desk_market.proofs.day.DayDesks.place_of.Goals as goal
use Rattle.desk_market.proofs.day.DayDesks.place_of.Goals.{then-contains+else-before-eq0, else-contains}

pub returns-then-before-eq0-clause-place : goal.returns-then-before-eq0-clause-place
returns-then-before-eq0-clause-place c =
    (sought-here (has_hour c.args.self.now.chosen) c.args.self.now.desks c.args.place c.loop-i.i c.loop-i.before c.loop-i.invariant.sought
    (omega (arith, ap (λ (d : DayState). length d.desks) c.self.view_is)) (ap (λ (d : DayState). has_hour d.chosen (c.loop-i.i + 1)) (sym c.self.view_is) ∙ sym c.contains.ensures ∙ c.if-contains.true) (omega arith)).0

pub returns-then-before-eq0-clause-desk : goal.returns-then-before-eq0-clause-desk
returns-then-before-eq0-clause-desk c =
    (sought-here (has_hour c.args.self.now.chosen) c.args.self.now.desks c.args.place c.loop-i.i c.loop-i.before c.loop-i.invariant.sought
    (omega (arith, ap (λ (d : DayState). length d.desks) c.self.view_is)) (ap (λ (d : DayState). has_hour d.chosen (c.loop-i.i + 1)) (sym c.self.view_is) ∙ sym c.contains.ensures ∙ c.if-contains.true) (omega arith)).1

-- a desk that is not chosen is passed over, and a chosen one counted
pub loop-i-preserved : goal.loop-i-preserved
loop-i-preserved c =
    let takes = has_hour c.args.self.now.chosen in
    let desks = c.args.self.now.desks in
    elim c.if-contains.branch [
      | then-contains+else-before-eq0 w ↦ record {
        sought = rw w.before-is (sought-next takes desks c.args.place c.loop-i.i c.loop-i.before c.loop-i.invariant.sought
            (omega (arith, ap (λ (d : DayState). length d.desks) c.self.view_is)) (ap (λ (d : DayState). has_hour d.chosen (c.loop-i.i + 1)) (sym c.self.view_is) ∙ sym c.contains.ensures ∙ w.if-contains.true) (λ none. absurd (omega arith)));
      }
      | else-contains w ↦ record {
        sought = rw w.before-is (sought-skip takes desks c.args.place c.loop-i.i c.loop-i.before c.loop-i.invariant.sought
            (omega (arith, ap (λ (d : DayState). length d.desks) c.self.view_is)) (ap (λ (d : DayState). has_hour d.chosen (c.loop-i.i + 1)) (sym c.self.view_is) ∙ sym c.contains.ensures ∙ w.if-contains.false));
      }
    ]
