use Rattle.std.proofs.Common.{◌∙◌, ◌≤◌, ℕ, pos, ◌≤ℤ◌, sym, subst, arith, ap, if◌then◌else◌, ◌==◌, ◌&&◌}
use Rattle.quarter_capacity.specs.Row as rows
use Rattle.flow_netting.specs.Border.{row_in}
use Rattle.flow_netting.specs.QuarterSet.{has}
use Rattle.flow_netting.proofs.FlowLemmas.{done_more, left_more}
use Rattle.flow_netting.proofs.border.BorderFlows.take_in.Goals as goal

pub take_if-requires-clause-room : goal.take_if-requires-clause-room
take_if-requires-clause-room c = λ counts.
    subst (λ row. pos c.args.lots ≤ℤ rows.remaining row c.args.forward)
    (sym (c.loop-number.invariant.left c.loop-number.number (omega arith) (omega arith)))
    (c.requires.room c.loop-number.number (omega arith) (omega arith) (sym c.contains.ensures ∙ counts))

pub loop-number-preserved : goal.loop-number-preserved
loop-number-preserved c =
    let step = λ (n : ℕ) (first : 1 ≤ n) (last : n ≤ 4). c.take_if.ensures.rows n first last
    ∙ ap (λ b. if (n == c.loop-number.number) && b then rows.with_taken (row_in c.loop-number.self n) c.args.forward c.args.lots else row_in c.loop-number.self n) c.contains.ensures in
    record {
      done = done_more (row_in c.take_if.new.self) (row_in c.loop-number.self) (row_in c.args.self.now) (has c.args.set)
          (λ row. rows.with_taken row c.args.forward c.args.lots) c.loop-number.number (omega arith) (omega arith)
          step c.loop-number.invariant.left c.loop-number.invariant.done;
      left = left_more (row_in c.take_if.new.self) (row_in c.loop-number.self) (row_in c.args.self.now) (has c.args.set)
          (λ row. rows.with_taken row c.args.forward c.args.lots) c.loop-number.number (omega arith) (omega arith)
          step c.loop-number.invariant.left;
      halted = c.take_if.ensures.halted ∙ c.loop-number.invariant.halted;
    }
