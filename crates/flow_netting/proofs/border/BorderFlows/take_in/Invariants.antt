use Rattle.std.proofs.Common.{◌≡◌, ◌<◌, ◌≤◌, ℕ, if◌then◌else◌}
use Rattle.quarter_capacity.specs.Row as rows
use Rattle.flow_netting.specs.Border.{row_in}
use Rattle.flow_netting.specs.QuarterSet.{has}
use Rattle.flow_netting.proofs.border.BorderFlows.take_in.Given as goal

-- the lots are taken in the quarters of the set so far, and the other quarters are as they were
abbrev pub invariant-loop-number : goal.invariant-loop-number
invariant-loop-number l = record {
  done : (number : ℕ) → 1 ≤ number → number < l.number
      → row_in l.self number ≡ (if has l.set number then rows.with_taken (row_in l.fn.self number) l.forward l.lots else row_in l.fn.self number);
  left : (number : ℕ) → l.number ≤ number → number ≤ 4 → row_in l.self number ≡ row_in l.fn.self number;
  halted : l.self.halted ≡ l.fn.self.halted;
}
