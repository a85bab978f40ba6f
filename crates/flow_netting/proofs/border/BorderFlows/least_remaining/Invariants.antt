use Rattle.std.proofs.Common.{◌≡◌, ◌≤◌, ◌-◌, map, unwrap_or}
use Rattle.quarter_capacity.specs.Row as rows
use Rattle.market_model.specs.Room.{lots_of}
use Rattle.flow_netting.specs.Border.{row_in}
use Rattle.flow_netting.specs.QuarterSet.{has}
use Rattle.flow_netting.proofs.RoomLemmas.{first_of, least_of}
use Rattle.flow_netting.proofs.border.BorderFlows.least_remaining.Given as goal

-- the least so far is that of the quarters of the set so far
abbrev pub invariant-loop-number : goal.invariant-loop-number
invariant-loop-number l = record {
  so_far : l.least ≡ least_of (map (λ number. lots_of (rows.remaining (row_in l.self number) l.forward)) (first_of (has l.set) (l.number - 1)));
  most : unwrap_or l.least 0 ≤ 2000000;
}
