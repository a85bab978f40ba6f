use Rattle.std.proofs.Common.{◌≡◌, drop}
use Rattle.std.specs.List.{find}
use Rattle.market_model.specs.Blocks.{can_trade_blocks}
use Rattle.plain_matching.proofs.deal.deal_with_first.Given as goal

-- none of the blocks so far can trade, and the events are as they were
abbrev pub invariant-loop-other : goal.invariant-loop-other
invariant-loop-other l = record {
  same : l.events ≡ l.initial.events;
  onward : find (can_trade_blocks l.grid l.initial.events l.own) (drop l.other-index l.line) ≡ find (can_trade_blocks l.grid l.initial.events l.own) l.line;
}
