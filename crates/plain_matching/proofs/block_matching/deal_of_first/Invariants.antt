use Rattle.std.proofs.Common.{◌≡◌, drop}
use Rattle.market_model.specs.Sweep.{first_answer}
use Rattle.plain_matching.specs.Meeting.{deal_in}
use Rattle.plain_matching.proofs.block_matching.deal_of_first.Given as goal

-- none of the buy blocks so far has a partner, and the events are as they were
abbrev pub invariant-loop-buy : goal.invariant-loop-buy
invariant-loop-buy l = record {
  same : l.events ≡ l.initial.events;
  onward : first_answer (deal_in l.grid l.initial.events l.sells) (drop l.buy-index l.buys) ≡ first_answer (deal_in l.grid l.initial.events l.sells) l.buys;
}
