use Rattle.std.proofs.Common.{length}
use Rattle.market_model.specs.Blocks.{block_deals}
use Rattle.plain_matching.proofs.Legs.{IsSoFar}
use Rattle.plain_matching.specs.BlockEntering.{IsHistoryOver}
use Rattle.plain_matching.proofs.Rounds.{dealt_legs}
use Rattle.plain_matching.proofs.block_matching.match_deals.Given as goal

-- a first part of the deals was made, and the history is legal
abbrev pub invariant-loop : goal.invariant-loop
invariant-loop l = record {
  so_far : IsSoFar (λ history. dealt_legs l.grid l.first l.last history) l.initial.events l.events;
  legal : IsHistoryOver l.grid l.events;
}

-- each deal closes a buy block, so fewer are left
abbrev pub decreases-loop : goal.decreases-loop
decreases-loop l = length (block_deals l.grid l.first l.last l.events)
