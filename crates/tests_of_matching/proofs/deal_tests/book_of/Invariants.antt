use Rattle.std.proofs.Common.{◌<◌}
use Rattle.zone_graph.specs.Route.{IsIn}
use Rattle.block_book.specs.declared.block.RestingBlock.{RestingBlock}
use Rattle.tests_of_matching.proofs.deal_tests.book_of.Given as goal

-- the zones of the blocks so far are those of the diamond
abbrev pub invariant-loop-row : goal.invariant-loop-row
invariant-loop-row g l = (block : RestingBlock) → IsIn block l.book → block.zone < 4
