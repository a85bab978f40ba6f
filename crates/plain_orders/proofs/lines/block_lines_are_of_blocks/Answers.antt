use Rattle.plain_orders.proofs.LineLaws.{line-of_blocks}
use Rattle.plain_orders.proofs.lines.block_lines_are_of_blocks.Goals as goal

pub returns : goal.returns
returns c = line-of_blocks
