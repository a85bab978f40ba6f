use Rattle.std.proofs.Common.{false, subst}
use Rattle.std.specs.Option.{option_copied}
use Rattle.hour_desk.specs.Insides.{desk_of}
use Rattle.hour_desk.specs.Shared.{TradesBlocks}
use Rattle.hour_desk.proofs.Parts.{entry-deal}
use Rattle.hour_desk.proofs.part.share_blocks.Goals as goal

pub enter_block-requires-clause-whole : goal.enter_block-requires-clause-whole
enter_block-requires-clause-whole c =
    entry-deal c.args.hour.now c.args.first c.args.last c.in-Some.entry c.args.deals.now c.requires.unplanned
    (subst (λ o. TradesBlocks (desk_of c.args.hour.now false) c.args.first c.args.last o c.args.deals.now) c.in-Some.is c.requires.trades) (option_copied c.first.result) c.first.ensures.value
