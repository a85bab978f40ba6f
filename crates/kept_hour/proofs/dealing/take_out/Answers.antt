use Rattle.std.proofs.Common.{◌∙◌}
use Rattle.kept_hour.proofs.dealing.take_out.Goals as goal

pub returns-then-starts-clause-noted : goal.returns-then-starts-clause-noted
returns-then-starts-clause-noted c part side zone = c.withdraw_block-then-starts.ensures.noted part side zone ∙ c.withdraw_block.ensures.noted part side zone
