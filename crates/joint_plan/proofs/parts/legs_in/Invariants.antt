use Rattle.std.proofs.Common.{◌≡◌, length, take}
use Rattle.laws_of_joint_commands.specs.MatchingBlocks.{legs_of}
use Rattle.joint_plan.proofs.parts.legs_in.Given as goal

abbrev pub invariant-loop-deal : goal.invariant-loop-deal
invariant-loop-deal l = l.legs ≡ length (legs_of l.first l.last (take l.deal-index l.deals))
