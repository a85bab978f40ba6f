use Rattle.std.proofs.Common.{inl, inr, length, arith}
use Rattle.std.proofs.lemmas.Bool.{cases_lt}
use Rattle.local_view.proofs.Chosen.{past_chosen}
use Rattle.local_view.proofs.part_views.adopt_lists.Goals as goal

pub returns-clause-kept : goal.returns-clause-kept
returns-clause-kept c = λ zone. elim (cases_lt zone (length c.args.kept.now)) [
  | inl less ↦ c.loop-zone.invariant.changed zone (let end = c.loop-zone-test.false in let size = c.loop-zone.invariant.size in omega (arith, less, end, size))
  | inr past ↦ past_chosen c.args.computed c.args.kept.now c.args.next.now c.loop-zone.kept zone (let size = c.loop-zone.invariant.size in omega (arith, size)) c.requires past
]
