use Rattle.joint_plan.proofs.matching.match_first.Goals as goal

pub match_blocks-requires-clause-grid : goal.match_blocks-requires-clause-grid
match_blocks-requires-clause-grid g c = (c.requires.can c.desk_mut.result.now c.desk_mut.ensures.value).over

pub match_blocks-requires-clause-few : goal.match_blocks-requires-clause-few
match_blocks-requires-clause-few g c = (c.requires.can c.desk_mut.result.now c.desk_mut.ensures.value).numbers

pub match_blocks-requires-clause-period : goal.match_blocks-requires-clause-period
match_blocks-requires-clause-period g c = (c.requires.can c.desk_mut.result.now c.desk_mut.ensures.value).period
