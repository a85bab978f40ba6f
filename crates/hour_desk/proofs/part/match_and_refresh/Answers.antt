use Rattle.std.proofs.Common.{◌∙◌, ap}
use Rattle.laws_of_joint_commands.specs.MatchingBlocks.{legs_of}
use Rattle.desk_changes.specs.Planned.{with_planned}
use Rattle.desk_changes.specs.Plans.{then_sweep_all}
use Rattle.hour_desk.proofs.Quiet.{swept-quiet}
use Rattle.hour_desk.proofs.part.match_and_refresh.Goals as goal

pub returns-clause-quiet : goal.returns-clause-quiet
returns-clause-quiet c =
    swept-quiet c.args.hour.now c.refresh.new.hour (legs_of c.args.hour.now.board.hour c.args.last c.in_ok-deals.deals.items)
    (c.in_ok-refresh.ensures.kept ∙ c.in_ok-deals.ensures.planned
    ∙ ap (λ g. with_planned c.args.hour.now (then_sweep_all g c.args.hour.now (legs_of c.args.hour.now.board.hour c.args.last c.in_ok-deals.deals.items))) c.requires.grid)
    c.in_ok-refresh.ensures.board
