use Rattle.desk_changes.specs.State.{settled_board}
use Rattle.hour_desk.proofs.Views.{kept-stands}
use Rattle.hour_desk.proofs.replying.refresh.Goals as goal

pub returns-in-Ok-clause-stands : goal.returns-in-Ok-clause-stands
returns-in-Ok-clause-stands c =
    kept-stands (settled_board c.args.hour.now) c.args.views.now c.refresh.new.self c.refresh.new.self.views.made c.refresh.ensures.kept c.requires.stands
