use Rattle.std.proofs.Common.{◌∙◌}
use Rattle.hour_desk.proofs.Desks.{open-count}
use Rattle.hour_desk.proofs.desk.HourDesk.open.Goals as goal

pub returns : goal.returns
returns c = c.open.ensures ∙ open-count c.self.inside.kept c.self.inside.views c.self.inside.is_planned c.self.invariant c.args.self.now c.self.view_is c.requires
