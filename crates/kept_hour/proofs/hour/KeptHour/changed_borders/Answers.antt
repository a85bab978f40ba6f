use Rattle.kept_hour.proofs.ChangedZones.{rooms-settled-but}
use Rattle.kept_hour.proofs.hour.KeptHour.changed_borders.Goals as goal

pub returns : goal.returns
returns c =
    rooms-settled-but c.self.inside.grid.value c.self.inside.hour c.self.inside.events c.self.inside.settled c.self.inside.hand c.self.inside.numbers c.self.inside.settled_numbers c.self.inside.store c.self.invariant c.args.self.now c.self.view_is
    c.requires c.changed_borders.result c.changed_borders.ensures
