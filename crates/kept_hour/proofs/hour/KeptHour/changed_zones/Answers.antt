use Rattle.kept_hour.proofs.ChangedZones.{seen-elsewhere, zones-planned}
use Rattle.kept_hour.proofs.hour.KeptHour.changed_zones.Goals as goal

pub returns-clause-seen : goal.returns-clause-seen
returns-clause-seen c =
    seen-elsewhere c.self.inside.grid.value c.self.inside.hour c.self.inside.events c.self.inside.settled c.self.inside.hand c.self.inside.numbers c.self.inside.settled_numbers c.self.inside.store c.self.invariant c.args.self.now c.self.view_is
    c.requires.free c.requires.zones c.changed_zones.result c.changed_zones.ensures

pub returns-clause-named : goal.returns-clause-named
returns-clause-named c =
    zones-planned c.self.inside.grid.value c.self.inside.hour c.self.inside.events c.self.inside.settled c.self.inside.hand c.self.inside.numbers c.self.inside.settled_numbers c.self.inside.store c.self.invariant c.args.self.now c.self.view_is
    c.changed_zones.result c.changed_zones.ensures
