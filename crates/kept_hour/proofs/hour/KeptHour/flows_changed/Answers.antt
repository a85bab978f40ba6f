use Rattle.std.proofs.Common.{◌∙◌, sym}
use Rattle.kept_hour.proofs.ChangedZones.{flows-planned, rooms-settled}
use Rattle.kept_hour.proofs.hour.KeptHour.flows_changed.Goals as goal

pub returns-then-self-len-clause-rooms : goal.returns-then-self-len-clause-rooms
returns-then-self-len-clause-rooms c none =
    rooms-settled c.self.inside.grid.value c.self.inside.hour c.self.inside.events c.self.inside.settled c.self.inside.hand c.self.inside.numbers c.self.inside.settled_numbers c.self.inside.store c.self.invariant c.args.self.now c.self.view_is
    (sym c.flows_changed.ensures ∙ none)

pub returns-then-self-len-clause-planned : goal.returns-then-self-len-clause-planned
returns-then-self-len-clause-planned c is =
    flows-planned c.self.inside.grid.value c.self.inside.hour c.self.inside.events c.self.inside.settled c.self.inside.hand c.self.inside.numbers c.self.inside.settled_numbers c.self.inside.store c.self.invariant c.args.self.now c.self.view_is
    (sym c.flows_changed.ensures ∙ is)
