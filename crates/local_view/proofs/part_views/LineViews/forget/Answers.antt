use Rattle.local_view.proofs.Keeping.{forgotten_line}
use Rattle.local_view.proofs.part_views.LineViews.forget.Goals as goal

pub invariant_of-self : goal.invariant_of-self
invariant_of-self c =
    forgotten_line c.self.inside.zones c.self.inside.computed c.self.inside.kept.items c.self.inside.next.items c.self.inside.is_next c.self.inside.footing c.self.invariant c.if-self.true c.take_off.new.footing
    (c.take_off.ensures.sized c.self.inside.zones c.self.invariant.founded.sized) (c.take_off.ensures.rest c.self.inside.zones)
