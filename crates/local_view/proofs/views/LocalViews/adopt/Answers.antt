use Rattle.std.proofs.Common.{◌∙◌, ap, length, subst, sym}
use Rattle.std.proofs.lemmas.List.{length-map}
use Rattle.local_view.specs.Kept.{AreSized, part_adopted}
use Rattle.local_view.proofs.Parts.{inside_back}
use Rattle.local_view.proofs.views.LocalViews.adopt.Goals as goal

pub invariant_of-self : goal.invariant_of-self
invariant_of-self c =
    inside_back c.self.inside.zones c.self.inside.parts.items c.as_mut_slice.result.now c.adopt_parts.new.parts _ c.self.inside.parts.len c.self.inside.work c.self.inside.work
    c.self.invariant c.as_mut_slice.ensures.value c.as_mut_slice.ensures.len
    (ap length c.adopt_parts.ensures.adopted ∙ length-map c.as_mut_slice.result.now part_adopted)
    (c.adopt_parts.ensures.sized c.self.inside.zones (subst (AreSized c.self.inside.zones) (sym c.as_mut_slice.ensures.value) c.self.invariant.sized))
    c.self.invariant.work_is
