use Rattle.std.proofs.Common.{◌≡◌, ◌∙◌, ap, map, subst, sym}
use Rattle.local_view.specs.Kept.{AreSized, part_forgotten}
use Rattle.local_view.proofs.Parts.{forgotten_twice, inside_back, many_alike, sized_alike}
use Rattle.local_view.proofs.views.LocalViews.forget.Goals as goal

pub invariant_of-self : goal.invariant_of-self
invariant_of-self c =
    let same : map part_forgotten c.forget_parts.new.parts ≡ map part_forgotten c.as_mut_slice.result.now =
    ap (map part_forgotten) c.forget_parts.ensures ∙ forgotten_twice c.as_mut_slice.result.now in
    inside_back c.self.inside.zones c.self.inside.parts.items c.as_mut_slice.result.now c.forget_parts.new.parts _ c.self.inside.parts.len c.self.inside.work c.self.inside.work
    c.self.invariant c.as_mut_slice.ensures.value c.as_mut_slice.ensures.len
    (many_alike c.as_mut_slice.result.now c.forget_parts.new.parts same)
    (sized_alike c.self.inside.zones c.as_mut_slice.result.now c.forget_parts.new.parts same (subst (AreSized c.self.inside.zones) (sym c.as_mut_slice.ensures.value) c.self.invariant.sized))
    c.self.invariant.work_is
