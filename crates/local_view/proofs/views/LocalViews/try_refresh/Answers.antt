use Rattle.std.proofs.Common.{subst, sym}
use Rattle.local_view.specs.Kept.{AreSized}
use Rattle.local_view.proofs.Parts.{inside_back, many_alike, sized_alike}
use Rattle.local_view.proofs.views.LocalViews.try_refresh.Goals as goal

pub invariant_of-self : goal.invariant_of-self
invariant_of-self g c =
    inside_back c.self.inside.zones c.self.inside.parts.items c.as_mut_slice-parts.result.now c.fill_parts-filled.new.parts _ c.self.inside.parts.len c.self.inside.work c.fill_parts-filled.new.work
    c.self.invariant c.as_mut_slice-parts.ensures.value c.as_mut_slice-parts.ensures.len
    (many_alike c.as_mut_slice-parts.result.now c.fill_parts-filled.new.parts c.fill_parts-filled.ensures.kept)
    (sized_alike c.self.inside.zones c.as_mut_slice-parts.result.now c.fill_parts-filled.new.parts c.fill_parts-filled.ensures.kept
    (subst (AreSized c.self.inside.zones) (sym c.as_mut_slice-parts.ensures.value) c.self.invariant.sized))
    c.fill_parts-filled.ensures.work

pub invariant_of-self-else-is_ok : goal.invariant_of-self-else-is_ok
invariant_of-self-else-is_ok g c =
    inside_back c.self.inside.zones c.self.inside.parts.items c.as_mut_slice-parts.result.now c.fill_parts-filled.new.parts _ c.self.inside.parts.len c.self.inside.work c.fill_parts-filled.new.work
    c.self.invariant c.as_mut_slice-parts.ensures.value c.as_mut_slice-parts.ensures.len
    (many_alike c.as_mut_slice-parts.result.now c.fill_parts-filled.new.parts c.fill_parts-filled.ensures.kept)
    (sized_alike c.self.inside.zones c.as_mut_slice-parts.result.now c.fill_parts-filled.new.parts c.fill_parts-filled.ensures.kept
    (subst (AreSized c.self.inside.zones) (sym c.as_mut_slice-parts.ensures.value) c.self.invariant.sized))
    c.fill_parts-filled.ensures.work
