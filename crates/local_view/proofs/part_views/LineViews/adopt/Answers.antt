use Rattle.std.proofs.Common.{◌∙◌, [], ap, get_or, length}
use Rattle.local_view.specs.Rows.{chosen_at}
use Rattle.local_view.proofs.Chosen.{written_whole}
use Rattle.local_view.proofs.Keeping.{adopted_line}
use Rattle.local_view.proofs.part_views.LineViews.adopt.Goals as goal

pub invariant_of-self : goal.invariant_of-self
invariant_of-self c =
    let kept = written_whole c.adopt_lists.new.kept _ c.self.inside.kept.len (c.adopt_lists.ensures.size ∙ c.as_mut_slice.ensures.len) in
    let next = written_whole c.adopt_lists.new.next _ c.self.inside.next.len (c.adopt_lists.ensures.next ∙ c.as_mut_slice-then-self.ensures.len) in
    adopted_line c.self.inside.zones c.self.inside.computed c.self.inside.kept.items c.self.inside.next.items c.self.inside.is_next c.self.inside.footing c.self.invariant c.if-self.true _ _
    (ap length kept ∙ c.adopt_lists.ensures.size ∙ ap length c.as_mut_slice.ensures.value) (ap length next ∙ c.adopt_lists.ensures.next ∙ ap length c.as_mut_slice-then-self.ensures.value)
    (λ zone. ap (λ lists. get_or lists zone []) kept ∙ c.adopt_lists.ensures.kept zone
    ∙ ap (λ lists. chosen_at c.self.inside.computed lists c.as_mut_slice-then-self.result.now zone) c.as_mut_slice.ensures.value
    ∙ ap (λ lists. chosen_at c.self.inside.computed c.self.inside.kept.items lists zone) c.as_mut_slice-then-self.ensures.value)
