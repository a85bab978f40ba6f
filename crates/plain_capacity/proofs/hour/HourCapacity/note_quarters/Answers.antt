use Rattle.std.proofs.Common.{◌∙◌, ap}
use Rattle.plain_capacity.specs.Hour.{Capacity}
use Rattle.plain_capacity.proofs.Hours.{each, halts_back, noted_back}
use Rattle.plain_capacity.proofs.hour.HourCapacity.note_quarters.Goals as goal

pub returns-clause-quarters : goal.returns-clause-quarters
returns-clause-quarters c =
    each _
    (noted_back _ _ c.args.event.now _ _ _ _ _ c.quarter_of.ensures (c.as_mut_slice.ensures.value ∙ ap (λ (v : Capacity). v.first) c.self.view_is) c.as_mut_slice.ensures.len c.note.ensures)
    (noted_back _ _ c.args.event.now _ _ _ _ _ c.quarter_of-2.ensures (c.as_mut_slice-2.ensures.value ∙ ap (λ (v : Capacity). v.second) c.self.view_is) c.as_mut_slice-2.ensures.len c.note-2.ensures)
    (noted_back _ _ c.args.event.now _ _ _ _ _ c.quarter_of-3.ensures (c.as_mut_slice-3.ensures.value ∙ ap (λ (v : Capacity). v.third) c.self.view_is) c.as_mut_slice-3.ensures.len c.note-3.ensures)
    (noted_back _ _ c.args.event.now _ _ _ _ _ c.quarter_of-4.ensures (c.as_mut_slice-4.ensures.value ∙ ap (λ (v : Capacity). v.fourth) c.self.view_is) c.as_mut_slice-4.ensures.len c.note-4.ensures)

pub returns-clause-halts : goal.returns-clause-halts
returns-clause-halts c = λ border within.
    halts_back c.args.hour border c.args.event.now _ _ _ _ _ (c.as_mut_slice-5.ensures.value ∙ ap (λ (v : Capacity). v.halted) c.self.view_is)
    c.as_mut_slice-5.ensures.len c.note_halt.auto.halted (c.note_halt.ensures border) within
