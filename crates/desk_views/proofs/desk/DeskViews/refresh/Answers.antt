use Rattle.std.proofs.Common.{drop, length, refl}
use Rattle.std.specs.List.{list_any}
use Rattle.kept_hour.specs.Planned.{moves_flows, planned_of}
use Rattle.desk_views.proofs.Next.{touched-none}
use Rattle.desk_views.proofs.Refreshed.{all-still, inside-back, kept-made, near, near-made, next-stands, next-unasked, shown-settled, written-back}
use Rattle.desk_views.proofs.desk.DeskViews.refresh.Goals as goal

pub moved_if-moved-requires-clause-settled : goal.moved_if-moved-requires-clause-settled
moved_if-moved-requires-clause-settled c =
    shown-settled c.args.hour.now c.changed_zones-changed.ensures.boards c.self.inside.views c.self.inside.rooms.items c.self.inside.planned.items c.as_slice-rooms.result.now
    c.self.inside.asked c.args.self.now c.self.view_is c.as_slice-rooms.ensures.value c.requires.stands

pub refresh_lines-requires-clause-near : goal.refresh_lines-requires-clause-near
refresh_lines-requires-clause-near c =
    near c.args.hour.now c.changed_zones-changed.ensures.boards c.args.grid.now c.requires.grid c.zones.ensures.grid c.self.inside.views c.self.inside.rooms.items c.self.inside.planned.items
    c.as_slice-rooms.result.now c.self.inside.asked c.args.self.now c.self.view_is c.as_slice-rooms.ensures.value c.requires.stands c.changed_zones-changed.result c.moved_if-moved.result
    c.changed_zones-changed.ensures.seen c.flows_changed-asked.result c.moved_if-moved.new.planned c.flows_changed-asked.ensures.rooms c.moved_if-moved.ensures.rooms c.moved_if-moved.ensures.moved

pub invariant_of-self : goal.invariant_of-self
invariant_of-self c =
    inside-back c.self.inside.rooms.items c.self.inside.planned.items c.as_mut_slice.result.now c.moved_if-moved.new.planned _ c.self.inside.planned.len c.self.invariant
    c.as_mut_slice.ensures.value c.as_mut_slice.ensures.len c.moved_if-moved.auto.planned c.moved_if-moved.ensures.size

pub invariant_of-self-2 : goal.invariant_of-self-2
invariant_of-self-2 c =
    inside-back c.self.inside.rooms.items c.self.inside.planned.items c.as_mut_slice.result.now c.moved_if-moved.new.planned _ c.self.inside.planned.len c.self.invariant
    c.as_mut_slice.ensures.value c.as_mut_slice.ensures.len c.moved_if-moved.auto.planned c.moved_if-moved.ensures.size

pub returns-clause-next : goal.returns-clause-next
returns-clause-next c =
    next-stands c.args.hour.now c.changed_zones-changed.ensures.boards c.args.grid.now c.requires.grid c.zones.ensures.grid c.self.inside.views c.self.inside.rooms.items
    c.self.inside.planned.items c.as_slice-rooms.result.now c.self.inside.asked c.args.self.now c.self.view_is c.as_slice-rooms.ensures.value c.requires.stands c.changed_zones-changed.result
    c.moved_if-moved.result c.changed_zones-changed.ensures.seen c.flows_changed-asked.result c.moved_if-moved.new.planned c.flows_changed-asked.ensures.rooms c.moved_if-moved.ensures.rooms
    c.moved_if-moved.ensures.moved c.refresh_lines.new.views _
    (written-back c.as_mut_slice.result.now c.moved_if-moved.new.planned (drop (length c.moved_if-moved.new.planned) c.self.inside.planned.items) c.self.inside.planned.len
    c.as_mut_slice.ensures.len c.moved_if-moved.auto.planned)
    c.refresh_lines.ensures.kept c.in_ok-refresh_lines.ensures.next

pub returns-clause-kept : goal.returns-clause-kept
returns-clause-kept c =
    kept-made c.self.inside.views c.self.inside.rooms.items c.self.inside.planned.items c.self.inside.asked c.args.self.now c.self.view_is c.requires.none_next c.refresh_lines.new.views
    c.refresh_lines.ensures.kept

pub returns-clause-made : goal.returns-clause-made
returns-clause-made c =
    near-made c.args.hour.now c.changed_zones-changed.ensures.boards c.args.grid.now c.requires.grid c.zones.ensures.grid c.self.inside.views c.self.inside.rooms.items
    c.self.inside.planned.items c.as_slice-rooms.result.now c.self.inside.asked c.args.self.now c.self.view_is c.as_slice-rooms.ensures.value c.requires.stands c.changed_zones-changed.result
    c.moved_if-moved.result c.changed_zones-changed.ensures.seen c.flows_changed-asked.result c.moved_if-moved.new.planned c.flows_changed-asked.ensures.rooms c.moved_if-moved.ensures.rooms
    c.moved_if-moved.ensures.moved c.changed_zones-changed.ensures.named c.moved_if-moved.ensures.none _ c.in_ok-refresh_lines.ensures.made

pub returns-clause-unasked : goal.returns-clause-unasked
returns-clause-unasked c = λ none.
    next-unasked c.flows_changed-asked.result (list_any moves_flows (planned_of c.args.hour.now)) _ c.flows_changed-asked.ensures.planned none

pub returns-clause-unplanned : goal.returns-clause-unplanned
returns-clause-unplanned c = λ alike.
    let unasked = c.flows_changed-asked.ensures.unplanned alike in (
      refl,
      all-still c.self.inside.views c.self.inside.rooms.items c.self.inside.planned.items c.self.inside.asked c.args.self.now c.self.view_is c.requires.none_next c.refresh_lines.new.views
          c.flows_changed-asked.result _
          (c.refresh_lines.ensures.still (λ part side low. touched-none c.changed_zones-changed.result c.moved_if-moved.result part side low (c.changed_zones-changed.ensures.unplanned alike)
          (c.moved_if-moved.ensures.none unasked part low))).1
          unasked,
    )
