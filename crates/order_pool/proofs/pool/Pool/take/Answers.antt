use Rattle.std.proofs.Common.{ap, ◌∙◌}
use Rattle.order_pool.proofs.PoolStates.{live_within, item_read, item_live, taken_pool, taken_sound, taken_places, taken_lines, taken_count}
use Rattle.order_pool.proofs.pool.Pool.take.Goals as goal

pub invariant_of-self : goal.invariant_of-self
invariant_of-self g c = (ap (λ s. s.room) c.set.ensures ∙ c.self.invariant.0, taken_pool c.self.inside.slots.items c.self.inside.rings c.args.self.now c.self.view_is c.self.invariant.1 c.args.place c.requires c.first-first.result c.first-first.ensures c.set.new.self.items (ap (λ s. s.items) c.set.ensures) c.shift.new.self c.shift.ensures.moved c.shift.ensures.sound)

pub returns-clause-places : goal.returns-clause-places
returns-clause-places g c = taken_places c.self.inside.slots.items c.self.inside.rings c.args.self.now c.self.view_is c.self.invariant.1 c.args.place c.requires c.first-first.result c.first-first.ensures c.set.new.self.items (ap (λ s. s.items) c.set.ensures) c.shift.new.self c.shift.ensures.moved c.shift.ensures.sound

pub returns-clause-lines : goal.returns-clause-lines
returns-clause-lines g c = taken_lines c.self.inside.slots.items c.self.inside.rings c.args.self.now c.self.view_is c.self.invariant.1 c.args.place c.requires c.first-first.result c.first-first.ensures c.set.new.self.items (ap (λ s. s.items) c.set.ensures) c.shift.new.self c.shift.ensures.moved c.shift.ensures.sound

pub returns-clause-line_count : goal.returns-clause-line_count
returns-clause-line_count g c = taken_count c.self.inside.slots.items c.self.inside.rings c.args.self.now c.self.view_is c.self.invariant.1 c.args.place c.requires c.first-first.result c.first-first.ensures c.set.new.self.items (ap (λ s. s.items) c.set.ensures) c.shift.new.self c.shift.ensures.moved c.shift.ensures.sound

pub returns-clause-sound : goal.returns-clause-sound
returns-clause-sound g c = taken_sound c.self.inside.slots.items c.self.inside.rings c.args.self.now c.self.view_is c.self.invariant.1 c.args.place c.requires c.first-first.result c.first-first.ensures c.set.new.self.items (ap (λ s. s.items) c.set.ensures) c.shift.new.self c.shift.ensures.moved c.shift.ensures.sound

pub item-item-requires : goal.item-item-requires
item-item-requires g c = item_live c.self.inside.slots.items c.self.inside.rings c.args.self.now c.self.view_is c.self.invariant.1 c.args.place c.get.result.now c.requires c.get.ensures

pub returns-clause-item : goal.returns-clause-item
returns-clause-item g c =
    item_read c.self.inside.slots.items c.self.inside.rings c.args.self.now c.self.view_is c.self.invariant.1 c.args.place c.get.result.now (live_within c.self.inside.slots.items c.self.inside.rings c.args.self.now c.self.view_is c.self.invariant.1 c.args.place c.requires) c.get.ensures ∙ c.item-item.ensures
