use Rattle.std.proofs.Common.{◌≡◌, ◌<◌, length, None, sym, ap, ◌∙◌, arith}
use Rattle.order_pool.specs.Lines.{line_at, first_in}
use Rattle.order_pool.proofs.PoolStates.{state_is_sound, none_free, put_used, put_apart, put_pool, put_sound, put_places, put_lines, put_holds, put_stands, put_count, new_absent, new_pool, new_sound, new_places, new_lines, new_holds, new_stands, new_count}
use Rattle.order_pool.proofs.pool.Pool.insert.Goals as goal

pub set-requires : goal.set-requires
set-requires g c = put_used c.self.inside.slots.items c.self.inside.rings c.args.self.now c.self.view_is c.self.invariant.1 c.in-Some.place c.args.line c.args.before c.in-Some.ensures c.requires.line c.requires.before

pub shift-requires-clause-apart : goal.shift-requires-clause-apart
shift-requires-clause-apart g c = put_apart c.self.inside.slots.items c.self.inside.rings c.args.self.now c.self.view_is c.self.invariant.1 c.in-Some.place c.args.line c.args.before c.in-Some.ensures c.requires.line c.requires.before

pub invariant_of-self : goal.invariant_of-self
invariant_of-self g c = (ap (λ s. s.room) c.set.ensures ∙ c.self.invariant.0, put_pool c.self.inside.slots.items c.self.inside.rings c.args.self.now c.self.view_is c.self.invariant.1 c.in-Some.place c.args.line c.args.before c.in-Some.ensures c.requires.line c.requires.before c.args.item c.set.new.self.items (ap (λ s. s.items) c.set.ensures) c.shift.new.self c.shift.ensures.moved c.shift.ensures.sound)

pub returns-in-Some-clause-within : goal.returns-in-Some-clause-within
returns-in-Some-clause-within g c = omega (arith, put_used c.self.inside.slots.items c.self.inside.rings c.args.self.now c.self.view_is c.self.invariant.1 c.in-Some.place c.args.line c.args.before c.in-Some.ensures c.requires.line c.requires.before, c.self.invariant.1.within)

pub returns-in-Some-clause-places : goal.returns-in-Some-clause-places
returns-in-Some-clause-places g c = put_places c.self.inside.slots.items c.self.inside.rings c.args.self.now c.self.view_is c.self.invariant.1 c.in-Some.place c.args.line c.args.before c.in-Some.ensures c.requires.line c.requires.before c.args.item c.set.new.self.items (ap (λ s. s.items) c.set.ensures) c.shift.new.self c.shift.ensures.moved c.shift.ensures.sound

pub returns-in-Some-clause-lines : goal.returns-in-Some-clause-lines
returns-in-Some-clause-lines g c = put_lines c.self.inside.slots.items c.self.inside.rings c.args.self.now c.self.view_is c.self.invariant.1 c.in-Some.place c.args.line c.args.before c.in-Some.ensures c.requires.line c.requires.before c.args.item c.set.new.self.items (ap (λ s. s.items) c.set.ensures) c.shift.new.self c.shift.ensures.moved c.shift.ensures.sound

pub returns-in-Some-clause-holds : goal.returns-in-Some-clause-holds
returns-in-Some-clause-holds g c = put_holds c.self.inside.slots.items c.self.inside.rings c.args.self.now c.self.view_is c.self.invariant.1 c.in-Some.place c.args.line c.args.before c.in-Some.ensures c.requires.line c.requires.before c.args.item c.set.new.self.items (ap (λ s. s.items) c.set.ensures) c.shift.new.self c.shift.ensures.moved c.shift.ensures.sound

pub returns-in-Some-clause-stands : goal.returns-in-Some-clause-stands
returns-in-Some-clause-stands g c = put_stands c.self.inside.slots.items c.self.inside.rings c.args.self.now c.self.view_is c.self.invariant.1 c.in-Some.place c.args.line c.args.before c.in-Some.ensures c.requires.line c.requires.before c.args.item c.set.new.self.items (ap (λ s. s.items) c.set.ensures) c.shift.new.self c.shift.ensures.moved c.shift.ensures.sound

pub returns-in-Some-clause-line_count : goal.returns-in-Some-clause-line_count
returns-in-Some-clause-line_count g c = put_count c.self.inside.slots.items c.self.inside.rings c.args.self.now c.self.view_is c.self.invariant.1 c.in-Some.place c.args.line c.args.before c.in-Some.ensures c.requires.line c.requires.before c.args.item c.set.new.self.items (ap (λ s. s.items) c.set.ensures) c.shift.new.self c.shift.ensures.moved c.shift.ensures.sound

pub returns-in-Some-clause-sound : goal.returns-in-Some-clause-sound
returns-in-Some-clause-sound g c = put_sound c.self.inside.slots.items c.self.inside.rings c.args.self.now c.self.view_is c.self.invariant.1 c.in-Some.place c.args.line c.args.before c.in-Some.ensures c.requires.line c.requires.before c.args.item c.set.new.self.items (ap (λ s. s.items) c.set.ensures) c.shift.new.self c.shift.ensures.moved c.shift.ensures.sound

pub returns-then-place-eq-PLACES-clause-none_free : goal.returns-then-place-eq-PLACES-clause-none_free
returns-then-place-eq-PLACES-clause-none_free g c =
    let empty : first_in (line_at c.self.inside.rings 0) ≡ None = grind arith in
    none_free c.self.inside.slots.items c.self.inside.rings c.args.self.now c.self.view_is c.self.invariant.1 empty (sym c.len-place.ensures.len ∙ c.if-place-eq-PLACES.true)

pub returns-then-place-eq-PLACES-clause-sound : goal.returns-then-place-eq-PLACES-clause-sound
returns-then-place-eq-PLACES-clause-sound g c = state_is_sound c.self.inside.slots.items c.self.inside.rings c.args.self.now c.self.view_is c.self.invariant.1

pub insert-requires-clause-absent : goal.insert-requires-clause-absent
insert-requires-clause-absent g c =
    let more : length c.self.inside.slots.items < 4096 = omega (arith, c.if-place-eq-PLACES.false, c.len-place.ensures.len, c.self.invariant.1.within) in
    new_absent c.self.inside.slots.items c.self.inside.rings c.args.self.now c.self.view_is c.self.invariant.1 c.len-place.result c.args.line c.args.before c.len-place.ensures.len more c.requires.line c.requires.before

pub invariant_of-self-2 : goal.invariant_of-self-2
invariant_of-self-2 g c =
    let more : length c.self.inside.slots.items < 4096 = omega (arith, c.if-place-eq-PLACES.false, c.len-place.ensures.len, c.self.invariant.1.within) in
    (c.push.ensures.room ∙ c.self.invariant.0, new_pool c.self.inside.slots.items c.self.inside.rings c.args.self.now c.self.view_is c.self.invariant.1 c.len-place.result c.args.line c.args.before c.len-place.ensures.len more c.requires.line c.requires.before c.args.item c.push.new.self.items c.push.ensures.items c.insert.new.self c.insert.ensures.inserted c.insert.ensures.sound)

pub returns-clause-places : goal.returns-clause-places
returns-clause-places g c =
    let more : length c.self.inside.slots.items < 4096 = omega (arith, c.if-place-eq-PLACES.false, c.len-place.ensures.len, c.self.invariant.1.within) in
    new_places c.self.inside.slots.items c.self.inside.rings c.args.self.now c.self.view_is c.self.invariant.1 c.len-place.result c.args.line c.args.before c.len-place.ensures.len more c.requires.line c.requires.before c.args.item c.push.new.self.items c.push.ensures.items c.insert.new.self c.insert.ensures.inserted c.insert.ensures.sound

pub returns-clause-lines : goal.returns-clause-lines
returns-clause-lines g c =
    let more : length c.self.inside.slots.items < 4096 = omega (arith, c.if-place-eq-PLACES.false, c.len-place.ensures.len, c.self.invariant.1.within) in
    new_lines c.self.inside.slots.items c.self.inside.rings c.args.self.now c.self.view_is c.self.invariant.1 c.len-place.result c.args.line c.args.before c.len-place.ensures.len more c.requires.line c.requires.before c.args.item c.push.new.self.items c.push.ensures.items c.insert.new.self c.insert.ensures.inserted c.insert.ensures.sound

pub returns-clause-holds : goal.returns-clause-holds
returns-clause-holds g c =
    let more : length c.self.inside.slots.items < 4096 = omega (arith, c.if-place-eq-PLACES.false, c.len-place.ensures.len, c.self.invariant.1.within) in
    new_holds c.self.inside.slots.items c.self.inside.rings c.args.self.now c.self.view_is c.self.invariant.1 c.len-place.result c.args.line c.args.before c.len-place.ensures.len more c.requires.line c.requires.before c.args.item c.push.new.self.items c.push.ensures.items c.insert.new.self c.insert.ensures.inserted c.insert.ensures.sound

pub returns-clause-stands : goal.returns-clause-stands
returns-clause-stands g c =
    let more : length c.self.inside.slots.items < 4096 = omega (arith, c.if-place-eq-PLACES.false, c.len-place.ensures.len, c.self.invariant.1.within) in
    new_stands c.self.inside.slots.items c.self.inside.rings c.args.self.now c.self.view_is c.self.invariant.1 c.len-place.result c.args.line c.args.before c.len-place.ensures.len more c.requires.line c.requires.before c.args.item c.push.new.self.items c.push.ensures.items c.insert.new.self c.insert.ensures.inserted c.insert.ensures.sound

pub returns-clause-line_count : goal.returns-clause-line_count
returns-clause-line_count g c =
    let more : length c.self.inside.slots.items < 4096 = omega (arith, c.if-place-eq-PLACES.false, c.len-place.ensures.len, c.self.invariant.1.within) in
    new_count c.self.inside.slots.items c.self.inside.rings c.args.self.now c.self.view_is c.self.invariant.1 c.len-place.result c.args.line c.args.before c.len-place.ensures.len more c.requires.line c.requires.before c.args.item c.push.new.self.items c.push.ensures.items c.insert.new.self c.insert.ensures.inserted c.insert.ensures.sound

pub returns-clause-sound : goal.returns-clause-sound
returns-clause-sound g c =
    let more : length c.self.inside.slots.items < 4096 = omega (arith, c.if-place-eq-PLACES.false, c.len-place.ensures.len, c.self.invariant.1.within) in
    new_sound c.self.inside.slots.items c.self.inside.rings c.args.self.now c.self.view_is c.self.invariant.1 c.len-place.result c.args.line c.args.before c.len-place.ensures.len more c.requires.line c.requires.before c.args.item c.push.new.self.items c.push.ensures.items c.insert.new.self c.insert.ensures.inserted c.insert.ensures.sound
