use Rattle.std.proofs.Common.{◌≡◌, get_or, arith}
use Rattle.order_pool.proofs.RingLemmas.{rings_are}
use Rattle.order_pool.proofs.RingCalls.{linked_as, apart_in, neighbours_in, removed_links}
use Rattle.order_pool.proofs.rings.Rings.remove.Goals as goal

pub of_place-before-requires-clause-within : goal.of_place-before-requires-clause-within
of_place-before-requires-clause-within c =
    let linked = linked_as c.self.inside.next c.self.inside.previous c.args.self.now c.self.view_is c.self.invariant in
    (rings_are c.self.inside.next c.self.inside.previous c.args.self.now linked).low c.requires.0 c.args.place c.requires.1

pub of_place-before-requires-clause-apart : goal.of_place-before-requires-clause-apart
of_place-before-requires-clause-apart c =
    let linked = linked_as c.self.inside.next c.self.inside.previous c.args.self.now c.self.view_is c.self.invariant in
    (apart_in c.self.inside.next c.self.inside.previous c.args.self.now linked c.requires.0 c.args.place c.requires.1).1

pub of_place-after-requires-clause-within : goal.of_place-after-requires-clause-within
of_place-after-requires-clause-within c =
    let linked = linked_as c.self.inside.next c.self.inside.previous c.args.self.now c.self.view_is c.self.invariant in
    (rings_are c.self.inside.next c.self.inside.previous c.args.self.now linked).low c.requires.0 c.args.place c.requires.1

pub of_place-after-requires-clause-apart : goal.of_place-after-requires-clause-apart
of_place-after-requires-clause-apart c =
    let linked = linked_as c.self.inside.next c.self.inside.previous c.args.self.now c.self.view_is c.self.invariant in
    (apart_in c.self.inside.next c.self.inside.previous c.args.self.now linked c.requires.0 c.args.place c.requires.1).0

pub set-requires : goal.set-requires
set-requires c =
    let linked = linked_as c.self.inside.next c.self.inside.previous c.args.self.now c.self.view_is c.self.invariant in
    let before : c.of_place-before.result ≡ get_or c.self.inside.previous c.args.place 0 =
    c.of_place-before.ensures in
    omega (arith, before, (neighbours_in c.self.inside.next c.self.inside.previous c.args.self.now linked c.requires.0 c.args.place c.requires.1).before_within)

pub set-requires-2 : goal.set-requires-2
set-requires-2 c =
    let linked = linked_as c.self.inside.next c.self.inside.previous c.args.self.now c.self.view_is c.self.invariant in
    let after : c.of_place-after.result ≡ get_or c.self.inside.next c.args.place 0 =
    c.of_place-after.ensures in
    omega (arith, after, (neighbours_in c.self.inside.next c.self.inside.previous c.args.self.now linked c.requires.0 c.args.place c.requires.1).after_within)

pub invariant_of-self : goal.invariant_of-self
invariant_of-self c =
    let linked = linked_as c.self.inside.next c.self.inside.previous c.args.self.now c.self.view_is c.self.invariant in
    let before : c.of_place-before.result ≡ get_or c.self.inside.previous c.args.place 0 =
    c.of_place-before.ensures in
    let after : c.of_place-after.result ≡ get_or c.self.inside.next c.args.place 0 =
    c.of_place-after.ensures in
    rw (c.set.ensures, c.set-2.ensures) (removed_links c.self.inside.next c.self.inside.previous c.args.self.now linked c.requires.0 c.args.place c.of_place-before.result c.of_place-after.result c.requires.1 before after).0

pub returns-clause-removed : goal.returns-clause-removed
returns-clause-removed c =
    let linked = linked_as c.self.inside.next c.self.inside.previous c.args.self.now c.self.view_is c.self.invariant in
    let before : c.of_place-before.result ≡ get_or c.self.inside.previous c.args.place 0 =
    c.of_place-before.ensures in
    let after : c.of_place-after.result ≡ get_or c.self.inside.next c.args.place 0 =
    c.of_place-after.ensures in
    rw c.set.ensures (removed_links c.self.inside.next c.self.inside.previous c.args.self.now linked c.requires.0 c.args.place c.of_place-before.result c.of_place-after.result c.requires.1 before after).1

pub returns-clause-sound : goal.returns-clause-sound
returns-clause-sound c =
    let linked = linked_as c.self.inside.next c.self.inside.previous c.args.self.now c.self.view_is c.self.invariant in
    let before : c.of_place-before.result ≡ get_or c.self.inside.previous c.args.place 0 =
    c.of_place-before.ensures in
    let after : c.of_place-after.result ≡ get_or c.self.inside.next c.args.place 0 =
    c.of_place-after.ensures in
    rw c.set.ensures (rings_are _ _ _ (removed_links c.self.inside.next c.self.inside.previous c.args.self.now linked c.requires.0 c.args.place c.of_place-before.result c.of_place-after.result c.requires.1 before after).0)
