use Rattle.std.proofs.Common.{◌≡◌, ◌+◌, ◌<◌, length, get_or, arith}
use Rattle.order_pool.proofs.RingLemmas.{rings_are}
use Rattle.order_pool.proofs.RingCalls.{linked_as, behind_within, behind_apart, ahead_within, inserted_links}
use Rattle.order_pool.proofs.rings.Rings.insert.Goals as goal

pub overflow_add-ring : goal.overflow_add-ring
overflow_add-ring c = omega (arith, c.requires.sound.fits, c.requires.within)

pub at-before-requires-clause-within : goal.at-before-requires-clause-within
at-before-requires-clause-within c =
    let linked = linked_as c.self.inside.next c.self.inside.previous c.args.self.now c.self.view_is c.self.invariant in
    let within : c.unwrap_or-after.result < 4096 + length c.args.self.now = behind_within c.self.inside.next c.self.inside.previous c.args.self.now linked c.args.ring c.args.before c.unwrap_or-after.result c.requires.within c.requires.before c.unwrap_or-after.ensures in
    omega (arith, within, linked.length_previous)

pub at-before-requires-clause-apart : goal.at-before-requires-clause-apart
at-before-requires-clause-apart c =
    let linked = linked_as c.self.inside.next c.self.inside.previous c.args.self.now c.self.view_is c.self.invariant in
    behind_apart c.self.inside.next c.self.inside.previous c.args.self.now linked c.args.ring c.args.before c.unwrap_or-after.result c.requires.before c.unwrap_or-after.ensures

pub set-requires : goal.set-requires
set-requires c =
    let linked = linked_as c.self.inside.next c.self.inside.previous c.args.self.now c.self.view_is c.self.invariant in
    let within : c.unwrap_or-after.result < 4096 + length c.args.self.now = behind_within c.self.inside.next c.self.inside.previous c.args.self.now linked c.args.ring c.args.before c.unwrap_or-after.result c.requires.within c.requires.before c.unwrap_or-after.ensures in
    let ahead : c.at-before.result ≡ get_or c.self.inside.previous c.unwrap_or-after.result 0 =
    c.at-before.ensures in
    omega (arith, ahead_within c.self.inside.next c.self.inside.previous c.args.self.now linked c.args.ring c.args.before c.unwrap_or-after.result c.at-before.result c.requires.within c.requires.before c.unwrap_or-after.ensures ahead)

pub set-requires-3 : goal.set-requires-3
set-requires-3 c =
    let linked = linked_as c.self.inside.next c.self.inside.previous c.args.self.now c.self.view_is c.self.invariant in
    let within : c.unwrap_or-after.result < 4096 + length c.args.self.now = behind_within c.self.inside.next c.self.inside.previous c.args.self.now linked c.args.ring c.args.before c.unwrap_or-after.result c.requires.within c.requires.before c.unwrap_or-after.ensures in
    omega (arith, within, linked.length_previous)

pub invariant_of-self : goal.invariant_of-self
invariant_of-self c =
    let linked = linked_as c.self.inside.next c.self.inside.previous c.args.self.now c.self.view_is c.self.invariant in
    let within : c.unwrap_or-after.result < 4096 + length c.args.self.now = behind_within c.self.inside.next c.self.inside.previous c.args.self.now linked c.args.ring c.args.before c.unwrap_or-after.result c.requires.within c.requires.before c.unwrap_or-after.ensures in
    let ahead : c.at-before.result ≡ get_or c.self.inside.previous c.unwrap_or-after.result 0 =
    c.at-before.ensures in
    rw (c.set-2.ensures, c.set.ensures, c.set-4.ensures, c.set-3.ensures) (inserted_links c.self.inside.next c.self.inside.previous c.args.self.now linked c.args.ring c.args.place c.at-before.result c.args.before c.unwrap_or-after.result c.requires.within c.requires.before c.requires.place c.requires.absent c.requires.room c.unwrap_or-after.ensures ahead).0

pub returns-clause-inserted : goal.returns-clause-inserted
returns-clause-inserted c =
    let linked = linked_as c.self.inside.next c.self.inside.previous c.args.self.now c.self.view_is c.self.invariant in
    let within : c.unwrap_or-after.result < 4096 + length c.args.self.now = behind_within c.self.inside.next c.self.inside.previous c.args.self.now linked c.args.ring c.args.before c.unwrap_or-after.result c.requires.within c.requires.before c.unwrap_or-after.ensures in
    let ahead : c.at-before.result ≡ get_or c.self.inside.previous c.unwrap_or-after.result 0 =
    c.at-before.ensures in
    rw (c.set-2.ensures, c.set.ensures) (inserted_links c.self.inside.next c.self.inside.previous c.args.self.now linked c.args.ring c.args.place c.at-before.result c.args.before c.unwrap_or-after.result c.requires.within c.requires.before c.requires.place c.requires.absent c.requires.room c.unwrap_or-after.ensures ahead).1

pub returns-clause-sound : goal.returns-clause-sound
returns-clause-sound c =
    let linked = linked_as c.self.inside.next c.self.inside.previous c.args.self.now c.self.view_is c.self.invariant in
    let within : c.unwrap_or-after.result < 4096 + length c.args.self.now = behind_within c.self.inside.next c.self.inside.previous c.args.self.now linked c.args.ring c.args.before c.unwrap_or-after.result c.requires.within c.requires.before c.unwrap_or-after.ensures in
    let ahead : c.at-before.result ≡ get_or c.self.inside.previous c.unwrap_or-after.result 0 =
    c.at-before.ensures in
    rw (c.set-2.ensures, c.set.ensures) (rings_are _ _ _ (inserted_links c.self.inside.next c.self.inside.previous c.args.self.now linked c.args.ring c.args.place c.at-before.result c.args.before c.unwrap_or-after.result c.requires.within c.requires.before c.requires.place c.requires.absent c.requires.room c.unwrap_or-after.ensures ahead).0)
