use Rattle.std.proofs.Common.{arith}
use Rattle.order_pool.proofs.RowLemmas.{length-links, place_set, mark_set}
use Rattle.order_pool.proofs.links.Ends.set.Goals as goal

pub store-requires-else-number-lt-PLACES-clause-within : goal.store-requires-else-number-lt-PLACES-clause-within
store-requires-else-number-lt-PLACES-clause-within c =
    let p = c.self.inside in
    omega (arith, c.requires, c.if-number-lt-PLACES.false, length-links p.places.items p.marks.items c.args.self.now p.places.room p.marks.room c.self.invariant.0 c.self.invariant.1 c.self.invariant.2 c.self.view_is)

pub returns-then-number-lt-PLACES : goal.returns-then-number-lt-PLACES
returns-then-number-lt-PLACES c =
    let p = c.self.inside in
    place_set p.places.items p.marks.items c.args.self.now p.places.room p.marks.room c.self.invariant.0 c.self.invariant.1 c.self.invariant.2 c.self.view_is c.store.new.stored.items c.store.new.stored.room c.args.number c.args.end (omega (arith, c.if-number-lt-PLACES.true)) c.store.ensures.set

pub returns-else-number-lt-PLACES : goal.returns-else-number-lt-PLACES
returns-else-number-lt-PLACES c =
    let p = c.self.inside in
    let made = c.store-else-number-lt-PLACES in
    mark_set p.places.items p.marks.items c.args.self.now p.places.room p.marks.room c.self.invariant.0 c.self.invariant.1 c.self.invariant.2 c.self.view_is made.new.stored.items made.new.stored.room c.args.number c.args.end (omega (arith, c.if-number-lt-PLACES.false)) made.ensures.set
