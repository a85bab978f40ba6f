use Rattle.std.proofs.Common.{◌≡◌, get_or, ap, ◌∙◌}
use Rattle.order_pool.proofs.Chains.{place_at}
use Rattle.order_pool.proofs.RingLemmas.{rings_are}
use Rattle.order_pool.proofs.RingCalls.{linked_as, apart_in, previous_shown}
use Rattle.order_pool.proofs.rings.Rings.previous.Goals as goal

pub of_place-requires-clause-within : goal.of_place-requires-clause-within
of_place-requires-clause-within c =
    let linked = linked_as c.self.inside.next c.self.inside.previous c.args.self.now c.self.view_is c.self.invariant in
    (rings_are c.self.inside.next c.self.inside.previous c.args.self.now linked).low c.requires.0 c.args.place c.requires.1

pub of_place-requires-clause-apart : goal.of_place-requires-clause-apart
of_place-requires-clause-apart c =
    let linked = linked_as c.self.inside.next c.self.inside.previous c.args.self.now c.self.view_is c.self.invariant in
    (apart_in c.self.inside.next c.self.inside.previous c.args.self.now linked c.requires.0 c.args.place c.requires.1).1

pub returns : goal.returns
returns c =
    let linked = linked_as c.self.inside.next c.self.inside.previous c.args.self.now c.self.view_is c.self.invariant in
    let read : c.of_place.result ≡ get_or c.self.inside.previous c.args.place 0 =
    c.of_place.ensures in
    λ line front back stands. c.place_of.ensures ∙ ap place_at read ∙ previous_shown c.self.inside.next c.self.inside.previous c.args.self.now linked c.args.place line front back stands
