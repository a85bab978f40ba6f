use Rattle.order_pool.proofs.RingLemmas.{rings_linked_is}
use Rattle.order_pool.proofs.RingCalls.{AreLinked-fresh, AreLinked-shown, AreRings-shown}
use Rattle.order_pool.proofs.rings.Rings.new.Goals as goal

pub invariant_of-result : goal.invariant_of-result
invariant_of-result c =
    let fresh = AreLinked-fresh c.in_ok-next.next c.in_ok-previous.previous c.args.rings c.in_ok-next.ensures.len c.in_ok-previous.ensures.len c.requires c.in_ok-next.ensures.each c.in_ok-previous.ensures.each in
    AreLinked-shown _ _ _ fresh

pub returns-clause-empty : goal.returns-clause-empty
returns-clause-empty c =
    let fresh = AreLinked-fresh c.in_ok-next.next c.in_ok-previous.previous c.args.rings c.in_ok-next.ensures.len c.in_ok-previous.ensures.len c.requires c.in_ok-next.ensures.each c.in_ok-previous.ensures.each in
    rings_linked_is _ _ _ fresh

pub returns-clause-sound : goal.returns-clause-sound
returns-clause-sound c =
    let fresh = AreLinked-fresh c.in_ok-next.next c.in_ok-previous.previous c.args.rings c.in_ok-next.ensures.len c.in_ok-previous.ensures.len c.requires c.in_ok-next.ensures.each c.in_ok-previous.ensures.each in
    AreRings-shown _ _ _ fresh
