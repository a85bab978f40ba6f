use Rattle.std.proofs.Common.{◌≡◌, ◌+◌, get_or, ap, ◌∙◌}
use Rattle.order_pool.proofs.Chains.{place_at}
use Rattle.order_pool.proofs.RingCalls.{linked_as, first_shown}
use Rattle.order_pool.proofs.rings.Rings.first.Goals as goal

pub returns : goal.returns
returns c =
    let linked = linked_as c.self.inside.next c.self.inside.previous c.args.self.now c.self.view_is c.self.invariant in
    let read : c.of_mark.result ≡ get_or c.self.inside.next (4096 + c.args.ring) 0 =
    c.of_mark.ensures in
    c.place_of.ensures ∙ ap place_at read ∙ first_shown c.self.inside.next c.self.inside.previous c.args.self.now linked c.args.ring c.requires
