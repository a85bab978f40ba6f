use Rattle.std.specs.Vec.Iter.{into_iter_items}
use Rattle.desk_market.proofs.Waits.{next-given, others-stay}
use Rattle.desk_market.proofs.waiting.Waiting.next.Goals as goal

pub returns-clause-next : goal.returns-clause-next
returns-clause-next c =
    next-given into_iter_items c.self.inside.callers.items c.args.self.now c.self.view_is c.args.caller c.requires.known c.index_mut.result.now c.next.new.self
    c.index_mut.ensures.value c.in-Some.command c.in-Some.ensures.items

pub returns-clause-others : goal.returns-clause-others
returns-clause-others c =
    others-stay into_iter_items c.self.inside.callers.items c.args.self.now c.self.view_is c.args.caller c.requires.known c.index_mut.result.now c.next.new.self
    c.index_mut.ensures.value c.in-Some.command c.in-Some.ensures.items
