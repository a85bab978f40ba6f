use Rattle.std.proofs.Common.{◌≡◌, ◌+◌, ◌-◌, ◌≤◌, arith}
use Rattle.record_pool.proofs.KeyedLemmas.{IsChained-take, some_counted}
use Rattle.record_pool.proofs.keyed.KeyedPool.take.Goals as goal

pub overflow_sub-self : goal.overflow_sub-self
overflow_sub-self g c =
    some_counted g.T.Keyed.key_of g.T.Keyed.bucket_of c.self.inside.pool c.self.inside.count c.self.invariant c.args.place c.args.self.now c.self.view_is c.requires

pub invariant_of-self : goal.invariant_of-self
invariant_of-self g c =
    let told = c.take.ensures in
    let some = some_counted g.T.Keyed.key_of g.T.Keyed.bucket_of c.self.inside.pool c.self.inside.count c.self.invariant c.args.place c.args.self.now c.self.view_is c.requires in
    IsChained-take g.T.Keyed.key_of g.T.Keyed.bucket_of c.self.inside.pool c.self.inside.count c.self.invariant c.take.new.self c.args.place c.take.result (c.self.inside.count - 1)
    told.item (omega (arith, some)) told.places told.lines told.sound
