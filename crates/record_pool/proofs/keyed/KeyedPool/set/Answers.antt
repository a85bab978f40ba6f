use Rattle.std.proofs.Common.{sym, subst}
use Rattle.record_pool.specs.Keyed.{Holds}
use Rattle.record_pool.proofs.KeyedLemmas.{IsChained-set}
use Rattle.record_pool.proofs.keyed.KeyedPool.set.Goals as goal

pub invariant_of-self : goal.invariant_of-self
invariant_of-self g c =
    let held : Holds g.T.Keyed.key_of c.self.inside.pool.places (g.T.Keyed.key_of c.args.item) c.args.place =
    subst (λ l. Holds g.T.Keyed.key_of l (g.T.Keyed.key_of c.args.item) c.args.place) (sym c.self.view_is) c.requires in
    IsChained-set g.T.Keyed.key_of g.T.Keyed.bucket_of c.self.inside.pool c.self.inside.count c.self.invariant c.args.place c.args.item held

pub returns-clause-keyed : goal.returns-clause-keyed
returns-clause-keyed g c =
    let held : Holds g.T.Keyed.key_of c.self.inside.pool.places (g.T.Keyed.key_of c.args.item) c.args.place =
    subst (λ l. Holds g.T.Keyed.key_of l (g.T.Keyed.key_of c.args.item) c.args.place) (sym c.self.view_is) c.requires in
    (IsChained-set g.T.Keyed.key_of g.T.Keyed.bucket_of c.self.inside.pool c.self.inside.count c.self.invariant c.args.place c.args.item held).keyed
