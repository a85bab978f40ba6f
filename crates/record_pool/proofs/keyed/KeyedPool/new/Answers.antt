use Rattle.std.proofs.Common.{◌∙◌, replicate, None, ap, sym}
use Rattle.record_pool.proofs.KeyedLemmas.{IsChained-none, none-replicate}
use Rattle.record_pool.proofs.keyed.KeyedPool.new.Goals as goal

pub invariant_of-result : goal.invariant_of-result
invariant_of-result g c =
    let told = c.in-Ok.ensures in
    IsChained-none g.T.Keyed.key_of g.T.Keyed.bucket_of c.in-Ok.pool told.sound told.lines told.free

pub returns-clause-empty : goal.returns-clause-empty
returns-clause-empty g c =
    let told = c.in-Ok.ensures in
    none-replicate c.in-Ok.pool.places told.free ∙ ap (λ n. replicate n None) told.sound.size

pub returns-clause-keyed : goal.returns-clause-keyed
returns-clause-keyed g c =
    let told = c.in-Ok.ensures in
    (IsChained-none g.T.Keyed.key_of g.T.Keyed.bucket_of c.in-Ok.pool told.sound told.lines told.free).keyed
