use Rattle.std.proofs.Common.{◌≡◌, ℕ, List, Option, ◌∙◌, ap, sym, subst, refl, ◌+◌, arith}
use Rattle.record_pool.specs.Keyed.{held_count, IsAbsent}
use Rattle.record_pool.specs.KeyedInside.{IsChained}
use Rattle.record_pool.proofs.Counts.{held_count-most}
use Rattle.record_pool.proofs.KeyedLemmas.{IsChained-put, full-where_none_free, not_full-where_free}
use Rattle.record_pool.proofs.keyed.KeyedPool.put.Goals as goal

pub returns-in_err-place-clause-full : goal.returns-in_err-place-clause-full
returns-in_err-place-clause-full g c =
    let full : held_count c.args.self.now ≡ 4096 =
    ap held_count (sym c.self.view_is) ∙ full-where_none_free g.T.Keyed.key_of g.T.Keyed.bucket_of c.self.inside.pool c.self.inside.count c.self.invariant c.in_err-place.ensures.none_free in
    (λ is. full, λ e. c.from_residual.ensures.0)

pub invariant_of-self-2 : goal.invariant_of-self-2
invariant_of-self-2 g c =
    let told = c.in_ok-place.ensures in
    let absent : IsAbsent g.T.Keyed.key_of c.self.inside.pool.places (g.T.Keyed.key_of c.args.item) =
    subst (λ l. IsAbsent g.T.Keyed.key_of l (g.T.Keyed.key_of c.args.item)) (sym c.self.view_is) c.requires in
    let bucket : c.bucket-bucket.result ≡ g.T.Keyed.bucket_of (g.T.Keyed.key_of c.args.item) = c.bucket-bucket.ensures.value ∙ ap g.T.Keyed.bucket_of c.key.ensures in
    IsChained-put g.T.Keyed.key_of g.T.Keyed.bucket_of c.self.inside.pool c.self.inside.count c.self.invariant c.insert.new.self c.in_ok-place.place c.bucket-bucket.result c.args.item c.first-first.result
    absent bucket c.bucket-bucket.ensures.low c.first-first.ensures told.was_free told.within told.places told.lines told.sound

pub returns-clause-full : goal.returns-clause-full
returns-clause-full g c =
    let told = c.in_ok-place.ensures in
    (λ is. absurd (cc), λ full. absurd (not_full-where_free g.T.Keyed.key_of g.T.Keyed.bucket_of c.self.inside.pool c.self.inside.count c.self.invariant c.in_ok-place.place told.within told.was_free (ap held_count c.self.view_is ∙ full)))

pub overflow_add-self : goal.overflow_add-self
overflow_add-self g c =
    let most = held_count-most c.self.inside.pool.places in
    omega (arith, most, c.self.invariant.counted, c.self.invariant.sound.size)
