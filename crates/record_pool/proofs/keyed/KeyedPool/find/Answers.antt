use Rattle.std.proofs.Common.{◌≡◌, ◌<◌, true, false, sym, ◌∙◌, ap, subst, arith}
use Rattle.record_pool.specs.Keyed.{IsAbsent}
use Rattle.record_pool.proofs.KeyedLemmas.{IsOther, chain-live, chain-next, chain-end}
use Rattle.record_pool.proofs.keyed.KeyedPool.find.Goals as goal

pub get-requires : goal.get-requires
get-requires g c =
    let low : g.T.Keyed.bucket_of c.args.key < 4096 = omega (arith, c.bucket.ensures.value, c.bucket.ensures.low) in
    chain-live g.T.Keyed.key_of g.T.Keyed.bucket_of c.self.inside.pool c.self.inside.count c.self.invariant c.args.key low c.in-Some.place c.loop-at.at c.in-Some.is c.loop-at.invariant

pub loop-at-smaller : goal.loop-at-smaller
loop-at-smaller g c =
    let low : g.T.Keyed.bucket_of c.args.key < 4096 = omega (arith, c.bucket.ensures.value, c.bucket.ensures.low) in
    let other : IsOther g.T.Keyed.key_of c.self.inside.pool.places c.args.key c.in-Some.place = λ item holds same.
    (let read = c.get.ensures in let tested = c.if-is_of.false in
    let is : g.T.Keyed.key_of c.get.result.now ≡ c.args.key = ap g.T.Keyed.key_of (let e : c.get.result.now ≡ item = cc in e) ∙ same in
    let yes : c.is_of.result ≡ true = c.is_of.ensures.1 is in absurd (cc)) in
    (chain-next g.T.Keyed.key_of g.T.Keyed.bucket_of c.self.inside.pool c.self.inside.count c.self.invariant c.args.key low c.in-Some.place c.loop-at.at c.next-at.result c.in-Some.is c.loop-at.invariant c.next-at.ensures other).1

pub loop-at-preserved : goal.loop-at-preserved
loop-at-preserved g c =
    let low : g.T.Keyed.bucket_of c.args.key < 4096 = omega (arith, c.bucket.ensures.value, c.bucket.ensures.low) in
    let other : IsOther g.T.Keyed.key_of c.self.inside.pool.places c.args.key c.in-Some.place = λ item holds same.
    (let read = c.get.ensures in let tested = c.if-is_of.false in
    let is : g.T.Keyed.key_of c.get.result.now ≡ c.args.key = ap g.T.Keyed.key_of (let e : c.get.result.now ≡ item = cc in e) ∙ same in
    let yes : c.is_of.result ≡ true = c.is_of.ensures.1 is in absurd (cc)) in
    (chain-next g.T.Keyed.key_of g.T.Keyed.bucket_of c.self.inside.pool c.self.inside.count c.self.invariant c.args.key low c.in-Some.place c.loop-at.at c.next-at.result c.in-Some.is c.loop-at.invariant c.next-at.ensures other).0

pub returns : goal.returns
returns g c =
    let low : g.T.Keyed.bucket_of c.args.key < 4096 = omega (arith, c.bucket.ensures.value, c.bucket.ensures.low) in
    let absent = chain-end g.T.Keyed.key_of g.T.Keyed.bucket_of c.self.inside.pool c.self.inside.count c.self.invariant c.args.key low c.loop-at.at c.in_default.is c.loop-at.invariant in
    subst (λ l. IsAbsent g.T.Keyed.key_of l c.args.key) c.self.view_is absent
