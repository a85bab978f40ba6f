use Rattle.std.proofs.Common.{◌<◌, length, get_or, refl, sym, ap, ◌∙◌, arith}
use Rattle.order_pool.specs.Region.{restocked}
use Rattle.order_pool.proofs.FilledLemmas.{laid_filled, laid_is, laid-set}
use Rattle.order_pool.proofs.region.Region.get_mut.Goals as goal

pub get_mut-requires : goal.get_mut-requires
get_mut-requires g c =
    let low : c.args.index < c.self.inside.len = omega (arith, c.requires, c.self.invariant.4.len_is, ap (λ s. length s.items) c.self.view_is) in
    (sym c.self.invariant.0, laid_filled c.self.inside.cells.slots c.self.inside.len c.self.inside.room c.self.invariant.4 c.args.index low)

pub invariant_of-self-lent : goal.invariant_of-self-lent
invariant_of-self-lent g c w =
    let low : c.args.index < c.self.inside.len = omega (arith, c.requires, c.self.invariant.4.len_is, ap (λ s. length s.items) c.self.view_is) in
    (c.self.invariant.0, c.self.invariant.1, c.self.invariant.2, c.self.invariant.3, (laid-set c.self.inside.cells.slots c.self.inside.len c.self.inside.room c.self.invariant.4 c.args.index w low).0)

pub returns : goal.returns
returns g c =
    let low : c.args.index < c.self.inside.len = omega (arith, c.requires, c.self.invariant.4.len_is, ap (λ s. length s.items) c.self.view_is) in (
      (refl {a = c.get_mut.result.ghost_name}, λ w. ap (λ l. record { items = l; room = c.self.inside.room }) (laid-set c.self.inside.cells.slots c.self.inside.len c.self.inside.room c.self.invariant.4 c.args.index w low).1 ∙ ap (λ s. restocked s c.args.index w) c.self.view_is),
      record { writes_back = tt; value = laid_is c.self.inside.cells.slots c.self.inside.len c.self.inside.room c.self.invariant.4 c.args.index c.get_mut.result.now low c.get_mut.ensures.value ∙ ap (λ s. get_or s.items c.args.index c.get_mut.result.now) c.self.view_is },
    )
