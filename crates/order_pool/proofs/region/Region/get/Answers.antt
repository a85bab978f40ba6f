use Rattle.std.proofs.Common.{◌<◌, length, get_or, sym, ap, ◌∙◌, arith}
use Rattle.order_pool.proofs.FilledLemmas.{laid_filled, laid_is}
use Rattle.order_pool.proofs.region.Region.get.Goals as goal

pub get-requires : goal.get-requires
get-requires g c =
    let low : c.args.index < c.self.inside.len = omega (arith, c.requires, c.self.invariant.4.len_is, ap (λ s. length s.items) c.self.view_is) in
    (sym c.self.invariant.0, laid_filled c.self.inside.cells.slots c.self.inside.len c.self.inside.room c.self.invariant.4 c.args.index low)

pub returns : goal.returns
returns g c =
    let low : c.args.index < c.self.inside.len = omega (arith, c.requires, c.self.invariant.4.len_is, ap (λ s. length s.items) c.self.view_is) in
    laid_is c.self.inside.cells.slots c.self.inside.len c.self.inside.room c.self.invariant.4 c.args.index c.get.result.now low c.get.ensures ∙ ap (λ s. get_or s.items c.args.index c.get.result.now) c.self.view_is
