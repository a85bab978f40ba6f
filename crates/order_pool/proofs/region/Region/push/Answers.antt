use Rattle.std.proofs.Common.{◌<◌, ◌+◌, [], ◌∷◌, ◌++◌, List, length, sym, ap, ◌∙◌, subst, arith}
use Rattle.order_pool.specs.Cells.{somes, AreLaid}
use Rattle.order_pool.proofs.FilledLemmas.{length-laid, laid_past, laid-push}
use Rattle.order_pool.proofs.region.Region.push.Goals as goal

pub write-requires : goal.write-requires
write-requires g c =
    let more : c.self.inside.len < c.self.inside.room = omega (arith, c.requires, c.self.invariant.4.len_is, ap (λ s. length s.items) c.self.view_is, ap (λ s. s.room) c.self.view_is) in
    (sym c.self.invariant.0, omega (arith, more, length-laid c.self.inside.cells.slots c.self.inside.len c.self.inside.room c.self.invariant.4), laid_past c.self.inside.cells.slots c.self.inside.len c.self.inside.room c.self.invariant.4 c.self.inside.len (omega arith))

pub invariant_of-self : goal.invariant_of-self
invariant_of-self g c =
    let more : c.self.inside.len < c.self.inside.room = omega (arith, c.requires, c.self.invariant.4.len_is, ap (λ s. length s.items) c.self.view_is, ap (λ s. s.room) c.self.view_is) in
    let P : List _ → Type 0 = λ l. AreLaid l (c.self.inside.len + 1) c.self.inside.room in
    (c.write.ensures.0 ∙ c.self.invariant.0, c.self.invariant.1, c.self.invariant.2, c.self.invariant.3, subst P (sym c.write.ensures.1) (laid-push c.self.inside.cells.slots c.self.inside.len c.self.inside.room c.self.invariant.4 c.args.item more).0)

pub returns-clause-items : goal.returns-clause-items
returns-clause-items g c =
    let more : c.self.inside.len < c.self.inside.room = omega (arith, c.requires, c.self.invariant.4.len_is, ap (λ s. length s.items) c.self.view_is, ap (λ s. s.room) c.self.view_is) in
    ap somes c.write.ensures.1 ∙ (laid-push c.self.inside.cells.slots c.self.inside.len c.self.inside.room c.self.invariant.4 c.args.item more).1 ∙ ap (λ s. s.items ++ c.args.item ∷ []) c.self.view_is
