use Rattle.std.proofs.Common.{◌≡◌, ℕ, inl, inr, get_or, None, sym, ◌∙◌, arith}
use Rattle.std.proofs.lemmas.Bool.{cases_lt}
use Rattle.order_pool.proofs.FilledLemmas.{length-laid, laid_filled, laid_past, all_empty}
use Rattle.order_pool.proofs.region.Region.drop.Goals as goal

pub read-requires : goal.read-requires
read-requires g c =
    let loop = c.loop-index.invariant in
    let held = laid_filled c.self.inside.cells.slots c.self.inside.len c.self.inside.room c.self.invariant.4 c.loop-index.index c.loop-index-test.true in
    (sym c.self.invariant.0 ∙ sym loop.at, (held.0, loop.left c.loop-index.index (omega arith) ∙ held.1))

pub deallocate-requires : goal.deallocate-requires
deallocate-requires g c =
    let loop = c.loop-index.invariant in
    let none : (k : ℕ) → get_or c.loop-index.cells.slots k None ≡ None =
    λ k. elim (cases_lt k c.loop-index.index) [
      | inl low ↦ loop.taken k low
      | inr high ↦ loop.left k high ∙ laid_past c.self.inside.cells.slots c.self.inside.len c.self.inside.room c.self.invariant.4 k (omega (arith, high, c.loop-index-test.false))
    ] in
    (loop.at ∙ c.self.invariant.0, all_empty c.loop-index.cells.slots c.self.inside.room (loop.long ∙ length-laid c.self.inside.cells.slots c.self.inside.len c.self.inside.room c.self.invariant.4) none, c.self.invariant.1, c.self.invariant.2, c.self.invariant.3)
