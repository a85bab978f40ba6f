use Rattle.std.proofs.Common.{◌≡◌, ℕ, List, ◌∷◌, ◌++◌, Contains, Some, sym, ◌∙◌, subst}
use Rattle.std.proofs.lemmas.List.Elements.{Contains-append_right}
use Rattle.order_pool.specs.Lines.{line_at, first_in}
use Rattle.order_pool.proofs.MoveLemmas.{between_in}
use Rattle.order_pool.proofs.OnceLemmas.{contains_cons}
use Rattle.order_pool.proofs.PoolLemmas.{first_in_some}
use Rattle.tests_of_stores.proofs.pool_tests.nth_place.Goals as goal

pub next-requires : goal.next-requires
next-requires g c = c.requires.sound.live c.args.line c.loop-passed.place c.loop-passed.invariant

pub loop-passed-preserved : goal.loop-passed-preserved
loop-passed-preserved g c =
    let place = c.expect-place-in-loop-passed.result in
    let cut = between_in c.args.pool.now.lines c.args.line c.loop-passed.place c.loop-passed.invariant in
    let next : first_in cut.1 ≡ Some place = sym (c.next.ensures c.args.line cut.0 cut.1 cut.2) ∙ c.expect-place-in-loop-passed.ensures in
    let P : List ℕ → Type 0 = λ l. Contains l place in
    (c.requires.line, subst P (sym cut.2.1) (Contains-append_right cut.0 (c.loop-passed.place ∷ cut.1) place (contains_cons c.loop-passed.place place cut.1 (first_in_some cut.1 place next))))

pub returns-clause-live : goal.returns-clause-live
returns-clause-live g c = c.requires.sound.live c.args.line c.loop-passed.place c.loop-passed.invariant
