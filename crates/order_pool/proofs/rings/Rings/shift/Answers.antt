use Rattle.std.proofs.Common.{◌≡◌, ℕ, ◌++◌, List, length, set, sum_by, sym, ap, subst, arith, length-set}
use Rattle.order_pool.specs.Lines.{StandsIn}
use Rattle.order_pool.proofs.OnceLemmas.{removed_absent, removed_total}
use Rattle.order_pool.proofs.MoveLemmas.{between_in, still_before}
use Rattle.order_pool.proofs.rings.Rings.shift.Goals as goal

pub insert-requires-clause-within : goal.insert-requires-clause-within
insert-requires-clause-within c =
    let cut = between_in c.args.self.now c.requires.stands.0 c.args.place c.requires.stands.1 in
    let out : c.remove.new.self ≡ set c.args.self.now c.requires.stands.0 (cut.0 ++ cut.1) = c.remove.ensures.removed c.requires.stands.0 cut.0 cut.1 cut.2 in
    omega (arith, c.requires.within, ap length out, length-set c.args.self.now c.requires.stands.0 (cut.0 ++ cut.1))

pub insert-requires-clause-before : goal.insert-requires-clause-before
insert-requires-clause-before c =
    λ after is.
    let cut = between_in c.args.self.now c.requires.stands.0 c.args.place c.requires.stands.1 in
    let out : c.remove.new.self ≡ set c.args.self.now c.requires.stands.0 (cut.0 ++ cut.1) = c.remove.ensures.removed c.requires.stands.0 cut.0 cut.1 cut.2 in
    let P : List (List ℕ) → Type 0 = λ l. StandsIn l c.args.ring after in
    subst P (sym out) (still_before c.args.self.now c.requires.sound.once c.requires.stands.0 c.args.place cut.0 cut.1 cut.2 c.args.ring c.args.before c.requires.before c.requires.apart after is)

pub insert-requires-clause-place : goal.insert-requires-clause-place
insert-requires-clause-place c = c.requires.sound.low c.requires.stands.0 c.args.place c.requires.stands.1

pub insert-requires-clause-absent : goal.insert-requires-clause-absent
insert-requires-clause-absent c =
    λ other has.
    let cut = between_in c.args.self.now c.requires.stands.0 c.args.place c.requires.stands.1 in
    let out : c.remove.new.self ≡ set c.args.self.now c.requires.stands.0 (cut.0 ++ cut.1) = c.remove.ensures.removed c.requires.stands.0 cut.0 cut.1 cut.2 in
    let P : List (List ℕ) → Type 0 = λ l. StandsIn l other c.args.place in
    removed_absent c.args.self.now c.requires.sound.once c.requires.stands.0 c.args.place cut.0 cut.1 cut.2 other (subst P out has)

pub insert-requires-clause-room : goal.insert-requires-clause-room
insert-requires-clause-room c =
    let cut = between_in c.args.self.now c.requires.stands.0 c.args.place c.requires.stands.1 in
    let out : c.remove.new.self ≡ set c.args.self.now c.requires.stands.0 (cut.0 ++ cut.1) = c.remove.ensures.removed c.requires.stands.0 cut.0 cut.1 cut.2 in
    omega (arith, c.requires.sound.few, ap (sum_by length) out, removed_total c.args.self.now c.requires.sound.once c.requires.stands.0 c.args.place cut.0 cut.1 cut.2)
