use Rattle.block_book.proofs.Told.{told-none, told-after_any}
use Rattle.block_book.proofs.book.BlockBook.after_any.Goals as goal

pub unreachable-requires : goal.unreachable-requires
unreachable-requires c =
    let none = told-none c.self.inside.blocks c.self.invariant.keyed c.args.self.now c.self.view_is c.args.number c.in_default.ensures in
    let asked = rw none at c.requires in absurd (cc)

pub returns : goal.returns
returns c =
    told-after_any c.self.inside.blocks c.self.invariant.keyed c.args.self.now c.self.view_is c.in-Some.place c.args.number c.in-Some.ensures c.self.inside.by_period.grain c.after.result c.after.ensures c.self.invariant.of_period
