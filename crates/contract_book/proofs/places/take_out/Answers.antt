use Rattle.std.proofs.Common.{◌+◌, ◌∙◌, ap, subst, sym}
use Rattle.record_pool.specs.Keyed.{AreKeyed, IsAbsent, held_count}
use Rattle.record_pool.proofs.Counts.{held_count-take}
use Rattle.contract_book.specs.Inside.{IsInside, book_in, number_of}
use Rattle.contract_book.proofs.BookCalls.{take_out-absent, take_out-book, take_out-inside, take_out-many}
use Rattle.contract_book.proofs.places.take_out.Goals as goal

pub returns-clause-less : goal.returns-clause-less
returns-clause-less c =
    ap (λ l. held_count l + 1) c.take.ensures.taken ∙ held_count-take c.args.orders.now c.args.place c.take.result c.take.ensures.item

pub returns-clause-many : goal.returns-clause-many
returns-clause-many c =
    take_out-many c.args.orders.now c.args.lines.now c.requires.inside c.args.place c.take.result c.take.ensures.item c.remove.new.self c.remove.ensures.removed

pub returns-clause-absent : goal.returns-clause-absent
returns-clause-absent c =
    subst (λ l. IsAbsent number_of l c.take.result.order.number) (sym c.take.ensures.taken)
    (take_out-absent c.args.orders.now c.args.lines.now c.requires.inside c.args.place c.take.result c.take.ensures.item)

pub returns-clause-book : goal.returns-clause-book
returns-clause-book c =
    ap (λ l. book_in l c.remove.new.self) c.take.ensures.taken
    ∙ take_out-book c.args.orders.now c.args.lines.now c.requires.inside c.args.place c.take.result c.take.ensures.item c.remove.new.self c.remove.ensures.removed

pub returns-clause-inside : goal.returns-clause-inside
returns-clause-inside c =
    subst (λ l. IsInside l c.remove.new.self) (sym c.take.ensures.taken)
    (take_out-inside c.args.orders.now c.args.lines.now c.requires.inside c.args.place c.take.result c.take.ensures.item c.remove.new.self c.remove.ensures.removed c.remove.ensures.sound
    (subst (AreKeyed number_of) c.take.ensures.taken c.take.ensures.keyed))
