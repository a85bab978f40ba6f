use Rattle.std.proofs.Common.{◌∙◌, IsSome, ap, refl, subst, sym}
use Rattle.record_pool.specs.Keyed.{AreKeyed}
use Rattle.record_pool.proofs.LineLemmas.{free-absent, spot-stands}
use Rattle.contract_book.specs.Inside.{BelongsTo, IsInside, book_in, held_cmp, number_of, side_of}
use Rattle.contract_book.proofs.BookCalls.{put_in-book, put_in-inside}
use Rattle.contract_book.proofs.places.put_in.Goals as goal

pub spot-before-requires-clause-held : goal.spot-before-requires-clause-held
spot-before-requires-clause-held c = λ place stands.
    let there = c.requires.inside.are.live c.args.held.line place stands in subst IsSome (sym there.1) refl

pub insert-requires-clause-before : goal.insert-requires-clause-before
insert-requires-clause-before c =
    spot-stands (held_cmp c.args.held.order.side) c.args.orders.now c.args.lines.now c.args.held.line c.args.held c.spot-before.result c.requires.line c.spot-before.ensures

pub insert-requires-clause-absent : goal.insert-requires-clause-absent
insert-requires-clause-absent c = λ line stands.
    free-absent held_cmp side_of BelongsTo c.args.orders.now c.args.lines.now c.requires.inside.are c.in-Ok.place c.in-Ok.ensures.was_free line stands

pub returns-clause-book : goal.returns-clause-book
returns-clause-book c =
    ap (λ l. book_in l c.insert.new.self) c.in-Ok.ensures.put
    ∙ put_in-book c.args.orders.now c.args.lines.now c.requires.inside c.args.held c.in-Ok.place c.spot-before.result c.requires.line c.requires.belongs c.requires.absent
    c.in-Ok.ensures.was_free c.in-Ok.ensures.within c.spot-before.ensures c.insert.new.self c.insert.ensures.inserted

pub returns-clause-inside : goal.returns-clause-inside
returns-clause-inside c =
    let keyed = subst (AreKeyed number_of) c.in-Ok.ensures.put c.in-Ok.ensures.keyed in
    subst (λ l. IsInside l c.insert.new.self) (sym c.in-Ok.ensures.put)
    (put_in-inside c.args.orders.now c.args.lines.now c.requires.inside c.args.held c.in-Ok.place c.spot-before.result c.requires.line c.requires.belongs c.requires.absent
    c.in-Ok.ensures.was_free c.in-Ok.ensures.within c.spot-before.ensures c.insert.new.self c.insert.ensures.inserted c.insert.ensures.sound keyed c.requires.sound)
