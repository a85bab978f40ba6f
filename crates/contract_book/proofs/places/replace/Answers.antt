use Rattle.std.proofs.Common.{◌≡◌, ◌∙◌, ap, refl, subst, sym, arith}
use Rattle.std.proofs.lemmas.Bool.Decides.{Decides-int_eq}
use Rattle.order_kinds.specs.declared.price.Price.{Price}
use Rattle.record_pool.specs.Keyed.{AreKeyed}
use Rattle.contract_book.specs.declared.held.Held.{Held}
use Rattle.contract_book.specs.Book.{without}
use Rattle.contract_book.specs.Inside.{IsInside, book_in, number_of}
use Rattle.contract_book.proofs.BookCalls.{set-book, set-inside}
use Rattle.contract_book.proofs.BookShapes.{changed-again}
use Rattle.contract_book.proofs.Insides.{is_alone, line_is, stands_in}
use Rattle.contract_book.proofs.places.replace.Goals as goal

pub returns-then-held-order-clause-book : goal.returns-then-held-order-clause-book
returns-then-held-order-clause-book c =
    let same = rw c.get.ensures at c.requires.same in
    let price : c.get.result.now.order.price ≡ c.args.order.price = ap (λ z. let p : Price = record { 0 = z } in p) ((Decides-int_eq c.get.result.now.order.price.0 c.args.order.price.0).0 (sym c.eq.ensures ∙ c.if-eq.true)) in
    ap (λ l. book_in l c.args.lines.now) c.set.ensures.set
    ∙ set-book c.args.orders.now c.args.lines.now c.requires.inside c.args.place c.get.result.now c.get.ensures c.args.order same.0 same.1 price c.if-held-order.true

pub returns-then-held-order-clause-inside : goal.returns-then-held-order-clause-inside
returns-then-held-order-clause-inside c =
    let same = rw c.get.ensures at c.requires.same in
    let price : c.get.result.now.order.price ≡ c.args.order.price = ap (λ z. let p : Price = record { 0 = z } in p) ((Decides-int_eq c.get.result.now.order.price.0 c.args.order.price.0).0 (sym c.eq.ensures ∙ c.if-eq.true)) in
    subst (λ l. IsInside l c.args.lines.now) (sym c.set.ensures.set)
    (set-inside c.args.orders.now c.args.lines.now c.requires.inside c.args.place c.get.result.now c.get.ensures c.args.order same.0 same.1 price c.if-held-order.true
    (subst (AreKeyed number_of) c.set.ensures.set c.set.ensures.keyed) c.requires.sound)

pub put_in-requires-clause-line : goal.put_in-requires-clause-line
put_in-requires-clause-line c =
    let within = (stands_in c.args.orders.now c.args.lines.now c.requires.inside c.args.place c.get.result.now c.get.ensures).0 in
    omega (arith, within, c.take_out.ensures.many)

pub put_in-requires-clause-belongs : goal.put_in-requires-clause-belongs
put_in-requires-clause-belongs c =
    let same = rw c.get.ensures at c.requires.same in
    let stands = stands_in c.args.orders.now c.args.lines.now c.requires.inside c.args.place c.get.result.now c.get.ensures in
    (refl, sym same.1 ∙ (line_is c.args.orders.now c.args.lines.now c.requires.inside c.get.result.now.line c.args.place c.get.result.now stands c.get.ensures).1)

pub returns-clause-book : goal.returns-clause-book
returns-clause-book c =
    let same = rw c.get.ensures at c.requires.same in
    let out : c.get.result.now ≡ c.take_out.result = (let a = c.get.ensures in let b = c.take_out.ensures.held in cc) in
    let number : c.take_out.result.order.number ≡ c.get.result.now.order.number = ap (λ (h : Held). h.order.number) (sym out) in
    c.in-Ok.ensures.book
    ∙ changed-again (book_in c.args.orders.now c.args.lines.now) c.get.result.now.order.number c.get.result.now.line
    (is_alone c.args.orders.now c.args.lines.now c.requires.inside c.args.place c.get.result.now c.get.ensures) c.args.order (sym same.0) (book_in c.take_out.new.orders c.take_out.new.lines)
    (c.take_out.ensures.book ∙ ap (without (book_in c.args.orders.now c.args.lines.now)) number)
