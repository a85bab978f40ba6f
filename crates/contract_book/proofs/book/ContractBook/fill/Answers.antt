use Rattle.std.proofs.Common.{◌≡◌, ◌∙◌, ap, refl, sym, arith}
use Rattle.contract_book.specs.Book.{changed, without}
use Rattle.contract_book.specs.Inside.{number_of}
use Rattle.contract_book.proofs.Told.{filled-emptied, filled-rest, shown-most, told-none, told-order, told-sound}
use Rattle.contract_book.proofs.book.ContractBook.fill.Goals as goal

pub unreachable-requires : goal.unreachable-requires
unreachable-requires c =
    let none = told-none c.self.inside.orders c.self.inside.lines c.self.invariant c.args.self.now c.self.view_is c.args.number c.in_default.ensures in
    rw none at c.requires

pub after-after-requires-clause-shown : goal.after-after-requires-clause-shown
after-after-requires-clause-shown c =
    let held = c.in-Some.ensures in
    let same : number_of c.get.result.now ≡ c.args.number = (let a = c.get.ensures in let b = held.1 in let e : c.get.result.now ≡ held.0 = cc in ap number_of e ∙ held.2) in
    let found = told-order c.self.inside.orders c.self.inside.lines c.self.invariant c.args.self.now c.self.view_is c.in-Some.place c.args.number c.get.result.now c.get.ensures same in
    (rw found at c.requires).1

pub after-after-requires-clause-rest : goal.after-after-requires-clause-rest
after-after-requires-clause-rest c =
    let held = c.in-Some.ensures in
    let same : number_of c.get.result.now ≡ c.args.number = (let a = c.get.ensures in let b = held.1 in let e : c.get.result.now ≡ held.0 = cc in ap number_of e ∙ held.2) in
    let found = told-order c.self.inside.orders c.self.inside.lines c.self.invariant c.args.self.now c.self.view_is c.in-Some.place c.args.number c.get.result.now c.get.ensures same in
    let most = shown-most c.get.result.now.order (c.self.invariant.sound c.in-Some.place c.get.result.now c.get.ensures) in
    let asked = rw found at c.requires in
    omega (arith, most, asked.1, c.if-order-lots.false)

pub returns-then-order-lots-clause-filled : goal.returns-then-order-lots-clause-filled
returns-then-order-lots-clause-filled c =
    let held = c.in-Some.ensures in
    let same : number_of c.get.result.now ≡ c.args.number = (let a = c.get.ensures in let b = held.1 in let e : c.get.result.now ≡ held.0 = cc in ap number_of e ∙ held.2) in
    let found = told-order c.self.inside.orders c.self.inside.lines c.self.invariant c.args.self.now c.self.view_is c.in-Some.place c.args.number c.get.result.now c.get.ensures same in
    let taken : number_of c.take_out.result ≡ c.args.number = (let a = c.take_out.ensures.held in let b = held.1 in let e : c.take_out.result ≡ held.0 = cc in ap number_of e ∙ held.2) in
    c.take_out.ensures.book ∙ ap (λ b. without b (number_of c.take_out.result)) c.self.view_is ∙ ap (without c.args.self.now) taken
    ∙ sym (filled-emptied c.args.self.now c.args.number c.get.result.now.order found c.args.lots c.args.moment c.if-order-lots.true)

pub returns-then-order-lots-clause-sound : goal.returns-then-order-lots-clause-sound
returns-then-order-lots-clause-sound c = told-sound c.take_out.new.orders c.take_out.new.lines c.take_out.ensures.inside _ refl

pub returns-else-order-lots-clause-filled : goal.returns-else-order-lots-clause-filled
returns-else-order-lots-clause-filled c =
    let held = c.in-Some.ensures in
    let same : number_of c.get.result.now ≡ c.args.number = (let a = c.get.ensures in let b = held.1 in let e : c.get.result.now ≡ held.0 = cc in ap number_of e ∙ held.2) in
    let found = told-order c.self.inside.orders c.self.inside.lines c.self.invariant c.args.self.now c.self.view_is c.in-Some.place c.args.number c.get.result.now c.get.ensures same in
    c.replace.ensures.book ∙ ap (λ b. changed b c.after-after.result) c.self.view_is ∙ ap (changed c.args.self.now) c.after-after.ensures.after
    ∙ sym (filled-rest c.args.self.now c.args.number c.get.result.now.order found c.args.lots c.args.moment c.if-order-lots.false)

pub returns-else-order-lots-clause-sound : goal.returns-else-order-lots-clause-sound
returns-else-order-lots-clause-sound c = told-sound c.replace.new.orders c.replace.new.lines c.replace.ensures.inside _ refl
