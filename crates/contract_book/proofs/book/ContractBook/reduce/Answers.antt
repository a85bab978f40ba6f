use Rattle.std.proofs.Common.{◌≡◌, ◌∙◌, ap, refl, subst, sym}
use Rattle.contract_book.specs.Book.{changed}
use Rattle.contract_book.specs.Inside.{number_of}
use Rattle.contract_book.specs.Resting.{IsSound}
use Rattle.contract_book.proofs.Told.{less-sound, reduced-is, told-none, told-order, told-sound}
use Rattle.contract_book.proofs.book.ContractBook.reduce.Goals as goal

pub unreachable-requires : goal.unreachable-requires
unreachable-requires c =
    let none = told-none c.self.inside.orders c.self.inside.lines c.self.invariant c.args.self.now c.self.view_is c.args.number c.in_default.ensures in
    rw none at c.requires

pub less-less-requires : goal.less-less-requires
less-less-requires c =
    let held = c.in-Some.ensures in
    let same : number_of c.get.result.now ≡ c.args.number = (let a = c.get.ensures in let b = held.1 in let e : c.get.result.now ≡ held.0 = cc in ap number_of e ∙ held.2) in
    let found = told-order c.self.inside.orders c.self.inside.lines c.self.invariant c.args.self.now c.self.view_is c.in-Some.place c.args.number c.get.result.now c.get.ensures same in
    (rw found at c.requires).2

pub replace-requires-clause-sound : goal.replace-requires-clause-sound
replace-requires-clause-sound c =
    let held = c.in-Some.ensures in
    let same : number_of c.get.result.now ≡ c.args.number = (let a = c.get.ensures in let b = held.1 in let e : c.get.result.now ≡ held.0 = cc in ap number_of e ∙ held.2) in
    let found = told-order c.self.inside.orders c.self.inside.lines c.self.invariant c.args.self.now c.self.view_is c.in-Some.place c.args.number c.get.result.now c.get.ensures same in
    let asked = rw found at c.requires in
    subst IsSound (sym c.less-less.ensures) (less-sound c.get.result.now.order c.args.by asked.0 asked.2)

pub returns-clause-reduced : goal.returns-clause-reduced
returns-clause-reduced c =
    let held = c.in-Some.ensures in
    let same : number_of c.get.result.now ≡ c.args.number = (let a = c.get.ensures in let b = held.1 in let e : c.get.result.now ≡ held.0 = cc in ap number_of e ∙ held.2) in
    let found = told-order c.self.inside.orders c.self.inside.lines c.self.invariant c.args.self.now c.self.view_is c.in-Some.place c.args.number c.get.result.now c.get.ensures same in
    c.replace.ensures.book ∙ ap (λ b. changed b c.less-less.result) c.self.view_is ∙ ap (changed c.args.self.now) c.less-less.ensures
    ∙ sym (reduced-is c.args.self.now c.args.number c.get.result.now.order found c.args.by)

pub returns-clause-sound : goal.returns-clause-sound
returns-clause-sound c = told-sound c.replace.new.orders c.replace.new.lines c.replace.ensures.inside _ refl
