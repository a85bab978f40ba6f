use Rattle.std.proofs.Common.{◌≡◌, ◌∙◌, ap, refl, sym}
use Rattle.contract_book.specs.Book.{without}
use Rattle.contract_book.specs.Inside.{number_of}
use Rattle.contract_book.proofs.Told.{told-kept, told-none, told-order, told-sound}
use Rattle.contract_book.proofs.book.ContractBook.withdraw.Goals as goal

pub returns-in_err-place-clause-order : goal.returns-in_err-place-clause-order
returns-in_err-place-clause-order c = c.from_residual.ensures ∙ sym (told-none c.self.inside.orders c.self.inside.lines c.self.invariant c.args.self.now c.self.view_is c.args.number c.in_err-place.ensures)

pub returns-in_err-place-clause-without : goal.returns-in_err-place-clause-without
returns-in_err-place-clause-without c = told-kept c.self.inside.orders c.self.inside.lines c.self.invariant c.args.self.now c.self.view_is c.args.number c.in_err-place.ensures

pub returns-in_err-place-clause-sound : goal.returns-in_err-place-clause-sound
returns-in_err-place-clause-sound c = told-sound c.self.inside.orders c.self.inside.lines c.self.invariant c.args.self.now c.self.view_is

pub returns-clause-order : goal.returns-clause-order
returns-clause-order c =
    let found = c.in_ok-place.ensures in
    let number : number_of c.take_out.result ≡ c.args.number = (let a = c.take_out.ensures.held in let b = found.1 in let same : c.take_out.result ≡ found.0 = cc in ap number_of same ∙ found.2) in
    sym (told-order c.self.inside.orders c.self.inside.lines c.self.invariant c.args.self.now c.self.view_is c.in_ok-place.place c.args.number c.take_out.result c.take_out.ensures.held number)

pub returns-clause-without : goal.returns-clause-without
returns-clause-without c =
    let found = c.in_ok-place.ensures in
    let number : number_of c.take_out.result ≡ c.args.number = (let a = c.take_out.ensures.held in let b = found.1 in let same : c.take_out.result ≡ found.0 = cc in ap number_of same ∙ found.2) in
    c.take_out.ensures.book ∙ ap (λ b. without b (number_of c.take_out.result)) c.self.view_is ∙ ap (without c.args.self.now) number

pub returns-clause-sound : goal.returns-clause-sound
returns-clause-sound c = told-sound c.take_out.new.orders c.take_out.new.lines c.take_out.ensures.inside _ refl
