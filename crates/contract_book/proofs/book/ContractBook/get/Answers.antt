use Rattle.std.proofs.Common.{◌≡◌, ◌∙◌, ap, sym}
use Rattle.contract_book.specs.Inside.{number_of}
use Rattle.contract_book.proofs.Told.{told-none, told-order}
use Rattle.contract_book.proofs.book.ContractBook.get.Goals as goal

pub returns-in_err-place : goal.returns-in_err-place
returns-in_err-place c = c.from_residual.ensures ∙ sym (told-none c.self.inside.orders c.self.inside.lines c.self.invariant c.args.self.now c.self.view_is c.args.number c.in_err-place.ensures)

pub returns : goal.returns
returns c =
    let found = c.in_ok-place.ensures in
    let number : number_of c.get.result.now ≡ c.args.number = (let a = c.get.ensures in let b = found.1 in let same : c.get.result.now ≡ found.0 = cc in ap number_of same ∙ found.2) in
    sym (told-order c.self.inside.orders c.self.inside.lines c.self.invariant c.args.self.now c.self.view_is c.in_ok-place.place c.args.number c.get.result.now c.get.ensures number)
