use Rattle.std.proofs.Common.{◌≡◌, ◌∙◌, Some, None, ap, sym}
use Rattle.order_pool.specs.Lines.{first_in, line_at}
use Rattle.contract_book.specs.Book.{line_number}
use Rattle.contract_book.proofs.Told.{told-first-live, told-first-none, told-first-some}
use Rattle.contract_book.proofs.book.ContractBook.first.Goals as goal

pub get-requires : goal.get-requires
get-requires c =
    let some : first_in (line_at c.self.inside.lines (line_number c.args.part c.args.side)) ≡ Some c.in_ok-place.place = ap (λ k. first_in (line_at c.self.inside.lines k)) (sym c.line_number.ensures) ∙ sym c.in_ok-place.ensures in
    told-first-live c.self.inside.orders c.self.inside.lines c.self.invariant c.args.self.now c.self.view_is c.args.part c.args.side c.in_ok-place.place c.requires some

pub returns-in_err-place : goal.returns-in_err-place
returns-in_err-place c =
    let none : first_in (line_at c.self.inside.lines (line_number c.args.part c.args.side)) ≡ None = ap (λ k. first_in (line_at c.self.inside.lines k)) (sym c.line_number.ensures) ∙ sym c.in_err-place.ensures in
    c.from_residual.ensures ∙ sym (told-first-none c.self.inside.orders c.self.inside.lines c.self.invariant c.args.self.now c.self.view_is c.args.part c.args.side none)

pub returns : goal.returns
returns c =
    let some : first_in (line_at c.self.inside.lines (line_number c.args.part c.args.side)) ≡ Some c.in_ok-place.place = ap (λ k. first_in (line_at c.self.inside.lines k)) (sym c.line_number.ensures) ∙ sym c.in_ok-place.ensures in
    sym (told-first-some c.self.inside.orders c.self.inside.lines c.self.invariant c.args.self.now c.self.view_is c.args.part c.args.side c.in_ok-place.place c.get.result.now some c.get.ensures)
