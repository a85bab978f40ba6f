use Rattle.std.proofs.Common.{◌∙◌, sym}
use Rattle.contract_book.proofs.Told.{told-after-live, told-after-none, told-after-some, told-none}
use Rattle.contract_book.proofs.book.ContractBook.after.Goals as goal

pub unreachable-requires : goal.unreachable-requires
unreachable-requires c =
    let none = told-none c.self.inside.orders c.self.inside.lines c.self.invariant c.args.self.now c.self.view_is c.args.number c.in_default.ensures in
    let asked = rw none at c.requires in absurd (cc)

pub returns-in_err-next : goal.returns-in_err-next
returns-in_err-next c = λ part side any.
    let held = c.in-Some.ensures in
    c.from_residual.ensures ∙ sym (told-after-none c.self.inside.orders c.self.inside.lines c.self.invariant c.args.self.now c.self.view_is c.in-Some.place c.args.number held.0 held.1 held.2 c.next.result c.next.ensures c.in_err-next.was part side any)

pub get-requires : goal.get-requires
get-requires c =
    let held = c.in-Some.ensures in
    told-after-live c.self.inside.orders c.self.inside.lines c.self.invariant c.args.self.now c.self.view_is c.in-Some.place c.args.number held.0 held.1 held.2 c.next.result c.next.ensures c.in_ok-next.next c.in_ok-next.was

pub returns : goal.returns
returns c = λ part side any.
    let held = c.in-Some.ensures in
    sym (told-after-some c.self.inside.orders c.self.inside.lines c.self.invariant c.args.self.now c.self.view_is c.in-Some.place c.args.number held.0 held.1 held.2 c.next.result c.next.ensures
    c.in_ok-next.next c.get.result.now c.in_ok-next.was c.get.ensures part side any)
