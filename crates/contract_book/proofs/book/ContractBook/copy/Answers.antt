use Rattle.std.proofs.Common.{refl, subst, sym}
use Rattle.contract_book.specs.Inside.{IsInside}
use Rattle.contract_book.proofs.Told.{told-sound}
use Rattle.contract_book.proofs.book.ContractBook.copy.Goals as goal

pub returns-clause-sound : goal.returns-clause-sound
returns-clause-sound c =
    let one : IsInside c.in-Ok.orders c.self.inside.lines = subst (λ l. IsInside l c.self.inside.lines) (sym c.in-Ok.ensures.same) c.self.invariant in
    let both : IsInside c.in-Ok.orders c.in-Ok-copy.lines = subst (IsInside c.in-Ok.orders) (sym c.in-Ok-copy.ensures) one in
    told-sound c.in-Ok.orders c.in-Ok-copy.lines both _ refl
