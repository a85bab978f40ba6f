use Rattle.std.proofs.Common.{◌∙◌, refl, sym}
use Rattle.contract_book.proofs.Told.{told-absent, told-count, told-part, told-sound}
use Rattle.contract_book.proofs.book.ContractBook.rest.Goals as goal

pub line_number-line-requires : goal.line_number-line-requires
line_number-line-requires c = told-part c.self.inside.orders c.self.inside.lines c.self.invariant c.args.self.now c.self.view_is c.args.part c.requires.part

pub put_in-requires-clause-absent : goal.put_in-requires-clause-absent
put_in-requires-clause-absent c = told-absent c.self.inside.orders c.self.inside.lines c.self.invariant c.args.self.now c.self.view_is c.args.order.number c.requires.absent

pub returns-clause-full : goal.returns-clause-full
returns-clause-full c =
    let count = told-count c.self.inside.orders c.self.inside.lines c.self.invariant c.args.self.now c.self.view_is in
    (λ err. count ∙ c.put_in.ensures.full.0 err, λ full. c.put_in.ensures.full.1 (sym count ∙ full))

pub returns-clause-sound : goal.returns-clause-sound
returns-clause-sound c = told-sound c.put_in.new.orders c.put_in.new.lines c.put_in.ensures.inside _ refl
