use Rattle.std.proofs.Common.{◌∙◌, sym}
use Rattle.contract_book.proofs.Told.{told-count, told-sound}
use Rattle.contract_book.proofs.book.ContractBook.len.Goals as goal

pub returns-clause-count : goal.returns-clause-count
returns-clause-count c = c.len.ensures.count ∙ sym (told-count c.self.inside.orders c.self.inside.lines c.self.invariant c.args.self.now c.self.view_is)

pub returns-clause-sound : goal.returns-clause-sound
returns-clause-sound c = told-sound c.self.inside.orders c.self.inside.lines c.self.invariant c.args.self.now c.self.view_is
