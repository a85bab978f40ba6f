use Rattle.std.proofs.Common.{◌*◌, refl}
use Rattle.contract_book.proofs.Told.{none-book, none-inside, told-sound}
use Rattle.contract_book.proofs.book.ContractBook.new.Goals as goal

pub invariant_of-result : goal.invariant_of-result
invariant_of-result c = none-inside c.in-Ok.orders c.in-Ok-new.lines c.args.parts c.in-Ok.ensures.empty c.in-Ok.ensures.keyed c.in-Ok-new.ensures.empty c.in-Ok-new.ensures.sound

pub returns-clause-empty : goal.returns-clause-empty
returns-clause-empty c = none-book c.in-Ok.orders c.in-Ok-new.lines (2 * c.args.parts) c.in-Ok-new.ensures.empty

pub returns-clause-sound : goal.returns-clause-sound
returns-clause-sound c =
    told-sound c.in-Ok.orders c.in-Ok-new.lines (none-inside c.in-Ok.orders c.in-Ok-new.lines c.args.parts c.in-Ok.ensures.empty c.in-Ok.ensures.keyed c.in-Ok-new.ensures.empty c.in-Ok-new.ensures.sound) _ refl
