use Rattle.std.proofs.Common.{◌≡◌, ◌∙◌, ap, refl, subst, sym}
use Rattle.record_pool.specs.Keyed.{AreKeyed}
use Rattle.block_book.specs.Blocks.{number_of}
use Rattle.block_book.specs.Inside.{book_in}
use Rattle.block_book.proofs.Told.{told-block, told-book, told-kept, told-none, told-taken}
use Rattle.block_book.proofs.book.BlockBook.withdraw.Goals as goal

pub returns-in_err-place-clause-block : goal.returns-in_err-place-clause-block
returns-in_err-place-clause-block c = c.from_residual.ensures ∙ sym (told-none c.self.inside.blocks c.self.invariant.keyed c.args.self.now c.self.view_is c.args.number c.in_err-place.ensures)

pub returns-in_err-place-clause-without : goal.returns-in_err-place-clause-without
returns-in_err-place-clause-without c = told-kept c.self.inside.blocks c.self.invariant.keyed c.args.self.now c.self.view_is c.args.number c.in_err-place.ensures

pub returns-clause-block : goal.returns-clause-block
returns-clause-block c =
    let found = c.in_ok-place.ensures in
    let number : number_of c.take.result ≡ c.args.number = (let a = c.take.ensures.item in let b = found.1 in let same : c.take.result ≡ found.0 = cc in ap number_of same ∙ found.2) in
    sym (told-block c.self.inside.blocks c.self.invariant.keyed c.args.self.now c.self.view_is c.in_ok-place.place c.args.number c.take.result c.take.ensures.item number)

pub returns-clause-without : goal.returns-clause-without
returns-clause-without c =
    let found = c.in_ok-place.ensures in
    let number : number_of c.take.result ≡ c.args.number = (let a = c.take.ensures.item in let b = found.1 in let same : c.take.result ≡ found.0 = cc in ap number_of same ∙ found.2) in
    ap book_in c.take.ensures.taken
    ∙ told-taken c.self.inside.blocks c.self.invariant.keyed c.args.self.now c.self.view_is c.in_ok-place.place c.args.number c.take.result c.take.ensures.item number (subst (AreKeyed number_of) c.take.ensures.taken c.take.ensures.keyed)

pub returns-in_err-place-clause-sound : goal.returns-in_err-place-clause-sound
returns-in_err-place-clause-sound c = told-book c.self.inside.blocks c.self.invariant.keyed c.args.self.now c.self.view_is

pub returns-clause-sound : goal.returns-clause-sound
returns-clause-sound c = told-book c.take.new.self c.take.ensures.keyed (book_in c.take.new.self) refl
