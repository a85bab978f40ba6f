use Rattle.std.proofs.Common.{◌∙◌, ap, refl, subst, sym}
use Rattle.record_pool.specs.Keyed.{AreKeyed}
use Rattle.block_book.specs.Blocks.{number_of}
use Rattle.block_book.specs.Inside.{IsLadder, book_in}
use Rattle.block_book.proofs.Told.{told-absent, told-count, told-book, told-less, told-put}
use Rattle.block_book.proofs.book.BlockBook.rest.Goals as goal

pub put-requires : goal.put-requires
put-requires c = told-absent c.self.inside.blocks c.self.invariant.keyed c.args.self.now c.self.view_is c.args.block.number c.requires

pub returns-in_default-clause-full : goal.returns-in_default-clause-full
returns-in_default-clause-full c =
    let count = told-count c.self.inside.blocks c.self.invariant.keyed c.args.self.now c.self.view_is in
    (λ err. count ∙ c.in_default.ensures.full.0 err, λ full. c.in_default.ensures.full.1 (sym count ∙ full))

pub join-requires-clause-sound : goal.join-requires-clause-sound
join-requires-clause-sound c =
    subst (λ l. IsLadder l c.self.inside.by_period) (sym (told-less c.self.inside.blocks c.in-Ok.place c.args.block c.in-Ok.ensures.was_free _ c.in-Ok.ensures.put)) c.self.invariant.periods

pub join-requires-2-clause-sound : goal.join-requires-2-clause-sound
join-requires-2-clause-sound c =
    subst (λ l. IsLadder l c.self.inside.by_quantity) (sym (told-less c.self.inside.blocks c.in-Ok.place c.args.block c.in-Ok.ensures.was_free _ c.in-Ok.ensures.put)) c.self.invariant.quantities

pub returns-clause-full : goal.returns-clause-full
returns-clause-full c =
    let count = told-count c.self.inside.blocks c.self.invariant.keyed c.args.self.now c.self.view_is in
    (λ err. count ∙ c.in-Ok.ensures.full.0 err, λ full. c.in-Ok.ensures.full.1 (sym count ∙ full))

pub returns-clause-rests : goal.returns-clause-rests
returns-clause-rests c =
    ap book_in c.in-Ok.ensures.put
    ∙ told-put c.self.inside.blocks c.self.invariant.keyed c.args.self.now c.self.view_is c.args.block c.in-Ok.place c.in-Ok.ensures.was_free c.in-Ok.ensures.within c.requires
    (subst (AreKeyed number_of) c.in-Ok.ensures.put c.in-Ok.ensures.keyed)

pub returns-in_default-clause-sound : goal.returns-in_default-clause-sound
returns-in_default-clause-sound c = told-book c.put.new.self c.in_default.ensures.keyed (book_in c.put.new.self) refl

pub returns-clause-sound : goal.returns-clause-sound
returns-clause-sound c = told-book c.put.new.self c.in-Ok.ensures.keyed (book_in c.put.new.self) refl
