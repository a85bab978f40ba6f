use Rattle.std.proofs.Common.{◌∙◌, None, ap, refl, replicate, subst, sym}
use Rattle.block_book.specs.Inside.{IsLadder, book_in}
use Rattle.block_book.proofs.Held.{none-book, none-held}
use Rattle.block_book.proofs.Told.{told-book}
use Rattle.block_book.proofs.book.BlockBook.new.Goals as goal

pub invariant_of-result : goal.invariant_of-result
invariant_of-result c = record {
  keyed = c.in_ok-new.ensures.keyed;
  of_period = c.in_ok-new-2.ensures.grain;
  of_quantity = c.in_ok-new-3.ensures.grain;
  periods = subst (λ l. IsLadder l c.in_ok-new-2.field-0) (sym c.in_ok-new.ensures.empty) c.in_ok-new-2.ensures.sound;
  quantities = subst (λ l. IsLadder l c.in_ok-new-3.field-0) (sym c.in_ok-new.ensures.empty) c.in_ok-new-3.ensures.sound;
}

pub returns-clause-empty : goal.returns-clause-empty
returns-clause-empty c = ap book_in c.in_ok-new.ensures.empty ∙ none-book (replicate 4096 None) none-held

pub returns-clause-sound : goal.returns-clause-sound
returns-clause-sound c = told-book c.in_ok-new.field-0 c.in_ok-new.ensures.keyed (book_in c.in_ok-new.field-0) refl
