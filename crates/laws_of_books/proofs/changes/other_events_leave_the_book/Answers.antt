use Rattle.laws_of_books.proofs.Elsewhere.{book-elsewhere}
use Rattle.laws_of_books.proofs.changes.other_events_leave_the_book.Goals as goal

pub returns : goal.returns
returns c = λ setup events event hour fit fits elsewhere. book-elsewhere setup events fit hour event fits elsewhere
