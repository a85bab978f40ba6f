use Rattle.std.proofs.Common.{◌≡◌, ◌∙◌, ◌++◌, List, [], ap, map, sym}
use Rattle.std.proofs.lemmas.List.{append-nil}
use Rattle.journal_front.specs.Fronts.{DeskSeatState}
use Rattle.desk_locks.specs.Places.{place_of_seat}
use Rattle.desk_locks.proofs.Rows.{first-seat, no_item, row-of-seats}
use Rattle.desk_locks.proofs.row.DeskRow.new.Goals as goal

pub new-requires : goal.new-requires
new-requires c =
    let done : List DeskSeatState = c.loop-seat.yielded in
    let at = first-seat c.requires.0 c.args.seats done c.in-Some.seat c.next.new.self.rest.items c.requires.1
    (ap (λ (left : List DeskSeatState). done ++ left) (sym c.in-Some.ensures.steps.0) ∙ c.loop-seat.invariant.parts) in
    (c.requires.0, at.0, at.1, c.requires.2)

pub returns : goal.returns
returns c = λ front first.
    let rest = c.loop-seat.seat-iterator.rest in
    let done : List DeskSeatState = c.loop-seat.yielded in
    let no_more : rest.items ≡ [] = no_item rest.items (sym rest.ok.0 ∙ c.in-None.ensures.steps.0) in
    let all : done ≡ c.args.seats = sym (append-nil done) ∙ ap (λ (left : List DeskSeatState). done ++ left) (sym no_more) ∙ c.loop-seat.invariant.parts in
    c.loop-seat.invariant.places ∙ ap (map place_of_seat) all ∙ row-of-seats front c.args.seats first
