use Rattle.std.proofs.Common.{◌∙◌, ◌++◌, Option, ap, arith, map, subst, sym}
use Rattle.std.specs.Option.{option_to_list}
use Rattle.joint_plan.specs.Desk.{DeskState}
use Rattle.journal_front.specs.Fronts.{DeskSeatState}
use Rattle.desk_locks.specs.Held.{AllInPlace}
use Rattle.desk_locks.specs.Homes.{place_of_taken}
use Rattle.desk_locks.specs.Places.{AreInPlace, place_of_seat}
use Rattle.desk_locks.proofs.Orders.{popped, some-left}
use Rattle.desk_locks.proofs.held.Held.give_back.Goals as goal
use Rattle.desk_locks.proofs.held.Held.give_back.Goals.{After-deref}

pub unwrap-desk-requires : goal.unwrap-desk-requires
unwrap-desk-requires c =
    let some = some-left c.loop-lock.taken.items c.pop.new.self.items c.loop-lock.desks.items c.loop-lock.seats.items c.in-Some.field-0 c.in-Some.ensures.items c.loop-lock.invariant in
    c.pop-in-Some.ensures.variant.1 (let size = c.loop-lock.desks.ok.0 in omega (arith, size, some.0))

pub unwrap-seat-requires : goal.unwrap-seat-requires
unwrap-seat-requires c =
    let some = some-left c.loop-lock.taken.items c.pop.new.self.items c.loop-lock.desks.items c.loop-lock.seats.items c.in-Some.field-0 c.in-Some.ensures.items c.loop-lock.invariant in
    c.pop-in-Some-2.ensures.variant.1 (let size = c.loop-lock.seats.ok.0 in omega (arith, size, some.1))

-- the last desk and the last seat are those of the lock that is given back
taken_away : (c : After-deref) → AllInPlace (map place_of_taken c.pop.new.self.items) c.pop-in-Some.new.self.items c.pop-in-Some-2.new.self.items × AreInPlace (place_of_taken c.in-Some.field-0) c.unwrap-desk.result c.unwrap-seat.result
taken_away c = popped c.loop-lock.taken.items c.pop.new.self.items c.loop-lock.desks.items c.pop-in-Some.new.self.items c.loop-lock.seats.items c.pop-in-Some-2.new.self.items
    c.in-Some.field-0 c.unwrap-desk.result c.unwrap-seat.result c.in-Some.ensures.items
    (c.pop-in-Some.ensures.items ∙ ap (λ (last : Option DeskState). c.pop-in-Some.new.self.items ++ option_to_list last) c.unwrap-desk.ensures)
    (c.pop-in-Some-2.ensures.items ∙ ap (λ (last : Option DeskSeatState). c.pop-in-Some-2.new.self.items ++ option_to_list last) c.unwrap-seat.ensures) c.loop-lock.invariant

pub give-requires-clause-value : goal.give-requires-clause-value
give-requires-clause-value c =
    let own = c.in-Some.field-0.same_lock ∙ sym c.deref.ensures in
    subst (λ kept. AreInPlace (place_of_seat kept.key.value) c.unwrap-desk.result c.unwrap-seat.result) own (taken_away c).1

pub loop-lock-preserved : goal.loop-lock-preserved
loop-lock-preserved c = (taken_away (goal.at.loop-lock-preserved c).After-deref).0
