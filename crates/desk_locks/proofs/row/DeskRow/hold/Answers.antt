use Rattle.std.proofs.Common.{◌≡◌, ◌∙◌, ◌∷◌, ◌++◌, ap, arith, length, map, subst, sym}
use Rattle.desk_locks.specs.Homes.{place_of_lock, place_of_taken}
use Rattle.desk_locks.specs.Places.{AreInPlace, place_of_seat}
use Rattle.desk_locks.proofs.Orders.{moved-on, pushed}
use Rattle.desk_locks.proofs.row.DeskRow.hold.Goals as goal

-- the lock that is taken goes behind the others, with its desk and its seat
pub loop-lock-preserved : goal.loop-lock-preserved
loop-lock-preserved g c =
    let left = c.next.new.self.rest.items in
    let step : c.loop-lock.lock-iterator.rest.items ≡ c.in-Some.lock ∷ left = c.in-Some.ensures.steps.0 in
    let size = ap length step in
    let desk = c.take-desk.result.0.desk in
    let seat = c.take-desk.result.0.seat in
    let at = ap (λ kept. place_of_seat kept.key.value) (c.take-desk.ensures.duty ∙ c.deref.ensures) in
    let own = subst (λ kept. AreInPlace (place_of_seat kept.key.value) desk seat) (sym c.take-desk.ensures.duty) c.take-desk.ensures.value in
    record {
      can = tt;
      finite = tt;
      parts =
          moved-on c.loop-lock.taken.items c.push_reserved-in-loop-lock-2.new.self.items _ (place_of_lock c.in-Some.lock) (map place_of_lock left) c.push_reserved-in-loop-lock-2.ensures.items at
          ∙ ap (λ locks. map place_of_taken c.loop-lock.taken.items ++ map place_of_lock locks) (sym step)
          ∙ c.loop-lock.invariant.parts;
      in_place =
          pushed c.loop-lock.taken.items c.push_reserved-in-loop-lock-2.new.self.items c.loop-lock.desks.items c.push_reserved.new.self.items c.loop-lock.seats.items c.push_reserved-in-loop-lock.new.self.items
          _ desk seat c.push_reserved-in-loop-lock-2.ensures.items c.push_reserved.ensures.items c.push_reserved-in-loop-lock.ensures.items c.loop-lock.invariant.in_place own;
      desks = let all = c.loop-lock.invariant.desks in let len = c.push_reserved.ensures.len in let room = c.push_reserved.ensures.capacity in omega (arith, size, all, len, room);
      seats = let all = c.loop-lock.invariant.seats in let len = c.push_reserved-in-loop-lock.ensures.len in let room = c.push_reserved-in-loop-lock.ensures.capacity in omega (arith, size, all, len, room);
      taken = let all = c.loop-lock.invariant.taken in let len = c.push_reserved-in-loop-lock-2.ensures.len in let room = c.push_reserved-in-loop-lock-2.ensures.capacity in omega (arith, size, all, len, room);
    }
