-- The sums that are kept of each hour, when a command has brought about its events.
use Rattle.std.proofs.Common.{◌≡◌, ◌++◌, ℕ, List, Option, Some, None, Result, Ok, Err, OnErr, IfSome, set, refl, subst, sym}
use Rattle.zone_graph.specs.declared.memory.NoMemory.{NoMemory}
use Rattle.market_model.specs.declared.event.Event.{Event}
use Rattle.market_model.specs.declared.refusal.Refusal.{Refusal}
use Rattle.plain_orders.specs.DaySums.{AreDaySums}
use Rattle.plain_orders.specs.Tallies.{AreSums}
use Rattle.plain_orders.specs.declared.tally.OrderSums.{OrderSums}
use Rattle.plain_orders.proofs.Kept.{day_sums-grow, day_sums-set, day_sums-without}
use Rattle.plain_matching.specs.Grown.{Grew}

-- where some events came
pub kept-more : (old new more : List Event) (kept : List (Option OrderSums)) → new ≡ old ++ more → AreDaySums old kept → AreDaySums new kept
kept-more old new more kept grew are = subst (λ events. AreDaySums events kept) (sym grew) (day_sums-grow old more kept are)

pub kept-grew : (old new : List Event) (kept : List (Option OrderSums)) → Grew old new → AreDaySums old kept → AreDaySums new kept
kept-grew old new kept grew are = kept-more old new grew.more kept grew.grew are

-- whatever is answered
pub kept-after : (result : Result (Option Refusal) NoMemory) (old new more : List Event) (kept : List (Option OrderSums)) → (result ≡ Ok None → new ≡ old ++ more)
    → ((refusal : Refusal) → result ≡ Ok (Some refusal) → new ≡ old) → OnErr result (Grew old new) → AreDaySums old kept → AreDaySums new kept
kept-after (Ok None) old new more kept done stays failed are = kept-more old new more kept (done refl) are
kept-after (Ok (Some refusal)) old new more kept done stays failed are = subst (λ events. AreDaySums events kept) (sym (stays refusal refl)) are
kept-after (Err e) old new more kept done stays failed are = kept-grew old new kept failed are

-- where those of an hour were taken out
pub kept-without : (old new : List Event) (kept out : List (Option OrderSums)) (hour : ℕ) → out ≡ set kept hour None → Grew old new → AreDaySums old kept
    → AreDaySums new out
kept-without old new kept out hour is grew are = kept-grew old new out grew (subst (AreDaySums old) (sym is) (day_sums-without old kept hour are))

-- and others were put back
pub kept-back : (old new more : List Event) (kept out back : List (Option OrderSums)) (hour : ℕ) (sums : Option OrderSums) → out ≡ set kept hour None
    → new ≡ old ++ more → AreDaySums old kept → IfSome sums (AreSums new hour) → back ≡ set out hour sums → AreDaySums new back
kept-back old new more kept out back hour sums is grew are own put =
    subst (AreDaySums new) (sym put) (day_sums-set new out hour sums (kept-without old new kept out hour is (record { more = more; grew = grew }) are) own)
