-- The sums of each hour as they are taken out and put back, and as more events come.
use Rattle.std.proofs.Common.{◌≡◌, ◌≤◌, ◌++◌, inl, inr, ℕ, List, Option, Some, None, IfSome, length, set, sym, subst, arith}
use Rattle.std.proofs.lemmas.Bool.{cases_eq, cases_lt}
use Rattle.std.proofs.lemmas.List.{get_or-replicate, get_or_past, get_or-set_other, get_or-set_same, length-replicate, set_past}
use Rattle.market_model.specs.declared.event.Event.{Event}
use Rattle.event_history.specs.ByHour.{hour_count}
use Rattle.plain_orders.specs.declared.tally.OrderSums.{OrderSums}
use Rattle.plain_orders.specs.DaySums.{AreDaySums, nothing_summed, sums_at}
use Rattle.plain_orders.specs.Tallies.{AreSums}
use Rattle.plain_orders.proofs.Growing.{sums-grow}

-- an hour past the last place has none, and none can be put there
pub none_at : (day : List (Option OrderSums)) (hour : ℕ) → length day ≤ hour → None ≡ sums_at day hour
none_at day hour past = sym (get_or_past day hour None past)

pub set_off : (day : List (Option OrderSums)) (hour : ℕ) (sums : Option OrderSums) → length day ≤ hour → day ≡ set day hour sums
set_off day hour sums past = sym (set_past day hour sums past)

-- where none are kept
pub day_sums-none : (events : List Event) → AreDaySums events nothing_summed
day_sums-none events = record { each = λ hour. subst (λ o. IfSome o (AreSums events hour)) (sym (none hour)) tt }
  where
    none : (hour : ℕ) → sums_at nothing_summed hour ≡ None
    none hour = elim (cases_lt hour hour_count) [
      | inl less ↦ get_or-replicate hour_count hour None None less
      | inr past ↦
          let size = length-replicate {A = Option OrderSums} hour_count None in
          get_or_past nothing_summed hour None (omega (arith, size, past))
    ]

-- those of an hour stand in place of those that were kept
pub day_sums-set : (events : List Event) (day : List (Option OrderSums)) (hour : ℕ) (sums : Option OrderSums) → AreDaySums events day
    → IfSome sums (AreSums events hour) → AreDaySums events (set day hour sums)
day_sums-set events day hour sums are own = record { each = each }
  where
    at : (other : ℕ) → other ≡ hour → (o : Option OrderSums) → o ≡ sums → IfSome o (AreSums events other)
    at other same o is = subst (λ x. IfSome x (AreSums events other)) (sym is) (subst (λ h. IfSome sums (AreSums events h)) (sym same) own)

    here : (other : ℕ) → other ≡ hour → IfSome (sums_at (set day hour sums) other) (AreSums events other)
    here other same = elim (cases_lt hour (length day)) [
      | inl less ↦ at other same (sums_at (set day hour sums) other)
          (subst (λ h. sums_at (set day hour sums) h ≡ sums) (sym same) (get_or-set_same day hour sums None less))
      | inr past ↦ subst (λ d. IfSome (sums_at d other) (AreSums events other)) (set_off day hour sums past) (are.each other)
    ]

    each : (other : ℕ) → IfSome (sums_at (set day hour sums) other) (AreSums events other)
    each other = elim (cases_eq other hour) [
      | inl same ↦ here other same
      | inr apart ↦ subst (λ o. IfSome o (AreSums events other)) (sym (get_or-set_other day hour other sums None apart)) (are.each other)
    ]

-- without those of an hour
pub day_sums-without : (events : List Event) (day : List (Option OrderSums)) (hour : ℕ) → AreDaySums events day → AreDaySums events (set day hour None)
day_sums-without events day hour are = day_sums-set events day hour None are tt

-- when more events come
pub day_sums-grow : (events more : List Event) (day : List (Option OrderSums)) → AreDaySums events day → AreDaySums (events ++ more) day
day_sums-grow events more day are = record { each = λ hour. go hour (sums_at day hour) (are.each hour) }
  where
    go : (hour : ℕ) (o : Option OrderSums) → IfSome o (AreSums events hour) → IfSome o (AreSums (events ++ more) hour)
    go hour None h = h
    go hour (Some sums) h = sums-grow events more hour sums h
