-- The first answer of the quarters of a range, hour by hour.
use Rattle.std.proofs.Common.{◌≡◌, ◌∙◌, ◌+◌, ◌-◌, ◌≤◌, inl, inr, ℕ, Bool, true, false, ◌&&◌, cond, List, [], ◌∷◌, ◌++◌, filter, map, flat_map, nat_le, Option, Some, None, refl, sym, ap, arith}
use Rattle.std.proofs.lemmas.Bool.{and_from, le-leb}
use Rattle.std.specs.Option.{option_map}
use Rattle.order_kinds.specs.declared.contract.Quarter.{Quarter}
use Rattle.order_kinds.specs.Period.{EachQuarter, hour_quarters, hours_from, is_not_after, is_within, quarter_of, range_quarters}
use Rattle.zone_graph.specs.Route.{IsIn}
use Rattle.zone_graph.proofs.Membership.{from_range}
use Rattle.market_model.specs.Sweep.{first_answer, or_else}
use Rattle.flow_netting.specs.declared.quarter_set.QuarterSet.{QuarterSet}
use Rattle.flow_netting.specs.QuarterSet.{has, quarters_in}
use Rattle.laws_of_hours.specs.FlowLaws.{IsRangeIn}

-- the first answer of those of some numbers that count, and of what stands behind them
first-counted : {X Y Z : Type 0} (ask : X → Option Z) (asked : ℕ → Option Y) (told : Y → Z) (of : ℕ → X) (passes : X → Bool) (counts : ℕ → Bool) (rest : List X) (numbers : List ℕ)
    → ((number : ℕ) → IsIn number numbers → counts number ≡ passes (of number)) → ((number : ℕ) → IsIn number numbers → ask (of number) ≡ option_map told (asked number))
    → first_answer ask (filter passes (map of numbers ++ rest))
    ≡ or_else (option_map told (first_answer asked (filter counts numbers))) (λ _. first_answer ask (filter passes rest))
first-counted ask asked told of passes counts rest [] same each = refl
first-counted {X} {Y} {Z} ask asked told of passes counts rest (number ∷ numbers) same each =
    by (passes (of number)) (first-counted ask asked told of passes counts rest numbers (λ n i. same n (inr i)) (λ n i. each n (inr i)))
    ∙ ap (λ b. or_else (option_map told (first_answer asked (cond b (number ∷ filter counts numbers) (filter counts numbers)))) (λ _. first_answer ask (filter passes rest)))
    (sym (same number (inl refl)))
  where
    go : (o : Option Y) → first_answer ask (filter passes (map of numbers ++ rest))
        ≡ or_else (option_map told (first_answer asked (filter counts numbers))) (λ _. first_answer ask (filter passes rest))
        → or_else (option_map told o) (λ _. first_answer ask (filter passes (map of numbers ++ rest)))
        ≡ or_else (option_map told (or_else o (λ _. first_answer asked (filter counts numbers)))) (λ _. first_answer ask (filter passes rest))
    go None onward = onward
    go (Some y) onward = refl

    by : (b : Bool) → first_answer ask (filter passes (map of numbers ++ rest))
        ≡ or_else (option_map told (first_answer asked (filter counts numbers))) (λ _. first_answer ask (filter passes rest))
        → first_answer ask (cond b (of number ∷ filter passes (map of numbers ++ rest)) (filter passes (map of numbers ++ rest)))
        ≡ or_else (option_map told (first_answer asked (cond b (number ∷ filter counts numbers) (filter counts numbers)))) (λ _. first_answer ask (filter passes rest))
    by false onward = onward
    by true onward = ap (λ o. or_else o (λ _. first_answer ask (filter passes (map of numbers ++ rest)))) (each number (inl refl)) ∙ go (asked number) onward

-- the quarters of a range are found among those of its hours
abbrev in_range : (first last : Quarter) → Quarter → Bool
in_range first last quarter = is_not_after first quarter && is_not_after quarter last

module _ {Y Z : Type 0} (ask : Quarter → Option Z) (asked : ℕ → ℕ → Option Y) (told : ℕ → Y → Z) (first last : Quarter) (sets : ℕ → QuarterSet) where
  -- one hour of it, and the quarters behind
  hour-first : (hour : ℕ) (rest : List Quarter) → IsRangeIn hour first last (has (sets hour))
      → EachQuarter (λ number. ask (quarter_of hour number) ≡ option_map (told hour) (asked hour number))
      → first_answer ask (filter (in_range first last) (hour_quarters hour ++ rest))
      ≡ or_else (option_map (told hour) (first_answer (asked hour) (quarters_in (sets hour)))) (λ _. first_answer ask (filter (in_range first last) rest))
  hour-first hour rest covers same =
      first-counted ask (asked hour) (told hour) (quarter_of hour) (in_range first last) (has (sets hour)) rest (1 ∷ 2 ∷ 3 ∷ 4 ∷ [])
      (λ number i. let within = of_four number i in
      covers number within.0 within.1
      ∙ ap (λ b. b && is_not_after first (quarter_of hour number) && is_not_after (quarter_of hour number) last)
      (and_from (nat_le 1 number) (nat_le number 4) (le-leb 1 number within.0) (le-leb number 4 within.1)))
      (λ number i. let within = of_four number i in same number within.0 within.1)
    where
      of_four : (number : ℕ) → IsIn number (1 ∷ 2 ∷ 3 ∷ 4 ∷ []) → (1 ≤ number) × (number ≤ 4)
      of_four number i = let within = from_range number 1 4 i in (within.0, omega (arith, within.1))

  -- several hours
  hours-first : (hours : List ℕ) → ((hour : ℕ) → IsIn hour hours → IsRangeIn hour first last (has (sets hour)))
      → ((hour : ℕ) → IsIn hour hours → EachQuarter (λ number. ask (quarter_of hour number) ≡ option_map (told hour) (asked hour number)))
      → first_answer ask (filter (in_range first last) (flat_map hour_quarters hours))
      ≡ first_answer (λ hour. option_map (told hour) (first_answer (asked hour) (quarters_in (sets hour)))) hours
  hours-first [] covers same = refl
  hours-first (hour ∷ hours) covers same =
      hour-first hour (flat_map hour_quarters hours) (covers hour (inl refl)) (same hour (inl refl))
      ∙ ap (λ (rest : Option Z). or_else (option_map (told hour) (first_answer (asked hour) (quarters_in (sets hour)))) (λ _. rest))
      (hours-first hours (λ other i. covers other (inr i)) (λ other i. same other (inr i)))

  -- the hours of the range
  pub range-first : ((hour : ℕ) → is_within first.hour last.hour hour ≡ true → IsRangeIn hour first last (has (sets hour)))
      → ((hour : ℕ) → is_within first.hour last.hour hour ≡ true → EachQuarter (λ number. ask (quarter_of hour number) ≡ option_map (told hour) (asked hour number)))
      → first_answer ask (range_quarters first last)
      ≡ first_answer (λ hour. option_map (told hour) (first_answer (asked hour) (quarters_in (sets hour)))) (hours_from first.hour last.hour)
  range-first covers same =
      hours-first (hours_from first.hour last.hour) (λ hour i. covers hour (within hour i)) (λ hour i. same hour (within hour i))
    where
      within : (hour : ℕ) → IsIn hour (hours_from first.hour last.hour) → is_within first.hour last.hour hour ≡ true
      within hour i =
          let there = from_range hour first.hour (last.hour + 1 - first.hour) i in
          and_from (nat_le first.hour hour) (nat_le hour last.hour) (le-leb first.hour hour there.0)
          (le-leb hour last.hour (omega (arith, there.0, there.1)))
