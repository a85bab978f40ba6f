-- What is counted place by place.
use Rattle.std.proofs.Common.{◌≡◌, ◌∙◌, ◌+◌, ◌<◌, ◌≤◌, ◌==◌, ◌&&◌, ℕ, Bool, true, false, refl, sym, ap, arith}
use Rattle.std.specs.Prelude.{nat_lt}
use Rattle.std.proofs.lemmas.Bool.Decides.{nat_tests}
use Rattle.zone_graph.specs.Pour.{lots_if}

test_below : (a b : ℕ) → a < b → nat_lt a b ≡ true
test_below a b h = grind (arith, nat_tests)

test_above : (a b : ℕ) → b ≤ a → nat_lt a b ≡ false
test_above a b h = grind (arith, nat_tests)

test_next : (a b : ℕ) → (b == a) ≡ false → nat_lt a (b + 1) ≡ nat_lt a b
test_next a b h = grind (arith, nat_tests)

same_place : (a b : ℕ) → (b == a) ≡ true → b ≡ a
same_place a b h = grind (arith, nat_tests)

-- nothing counts before the first place
pub none_yet : (has is : Bool) (place start old lots : ℕ) → (has ≡ true → start ≤ place)
    → old ≡ old + lots_if (has && is && nat_lt place start) lots
none_yet false is place start old lots behind = omega arith
none_yet true is place start old lots behind =
    by is ∙ ap (λ b. old + lots_if (is && b) lots) (sym (test_above place start (behind refl)))
  where
    by : (i : Bool) → old ≡ old + lots_if (i && false) lots
    by true = omega arith
    by false = omega arith

-- one more place
module _ (has has_at is : Bool) (place at old mid new lots : ℕ) (at_place : at ≡ place → has_at ≡ has)
    (before : mid ≡ old + lots_if (has && is && nat_lt place at) lots) (counted : new ≡ mid + lots_if (has_at && (at == place) && is) lots) where
  here : (h i : Bool) → mid ≡ old + lots_if (h && i && false) lots → new ≡ mid + lots_if (h && true && i) lots → new ≡ old + lots_if (h && i && true) lots
  here true true m n = omega arith
  here true false m n = omega arith
  here false i m n = omega arith

  elsewhere : (h : Bool) → new ≡ mid + lots_if (h && false && is) lots → new ≡ mid
  elsewhere true n = omega arith
  elsewhere false n = omega arith

  one_more_if : (b : Bool) → (at == place) ≡ b → new ≡ old + lots_if (has && is && nat_lt place (at + 1)) lots
  one_more_if true same =
      let own : at ≡ place = same_place place at same in
      here has is
      (before ∙ ap (λ b. old + lots_if (has && is && b) lots) (test_above place at (omega (arith, own))))
      (counted ∙ ap (λ b. mid + lots_if (has_at && b && is) lots) same ∙ ap (λ h. mid + lots_if (h && true && is) lots) (at_place own))
      ∙ ap (λ b. old + lots_if (has && is && b) lots) (sym (test_below place (at + 1) (omega (arith, own))))
  one_more_if false other =
      elsewhere has_at (counted ∙ ap (λ b. mid + lots_if (has_at && b && is) lots) other)
      ∙ before ∙ ap (λ b. old + lots_if (has && is && b) lots) (sym (test_next place at other))

  pub one_more : new ≡ old + lots_if (has && is && nat_lt place (at + 1)) lots
  one_more = one_more_if (at == place) refl

-- all places are counted
pub all_done : (has is : Bool) (place end old new lots : ℕ) → (has ≡ true → place < end)
    → new ≡ old + lots_if (has && is && nat_lt place end) lots → new ≡ old + lots_if (has && is) lots
all_done false is place end old new lots within counted = counted
all_done true is place end old new lots within counted =
    counted ∙ ap (λ b. old + lots_if (is && b) lots) (test_below place end (within refl)) ∙ by is
  where
    by : (i : Bool) → old + lots_if (i && true) lots ≡ old + lots_if i lots
    by true = refl
    by false = refl
