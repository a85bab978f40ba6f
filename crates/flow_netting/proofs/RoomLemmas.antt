-- The least of what remains in the quarters of a set.
use Rattle.std.proofs.Common.{◌≡◌, ◌∙◌, ◌+◌, ◌-◌, ◌<◌, ◌≤◌, ◌==◌, ◌&&◌, ℕ, Bool, true, false, List, [], ◌∷◌, ◌++◌, Option, Some, None, cond, map, filter, min, unwrap_or, if◌then◌else◌, length, get_or, refl, sym, ap, subst, arith, eqb-true}
use Rattle.std.specs.List.{range_with_len, fold}
use Rattle.std.specs.Option.{option_map_or}
use Rattle.std.proofs.lemmas.Bool.{eqb-false}
use Rattle.std.proofs.lemmas.List.{append-nil, map-append}
use Rattle.std.proofs.lemmas.List.FromFn.{filter_of_map_range_with_len_more}
use Rattle.std.proofs.lemmas.List.Sums.{fold_push}
use Rattle.zone_graph.specs.declared.route.Arc.{Arc}
use Rattle.zone_graph.specs.Pour.{same_bool}
use Rattle.zone_graph.proofs.Places.{at_any}
use Rattle.market_model.specs.Room.{least}
use Rattle.flow_netting.specs.Border.{Border, idle_border}
use Rattle.flow_netting.specs.Flows.{border_at}

-- the least of some numbers, if there are any
abbrev pub least_of : List ℕ → Option ℕ
least_of [] = None
least_of (n ∷ ns) = Some (fold min n ns)

pub unwrap_or-least_of : (ns : List ℕ) → unwrap_or (least_of ns) 0 ≡ least ns
unwrap_or-least_of [] = refl
unwrap_or-least_of (n ∷ ns) = refl

least_of-push : (ns : List ℕ) (n : ℕ) → least_of (ns ++ n ∷ []) ≡ Some (option_map_or (λ so_far. min so_far n) (least_of ns) n)
least_of-push [] n = refl
least_of-push (m ∷ ns) n = ap Some (fold_push min m ns n)

-- those of the first so many quarters that count
abbrev pub first_of : (counts : ℕ → Bool) → (most : ℕ) → List ℕ
first_of counts most = filter counts (map (λ number. number) (range_with_len 1 most))

-- one more quarter
pub least_of-more : (counts : ℕ → Bool) (lots : ℕ → ℕ) (number : ℕ) (so_far : Option ℕ) → 1 ≤ number
    → so_far ≡ least_of (map lots (first_of counts (number - 1)))
    → (if counts number then Some (option_map_or (λ least. min least (lots number)) so_far (lots number)) else so_far)
    ≡ least_of (map lots (first_of counts (number + 1 - 1)))
least_of-more counts lots number so_far first before =
    by (counts number)
    ∙ ap (λ numbers. least_of (map lots numbers))
    (sym (filter_of_map_range_with_len_more counts (λ k. k) 1 (number - 1) number (omega arith)) ∙ ap (first_of counts) (omega arith))
  where
    by : (b : Bool) → (if b then Some (option_map_or (λ least. min least (lots number)) so_far (lots number)) else so_far)
        ≡ least_of (map lots (first_of counts (number - 1) ++ cond b (number ∷ []) []))
    by true =
        ap (λ o. Some (option_map_or (λ least. min least (lots number)) o (lots number))) before
        ∙ sym (least_of-push (map lots (first_of counts (number - 1))) (lots number))
        ∙ ap least_of (sym (map-append lots (first_of counts (number - 1)) (number ∷ [])))
    by false = before ∙ ap (λ numbers. least_of (map lots numbers)) (sym (append-nil (first_of counts (number - 1))))

-- rooms where trade is on, and where it is not
pub least-traded : (trades : Bool) (lots : ℕ → ℕ) (numbers : List ℕ) → trades ≡ true
    → least (map lots numbers) ≡ least (map (λ number. if trades then lots number else 0) numbers)
least-traded trades lots numbers on =
    subst (λ b. least (map lots numbers) ≡ least (map (λ number. if b then lots number else 0) numbers)) (sym on) refl

none_least : (numbers : List ℕ) → 0 ≡ fold min 0 (map (λ _. 0) numbers)
none_least [] = refl
none_least (n ∷ ns) = none_least ns

none : (numbers : List ℕ) → 0 ≡ least (map (λ _. 0) numbers)
none [] = refl
none (n ∷ ns) = none_least ns

pub least-not_traded : (trades : Bool) (lots : ℕ → ℕ) (numbers : List ℕ) → trades ≡ false
    → 0 ≡ least (map (λ number. if trades then lots number else 0) numbers)
least-not_traded trades lots numbers off =
    subst (λ b. 0 ≡ least (map (λ number. if b then lots number else 0) numbers)) (sym off) (none numbers)

-- ---- rooms that are written border by border

pub two_rooms-most : (same forward : Bool) (old mid new a b most : ℕ) → same ≡ true → a ≤ most → b ≤ most
    → mid ≡ (if same && same_bool true forward then a else old)
    → new ≡ (if same && same_bool false forward then b else mid)
    → new ≤ most
two_rooms-most true true old mid new a b most on small small' first second = omega arith
two_rooms-most true false old mid new a b most on small small' first second = omega arith
two_rooms-most false forward old mid new a b most on small small' first second = cc

-- one more border
module _ (place : ℕ) (arc : Arc) (mid new : ℕ) (so_far : arc.border < place + 1) where
  pub written_more : (borders : List Border) (border : Border) (room : Border → ℕ) → place < length borders
      → border ≡ get_or borders place border
      → new ≡ (if place == arc.border then room border else mid)
      → (arc.border < place → mid ≡ room (border_at borders arc.border))
      → new ≡ room (border_at borders arc.border)
  written_more borders border room within is written before = by (place == arc.border) refl written
    where
      by : (b : Bool) → (place == arc.border) ≡ b → new ≡ (if b then room border else mid) → new ≡ room (border_at borders arc.border)
      by true e h = h ∙ ap room (is ∙ at_any borders place border idle_border within ∙ ap (border_at borders) (eqb-true place arc.border e))
      by false e h =
          let apart : place ≡ arc.border → ⊥ = eqb-false place arc.border e in
          h ∙ before (omega arith)

  pub most_more : (room most : ℕ) → new ≡ (if place == arc.border then room else mid)
      → (arc.border < place → mid ≤ most) → (arc.border ≡ place → new ≤ most) → new ≤ most
  most_more room most written before now = by (place == arc.border) refl written
    where
      by : (b : Bool) → (place == arc.border) ≡ b → new ≡ (if b then room else mid) → new ≤ most
      by true e h = now (sym (eqb-true place arc.border e))
      by false e h =
          let apart : place ≡ arc.border → ⊥ = eqb-false place arc.border e in
          let small : mid ≤ most = before (omega arith) in
          omega arith
