-- Borders of routes in lexicographic order, compared with one more arc at the end of each.
use Rattle.std.proofs.Common.{◌≡◌, ◌∙◌, ◌≤◌, ◌<◌, ◌⊎◌, inl, inr, ℕ, false, List, [], ◌∷◌, ◌++◌, length, map, refl, sym, ap, arith}
use Rattle.std.proofs.lemmas.Bool.{cases_lt, true≢false}
use Rattle.std.proofs.lemmas.Cmp.{alike_right, tied_itself}
use Rattle.std.proofs.lemmas.List.{length-map, map-append}
use Rattle.std.specs.Cmp.{nat_cmp_is, nat_cmp_total}
use Rattle.std.specs.Cmp.Lexicographic.{lists_total, slice_cmp}
use Rattle.std.specs.Ordering.{is_gt, nat_cmp, ordering_then}
use Rattle.std.specs.declared.cmp.Ordering.{Ordering}
use Rattle.zone_graph.specs.declared.route.Arc.{Arc}

-- the borders of a route
abbrev pub borders : List Arc → List ℕ
borders arcs = map (λ (arc : Arc). arc.border) arcs

abbrev pub border_cmp : List Arc → List Arc → Ordering
border_cmp xs ys = slice_cmp nat_cmp (borders xs) (borders ys)

then_nothing : (a : Ordering) → a ≡ ordering_then a Ordering.Equal
then_nothing Ordering.Less = refl
then_nothing Ordering.Equal = refl
then_nothing Ordering.Greater = refl

then_then : (a b c : Ordering) → ordering_then a (ordering_then b c) ≡ ordering_then (ordering_then a b) c
then_then Ordering.Less b c = refl
then_then Ordering.Equal b c = refl
then_then Ordering.Greater b c = refl

cmp_longer : (xs ys : List ℕ) (x y : ℕ) → length xs ≡ length ys → slice_cmp nat_cmp (xs ++ x ∷ []) (ys ++ y ∷ []) ≡ ordering_then (slice_cmp nat_cmp xs ys) (nat_cmp x y)
cmp_longer [] [] x y same = sym (then_nothing (nat_cmp x y))
cmp_longer [] (b ∷ ys) x y same = absurd (omega (arith, same))
cmp_longer (a ∷ xs) [] x y same = absurd (omega (arith, same))
cmp_longer (a ∷ xs) (b ∷ ys) x y same =
    ap (ordering_then (nat_cmp a b)) (cmp_longer xs ys x y (omega (arith, same))) ∙ then_then (nat_cmp a b) (slice_cmp nat_cmp xs ys) (nat_cmp x y)

-- of routes of equal length, with one more arc each, the fronts decide, and then the last arcs
pub border_cmp-longer : (xs ys : List Arc) (x y : Arc) → length xs ≡ length ys
    → border_cmp (xs ++ x ∷ []) (ys ++ y ∷ []) ≡ ordering_then (border_cmp xs ys) (nat_cmp x.border y.border)
border_cmp-longer xs ys x y same =
    ap (λ l. slice_cmp nat_cmp l (borders (ys ++ y ∷ []))) (map-append (λ (arc : Arc). arc.border) xs (x ∷ []))
    ∙ ap (slice_cmp nat_cmp (borders xs ++ x.border ∷ [])) (map-append (λ (arc : Arc). arc.border) ys (y ∷ []))
    ∙ cmp_longer (borders xs) (borders ys) x.border y.border
    (length-map xs (λ (arc : Arc). arc.border) ∙ same ∙ sym (length-map ys (λ (arc : Arc). arc.border)))

pub lesser-longer : (xs ys : List Arc) (x y : Arc) → length xs ≡ length ys → border_cmp xs ys ≡ Ordering.Less → border_cmp (xs ++ x ∷ []) (ys ++ y ∷ []) ≡ Ordering.Less
lesser-longer xs ys x y same less = border_cmp-longer xs ys x y same ∙ ap (λ o. ordering_then o (nat_cmp x.border y.border)) less

pub equal-longer : (xs ys : List Arc) (x y : Arc) → length xs ≡ length ys → border_cmp xs ys ≡ Ordering.Equal → border_cmp (xs ++ x ∷ []) (ys ++ y ∷ []) ≡ nat_cmp x.border y.border
equal-longer xs ys x y same equal = border_cmp-longer xs ys x y same ∙ ap (λ o. ordering_then o (nat_cmp x.border y.border)) equal

pub border_cmp-itself : (xs : List Arc) → border_cmp xs xs ≡ Ordering.Equal
border_cmp-itself xs = tied_itself (lists_total nat_cmp_total) (borders xs)

-- what is less than something that is not greater is less
pub lesser_upto : (xs ys zs : List Arc) → border_cmp xs ys ≡ Ordering.Less → is_gt (border_cmp ys zs) ≡ false → border_cmp xs zs ≡ Ordering.Less
lesser_upto xs ys zs less upto = by (border_cmp ys zs) refl upto
  where
    by : (o : Ordering) → border_cmp ys zs ≡ o → is_gt o ≡ false → border_cmp xs zs ≡ Ordering.Less
    by Ordering.Less e h = (lists_total nat_cmp_total).trans (borders xs) (borders ys) (borders zs) less e
    by Ordering.Equal e h = sym (alike_right (lists_total nat_cmp_total) (borders ys) (borders zs) (borders xs) e) ∙ less
    by Ordering.Greater e h = absurd (true≢false h)

-- a number is not greater, and where it is equal what comes next decides
pub then_upto : (x y : ℕ) (rest : Ordering) → x ≤ y → (x ≡ y → is_gt rest ≡ false) → is_gt (ordering_then (nat_cmp x y) rest) ≡ false
then_upto x y rest least equal = by (cases_lt x y)
  where
    by : (x < y) ⊎ (y ≤ x) → is_gt (ordering_then (nat_cmp x y) rest) ≡ false
    by (inl less) = ap (λ o. is_gt (ordering_then o rest)) (sym (nat_cmp_is x y Ordering.Less less))
    by (inr most) =
        let same : x ≡ y = omega (arith, least, most) in
        ap (λ o. is_gt (ordering_then o rest)) (sym (nat_cmp_is x y Ordering.Equal same)) ∙ equal same
