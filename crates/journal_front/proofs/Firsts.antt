-- The seats that a front begins with are dealt out of the journal's place, one for each hour and each caller.
use Rattle.std.proofs.Common.{◌≡◌, ◌∙◌, ℕ, zero, suc, ◌+◌, ◌-◌, ◌<◌, List, [], ◌∷◌, ◌++◌, map, drop, length, Some, refl, sym, ap, subst, arith, slice_get}
use Rattle.std.specs.List.{range_with_len}
use Rattle.std.proofs.lemmas.List.{append-nil, length-map, map-append}
use Rattle.std.proofs.lemmas.List.FromFn.{length-range_with_len, map-range_with_len_more}
use Rattle.std.proofs.Math.Seq.{drop-append_seam}
use Rattle.order_kinds.specs.Period.{hours_from}
use Rattle.atomic_table.specs.Table.{Me}
use Rattle.market_model.specs.declared.setup.Setup.{Setup}
use Rattle.market_model.specs.declared.who.Who.{Who}
use Rattle.market_model.specs.declared.who.Who.TheVariants as who
use Rattle.journal_front.specs.declared.view.View.{View}
use Rattle.journal_front.specs.Fronts.{DeskSeatState, FrontState, PassSeatState, desk_of, pass_of}
use Rattle.journal_front.specs.Seats.{IsPassPlace, desk_state, pass_state}
use Rattle.journal_front.specs.Views.{everyone, fresh, lead_view, seat_view, view_dealt, view_left}
use Rattle.journal_front.proofs.Lists.{drop-get, get-map}

-- ---- ranges

pub get-range : (a n i : ℕ) → i < n → slice_get (range_with_len a n) i ≡ Some (a + i)
get-range a zero i within = absurd (omega arith)
get-range a (suc n) zero within = ap Some (omega arith)
get-range a (suc n) (suc i) within = get-range (a + 1) n i (omega arith) ∙ ap Some (omega arith)

get-left : {X : Type 0} (xs ys : List X) (i : ℕ) (x : X) → slice_get xs i ≡ Some x → slice_get (xs ++ ys) i ≡ Some x
get-left [] ys i x at = cc
get-left (y ∷ xs) ys zero x at = at
get-left (y ∷ xs) ys (suc i) x at = get-left xs ys i x at

-- ---- the standing that is next

module _ (setup : Setup) (all : List Who) (i : ℕ) (someone : Who) (at : slice_get all i ≡ Some someone) (me : Me ℕ View)
    (me_is : me ≡ (lead_view setup [] (drop i (map fresh all)), [])) where
  next : drop i (map fresh all) ≡ fresh someone ∷ drop (i + 1) (map fresh all)
  next = drop-get (map fresh all) i (fresh someone) (get-map fresh all i someone at)

  here : me ≡ (lead_view setup [] (fresh someone ∷ drop (i + 1) (map fresh all)), [])
  here = me_is ∙ ap (λ l. (lead_view setup [] l, [])) next

  pub some-next : 0 < length me.0.standings
  some-next = let long = ap (λ (m : Me ℕ View). length m.0.standings) here in omega arith

  pub first-dealt : (views : List View) → views ≡ view_dealt me.0 ∷ [] → views ≡ seat_view setup (fresh someone) ∷ []
  first-dealt views dealt = dealt ∙ ap (λ (m : Me ℕ View). view_dealt m.0 ∷ []) here

  pub first-left : (after : Me ℕ View) → after ≡ (view_left me.0, []) → after ≡ (lead_view setup [] (drop (i + 1) (map fresh all)), [])
  first-left after left = left ∙ ap (λ (m : Me ℕ View). (view_left m.0, [])) here

-- ---- hours

hours-are : (hours : ℕ) → hours_from 1 hours ≡ range_with_len 1 hours
hours-are hours = ap (range_with_len 1) (omega arith)

pub hour-at : (setup : Setup) (i : ℕ) → i < setup.hours → slice_get (everyone setup) i ≡ Some (who.Hour (i + 1))
hour-at setup i within =
    let hour : slice_get (hours_from 1 setup.hours) i ≡ Some (i + 1) =
    ap (λ l. slice_get l i) (hours-are setup.hours) ∙ get-range 1 setup.hours i within ∙ ap Some (omega arith) in
    get-left (map who.Hour (hours_from 1 setup.hours)) (map who.Caller (range_with_len 0 (length setup.callers))) i (who.Hour (i + 1))
    (get-map who.Hour (hours_from 1 setup.hours) i (i + 1) hour)

pub hours-left : (setup : Setup) → drop setup.hours (map fresh (everyone setup)) ≡ map fresh (map who.Caller (range_with_len 0 (length setup.callers)))
hours-left setup =
    let hours : List Who = map who.Hour (hours_from 1 setup.hours) in
    let callers : List Who = map who.Caller (range_with_len 0 (length setup.callers)) in
    let many : setup.hours ≡ length (map fresh hours) =
    omega (arith, length-map hours fresh, length-map (hours_from 1 setup.hours) who.Hour, length-range_with_len 1 (setup.hours + 1 - 1)) in
    ap (drop setup.hours) (map-append fresh hours callers)
    ∙ ap (λ n. drop n (map fresh hours ++ map fresh callers)) many
    ∙ drop-append_seam (map fresh hours) (map fresh callers)

-- one more desk
pub more-desks : (front : FrontState) (desks after : List DeskSeatState) (i : ℕ) (desk : DeskSeatState) (views : List View)
    → desks ≡ map (desk_of front []) (range_with_len 1 i) → views ≡ seat_view front.setup (fresh (who.Hour (i + 1))) ∷ []
    → desk ≡ desk_state front.id (i + 1) views → after ≡ desks ++ desk ∷ []
    → after ≡ map (desk_of front []) (range_with_len 1 (i + 1))
more-desks front desks after i desk views desks_are views_are desk_is pushed =
    pushed
    ∙ ap (λ l. l ++ desk ∷ []) desks_are
    ∙ ap (λ d. map (desk_of front []) (range_with_len 1 i) ++ d ∷ []) (desk_is ∙ ap (desk_state front.id (i + 1)) views_are)
    ∙ sym (map-range_with_len_more (desk_of front []) 1 i (i + 1) (omega arith))

-- ---- callers

pub caller-at : (callers i : ℕ) → i < callers → slice_get (map who.Caller (range_with_len 0 callers)) i ≡ Some (who.Caller i)
caller-at callers i within = get-map who.Caller (range_with_len 0 callers) i i (get-range 0 callers i within ∙ ap Some (omega arith))

pub callers-left : (callers : ℕ) → drop callers (map fresh (map who.Caller (range_with_len 0 callers))) ≡ []
callers-left callers =
    let all : List Who = map who.Caller (range_with_len 0 callers) in
    let many : callers ≡ length (map fresh all) = omega (arith, length-map all fresh, length-map (range_with_len 0 callers) who.Caller, length-range_with_len 0 callers) in
    ap (λ n. drop n (map fresh all)) many ∙ ap (drop (length (map fresh all))) (sym (append-nil (map fresh all))) ∙ drop-append_seam (map fresh all) []

-- a pass's seat of a caller who has no entry yet
pub first-pass : (setup : Setup) (caller : ℕ) (views : List View) → caller < length setup.callers → views ≡ seat_view setup (fresh (who.Caller caller)) ∷ []
    → IsPassPlace caller 0 views
first-pass setup caller views known are =
    subst (IsPassPlace caller 0) (sym are) (record { one = refl; seated = refl; known = known; counted = refl; short = omega arith })

-- one more pass
pub more-passes : (front : FrontState) (passes after : List PassSeatState) (i : ℕ) (pass : PassSeatState) (views : List View)
    → passes ≡ map (pass_of front [] 0) (range_with_len 0 i) → views ≡ seat_view front.setup (fresh (who.Caller i)) ∷ []
    → pass ≡ pass_state front.id i views → after ≡ passes ++ pass ∷ []
    → after ≡ map (pass_of front [] 0) (range_with_len 0 (i + 1))
more-passes front passes after i pass views passes_are views_are pass_is pushed =
    pushed
    ∙ ap (λ l. l ++ pass ∷ []) passes_are
    ∙ ap (λ p. map (pass_of front [] 0) (range_with_len 0 i) ++ p ∷ []) (pass_is ∙ ap (pass_state front.id i) views_are)
    ∙ sym (map-range_with_len_more (pass_of front [] 0) 0 i i (omega arith))
