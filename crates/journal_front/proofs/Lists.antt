-- Lists that are gone through place by place, and the seats of desks in them.
use Rattle.std.proofs.Common.{◌≡◌, ◌∙◌, inl, inr, ℕ, zero, suc, ◌+◌, ◌<◌, ◌≤◌, ◌^◌, List, [], ◌∷◌, ◌++◌, map, drop, take, length, Option, None, Some, unwrap_or, refl, sym, ap, subst, arith, add-one, append_assoc, set, slice_get}
use Rattle.std.specs.Option.{option_map}
use Rattle.std.proofs.lemmas.List.{drop-set-lt, length-map, map-append, set-get_or, take_more_set}
use Rattle.std.proofs.lemmas.Option.{get_or_from_slice_get}
use Rattle.zone_graph.specs.Route.{IsIn}
use Rattle.atomic_table.specs.Table.{Me}
use Rattle.market_model.specs.declared.entry.Entry.{Entry}
use Rattle.market_model.specs.declared.setup.Setup.{Setup}
use Rattle.journal_front.specs.declared.view.Standing.{Standing}
use Rattle.journal_front.specs.declared.view.View.{View}
use Rattle.journal_front.specs.Fronts.{DeskSeatState, FrontState, desk_of}
use Rattle.journal_front.specs.Seats.{IsDeskPlace, desk_standing, desk_state, hours_of, standing_of_desk, view_in}
use Rattle.journal_front.specs.Steps.{Follows}
use Rattle.journal_front.specs.Views.{seat_view, view_dealt, view_joined, view_left, with_standings}

module _ {X : Type 0} where
  -- there is an item at each place
  pub get-within : (xs : List X) (i : ℕ) → i < length xs → (x : X) × (slice_get xs i ≡ Some x)
  get-within [] i within = absurd (omega arith)
  get-within (x ∷ xs) zero within = (x, refl)
  get-within (x ∷ xs) (suc i) within = get-within xs i (omega arith)

  pub no_item : (xs : List X) → length xs ≡ 0 → xs ≡ []
  no_item [] none = refl
  no_item (x ∷ xs) some_there = absurd (omega arith)

  drop-get_suc : (xs : List X) (i : ℕ) (x : X) → slice_get xs i ≡ Some x → drop i xs ≡ x ∷ drop (suc i) xs
  drop-get_suc [] i x at = cc
  drop-get_suc (y ∷ xs) zero x at = cc
  drop-get_suc (y ∷ xs) (suc i) x at = drop-get_suc xs i x at

  -- what comes from a place on begins with the item there
  pub drop-get : (xs : List X) (i : ℕ) (x : X) → slice_get xs i ≡ Some x → drop i xs ≡ x ∷ drop (i + 1) xs
  drop-get xs i x at = rw add-one (drop-get_suc xs i x at)

  take-get_suc : (xs : List X) (i : ℕ) (x : X) → slice_get xs i ≡ Some x → take (suc i) xs ≡ take i xs ++ x ∷ []
  take-get_suc [] i x at = cc
  take-get_suc (y ∷ xs) zero x at = cc
  take-get_suc (y ∷ xs) (suc i) x at = ap (λ l. y ∷ l) (take-get_suc xs i x at)

  -- what comes before the next place ends with it
  pub take-get : (xs : List X) (i : ℕ) (x : X) → slice_get xs i ≡ Some x → take (i + 1) xs ≡ take i xs ++ x ∷ []
  take-get xs i x at = rw add-one (take-get_suc xs i x at)

  first_in : List X → Option X
  first_in [] = None
  first_in (x ∷ xs) = Some x

  get-drop : (xs : List X) (i : ℕ) → slice_get xs i ≡ first_in (drop i xs)
  unfolding first_in
  get-drop [] zero = refl
  get-drop [] (suc i) = refl
  get-drop (x ∷ xs) zero = refl
  get-drop (x ∷ xs) (suc i) = get-drop xs i

  -- two lists that are the same from a place on have the same item there
  pub get-same : (xs ys : List X) (i : ℕ) → drop i xs ≡ drop i ys → slice_get xs i ≡ slice_get ys i
  get-same xs ys i same = get-drop xs i ∙ ap first_in same ∙ sym (get-drop ys i)

  -- and they are the same from the next place on, where it is changed in one of them
  pub drop-same : (xs ys : List X) (i : ℕ) (x y : X) → drop i xs ≡ drop i ys → slice_get ys i ≡ Some y → drop (i + 1) (set xs i x) ≡ drop (i + 1) ys
  drop-same xs ys i x y same at =
      let more = sym (drop-get xs i y (get-same xs ys i same ∙ at)) ∙ same ∙ drop-get ys i y at in
      drop-set-lt (i + 1) xs i x (omega arith) ∙ ap (λ l. drop 1 l) more

-- a seat that is changed, but for its hour
pub hours-set : (seats : List DeskSeatState) (i : ℕ) (seat changed : DeskSeatState) → slice_get seats i ≡ Some seat → changed.hour ≡ seat.hour
    → hours_of (set seats i changed) ≡ hours_of seats
hours-set [] i seat changed at same = refl
hours-set (other ∷ seats) zero seat changed at same =
    let own : other.hour ≡ seat.hour = ap (λ found. unwrap_or (option_map (λ (s : DeskSeatState). s.hour) found) 0) at in
    ap (λ hour. hour ∷ hours_of seats) (same ∙ sym own)
hours-set (other ∷ seats) (suc i) seat changed at same = ap (λ hours. other.hour ∷ hours) (hours-set seats i seat changed at same)

-- an item that is put where it is already changes nothing
pub put-back : {X : Type 0} (xs : List X) (i : ℕ) (x : X) → slice_get xs i ≡ Some x → set xs i x ≡ xs
put-back xs i x at = ap (set xs i) (sym (get_or_from_slice_get xs i x x at)) ∙ set-get_or xs i x

pub IsIn-get : {X : Type 0} (xs : List X) (i : ℕ) (x : X) → slice_get xs i ≡ Some x → IsIn x xs
IsIn-get [] i x at = cc
IsIn-get (y ∷ xs) zero x at = inl (cc)
IsIn-get (y ∷ xs) (suc i) x at = inr (IsIn-get xs i x at)

pub get-map : {X Y : Type 0} (f : X → Y) (xs : List X) (i : ℕ) (x : X) → slice_get xs i ≡ Some x → slice_get (map f xs) i ≡ Some (f x)
get-map f [] i x at = cc
get-map f (y ∷ xs) zero x at = ap (λ found. option_map f found) at
get-map f (y ∷ xs) (suc i) x at = get-map f xs i x at

-- the seat at a place of seats that have the hours of others
pub seat-within : (old seats : List DeskSeatState) (i : ℕ) → hours_of seats ≡ hours_of old → i < length old
    → (seat : DeskSeatState) × (slice_get seats i ≡ Some seat) × (slice_get (hours_of old) i ≡ Some seat.hour) × (i < length seats)
seat-within old seats i same within =
    let hour : DeskSeatState → ℕ = λ seat. seat.hour in
    let inside : i < length seats = omega (arith, length-map old hour, length-map seats hour, ap (λ (l : List ℕ). length l) same) in
    let found = get-within seats i inside in
    (found.0, found.1, ap (λ l. slice_get l i) (sym same) ∙ get-map hour seats i found.0 found.1, inside)

-- ---- seats that are joined into the journal's place, and come back from it

-- a place that has this view
pub one-view : (views : List View) (view : View) → views ≡ view ∷ [] → Follows view → (views ≡ view_in views ∷ []) × Follows (view_in views)
one-view views view are follows = (are ∙ ap (λ (v : List View). view_in v ∷ []) (sym are), subst (λ (v : List View). Follows (view_in v)) (sym are) follows)

pub seat-follows : (setup : Setup) (standing : Standing) → Follows (seat_view setup standing)
seat-follows setup standing = record { live = refl; follows = refl }

module _ (view : View) (i : ℕ) (me after : Me ℕ View) (views : List View) where
  pub joined-next : (seats : List DeskSeatState) (seat : DeskSeatState) → me ≡ (with_standings view (view.standings ++ map standing_of_desk (take i seats)), [])
      → slice_get seats i ≡ Some seat → views ≡ seat_view seat.setup (standing_of_desk seat) ∷ [] → after ≡ (view_joined me.0 (view_in views), [])
      → after ≡ (with_standings view (view.standings ++ map standing_of_desk (take (i + 1) seats)), [])
  joined-next seats seat me_is at views_are joined =
      let more : map standing_of_desk (take (i + 1) seats) ≡ map standing_of_desk (take i seats) ++ standing_of_desk seat ∷ [] =
      ap (map standing_of_desk) (take-get seats i seat at) ∙ map-append standing_of_desk (take i seats) (seat ∷ []) in
      joined
      ∙ ap (λ (v : List View). (view_joined me.0 (view_in v), [])) views_are
      ∙ ap (λ (m : Me ℕ View). (view_joined m.0 (seat_view seat.setup (standing_of_desk seat)), [])) me_is
      ∙ ap (λ l. (with_standings view l, [])) (append_assoc view.standings (map standing_of_desk (take i seats)) (standing_of_desk seat ∷ []) ∙ ap (λ l. view.standings ++ l) (sym more))

  -- the standings that are still to come back
  module _ (hours : List ℕ) (hour : ℕ) (me_is : me ≡ (with_standings view (map (λ h. desk_standing h view.entries) (drop i hours)), [])) (at : slice_get hours i ≡ Some hour) where
    abbrev standing : ℕ → Standing
    standing h = desk_standing h view.entries

    next-first : map standing (drop i hours) ≡ standing hour ∷ map standing (drop (i + 1) hours)
    next-first = ap (map standing) (drop-get hours i hour at)

    pub dealt-next : views ≡ view_dealt me.0 ∷ [] → views ≡ seat_view view.setup (standing hour) ∷ []
    dealt-next dealt =
        dealt ∙ ap (λ (m : Me ℕ View). view_dealt m.0 ∷ []) me_is ∙ ap (λ l. view_dealt (with_standings view l) ∷ []) next-first

    pub left-next : after ≡ (view_left me.0, []) → after ≡ (with_standings view (map standing (drop (i + 1) hours)), [])
    left-next left =
        left ∙ ap (λ (m : Me ℕ View). (view_left m.0, [])) me_is ∙ ap (λ l. (view_left (with_standings view l), [])) next-first

-- a seat that comes back into its place
pub back-place : (setup : Setup) (entries : List Entry) (hour : ℕ) (views : List View) → views ≡ seat_view setup (desk_standing hour entries) ∷ []
    → (1 ≤ hour) × (hour ≤ setup.hours) → length entries ≤ 2 ^ 31 → IsDeskPlace hour views
back-place setup entries hour views are within short =
    subst (IsDeskPlace hour) (sym are) (refl, record { seated = refl; first = within.0; last = within.1; short = short })

-- the seats once one more has come back
pub back-next : (front : FrontState) (entries : List Entry) (seats after : List DeskSeatState) (hours : List ℕ) (i hour : ℕ) (views : List View) → i < length seats
    → take i seats ≡ map (desk_of front entries) (take i hours) → slice_get hours i ≡ Some hour
    → views ≡ seat_view front.setup (desk_standing hour entries) ∷ [] → after ≡ set seats i (desk_state front.id hour views)
    → take (i + 1) after ≡ map (desk_of front entries) (take (i + 1) hours)
back-next front entries seats after hours i hour views within done at are back =
    let full = desk_of front entries in
    ap (take (i + 1)) back
    ∙ take_more_set seats i (desk_state front.id hour views) within
    ∙ ap (λ (v : List View). take i seats ++ desk_state front.id hour v ∷ []) are
    ∙ ap (λ l. l ++ full hour ∷ []) done
    ∙ sym (map-append full (take i hours) (hour ∷ []))
    ∙ ap (map full) (sym (take-get hours i hour at))

pub back-hours : (front : FrontState) (entries : List Entry) (seats after : List DeskSeatState) (i : ℕ) (seat : DeskSeatState) (views : List View)
    → slice_get seats i ≡ Some seat → views ≡ seat_view front.setup (desk_standing seat.hour entries) ∷ [] → after ≡ set seats i (desk_state front.id seat.hour views)
    → hours_of after ≡ hours_of seats
back-hours front entries seats after i seat views at are back =
    ap hours_of (back ∙ ap (λ (v : List View). set seats i (desk_state front.id seat.hour v)) are)
    ∙ hours-set seats i seat (desk_of front entries seat.hour) at refl
