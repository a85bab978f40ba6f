-- What the noted changes leave as it was: the orders in other zones, and the flows where none is of them.
use Rattle.std.proofs.Common.{◌≡◌, ◌∙◌, inl, inr, ℕ, ◌<◌, ◌==◌, Bool, true, false, cond, not, List, [], ◌∷◌, filter, ◌/◌, get_or, length, reverse, refl, sym, ap, subst, arith, eqb-true}
use Rattle.std.proofs.Math.ListN.{get_or-map}
use Rattle.std.proofs.lemmas.Bool.{cases_eq, true≢false}
use Rattle.std.proofs.lemmas.List.{get_or-set_other, get_or-set_same, length-map, reverse-append}
use Rattle.std.specs.List.{list_any}
use Rattle.order_kinds.specs.declared.side.Side.{Side}
use Rattle.order_kinds.specs.declared.side.Side.TheVariants.{Buy, Sell}
use Rattle.zone_graph.specs.InOrder.{put_in_order}
use Rattle.zone_graph.specs.Route.{IsIn}
use Rattle.zone_graph.proofs.Membership.{IsIn-append}
use Rattle.contract_book.specs.declared.resting.Resting.{Resting}
use Rattle.contract_book.specs.Book.{has_number, line_number, line_of, line_without, parts_of, with_order, without}
use Rattle.contract_book.specs.Resting.{resting_cmp}
use Rattle.contract_book.proofs.BookShapes.{any-some}
use Rattle.hour_store.specs.declared.change.Change.{Change}
use Rattle.hour_store.specs.declared.change.Change.TheVariants as change
use Rattle.hour_store.specs.Changed.{FlowsChangeWhereNoted, LinesChangeInTheirZones, changes_flows, changes_in, is_untouched, stands_in}
use Rattle.hour_store.specs.Contents.{AreAlike, Contents}
use Rattle.hour_store.specs.TakenBack.{CanTakeBack, HasItsPlace, IsTakenBack, LeadsBack}
use Rattle.hour_store.proofs.Alike.{alike-other, alike-through}
use Rattle.hour_store.proofs.Places.{line_number-same}
use Rattle.hour_store.proofs.PutBack.{filter-put}
use Rattle.hour_store.proofs.Zones.{stands-own}

-- what passes no test is left out by it, and so it may be left out before
filter-within : {X : Type 0} (p q : X → Bool) (xs : List X) → ((x : X) → IsIn x xs → q x ≡ false → p x ≡ false) → filter p (filter q xs) ≡ filter p xs
filter-within p q [] each = refl
filter-within p q (x ∷ xs) each = by (q x) refl (filter-within p q xs (λ y i. each y (inr i)))
  where
    by : (b : Bool) → q x ≡ b → filter p (filter q xs) ≡ filter p xs → filter p (filter q (x ∷ xs)) ≡ filter p (x ∷ xs)
    by true e rest = rw e (ap (λ l. cond (p x) (x ∷ l) l) rest)
    by false e rest = rw e (rw (each x (inl refl) e) rest)

not-false : (b : Bool) → not b ≡ false → b ≡ true
not-false true e = refl
not-false false e = absurd (true≢false e)

has-it : (number : ℕ) (order : Resting) → not (has_number number order) ≡ false → order.number ≡ number
has-it number order fails = eqb-is (order.number == number) refl (not-false (has_number number order) fails)
  where
    eqb-is : (b : Bool) → (order.number == number) ≡ b → (order.number == number) ≡ true → order.number ≡ number
    eqb-is b e is = eqb-true order.number number is

pub any-none : {X : Type 0} (q : X → Bool) (xs : List X) → list_any q xs ≡ false → (x : X) → IsIn x xs → q x ≡ false
any-none q xs none x i = by (q x) refl
  where
    by : (b : Bool) → q x ≡ b → b ≡ false
    by true e = absurd (true≢false (sym (any-some q x xs i e) ∙ none))
    by false e = refl

pub from_reverse : {X : Type 0} (x : X) (xs : List X) → IsIn x (reverse xs) → IsIn x xs
from_reverse x [] i = i
from_reverse x (y ∷ xs) i = elim (IsIn-append x (reverse xs) (y ∷ []) (subst (IsIn x) (reverse-append (y ∷ []) xs) i)) [
  | inl later ↦ inr (from_reverse x xs later)
  | inr here ↦ elim here [ inl same ↦ inl same | inr none ↦ absurd none ]
]

module _ (changes : List Change) (part : ℕ) (side : Side) where
  abbrev p : Resting → Bool
  p = is_untouched changes part side

  -- an order in the zone of a change is touched
  touched : (c : Change) (order : Resting) → IsIn c changes → changes_in part side order.zone c ≡ true → p order ≡ false
  touched c order i is = ap not (any-some (changes_in part side order.zone) c changes i is)

  -- who has the number of an order that keeps its place is touched with it
  module _ (book : List (List Resting)) (own : ℕ) (was : Resting) (placed : HasItsPlace book own was)
      (each : (order : Resting) → stands_in part side order.zone own was ≡ true → p order ≡ false) where
    taken-out : filter p (line_of (without book was.number) part side) ≡ filter p (line_of book part side)
    taken-out =
        ap (filter p) (get_or-map (line_without was.number) book (line_number part side) [])
        ∙ filter-within p (λ order. not (has_number was.number order)) (line_of book part side) (λ order i fails.
        let there = placed part side order i (has-it was.number order fails) in
        each order (stands-own own part side was order.zone there.0 there.1 there.2))

    abbrev less : List (List Resting)
    less = without book was.number

    abbrev line : List Resting
    line = put_in_order (resting_cmp was.side) (line_of less own was.side) was

    put-back : own < parts_of book → filter p (line_of (with_order (without book was.number) own was) part side) ≡ filter p (line_of book part side)
    put-back low = elim (cases_eq (line_number part side) (line_number own was.side)) [
      | inl same ↦
          let at = line_number-same part own side was.side same in
          let hidden : p was ≡ false = each was (stands-own own part side was was.zone at.0 at.1 refl) in
          ap (λ k. filter p (get_or (with_order less own was) k [])) same
          ∙ ap (filter p) (get_or-set_same less (line_number own was.side) line [] within)
          ∙ filter-put p (resting_cmp was.side) (line_of less own was.side) was hidden
          ∙ ap (λ k. filter p (get_or less k [])) (sym same) ∙ taken-out
      | inr apart ↦ ap (filter p) (get_or-set_other less (line_number own was.side) (line_number part side) line [] apart) ∙ taken-out
    ]
      where
        within : line_number own was.side < length less
        within = let long = length-map book (line_without was.number) in by was.side (omega (arith, long, low))
          where
            by : (s : Side) → own < length less / 2 → line_number own s < length less
            by Buy few = omega (arith, few)
            by Sell few = omega (arith, few)

  -- what takes a change back leaves the others
  step : (c : Change) (now before : Contents) → IsIn c changes → CanTakeBack c now → IsTakenBack c now before
      → filter p (line_of before.book part side) ≡ filter p (line_of now.book part side)
  step (change.OrderRested own order) now before i can back =
      ap (λ b. filter p (line_of b part side)) back.book_is ∙ taken-out now.book own order can (λ other is. touched (change.OrderRested own order) other i is)
  step (change.OrderChanged own was) now before i can back =
      ap (λ b. filter p (line_of b part side)) back.book_is ∙ put-back now.book own was can.0 (λ other is. touched (change.OrderChanged own was) other i is) can.1.part_there
  step (change.BlockRested number) now before i can back = ap (λ b. filter p (line_of b part side)) back.book
  step (change.BlockLeft was) now before i can back = ap (λ b. filter p (line_of b part side)) back.book
  step (change.Carried arc set lots) now before i can back = ap (λ b. filter p (line_of b part side)) back.0.book
  step (change.Offered arc number lots) now before i can back = ap (λ b. filter p (line_of b part side)) back.0.book
  step (change.HaltSet border was) now before i can back = ap (λ b. filter p (line_of b part side)) back.0.book
  step (change.PhaseSet was) now before i can back = ap (λ b. filter p (line_of b part side)) back.0.book

  lines-same : (records : List Change) (now target : Contents) → ((c : Change) → IsIn c records → IsIn c changes) → LeadsBack records now target
      → filter p (line_of now.book part side) ≡ filter p (line_of target.book part side)
  unfolding LeadsBack
  lines-same [] now target among leads = ap (λ b. filter p (line_of b part side)) leads.book
  lines-same (last ∷ records) now target among leads =
      let before = leads.1.0 in
      sym (step last now before (among last (inl refl)) leads.0 leads.1.1)
      ∙ lines-same records before target (λ c i. among c (inr i)) (leads.2 before leads.1.1)

pub lines-change : LinesChangeInTheirZones
lines-change store target part side leads =
    lines-same store.changes part side (reverse store.changes) store.contents target (λ c i. from_reverse c store.changes i) leads

-- ---- flows

flows-step : (c : Change) (now before : Contents) → changes_flows c ≡ false → IsTakenBack c now before → AreAlike before.flows now.flows
flows-step (change.OrderRested own order) now before none back = alike-other now.flows before.flows back.flows
flows-step (change.OrderChanged own was) now before none back = alike-other now.flows before.flows back.flows
flows-step (change.BlockRested number) now before none back = alike-other now.flows before.flows back.flows
flows-step (change.BlockLeft was) now before none back = alike-other now.flows before.flows back.flows
flows-step (change.Carried arc set lots) now before none back = absurd (true≢false none)
flows-step (change.Offered arc number lots) now before none back = absurd (true≢false none)
flows-step (change.HaltSet border was) now before none back = absurd (true≢false none)
flows-step (change.PhaseSet was) now before none back = absurd (true≢false none)

flows-same : (records : List Change) (now target : Contents) → ((c : Change) → IsIn c records → changes_flows c ≡ false) → LeadsBack records now target
    → AreAlike target.flows now.flows
unfolding LeadsBack
flows-same [] now target none leads = leads.flows
flows-same (last ∷ records) now target none leads =
    let before = leads.1.0 in
    alike-through target.flows before.flows now.flows (flows-same records before target (λ c i. none c (inr i)) (leads.2 before leads.1.1))
    (flows-step last now before (none last (inl refl)) leads.1.1)

pub flows-change : FlowsChangeWhereNoted
flows-change store target leads none =
    flows-same (reverse store.changes) store.contents target (λ c i. any-none changes_flows store.changes none c (from_reverse c store.changes i)) leads
