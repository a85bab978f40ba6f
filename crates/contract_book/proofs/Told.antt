-- What the calls of a book tell, said of what its callers see.
use Rattle.std.proofs.Common.{◌≡◌, ◌≢◌, ◌∙◌, ℕ, ◌*◌, ◌/◌, ◌<◌, ◌≤◌, ◌==◌, Bool, true, false, List, [], ◌∷◌, ◌++◌, length, get_or, map, Contains, append_assoc, inl, inr, zero, suc, replicate, Option, Some, None, IsSome, refl, sym, ap, subst, arith, eq-eqb, eqb-true}
use Rattle.std.proofs.lemmas.Bool.{cases_lt}
use Rattle.std.proofs.lemmas.List.{get_or-replicate, get_or_past, length-replicate}
use Rattle.order_kinds.specs.declared.side.Side.{Side}
use Rattle.order_kinds.specs.declared.side.Side.TheVariants.{Buy, Sell}
use Rattle.order_pool.specs.Lines.{line_at, first_in, IsNext}
use Rattle.order_pool.specs.Rings.{AreRings}
use Rattle.order_pool.proofs.Chains.{contains_between}
use Rattle.order_pool.proofs.MoveLemmas.{between_in}
use Rattle.order_pool.proofs.PoolLemmas.{first_stands}
use Rattle.std.specs.List.{list_any}
use Rattle.record_pool.specs.Keyed.{AreKeyed, IsAbsent, held_at, held_count}
use Rattle.record_pool.proofs.LineLemmas.{AreLines-none}
use Rattle.contract_book.specs.declared.held.Held.{Held}
use Rattle.contract_book.specs.declared.resting.Ice.{Ice}
use Rattle.contract_book.specs.declared.resting.Resting.{Resting}
use Rattle.contract_book.specs.Book.{IsBook, after_in, changed, filled, first_of, has_number, line_number, line_of, order_count, order_of, parts_of, reduced, without}
use Rattle.contract_book.specs.Inside.{BelongsTo, IsInside, book_in, held_cmp, number_of, orders_in, side_of}
use Rattle.contract_book.specs.Resting.{AgreesWith, IsSound, order_after, order_less}
use Rattle.contract_book.proofs.BookShapes.{any-no, has_not-number, without-none}
use Rattle.contract_book.proofs.Insides.{absent-order_of, after-through, book_in-sound, first-none, first-some, from_line, length-book, line-alone, line-book, order_count-held, order_of-absent, order_of-held, stands_in}

-- an order shows no more than is left of it
pub shown-most : (order : Resting) → IsSound order → order.shown ≤ order.left
shown-most order sound = go order.ice sound.1
  where
    go : (ice : Option Ice) → AgreesWith order ice → order.shown ≤ order.left
    go None agrees = omega (arith, agrees)
    go (Some ice) agrees = omega (arith, agrees.shown_is)

-- an order that is no iceberg is sound with some lots less
pub less-sound : (order : Resting) (by : ℕ) → order.ice ≡ None → by < order.left → IsSound (order_less order by)
less-sound order by plain fewer = (omega (arith, fewer), subst (AgreesWith (order_less order by)) (sym plain) refl)

module _ (book : List (List Resting)) (number : ℕ) (order : Resting) (found : order_of book number ≡ Some order) where
  pub filled-emptied : (lots moment : ℕ) → order.left ≡ lots → filled book number lots moment ≡ without book number
  filled-emptied lots moment all = rw (found, eq-eqb order.left lots all) refl

  pub filled-rest : (lots moment : ℕ) → order.left ≢ lots → filled book number lots moment ≡ changed book (order_after order lots moment)
  filled-rest lots moment some = rw (found, differs (order.left == lots) refl) refl
    where
      differs : (b : Bool) → (order.left == lots) ≡ b → (order.left == lots) ≡ false
      differs true e = absurd (some (eqb-true order.left lots e))
      differs false e = e

  pub reduced-is : (by : ℕ) → reduced book number by ≡ changed book (order_less order by)
  reduced-is by = rw found refl

module _ (places : List (Option Held)) (lines : List (List ℕ)) (inside : IsInside places lines) (book : List (List Resting)) (shown : book_in places lines ≡ book) where
  pub told-sound : IsBook book
  told-sound = subst IsBook shown (book_in-sound places lines inside)

  pub told-count : order_count book ≡ held_count places
  told-count = ap order_count (sym shown) ∙ order_count-held places lines inside

  pub told-order : (place number : ℕ) (held : Held) → held_at places place ≡ Some held → number_of held ≡ number → order_of book number ≡ Some held.order
  told-order place number held holds is = ap (λ b. order_of b number) (sym shown) ∙ ap (order_of (book_in places lines)) (sym is) ∙ order_of-held places lines inside place held holds

  pub told-none : (number : ℕ) → IsAbsent number_of places number → order_of book number ≡ None
  told-none number absent = ap (λ b. order_of b number) (sym shown) ∙ order_of-absent places lines inside number absent

  pub told-absent : (number : ℕ) → order_of book number ≡ None → IsAbsent number_of places number
  told-absent number none = absent-order_of places lines inside number (ap (λ b. order_of b number) shown ∙ none)

  pub told-kept : (number : ℕ) → IsAbsent number_of places number → book ≡ without book number
  told-kept number absent =
      sym (subst (λ b. without b number ≡ b) shown (without-none (book_in places lines) number (λ i low.
      ap (list_any (has_number number)) (line-book places lines i)
      ∙ any-no (has_number number) (orders_in places (line_at lines i)) (λ y j.
      let there = from_line places lines inside i y j in
      has_not-number y number (λ same. absent there.0 there.1 there.3 (ap (λ (o : Resting). o.number) (sym there.4) ∙ same))))))

  -- a part has its lines
  pub told-part : (part : ℕ) → part < parts_of book → part < 2147483648
  told-part part within =
      let many : length book ≡ length lines = ap length (sym shown) ∙ length-book places lines in
      omega (arith, within, many, inside.are.rings.fits)

  pub told-within : (part : ℕ) (side : Side) → part < parts_of book → line_number part side < length lines
  told-within part side within =
      let many : length book ≡ length lines = ap length (sym shown) ∙ length-book places lines in
      go side (omega (arith, within, many))
    where
      go : (s : Side) → part < length lines / 2 → line_number part s < length lines
      go Buy low = omega (arith, low)
      go Sell low = omega (arith, low)

  pub told-first-live : (part : ℕ) (side : Side) (place : ℕ) → part < parts_of book → first_in (line_at lines (line_number part side)) ≡ Some place → IsSome (held_at places place)
  told-first-live part side place within is =
      let there = inside.are.live (line_number part side) place (first_stands lines (line_number part side) place (told-within part side within) is) in
      subst IsSome (sym there.1) refl

  -- the first order of a line
  pub told-first-none : (part : ℕ) (side : Side) → first_in (line_at lines (line_number part side)) ≡ None → first_of (line_of book part side) ≡ None
  told-first-none part side none =
      ap (λ b. first_of (line_of b part side)) (sym shown) ∙ ap first_of (line-book places lines (line_number part side)) ∙ first-none places lines inside (line_at lines (line_number part side)) none

  pub told-first-some : (part : ℕ) (side : Side) (place : ℕ) (held : Held) → first_in (line_at lines (line_number part side)) ≡ Some place → held_at places place ≡ Some held
      → first_of (line_of book part side) ≡ Some held.order
  told-first-some part side place held is holds =
      ap (λ b. first_of (line_of b part side)) (sym shown) ∙ ap first_of (line-book places lines (line_number part side)) ∙ first-some places lines inside (line_at lines (line_number part side)) place held is holds

  -- the order behind one in its line
  module _ (place number : ℕ) (held : Held) (holds : held_at places place ≡ Some held) (is : number_of held ≡ number) (next : Option ℕ) (next_is : IsNext lines place next) where
    behind : (front : List ℕ) × (back : List ℕ) × (next ≡ first_in back) × (after_in held.order.number (orders_in places (line_at lines held.line)) ≡ first_of (orders_in places back))
    behind =
        let cut = between_in lines held.line place (stands_in places lines inside place held holds) in
        (cut.0, cut.1, next_is held.line cut.0 cut.1 cut.2, after-through places lines inside place held holds cut.0 cut.1 cut.2)

    pub told-after-live : (at : ℕ) → next ≡ Some at → IsSome (held_at places at)
    told-after-live at some =
        let cut = between_in lines held.line place (stands_in places lines inside place held holds) in
        let there = inside.are.live held.line at (cut.2.0, subst (λ l. Contains l at) (sym cut.2.1) (go cut.0 cut.1 (sym (next_is held.line cut.0 cut.1 cut.2) ∙ some))) in
        subst IsSome (sym there.1) refl
      where
        go : (front back : List ℕ) → first_in back ≡ Some at → Contains (front ++ place ∷ back) at
        go front [] is_at = absurd (cc)
        go front (first ∷ back) is_at =
            let same : first ≡ at = cc in
            subst (λ p. Contains (front ++ place ∷ first ∷ back) p) same (subst (λ l. Contains l first) (append_assoc front (place ∷ []) (first ∷ back)) (contains_between first (front ++ place ∷ []) back))

    line_shown : (part : ℕ) (side : Side) → list_any (has_number number) (line_of book part side) ≡ true → line_of book part side ≡ orders_in places (line_at lines held.line)
    line_shown part side any =
        let own : list_any (has_number held.order.number) (get_or (book_in places lines) (line_number part side) []) ≡ true =
        ap (λ b. list_any (has_number held.order.number) (line_of b part side)) shown ∙ ap (λ n. list_any (has_number n) (line_of book part side)) is ∙ any in
        ap (λ b. line_of b part side) (sym shown)
        ∙ ap (λ k. get_or (book_in places lines) k []) (line-alone places lines inside place held holds (line_number part side) own)
        ∙ line-book places lines held.line

    pub told-after-none : next ≡ None → (part : ℕ) (side : Side) → list_any (has_number number) (line_of book part side) ≡ true → after_in number (line_of book part side) ≡ None
    told-after-none none part side any =
        ap (after_in number) (line_shown part side any) ∙ ap (λ n. after_in n (orders_in places (line_at lines held.line))) (sym is) ∙ behind.3
        ∙ first-none places lines inside behind.1 (sym behind.2 ∙ none)

    pub told-after-some : (at : ℕ) (behind_it : Held) → next ≡ Some at → held_at places at ≡ Some behind_it → (part : ℕ) (side : Side) → list_any (has_number number) (line_of book part side) ≡ true
        → after_in number (line_of book part side) ≡ Some behind_it.order
    told-after-some at behind_it some holds_it part side any =
        ap (after_in number) (line_shown part side any) ∙ ap (λ n. after_in n (orders_in places (line_at lines held.line))) (sym is) ∙ behind.3
        ∙ first-some places lines inside behind.1 at behind_it (sym behind.2 ∙ some) holds_it

-- a book in which no order rests
pub none-inside : (places : List (Option Held)) (lines : List (List ℕ)) (parts : ℕ) → places ≡ replicate 4096 None → AreKeyed number_of places → lines ≡ replicate (2 * parts) [] → AreRings lines → IsInside places lines
none-inside places lines parts free keyed empty rings =
    let none : List ℕ = [] in
    let many : length lines ≡ 2 * parts = ap length empty ∙ length-replicate (2 * parts) none in
    record {
      keyed = keyed;
      are = AreLines-none held_cmp side_of BelongsTo places lines (2 * parts) nothing empty rings;
      whole = omega (arith, many);
      sound = λ place held holds. absurd (let gone = nothing place in cc);
    }
  where
    nothing : (place : ℕ) → held_at places place ≡ None
    nothing place = ap (λ l. held_at l place) free ∙ elim (cases_lt place 4096) [
      | inl low ↦ get_or-replicate 4096 place None None low
      | inr high ↦ get_or_past (replicate {A = Option Held} 4096 None) place None (omega (arith, high, length-replicate {A = Option Held} 4096 None))
    ]

pub none-book : (places : List (Option Held)) (lines : List (List ℕ)) (count : ℕ) → lines ≡ replicate count [] → book_in places lines ≡ replicate count []
none-book places lines count empty = ap (book_in places) empty ∙ go count
  where
    go : (n : ℕ) → map (orders_in places) (replicate n []) ≡ replicate n []
    go zero = refl
    go (suc n) = ap (λ l. [] ∷ l) (go n)
