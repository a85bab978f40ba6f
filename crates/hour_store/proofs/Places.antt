-- Where the orders of a number rest, in a book into which one was put, and in which one was changed.
use Rattle.std.proofs.Common.{◌≡◌, ◌∙◌, inl, inr, ℕ, ◌≤◌, false, List, [], get_or, length, set, Option, Some, None, refl, sym, ap, subst, arith}
use Rattle.std.proofs.Math.ListN.{get_or-map}
use Rattle.std.proofs.lemmas.Bool.{cases_eq, cases_lt, true≢false}
use Rattle.std.proofs.lemmas.List.{get_or-set_other, get_or-set_same, get_or_past, length-set}
use Rattle.std.specs.List.{list_any}
use Rattle.order_kinds.specs.declared.side.Side.{Side}
use Rattle.order_kinds.specs.declared.side.Side.TheVariants.{Buy, Sell}
use Rattle.zone_graph.specs.InOrder.{put_in_order}
use Rattle.zone_graph.specs.Route.{IsIn}
use Rattle.zone_graph.proofs.InOrder.{from_put_in_order}
use Rattle.contract_book.specs.declared.resting.Ice.{Ice}
use Rattle.contract_book.specs.declared.resting.Resting.{Resting}
use Rattle.contract_book.specs.Book.{IsBook, changed, changed_line, filled, has_number, line_number, line_of, line_without, order_of, reduced, with_order, without}
use Rattle.contract_book.specs.Resting.{order_after, order_less, resting_cmp}
use Rattle.contract_book.proofs.Told.{filled-emptied, filled-rest, reduced-is}
use Rattle.contract_book.proofs.BookShapes.{after-number}
use Rattle.laws_of_books.proofs.Updates.{from_after, from_less, from_stands, is-stands}
use Rattle.hour_store.specs.Contents.{IsOfPart}
use Rattle.hour_store.specs.TakenBack.{HasItsPlace}

-- lines of one number are of one part and side
pub line_number-same : (part other : ℕ) (side otherwise : Side) → line_number part side ≡ line_number other otherwise → (part ≡ other) × (side ≡ otherwise)
line_number-same part other Buy Buy same = (omega (arith, same), refl)
line_number-same part other Sell Sell same = (omega (arith, same), refl)
line_number-same part other Buy Sell same = absurd (let no : ⊥ = omega (arith, same) in no)
line_number-same part other Sell Buy same = absurd (let no : ⊥ = omega (arith, same) in no)

-- ---- an order that came to rest

module _ (book : List (List Resting)) (part : ℕ) (order : Resting) (none : (k : ℕ) → list_any (has_number order.number) (get_or book k []) ≡ false) where
  abbrev own : ℕ
  own = line_number part order.side

  abbrev line : List Resting
  line = put_in_order (resting_cmp order.side) (get_or book own []) order

  not_there : (k : ℕ) (other : Resting) → IsIn other (get_or book k []) → other.number ≡ order.number → ⊥
  not_there k other i same = true≢false (sym (is-stands order.number (get_or book k []) other i same) ∙ none k)

  from_line : (other : Resting) → IsIn other line → other.number ≡ order.number → other ≡ order
  from_line other i same = elim (from_put_in_order (resting_cmp order.side) other (get_or book own []) order i) [
    | inl is ↦ is
    | inr old ↦ absurd (not_there own other old same)
  ]

  here : (other : Resting) → IsIn other (get_or (set book own line) own []) → other.number ≡ order.number → other ≡ order
  here other i same = elim (cases_lt own (length book)) [
    | inl low ↦ from_line other (subst (IsIn other) (get_or-set_same book own line [] low) i) same
    | inr high ↦
        let past : length (set book own line) ≤ own = (let long = length-set book own line in omega (arith, long, high)) in
        absurd (subst (IsIn other) (get_or_past (set book own line) own [] past) i)
  ]

  pub rested-placed : HasItsPlace (with_order book part order) part order
  rested-placed place side other i same = elim (cases_eq (line_number place side) own) [
    | inl is ↦
        let at = line_number-same place part side order.side is in
        (at.0, at.1, ap (λ (o : Resting). o.zone) (here other (subst (λ k. IsIn other (get_or (set book own line) k [])) is i) same))
    | inr apart ↦
        absurd (not_there (line_number place side) other
        (subst (IsIn other) (get_or-set_other book own (line_number place side) line [] apart) i) same)
  ]

-- ---- an order that was changed

zone-after : (order : Resting) (lots moment : ℕ) → (order_after order lots moment).zone ≡ order.zone
zone-after order lots moment = go order.ice refl
  where
    go : (ice : Option Ice) → order.ice ≡ ice → (order_after order lots moment).zone ≡ order.zone
    go None e = rw e refl
    go (Some ice) e = rw e refl

-- nobody has a number that was left out
pub without-placed : (book : List (List Resting)) (part : ℕ) (order : Resting) → HasItsPlace (without book order.number) part order
without-placed book part order place side other i same =
    absurd ((from_less order.number (line_of book place side) other (subst (IsIn other) (get_or-map (line_without order.number) book (line_number place side) []) i)).1 same)

module _ (book : List (List Resting)) (is_book : IsBook book) (part : ℕ) (order : Resting) (of_part : IsOfPart book part order) where
  -- with another record of it
  changed-placed : (record_of : Resting) → record_of.number ≡ order.number → record_of.zone ≡ order.zone → HasItsPlace (changed book record_of) part order
  changed-placed record_of number zone place side other i same =
      elim (from_after (record { number = record_of.number; next = Some record_of }) (line_of book place side) other (λ (o : Resting) e. let is : record_of ≡ o = cc in ap (λ (r : Resting). r.number) (sym is))
      (subst (IsIn other) (get_or-map (changed_line record_of) book (line_number place side) []) i)) [
        | inl old ↦ absurd (old.1 (same ∙ sym number))
        | inr new ↦
            let at = from_stands record_of.number (line_of book place side) new.0 in
            let there = is_book.once place part side order.side at.0 order at.1 of_part (at.2 ∙ number) in
            let is : record_of ≡ other = (let both : Some record_of ≡ Some other = new.1 in cc) in
            (there.0, there.1, ap (λ (r : Resting). r.zone) (sym is) ∙ zone)
      ]

  module _ (number : ℕ) (found : order_of book number ≡ Some order) (own_number : order.number ≡ number) where
    pub filled-placed : (lots moment : ℕ) → HasItsPlace (filled book number lots moment) part order
    filled-placed lots moment = elim (cases_eq order.left lots) [
      | inl all ↦
          subst (λ b. HasItsPlace b part order) (ap (without book) own_number ∙ sym (filled-emptied book number order found lots moment all)) (without-placed book part order)
      | inr some ↦
          subst (λ b. HasItsPlace b part order) (sym (filled-rest book number order found lots moment some))
          (changed-placed (order_after order lots moment) (after-number order lots moment) (zone-after order lots moment))
    ]

    pub reduced-placed : (by : ℕ) → HasItsPlace (reduced book number by) part order
    reduced-placed by = subst (λ b. HasItsPlace b part order) (sym (reduced-is book number order found by)) (changed-placed (order_less order by) refl refl)
