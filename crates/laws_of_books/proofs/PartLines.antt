-- How the lines of the parts stand in a book.
use Rattle.std.proofs.Common.{◌≡◌, ◌∙◌, ◌&&◌, if◌then◌else◌, inl, inr, ℕ, zero, suc, true, List, [], ◌∷◌, flat_map, nat_le, Some, eqb-true, refl, sym, ap, subst, arith}
use Rattle.std.proofs.lemmas.Bool.{and_parts, leb-true, true≢false}
use Rattle.order_kinds.specs.declared.contract.Part.{Part}
use Rattle.order_kinds.specs.declared.contract.Part.TheVariants as part
use Rattle.order_kinds.specs.declared.side.Side.{Side}
use Rattle.order_kinds.specs.declared.side.Side.TheVariants.{Buy, Sell}
use Rattle.order_kinds.specs.Contract.{is_known, part_number}
use Rattle.order_kinds.specs.Same.{same_part, same_side}
use Rattle.zone_graph.specs.InOrder.{put_in_order}
use Rattle.zone_graph.specs.Route.{IsIn}
use Rattle.zone_graph.proofs.Membership.{IsIn-flat_map, from_flat_map}
use Rattle.contract_book.specs.declared.resting.Resting.{Resting}
use Rattle.contract_book.specs.Book.{has_number, line_of, order_of, parts_of, with_line, with_order}
use Rattle.contract_book.specs.Resting.{resting_cmp}
use Rattle.contract_book.proofs.BookShapes.{find-only, has-number}
use Rattle.market_model.specs.declared.event.Event.{Event}
use Rattle.laws_of_books.specs.BookOf.{book_by, book_of, contract_of, numbered_parts, resting_line}

-- the parts that an hour has are the seven
pub known-in : (part : Part) → is_known part ≡ true → IsIn part numbered_parts
known-in part.Hour known = inl refl
known-in (part.Half zero) known = absurd (true≢false (sym known))
known-in (part.Half (suc zero)) known = inr (inr (inr (inr (inr (inl refl)))))
known-in (part.Half (suc (suc zero))) known = inr (inr (inr (inr (inr (inr (inl refl))))))
known-in (part.Half (suc (suc (suc n)))) known =
    let most =
    leb-true (suc (suc (suc n))) 2 (and_parts (nat_le 1 (suc (suc (suc n)))) (nat_le (suc (suc (suc n))) 2) known).1 in absurd (omega (arith, most))
known-in (part.Quarter zero) known = absurd (true≢false (sym known))
known-in (part.Quarter (suc zero)) known = inr (inl refl)
known-in (part.Quarter (suc (suc zero))) known = inr (inr (inl refl))
known-in (part.Quarter (suc (suc (suc zero)))) known = inr (inr (inr (inl refl)))
known-in (part.Quarter (suc (suc (suc (suc zero))))) known = inr (inr (inr (inr (inl refl))))
known-in (part.Quarter (suc (suc (suc (suc (suc n)))))) known =
    let high : ℕ = suc (suc (suc (suc (suc n)))) in
    let most = leb-true high 4 (and_parts (nat_le 1 high) (nat_le high 4) known).1 in absurd (omega (arith, most))

-- what holds of each of the seven holds of each part that an hour has
pub each-part : (P : Part → Type 0) → P part.Hour → P (part.Quarter 1) → P (part.Quarter 2) → P (part.Quarter 3) → P (part.Quarter 4) → P (part.Half 1)
    → P (part.Half 2)
    → (part : Part) → is_known part ≡ true → P part
each-part P hour one two three four first second part known = go (known-in part known)
  where
    go : IsIn part numbered_parts → P part
    go (inl e) = subst P (sym e) hour
    go (inr (inl e)) = subst P (sym e) one
    go (inr (inr (inl e))) = subst P (sym e) two
    go (inr (inr (inr (inl e)))) = subst P (sym e) three
    go (inr (inr (inr (inr (inl e))))) = subst P (sym e) four
    go (inr (inr (inr (inr (inr (inl e)))))) = subst P (sym e) first
    go (inr (inr (inr (inr (inr (inr (inl e))))))) = subst P (sym e) second
    go (inr (inr (inr (inr (inr (inr (inr none))))))) = absurd none

module _ (line_in : Part → Side → List Resting) where
  -- the line of a part and side
  pub line_of-by : (part : Part) (side : Side) → is_known part ≡ true → line_of (book_by line_in) (part_number part) side ≡ line_in part side
  line_of-by part Buy known = each-part (λ p. line_of (book_by line_in) (part_number p) Buy ≡ line_in p Buy) refl refl refl refl refl refl refl part known
  line_of-by part Sell known =
      each-part (λ p. line_of (book_by line_in) (part_number p) Sell ≡ line_in p Sell) refl refl refl refl refl refl refl part known

pub parts_of-book : (events : List Event) (hour : ℕ) → parts_of (book_of events hour) ≡ 7
unfolding book_of
parts_of-book events hour = refl

pub line_of-book : (events : List Event) (hour : ℕ) (part : Part) (side : Side) → is_known part ≡ true
    → line_of (book_of events hour) (part_number part) side ≡ resting_line events (contract_of hour part) side
unfolding book_of
line_of-book events hour part side known = line_of-by (λ p s. resting_line events (contract_of hour p) s) part side known

-- the seven are parts that an hour has
pub in-known : (part : Part) → IsIn part numbered_parts → is_known part ≡ true
in-known part i = go i
  where
    known : {other : Part} → part ≡ other → is_known other ≡ true → is_known part ≡ true
    known e is = ap is_known e ∙ is

    go : IsIn part numbered_parts → is_known part ≡ true
    go (inl e) = known e refl
    go (inr (inl e)) = known e refl
    go (inr (inr (inl e))) = known e refl
    go (inr (inr (inr (inl e)))) = known e refl
    go (inr (inr (inr (inr (inl e))))) = known e refl
    go (inr (inr (inr (inr (inr (inl e)))))) = known e refl
    go (inr (inr (inr (inr (inr (inr (inl e))))))) = known e refl
    go (inr (inr (inr (inr (inr (inr (inr none))))))) = absurd none

-- books whose lines are the same are one
same-over : (one other : Part → Side → List Resting) (parts : List Part)
    → ((part : Part) (side : Side) → IsIn part parts → one part side ≡ other part side)
    → flat_map (λ part. one part Buy ∷ one part Sell ∷ []) parts ≡ flat_map (λ part. other part Buy ∷ other part Sell ∷ []) parts
same-over one other [] each = refl
same-over one other (part ∷ parts) each =
    ap (λ l. l ∷ one part Sell ∷ flat_map (λ p. one p Buy ∷ one p Sell ∷ []) parts) (each part Buy (inl refl))
    ∙ ap (λ l. other part Buy ∷ l ∷ flat_map (λ p. one p Buy ∷ one p Sell ∷ []) parts) (each part Sell (inl refl))
    ∙ ap (λ ls. other part Buy ∷ other part Sell ∷ ls) (same-over one other parts (λ p s i. each p s (inr i)))

pub book_by-same : (one other : Part → Side → List Resting) → ((part : Part) (side : Side) → is_known part ≡ true → one part side ≡ other part side)
    → book_by one ≡ book_by other
book_by-same one other each = same-over one other numbered_parts (λ part side i. each part side (in-known part i))

-- books of hours, where their lines are the same
pub book_of-same : (events more : List Event) (hour : ℕ)
    → ((part : Part) (side : Side) → is_known part ≡ true → resting_line events (contract_of hour part) side ≡ resting_line more (contract_of hour part) side)
    → book_of events hour ≡ book_of more hour
unfolding book_of
book_of-same events more hour each =
    book_by-same (λ p s. resting_line events (contract_of hour p) s) (λ p s. resting_line more (contract_of hour p) s) each

-- the book with another line of a part and side
abbrev pub line_put : (Part → Side → List Resting) → Part → Side → List Resting → Part → Side → List Resting
line_put line_in part side line other opposite = if same_part other part && same_side opposite side then line else line_in other opposite

pub with_line-by : (line_in : Part → Side → List Resting) (part : Part) (side : Side) (line : List Resting) → is_known part ≡ true
    → with_line (book_by line_in) (part_number part) side line ≡ book_by (line_put line_in part side line)
with_line-by line_in part Buy line known =
    each-part (λ p. with_line (book_by line_in) (part_number p) Buy line ≡ book_by (line_put line_in p Buy line)) refl refl refl refl refl refl refl part known
with_line-by line_in part Sell line known =
    each-part (λ p. with_line (book_by line_in) (part_number p) Sell line ≡ book_by (line_put line_in p Sell line)) refl refl refl refl refl refl refl part known

-- an order put into the line of its part and side
pub with_order-by : (line_in : Part → Side → List Resting) (part : Part) (order : Resting) → is_known part ≡ true
    → with_order (book_by line_in) (part_number part) order
    ≡ book_by (line_put line_in part order.side (put_in_order (resting_cmp order.side) (line_in part order.side) order))
with_order-by line_in part order known =
    ap (λ line. with_line (book_by line_in) (part_number part) order.side (put_in_order (resting_cmp order.side) line order)) (line_of-by line_in part order.side known)
    ∙ with_line-by line_in part order.side (put_in_order (resting_cmp order.side) (line_in part order.side) order) known

-- what rests in a book rests in one of its lines
pub from_book : (line_in : Part → Side → List Resting) (x : Resting) → IsIn x (flat_map (λ line. line) (book_by line_in))
    → (part : Part) × (side : Side) × (is_known part ≡ true) × IsIn x (line_in part side)
from_book line_in x i =
    let line = from_flat_map (λ line. line) x (book_by line_in) i in
    let part = from_flat_map (λ p. line_in p Buy ∷ line_in p Sell ∷ []) line.0 numbered_parts line.1 in
    elim part.2 [
      | inl buys ↦ (part.0, Buy, in-known part.0 part.1, subst (IsIn x) buys line.2)
      | inr rest ↦ elim rest [
        | inl sells ↦ (part.0, Sell, in-known part.0 part.1, subst (IsIn x) sells line.2)
        | inr none ↦ absurd none
      ]
    ]

pub in_book : (line_in : Part → Side → List Resting) (part : Part) (side : Side) (x : Resting) → is_known part ≡ true → IsIn x (line_in part side)
    → IsIn x (flat_map (λ line. line) (book_by line_in))
in_book line_in part side x known i =
    IsIn-flat_map (λ line. line) (line_in part side) x (book_by line_in)
    (IsIn-flat_map (λ p. line_in p Buy ∷ line_in p Sell ∷ []) part (line_in part side) numbered_parts (known-in part known) (either side)) i
  where
    either : (s : Side) → IsIn (line_in part s) (line_in part Buy ∷ line_in part Sell ∷ [])
    either Buy = inl refl
    either Sell = inr (inl refl)

-- the order of a number
pub order_of-by : (line_in : Part → Side → List Resting) (number : ℕ) (order : Resting) (part : Part) (side : Side) → is_known part ≡ true
    → IsIn order (line_in part side)
    → order.number ≡ number
    → ((p : Part) (s : Side) (other : Resting) → is_known p ≡ true → IsIn other (line_in p s) → other.number ≡ number → other ≡ order)
    → order_of (book_by line_in) number ≡ Some order
order_of-by line_in number order part side known there is only =
    find-only (has_number number) order (flat_map (λ line. line) (book_by line_in)) (in_book line_in part side order known there) (has-number order number is)
    (λ other i passes. let at = from_book line_in other i in only at.0 at.1 other at.2 at.3 (eqb-true other.number number passes))
