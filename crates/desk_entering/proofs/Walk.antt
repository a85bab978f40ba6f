-- A line of a book, walked from each order to the one behind it.
use Rattle.std.proofs.Common.{◌≡◌, ◌∙◌, inl, inr, ℕ, zero, suc, ◌≤◌, true, false, List, [], ◌∷◌, flat_map, get_or, length, sum_by, Option, Some, IsSome, refl, sym, ap, subst, arith}
use Rattle.std.proofs.lemmas.Bool.{true≢false}
use Rattle.std.proofs.lemmas.List.Sums.{sum_by-cons}
use Rattle.std.specs.Ordering.{is_lt, ordering_reverse}
use Rattle.std.specs.declared.cmp.Ordering.{Ordering}
use Rattle.std.specs.declared.cmp.Ordering.TheVariants.{Less, Equal, Greater}
use Rattle.order_kinds.specs.declared.side.Side.{Side}
use Rattle.zone_graph.specs.InOrder.{IsStrictlyInOrder}
use Rattle.zone_graph.specs.Route.{IsIn}
use Rattle.zone_graph.proofs.Finding.{find-IsIn}
use Rattle.zone_graph.proofs.Membership.{IsIn-left, IsIn-right}
use Rattle.zone_graph.proofs.Walks.{Differ, StandsAt, from_found, stands-at, stands-in}
use Rattle.contract_book.specs.declared.resting.Resting.{Resting}
use Rattle.contract_book.specs.Book.{IsBook, first_of, has_number, line_number, line_of, order_of}
use Rattle.contract_book.specs.Priority.{resting_total}
use Rattle.contract_book.specs.Resting.{resting_cmp}
use Rattle.contract_book.proofs.BookShapes.{any-some, has-number}
use Rattle.std.specs.List.{list_any}

-- lines are walked by the numbers of their orders
abbrev pub number_of : Resting → ℕ
number_of order = order.number

-- ---- the line of a book

itself : (side : Side) (order : Resting) → is_lt (resting_cmp side order order) ≡ false
itself side order = go (resting_cmp side order order) ((resting_total side).antisymm order order)
  where
    go : (r : Ordering) → r ≡ ordering_reverse r → is_lt r ≡ false
    go Less e = absurd (cc)
    go Equal e = refl
    go Greater e = refl

line-differ : (side : Side) (line : List Resting) → IsStrictlyInOrder (resting_cmp side) line
    → ((a b : Resting) → IsIn a line → IsIn b line → a.number ≡ b.number → a ≡ b) → Differ number_of line
line-differ side [] strict one = tt
line-differ side (order ∷ line) strict one = (
  λ other i. λ same.
      let is : order ≡ other = one order other (inl refl) (inr i) same in
      true≢false (sym (strict.0 other i) ∙ ap (λ s. is_lt (resting_cmp side order s)) (sym is) ∙ itself side order),
  line-differ side line strict.1 (λ a b i j. one a b (inr i) (inr j)),
)

in-book : (book : List (List Resting)) (place : ℕ) (order : Resting) → IsIn order (get_or book place []) → IsIn order (flat_map (λ line. line) book)
in-book [] place order i = absurd i
in-book (line ∷ book) zero order i = IsIn-left order line (flat_map (λ l. l) book) i
in-book (line ∷ book) (suc place) order i = IsIn-right order line (flat_map (λ l. l) book) (in-book book place order i)

length-most : (book : List (List Resting)) (place : ℕ) → length (get_or book place []) ≤ sum_by length book
length-most [] place = omega arith
length-most (line ∷ book) zero = omega (arith, sum_by-cons length line book)
length-most (line ∷ book) (suc place) = omega (arith, sum_by-cons length line book, length-most book place)

module _ (book : List (List Resting)) (is_book : IsBook book) (part : ℕ) (side : Side) where
  pub book-differ : Differ number_of (line_of book part side)
  book-differ = line-differ side (line_of book part side) (is_book.sorted part side) (λ a b i j same. (is_book.once part part side side a b i j same).2)

  pub line-few : length (line_of book part side) ≤ 4096
  line-few = let most = length-most book (line_number part side) in let few = is_book.few in omega (arith, most, few)

  pub line-found : (order : Resting) → IsIn order (line_of book part side) → IsSome (order_of book order.number)
  line-found order i =
      let found = find-IsIn (has_number order.number) (flat_map (λ line. line) book) order (in-book book (line_number part side) order i) (has-number order order.number refl) in
      subst IsSome (sym found.1) refl

  pub line-any : (order : Resting) → IsIn order (line_of book part side) → list_any (has_number order.number) (line_of book part side) ≡ true
  line-any order i = any-some (has_number order.number) order (line_of book part side) i (has-number order order.number refl)

-- ---- the walk

module _ (line : List Resting) (found : Option Resting) (order : Resting) (is : found ≡ Some order) (first : found ≡ first_of (from_found number_of line found)) where
  at : StandsAt number_of line order
  at = stands-at number_of line found order is first

  -- the order that was found is one of the line
  pub walk-in : IsIn order line
  walk-in = stands-in number_of line order at

  -- and something is left
  pub some-left : 1 ≤ length (from_found number_of line found)
  some-left = let many : length (from_found number_of line found) ≡ suc (length at.back) = ap length (ap (from_found number_of line) is ∙ at.here) in omega (arith, many)
