-- Lists of blocks whose numbers differ: put in order, found by a number, walked.
use Rattle.std.proofs.Common.{◌≡◌, ◌≢◌, ◌∙◌, ◌⊎◌, inl, inr, ℕ, suc, ◌+◌, ◌<◌, ◌==◌, ◌&&◌, not, Bool, true, false, List, [], ◌∷◌, ◌++◌, length, filter, fold, Some, None, refl, sym, ap, subst, arith, eq-eqb, eqb-true}
use Rattle.std.proofs.lemmas.Bool.{true≢false}
use Rattle.std.proofs.lemmas.Cmp.{ranked}
use Rattle.std.proofs.lemmas.List.Sorted.{ranks_by}
use Rattle.std.specs.Cmp.{IsTotalOrder}
use Rattle.std.specs.Ordering.{MatchOrdering, is_lt, nat_cmp, ordering_reverse, ordering_then}
use Rattle.std.specs.declared.cmp.Ordering.{Ordering}
use Rattle.std.specs.declared.cmp.Ordering.TheVariants.{Less, Equal, Greater}
use Rattle.order_kinds.specs.declared.side.Side.{Side}
use Rattle.order_kinds.specs.declared.side.Side.TheVariants.{Buy, Sell}
use Rattle.order_kinds.specs.Same.{same_side}
use Rattle.order_kinds.specs.Side.{price_cmp}
use Rattle.zone_graph.specs.InOrder.{IsStrictlyInOrder, in_order, put_in_order}
use Rattle.zone_graph.specs.Route.{IsIn}
use Rattle.zone_graph.proofs.InOrder.{IsIn-put_in_order, from_put_in_order, in_order-one, in_order-put}
use Rattle.zone_graph.proofs.Membership.{IsIn-filter, from_filter}
use Rattle.block_book.specs.declared.block.RestingBlock.{RestingBlock}
use Rattle.block_book.specs.Blocks.{block_cmp, number_cmp}
use Rattle.block_book.specs.Book.{after_in, block_of, first_of, has_number, is_of, without}

-- the sides are the same
pub same_side-is : (a b : Side) → same_side a b ≡ true → a ≡ b
same_side-is Buy Buy e = refl
same_side-is Buy Sell e = absurd (true≢false (sym e))
same_side-is Sell Buy e = absurd (true≢false (sym e))
same_side-is Sell Sell e = refl

pub is-same_side : (a b : Side) → a ≡ b → same_side a b ≡ true
is-same_side Buy b e = subst (λ s. same_side Buy s ≡ true) e refl
is-same_side Sell b e = subst (λ s. same_side Sell s ≡ true) e refl

pub and-both : (a b : Bool) → (a && b) ≡ true → (a ≡ true) × (b ≡ true)
and-both true b e = (refl, e)
and-both false b e = absurd (true≢false (sym e))

pub is_of-last : (last : ℕ) (side : Side) (block : RestingBlock) → is_of last side block ≡ true → block.last ≡ last
is_of-last last side block e = eqb-true block.last last (and-both (block.last == last) (same_side block.side side) e).0

pub is_of-side : (last : ℕ) (side : Side) (block : RestingBlock) → is_of last side block ≡ true → block.side ≡ side
is_of-side last side block e = same_side-is block.side side (and-both (block.last == last) (same_side block.side side) e).1

pub is-is_of : (last : ℕ) (side : Side) (block : RestingBlock) → block.last ≡ last → block.side ≡ side → is_of last side block ≡ true
is-is_of last side block a b = rw (eq-eqb block.last last a, is-same_side block.side side b) refl

pub has-number : (block : RestingBlock) (number : ℕ) → block.number ≡ number → has_number number block ≡ true
has-number block number is = eq-eqb block.number number is

pub has_not-number : (block : RestingBlock) (number : ℕ) → block.number ≢ number → has_number number block ≡ false
has_not-number block number differs = go (block.number == number) refl
  where
    go : (b : Bool) → (block.number == number) ≡ b → b ≡ false
    go true e = absurd (differs (eqb-true block.number number e))
    go false e = refl

-- no two blocks have one number
abbrev pub Differ : List RestingBlock → Type 0
Differ [] = Unit {0}
Differ (x ∷ xs) = ((y : RestingBlock) → IsIn y xs → x.number ≢ y.number) × Differ xs

-- an order in which blocks tie of one number alone
abbrev pub Ties : (RestingBlock → RestingBlock → Ordering) → Type 0
Ties cmp = (a b : RestingBlock) → cmp a b ≡ Equal → a.number ≡ b.number

then-equal : (a b : Ordering) → ordering_then a b ≡ Equal → b ≡ Equal
then-equal Less b e = absurd (cc)
then-equal Equal b e = e
then-equal Greater b e = absurd (cc)

pub number-ties : Ties number_cmp
number-ties a b e = subst (λ o. MatchOrdering o (a.number < b.number) (a.number ≡ b.number) (b.number < a.number)) e (ranked a.number b.number (nat_cmp a.number b.number) refl)

pub block-ties : (side : Side) → Ties (block_cmp side)
block-ties side a b e =
    number-ties a b (then-equal (nat_cmp a.moment b.moment) (nat_cmp a.number b.number)
    (then-equal (price_cmp side a.price b.price) (ordering_then (nat_cmp a.moment b.moment) (nat_cmp a.number b.number)) e))

module _ (cmp : RestingBlock → RestingBlock → Ordering) (total : IsTotalOrder cmp) (ties : Ties cmp) where
  -- of two blocks of different numbers one comes before the other
  pub apart : (one other : RestingBlock) → one.number ≢ other.number → is_lt (cmp one other) ≡ false → is_lt (cmp other one) ≡ true
  apart one other differs not_before = go (cmp one other) refl
    where
      back : cmp other one ≡ ordering_reverse (cmp one other)
      back = total.antisymm other one

      go : (o : Ordering) → cmp one other ≡ o → is_lt (cmp other one) ≡ true
      go Less e = absurd (true≢false (sym (ap is_lt e) ∙ not_before))
      go Greater e = ap is_lt (back ∙ ap ordering_reverse e)
      go Equal e = absurd (differs (ties one other e))

  strict-fold : (ys xs : List RestingBlock) → IsStrictlyInOrder cmp ys → Differ xs → ((x y : RestingBlock) → IsIn x xs → IsIn y ys → x.number ≢ y.number) → IsStrictlyInOrder cmp (fold (put_in_order cmp) ys xs)
  strict-fold ys [] strict differ from = strict
  strict-fold ys (x ∷ xs) strict differ from =
      strict-fold (put_in_order cmp ys x) xs
      (in_order-put cmp (ranks_by total (λ (b : RestingBlock). b)) ys x strict (λ y i. apart x y (from x y (inl refl) i)))
      differ.1
      (λ z y i j. elim (from_put_in_order cmp y ys x j) [
        | inl same ↦ λ e. differ.0 z i (sym (e ∙ ap (λ (b : RestingBlock). b.number) same))
        | inr k ↦ from z y (inr i) k
      ])

  -- put in order, blocks of different numbers are strictly in order
  pub strict-in_order : (xs : List RestingBlock) → Differ xs → IsStrictlyInOrder cmp (in_order cmp xs)
  strict-in_order xs differ = strict-fold [] xs tt differ (λ x y i j. absurd j)

  -- two lists strictly in order of the same blocks are one
  pub one_list : (xs ys : List RestingBlock) → IsStrictlyInOrder cmp xs → IsStrictlyInOrder cmp ys → ((x : RestingBlock) → IsIn x xs → IsIn x ys) → ((y : RestingBlock) → IsIn y ys → IsIn y xs) → xs ≡ ys
  one_list xs ys strict strict_too there back = in_order-one cmp (ranks_by total (λ (b : RestingBlock). b)) xs ys strict strict_too there back

-- by ascending number, numbers differ
pub ascending-differ : (xs : List RestingBlock) → IsStrictlyInOrder number_cmp xs → Differ xs
ascending-differ [] strict = tt
ascending-differ (x ∷ xs) strict = (λ y i. λ same. unequal x y (strict.0 y i) same, ascending-differ xs strict.1)
  where
    unequal : (a b : RestingBlock) → is_lt (number_cmp a b) ≡ true → a.number ≢ b.number
    unequal a b before = λ same.
        let less = subst (λ o. is_lt o ≡ true → a.number < b.number) refl (λ e. lower (nat_cmp a.number b.number) refl e) before in
        omega (arith, less, same)
      where
        lower : (o : Ordering) → nat_cmp a.number b.number ≡ o → is_lt (nat_cmp a.number b.number) ≡ true → a.number < b.number
        lower Less e t = subst (λ p. MatchOrdering p (a.number < b.number) (a.number ≡ b.number) (b.number < a.number)) e (ranked a.number b.number (nat_cmp a.number b.number) refl)
        lower Equal e t = absurd (true≢false (sym t ∙ ap is_lt e))
        lower Greater e t = absurd (true≢false (sym t ∙ ap is_lt e))

pub differ-filter : (p : RestingBlock → Bool) (xs : List RestingBlock) → Differ xs → Differ (filter p xs)
differ-filter p [] differ = tt
differ-filter p (x ∷ xs) differ = go (p x) refl (differ-filter p xs differ.1)
  where
    go : (b : Bool) → p x ≡ b → Differ (filter p xs) → Differ (filter p (x ∷ xs))
    go true e rest = rw e (λ y i. differ.0 y (from_filter p y xs i).0, rest)
    go false e rest = rw e rest

-- putting in order keeps the blocks
from_fold : (cmp : RestingBlock → RestingBlock → Ordering) (z : RestingBlock) (ys xs : List RestingBlock) → IsIn z (fold (put_in_order cmp) ys xs) → IsIn z ys ⊎ IsIn z xs
from_fold cmp z ys [] h = inl h
from_fold cmp z ys (x ∷ xs) h = elim (from_fold cmp z (put_in_order cmp ys x) xs h) [
  | inl i ↦ elim (from_put_in_order cmp z ys x i) [ inl e ↦ inr (inl e) | inr j ↦ inl j ]
  | inr i ↦ inr (inr i)
]

in_fold : (cmp : RestingBlock → RestingBlock → Ordering) (z : RestingBlock) (ys xs : List RestingBlock) → IsIn z ys ⊎ IsIn z xs → IsIn z (fold (put_in_order cmp) ys xs)
in_fold cmp z ys [] h = elim h [ inl i ↦ i | inr i ↦ absurd i ]
in_fold cmp z ys (x ∷ xs) h = in_fold cmp z (put_in_order cmp ys x) xs (elim h [
  | inl i ↦ inl (IsIn-put_in_order cmp z ys x (inr i))
  | inr i ↦ elim i [ inl e ↦ inl (IsIn-put_in_order cmp z ys x (inl e)) | inr j ↦ inr j ]
])

pub from_ordered : (cmp : RestingBlock → RestingBlock → Ordering) (z : RestingBlock) (xs : List RestingBlock) → IsIn z (in_order cmp xs) → IsIn z xs
from_ordered cmp z xs h = elim (from_fold cmp z [] xs h) [ inl i ↦ absurd i | inr i ↦ i ]

pub in_ordered : (cmp : RestingBlock → RestingBlock → Ordering) (z : RestingBlock) (xs : List RestingBlock) → IsIn z xs → IsIn z (in_order cmp xs)
in_ordered cmp z xs h = in_fold cmp z [] xs (inr h)

-- and their number
length-put : (cmp : RestingBlock → RestingBlock → Ordering) (ys : List RestingBlock) (x : RestingBlock) → length (put_in_order cmp ys x) ≡ suc (length ys)
length-put cmp [] x = refl
length-put cmp (y ∷ ys) x = go (is_lt (cmp x y)) refl (length-put cmp ys x)
  where
    go : (b : Bool) → is_lt (cmp x y) ≡ b → length (put_in_order cmp ys x) ≡ suc (length ys) → length (put_in_order cmp (y ∷ ys) x) ≡ suc (suc (length ys))
    go true e rest = rw e refl
    go false e rest = rw e (ap suc rest)

length-fold : (cmp : RestingBlock → RestingBlock → Ordering) (ys xs : List RestingBlock) → length (fold (put_in_order cmp) ys xs) ≡ length ys + length xs
length-fold cmp ys [] = omega arith
length-fold cmp ys (x ∷ xs) = let rest = length-fold cmp (put_in_order cmp ys x) xs in omega (arith, rest, length-put cmp ys x)

pub length-ordered : (cmp : RestingBlock → RestingBlock → Ordering) (xs : List RestingBlock) → length (in_order cmp xs) ≡ length xs
length-ordered cmp xs = let all = length-fold cmp [] xs in omega (arith, all)

-- what is found by a number
pub find-block : (number : ℕ) (x : RestingBlock) (xs : List RestingBlock) → Differ xs → IsIn x xs → x.number ≡ number → block_of xs number ≡ Some x
find-block number x [] differ i is = absurd i
find-block number x (y ∷ xs) differ (inl same) is =
    rw (has-number y number (ap (λ (b : RestingBlock). b.number) (sym same) ∙ is)) (ap Some (sym same))
find-block number x (y ∷ xs) differ (inr i) is =
    rw (has_not-number y number (λ e. differ.0 x i (e ∙ sym is))) (find-block number x xs differ.1 i is)

pub find-none : (number : ℕ) (xs : List RestingBlock) → ((y : RestingBlock) → IsIn y xs → y.number ≢ number) → block_of xs number ≡ None
find-none number [] none = refl
find-none number (y ∷ xs) none = rw (has_not-number y number (none y (inl refl))) (find-none number xs (λ z i. none z (inr i)))

-- what stands behind a block
pub after-through : (front back : List RestingBlock) (block : RestingBlock) → ((y : RestingBlock) → IsIn y front → y.number ≢ block.number) → after_in block.number (front ++ block ∷ back) ≡ first_of back
after-through [] back block none = rw (has-number block block.number refl) refl
after-through (y ∷ front) back block none = rw (has_not-number y block.number (none y (inl refl))) (after-through front back block (λ z i. none z (inr i)))

-- what is left without a number
pub from_without : (number : ℕ) (y : RestingBlock) (xs : List RestingBlock) → IsIn y (without xs number) → IsIn y xs × (y.number ≢ number)
from_without number y xs i =
    let there = from_filter (λ b. not (has_number number b)) y xs i in
    (there.0, λ same. true≢false (sym there.1 ∙ ap not (has-number y number same)))

pub in_without : (number : ℕ) (y : RestingBlock) (xs : List RestingBlock) → IsIn y xs → y.number ≢ number → IsIn y (without xs number)
in_without number y xs i differs = IsIn-filter (λ b. not (has_number number b)) y xs i (ap not (has_not-number y number differs))

-- no block has a number that is not found
pub number_absent : (number : ℕ) (xs : List RestingBlock) → block_of xs number ≡ None → (y : RestingBlock) → IsIn y xs → y.number ≢ number
number_absent number [] none y i = absurd i
number_absent number (x ∷ xs) none y i = λ same. go (has_number number x) refl same (λ rest j. number_absent number xs rest y j)
  where
    go : (b : Bool) → has_number number x ≡ b → y.number ≡ number → (block_of xs number ≡ None → IsIn y xs → y.number ≢ number) → ⊥
    go true e same later = let found : block_of (x ∷ xs) number ≡ Some x = rw e refl in absurd (cc)
    go false e same later = elim i [
      | inl is ↦ true≢false (sym (has-number x number (ap (λ (b : RestingBlock). b.number) (sym is) ∙ same)) ∙ e)
      | inr j ↦
          let rest : block_of xs number ≡ None = (let whole : block_of (x ∷ xs) number ≡ block_of xs number = rw e refl in sym whole ∙ none) in
          later rest j same
    ]
