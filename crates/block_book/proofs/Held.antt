-- The book that places make: the blocks that they hold, by ascending number.
use Rattle.std.proofs.Common.{◌≡◌, ◌≢◌, ◌∙◌, inl, inr, ℕ, zero, suc, ◌<◌, List, [], ◌∷◌, length, set, replicate, Option, Some, None, refl, sym, ap, subst, arith}
use Rattle.std.proofs.lemmas.Bool.{cases_eq, cases_lt}
use Rattle.std.proofs.lemmas.List.{get_or-replicate, get_or-set_same, get_or-set_other, get_or_past, length-replicate}
use Rattle.zone_graph.specs.InOrder.{IsStrictlyInOrder, in_order}
use Rattle.zone_graph.specs.Route.{IsIn}
use Rattle.zone_graph.proofs.InOrder.{IsIn-put_in_order, from_put_in_order, in_order-filter, in_order-put}
use Rattle.std.proofs.lemmas.List.Sorted.{ranks_by}
use Rattle.record_pool.specs.Keyed.{AreKeyed, IsAbsent, held, held_at, held_count}
use Rattle.record_pool.proofs.KeyedLemmas.{held-within}
use Rattle.block_book.specs.declared.block.RestingBlock.{RestingBlock}
use Rattle.block_book.specs.Blocks.{number_cmp, number_of}
use Rattle.block_book.specs.Book.{block_of, with_block, without}
use Rattle.block_book.specs.Inside.{book_in}
use Rattle.block_book.specs.Priority.{number_total}
use Rattle.block_book.proofs.Lists.{Differ, apart, ascending-differ, find-block, find-none, from_ordered, from_without, in_ordered, in_without, length-ordered, number-ties, one_list, strict-in_order}

-- what is held, and where
pub from_held : (places : List (Option RestingBlock)) (block : RestingBlock) → IsIn block (held places) → (place : ℕ) × (held_at places place ≡ Some block)
from_held [] block i = absurd i
from_held (None ∷ places) block i = let rest = from_held places block i in (suc rest.0, rest.1)
from_held (Some first ∷ places) block (inl same) = (0, ap Some (sym same))
from_held (Some first ∷ places) block (inr i) = let rest = from_held places block i in (suc rest.0, rest.1)

pub in_held : (places : List (Option RestingBlock)) (place : ℕ) (block : RestingBlock) → held_at places place ≡ Some block → IsIn block (held places)
in_held [] place block holds = absurd (cc)
in_held (None ∷ places) zero block holds = absurd (cc)
in_held (None ∷ places) (suc place) block holds = in_held places place block holds
in_held (Some first ∷ places) zero block holds = inl (let same : first ≡ block = cc in sym same)
in_held (Some first ∷ places) (suc place) block holds = inr (in_held places place block holds)

-- different places hold blocks of different numbers
abbrev pub AreOnce : List (Option RestingBlock) → Type 0
AreOnce places = (one other : ℕ) (item same : RestingBlock) → held_at places one ≡ Some item → held_at places other ≡ Some same → item.number ≡ same.number → one ≡ other

differ-held : (places : List (Option RestingBlock)) → AreOnce places → Differ (held places)
differ-held [] once = tt
differ-held (None ∷ places) once = differ-held places (λ one other item same a b e. let both = once (suc one) (suc other) item same a b e in omega (arith, both))
differ-held (Some first ∷ places) once = (
  λ y i. λ e. let at = from_held places y i in let both = once 0 (suc at.0) first y refl at.1 e in absurd (omega (arith, both)),
  differ-held places (λ one other item same a b e. let both = once (suc one) (suc other) item same a b e in omega (arith, both)),
)

module _ (places : List (Option RestingBlock)) where
  pub in_book : (place : ℕ) (block : RestingBlock) → held_at places place ≡ Some block → IsIn block (book_in places)
  in_book place block holds = in_ordered number_cmp block (held places) (in_held places place block holds)

  pub from_book : (block : RestingBlock) → IsIn block (book_in places) → (place : ℕ) × (held_at places place ≡ Some block)
  from_book block i = from_held places block (from_ordered number_cmp block (held places) i)

  pub length-book : length (book_in places) ≡ held_count places
  length-book = length-ordered number_cmp (held places)

  module _ (keyed : AreKeyed number_of places) where
    pub ascending : IsStrictlyInOrder number_cmp (book_in places)
    ascending = strict-in_order number_cmp number_total number-ties (held places) (differ-held places (λ one other item same a b e. keyed.once one other item same a b e))

    pub differ : Differ (book_in places)
    differ = ascending-differ (book_in places) ascending

    pub found : (place number : ℕ) (block : RestingBlock) → held_at places place ≡ Some block → number_of block ≡ number → block_of (book_in places) number ≡ Some block
    found place number block holds is = find-block number block (book_in places) differ (in_book place block holds) is

    pub not_found : (number : ℕ) → IsAbsent number_of places number → block_of (book_in places) number ≡ None
    not_found number absent = find-none number (book_in places) (λ y i. let at = from_book y i in absent at.0 y at.1)

    pub absent_of : (number : ℕ) → block_of (book_in places) number ≡ None → IsAbsent number_of places number
    absent_of number none place block holds is = let there = found place number block holds is in absurd (cc)

    -- without a number that no place holds, nothing is left out
    pub kept : (number : ℕ) → IsAbsent number_of places number → book_in places ≡ without (book_in places) number
    kept number absent =
        one_list number_cmp number_total number-ties (book_in places) (without (book_in places) number) ascending
        (in_order-filter number_cmp _ (book_in places) ascending)
        (λ x i. let at = from_book x i in in_without number x (book_in places) i (absent at.0 x at.1))
        (λ y i. (from_without number y (book_in places) i).0)

    -- a block comes to a free place
    pub put-book : (place : ℕ) (block : RestingBlock) → place < length places → held_at places place ≡ None → IsAbsent number_of places block.number → AreKeyed number_of (set places place (Some block))
        → book_in (set places place (Some block)) ≡ with_block (book_in places) block
    put-book place block within free absent keyed_new =
        one_list number_cmp number_total number-ties (book_in (set places place (Some block))) (with_block (book_in places) block)
        (strict-in_order number_cmp number_total number-ties (held (set places place (Some block))) (differ-held (set places place (Some block)) (λ one other item same a b e. keyed_new.once one other item same a b e)))
        (in_order-put number_cmp (ranks_by number_total (λ (b : RestingBlock). b)) (book_in places) block ascending
        (λ y i before. let at = from_book y i in apart number_cmp number_total number-ties block y (λ same. absent at.0 y at.1 (sym same)) before))
        (λ x i.
        let at = from_held (set places place (Some block)) x (from_ordered number_cmp x (held (set places place (Some block))) i) in
        IsIn-put_in_order number_cmp x (book_in places) block (elim (cases_eq at.0 place) [
          | inl is ↦
              inl (let here : held_at (set places place (Some block)) at.0 ≡ Some block = ap (held_at (set places place (Some block))) is ∙ get_or-set_same places place (Some block) None within in
              let there = at.1 in let same : block ≡ x = cc in sym same)
          | inr differs ↦ inr (in_book at.0 x (sym (get_or-set_other places place at.0 (Some block) None differs) ∙ at.1))
        ]))
        (λ y i. elim (from_put_in_order number_cmp y (book_in places) block i) [
          | inl same ↦ subst (λ b. IsIn b (book_in (set places place (Some block)))) (sym same)
              (in_ordered number_cmp block (held (set places place (Some block))) (in_held (set places place (Some block)) place block (get_or-set_same places place (Some block) None within)))
          | inr j ↦
              let at = from_book y j in
              let other : at.0 ≢ place = λ is. (let gone : held_at places at.0 ≡ None = ap (held_at places) is ∙ free in let there = at.1 in absurd (cc)) in
              in_ordered number_cmp y (held (set places place (Some block))) (in_held (set places place (Some block)) at.0 y (get_or-set_other places place at.0 (Some block) None other ∙ at.1))
        ])

    -- the block of a place leaves
    pub take-book : (place : ℕ) (block : RestingBlock) → held_at places place ≡ Some block → AreKeyed number_of (set places place None)
        → book_in (set places place None) ≡ without (book_in places) block.number
    take-book place block holds keyed_new =
        one_list number_cmp number_total number-ties (book_in (set places place None)) (without (book_in places) block.number)
        (strict-in_order number_cmp number_total number-ties (held (set places place None)) (differ-held (set places place None) (λ one other item same a b e. keyed_new.once one other item same a b e)))
        (in_order-filter number_cmp _ (book_in places) ascending)
        (λ x i.
        let at = from_held (set places place None) x (from_ordered number_cmp x (held (set places place None)) i) in
        let other : at.0 ≢ place = λ is. (
        let gone : held_at (set places place None) at.0 ≡ None = ap (held_at (set places place None)) is ∙ get_or-set_same places place None None (held-within places place block holds) in
        let there = at.1 in absurd (cc)) in
        let was : held_at places at.0 ≡ Some x = sym (get_or-set_other places place at.0 None None other) ∙ at.1 in
        in_without block.number x (book_in places) (in_book at.0 x was) (λ same. other (keyed.once at.0 place x block was holds same)))
        (λ y i.
        let there = from_without block.number y (book_in places) i in
        let at = from_book y there.0 in
        let other : at.0 ≢ place = λ is. there.1 (
        let here : held_at places place ≡ Some y = ap (held_at places) (sym is) ∙ at.1 in let same : y ≡ block = cc in ap (λ (b : RestingBlock). b.number) same) in
        in_ordered number_cmp y (held (set places place None)) (in_held (set places place None) at.0 y (get_or-set_other places place at.0 None None other ∙ at.1)))

-- places that hold nothing
pub none-held : (place : ℕ) → held_at (replicate {A = Option RestingBlock} 4096 None) place ≡ None
none-held place = elim (cases_lt place 4096) [
  | inl low ↦ get_or-replicate 4096 place None None low
  | inr high ↦ get_or_past (replicate {A = Option RestingBlock} 4096 None) place None (omega (arith, high, length-replicate {A = Option RestingBlock} 4096 None))
]

pub none-book : (places : List (Option RestingBlock)) → ((place : ℕ) → held_at places place ≡ None) → book_in places ≡ []
none-book places free = ap (in_order number_cmp) (empty (held places) (λ y i. let at = from_held places y i in let none = free at.0 in let there = at.1 in absurd (cc)))
  where
    empty : (xs : List RestingBlock) → ((y : RestingBlock) → IsIn y xs → ⊥) → xs ≡ []
    empty [] none = refl
    empty (x ∷ xs) none = absurd (none x (inl refl))
