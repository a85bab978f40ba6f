-- What the calls of a book make of its places and lines.
use Rattle.std.proofs.Common.{◌≡◌, ◌≢◌, ◌∙◌, inl, inr, ℕ, ◌<◌, true, false, List, [], ◌∷◌, ◌++◌, length, set, get_or, map, Option, Some, None, refl, sym, ap, subst, arith}
use Rattle.std.proofs.lemmas.Bool.{cases_eq, true≢false}
use Rattle.std.proofs.lemmas.Cmp.{ranked}
use Rattle.std.proofs.lemmas.List.{get_or-set_same, get_or-set_other, length-set, map-append}
use Rattle.std.proofs.lemmas.List.Sorted.{ranks_by}
use Rattle.std.specs.Ordering.{MatchOrdering, is_lt, nat_cmp, ordering_reverse, ordering_then}
use Rattle.std.specs.declared.cmp.Ordering.{Ordering}
use Rattle.std.specs.declared.cmp.Ordering.TheVariants.{Less, Equal, Greater}
use Rattle.order_kinds.specs.declared.side.Side.{Side}
use Rattle.order_kinds.specs.Side.{price_cmp}
use Rattle.order_pool.specs.Lines.{line_at, StandsBetween, IsInserted, IsRemoved}
use Rattle.order_pool.specs.Rings.{AreRings}
use Rattle.order_pool.proofs.MoveLemmas.{between_in}
use Rattle.zone_graph.specs.InOrder.{IsStrictlyInOrder, put_in_order}
use Rattle.zone_graph.specs.Route.{IsIn}
use Rattle.zone_graph.proofs.InOrder.{in_order-ahead, in_order-behind, put_in_order-between, put_in_order-map}
use Rattle.zone_graph.proofs.Membership.{from_map}
use Rattle.record_pool.specs.Keyed.{AreKeyed, IsAbsent, held_at}
use Rattle.record_pool.specs.Lines.{AreLines}
use Rattle.record_pool.specs.Ranked.{IsSpot, records_of}
use Rattle.record_pool.proofs.KeyedLemmas.{held-within}
use Rattle.record_pool.proofs.LineLemmas.{AreLines-put, AreLines-set, AreLines-take, from_records, line-through, other-kept, put-here, put-other, set-here, spot-inserted, take-here}
use Rattle.contract_book.specs.declared.held.Held.{Held}
use Rattle.contract_book.specs.declared.resting.Resting.{Resting}
use Rattle.contract_book.specs.Book.{changed, line_without, without}
use Rattle.contract_book.specs.Inside.{BelongsTo, IsInside, book_in, held_cmp, number_of, orders_in, side_of}
use Rattle.contract_book.specs.Priority.{held_total}
use Rattle.contract_book.specs.Resting.{IsSound, resting_cmp}
use Rattle.contract_book.proofs.BookShapes.{changed-at, without-at}
use Rattle.contract_book.proofs.Insides.{book-set, is_alone, line-book, line-less, line_is, order_in, stands_in}

then-equal : (a b : Ordering) → ordering_then a b ≡ Equal → b ≡ Equal
then-equal Less b e = absurd (cc)
then-equal Equal b e = e
then-equal Greater b e = absurd (cc)

-- two orders of different numbers: one comes before the other
pub apart_by_number : (side : Side) (one other : Held) → number_of one ≢ number_of other → is_lt (held_cmp side one other) ≡ false → is_lt (held_cmp side other one) ≡ true
apart_by_number side one other differs not_before = go (held_cmp side one other) refl
  where
    tied : nat_cmp (number_of one) (number_of other) ≡ Equal → number_of one ≡ number_of other
    tied e = subst (λ o. MatchOrdering o (number_of one < number_of other) (number_of one ≡ number_of other) (number_of other < number_of one)) e (ranked (number_of one) (number_of other) (nat_cmp (number_of one) (number_of other)) refl)

    back : held_cmp side other one ≡ ordering_reverse (held_cmp side one other)
    back = (held_total side).antisymm other one

    go : (o : Ordering) → held_cmp side one other ≡ o → is_lt (held_cmp side other one) ≡ true
    go Less e = absurd (true≢false (sym (ap is_lt e) ∙ not_before))
    go Greater e = ap is_lt (back ∙ ap ordering_reverse e)
    go Equal e =
        absurd (differs (tied (then-equal (nat_cmp one.order.moment other.order.moment) (nat_cmp (number_of one) (number_of other))
        (then-equal (price_cmp side one.order.price other.order.price) (ordering_then (nat_cmp one.order.moment other.order.moment) (nat_cmp (number_of one) (number_of other))) e))))

module _ (places : List (Option Held)) (lines : List (List ℕ)) (inside : IsInside places lines) where
  -- an order comes to a free place, which joins a line
  module _ (held : Held) (place : ℕ) (before : Option ℕ) (within : held.line < length lines) (belongs : BelongsTo held.line held) (absent : IsAbsent number_of places held.order.number)
      (free : held_at places place ≡ None) (low : place < 4096) (spot : IsSpot (held_cmp held.order.side) places (line_at lines held.line) held before) where
    sided : IsSpot (held_cmp (side_of held.line)) places (line_at lines held.line) held before
    sided = subst (λ s. IsSpot (held_cmp s) places (line_at lines held.line) held before) belongs.1 spot

    size : place < length places
    size = omega (arith, low, inside.keyed.size)

    module _ (new : List (List ℕ)) (inserted : IsInserted lines new held.line before place) where
      new_is : new ≡ set lines held.line (sided.front ++ place ∷ sided.back)
      new_is = spot-inserted (held_cmp (side_of held.line)) places lines new held.line place held before within sided inserted

      line : List Resting
      line = put_in_order (resting_cmp held.order.side) (orders_in places (line_at lines held.line)) held.order

      line_here : orders_in (set places place (Some held)) (line_at new held.line) ≡ put_in_order (resting_cmp held.order.side) (orders_in places (line_at lines held.line)) held.order
      line_here =
          ap (λ l. orders_in (set places place (Some held)) (line_at l held.line)) new_is
          ∙ ap (orders_in (set places place (Some held))) (get_or-set_same lines held.line (sided.front ++ place ∷ sided.back) [] within)
          ∙ ap (map order_in) (put-here held_cmp side_of BelongsTo places lines inside.are held.line place held before within size free sided)
          ∙ put_in_order-map order_in (held_cmp (side_of held.line)) (resting_cmp (side_of held.line)) (λ a b. refl) (records_of places (line_at lines held.line)) held
          ∙ ap (λ s. put_in_order (resting_cmp s) (orders_in places (line_at lines held.line)) held.order) (sym belongs.1)

      pub put_in-book : book_in (set places place (Some held)) new
          ≡ set (book_in places lines) held.line (put_in_order (resting_cmp held.order.side) (get_or (book_in places lines) held.line []) held.order)
      put_in-book =
          book-set places (set places place (Some held)) lines new held.line (put_in_order (resting_cmp held.order.side) (orders_in places (line_at lines held.line)) held.order)
          (ap length new_is ∙ length-set lines held.line (sided.front ++ place ∷ sided.back)) within
          (λ i inside_i differs.
          ap (λ l. orders_in (set places place (Some held)) (line_at l i)) new_is
          ∙ ap (orders_in (set places place (Some held))) (get_or-set_other lines held.line i (sided.front ++ place ∷ sided.back) [] differs)
          ∙ ap (map order_in) (put-other held_cmp side_of BelongsTo places lines inside.are held.line place held before within size free sided i inside_i))
          line_here
          ∙ ap (λ l. set (book_in places lines) held.line (put_in_order (resting_cmp held.order.side) l held.order)) (sym (line-book places lines held.line))

      pub put_in-inside : AreRings new → AreKeyed number_of (set places place (Some held)) → IsSound held.order → IsInside (set places place (Some held)) new
      put_in-inside rings keyed sound =
          let strict = AreLines-put held_cmp side_of BelongsTo places lines inside.are held.line place held before within size free sided (held_total (side_of held.line)) (subst AreRings new_is rings) belongs
          (λ other i not_before.
          let found = from_records places other (line_at lines held.line) i in
          apart_by_number (side_of held.line) held other (λ same. absent found.0 other found.2 (sym same)) not_before) in
          record {
            keyed = keyed;
            are = subst (λ l. AreLines held_cmp side_of BelongsTo (set places place (Some held)) l) (sym new_is) strict;
            whole =
                let many : length new ≡ length lines = ap length new_is ∙ length-set lines held.line (sided.front ++ place ∷ sided.back) in
                rw many inside.whole;
            sound = λ at other holds. elim (cases_eq at place) [
              | inl is ↦
                  let here : held_at (set places place (Some held)) at ≡ Some held = ap (held_at (set places place (Some held))) is ∙ get_or-set_same places place (Some held) None size in
                  let same : held ≡ other = cc in
                  subst (λ (h : Held). IsSound h.order) same sound
              | inr differs ↦ inside.sound at other (sym (get_or-set_other places place at (Some held) None differs) ∙ holds)
            ];
          }

  -- the order of a place
  module _ (place : ℕ) (held : Held) (holds : held_at places place ≡ Some held) where
    cut : (front : List ℕ) × (back : List ℕ) × StandsBetween lines held.line front place back
    cut = between_in lines held.line place (stands_in places lines inside place held holds)

    was_held : (at : ℕ) (other : Held) → held_at (set places place None) at ≡ Some other → held_at places at ≡ Some other
    was_held at other holds_other = elim (cases_eq at place) [
      | inl is ↦
          let none : held_at (set places place None) at ≡ None = ap (held_at (set places place None)) is ∙ get_or-set_same places place None None (held-within places place held holds) in
          absurd (cc)
      | inr differs ↦ sym (get_or-set_other places place at None None differs) ∙ holds_other
    ]

    -- it is taken out
    module _ (new : List (List ℕ)) (removed : IsRemoved lines new place) where
      less_is : new ≡ set lines held.line (cut.0 ++ cut.1)
      less_is = removed held.line cut.0 cut.1 cut.2

      pub take_out-many : length new ≡ length lines
      take_out-many = ap length less_is ∙ length-set lines held.line (cut.0 ++ cut.1)

      pub take_out-book : book_in (set places place None) new ≡ without (book_in places lines) held.order.number
      take_out-book =
          book-set places (set places place None) lines new held.line (orders_in places cut.0 ++ orders_in places cut.1) take_out-many cut.2.0
          (λ i inside_i differs.
          ap (λ l. orders_in (set places place None) (line_at l i)) less_is
          ∙ ap (orders_in (set places place None)) (get_or-set_other lines held.line i (cut.0 ++ cut.1) [] differs)
          ∙ ap (map order_in) (other-kept held_cmp side_of BelongsTo places lines inside.are held.line place held holds cut.0 cut.1 cut.2 None i inside_i differs))
          (ap (λ l. orders_in (set places place None) (line_at l held.line)) less_is
          ∙ ap (orders_in (set places place None)) (get_or-set_same lines held.line (cut.0 ++ cut.1) [] cut.2.0)
          ∙ ap (map order_in) (take-here held_cmp side_of BelongsTo places lines inside.are held.line place held holds cut.0 cut.1 cut.2)
          ∙ map-append order_in (records_of places cut.0) (records_of places cut.1))
          ∙ sym (without-at (book_in places lines) held.order.number held.line (is_alone places lines inside place held holds)
          ∙ ap (set (book_in places lines) held.line) (ap (line_without held.order.number) (line-book places lines held.line) ∙ line-less places lines inside place held holds cut.0 cut.1 cut.2))

      pub take_out-inside : AreRings new → AreKeyed number_of (set places place None) → IsInside (set places place None) new
      take_out-inside rings keyed = record {
        keyed = keyed;
        are = subst (λ l. AreLines held_cmp side_of BelongsTo (set places place None) l) (sym less_is) (AreLines-take held_cmp side_of BelongsTo places lines inside.are held.line place held holds cut.0 cut.1 cut.2 (subst AreRings less_is rings));
        whole = rw take_out-many inside.whole;
        sound = λ at other holds_other. inside.sound at other (was_held at other holds_other);
      }

    pub take_out-absent : IsAbsent number_of (set places place None) held.order.number
    take_out-absent at other holds_other same =
        let was = was_held at other holds_other in
        let is : at ≡ place = inside.keyed.once at place other held was holds same in
        let none : held_at (set places place None) at ≡ None = ap (held_at (set places place None)) is ∙ get_or-set_same places place None None (held-within places place held holds) in
        absurd (cc)

    -- another record of the same rank stands in its stead
    module _ (order : Resting) (number : held.order.number ≡ order.number) (side : held.order.side ≡ order.side) (price : held.order.price ≡ order.price) (moment : held.order.moment ≡ order.moment) where
      abbrev other_held : Held
      other_held = record { line = held.line; order = order }

      same_rank : (s : Side) (one : Held) → held_cmp s other_held one ≡ held_cmp s held one
      same_rank s one =
          ap (λ p. ordering_then (price_cmp s p one.order.price) (ordering_then (nat_cmp order.moment one.order.moment) (nat_cmp order.number one.order.number))) (sym price)
          ∙ ap (λ m. ordering_then (price_cmp s held.order.price one.order.price) (ordering_then (nat_cmp m one.order.moment) (nat_cmp order.number one.order.number))) (sym moment)
          ∙ ap (λ n. ordering_then (price_cmp s held.order.price one.order.price) (ordering_then (nat_cmp held.order.moment one.order.moment) (nat_cmp n one.order.number))) (sym number)

      same_rank_too : (s : Side) (one : Held) → held_cmp s one other_held ≡ held_cmp s one held
      same_rank_too s one =
          ap (λ p. ordering_then (price_cmp s one.order.price p) (ordering_then (nat_cmp one.order.moment order.moment) (nat_cmp one.order.number order.number))) (sym price)
          ∙ ap (λ m. ordering_then (price_cmp s one.order.price held.order.price) (ordering_then (nat_cmp one.order.moment m) (nat_cmp one.order.number order.number))) (sym moment)
          ∙ ap (λ n. ordering_then (price_cmp s one.order.price held.order.price) (ordering_then (nat_cmp one.order.moment held.order.moment) (nat_cmp one.order.number n))) (sym number)

      belongs : BelongsTo held.line held
      belongs = line_is places lines inside held.line place held (stands_in places lines inside place held holds) holds

      line_strict : IsStrictlyInOrder (held_cmp (side_of held.line)) (records_of places cut.0 ++ held ∷ records_of places cut.1)
      line_strict =
          subst (IsStrictlyInOrder (held_cmp (side_of held.line))) (line-through held_cmp side_of BelongsTo places lines inside.are held.line place held holds cut.0 cut.1 cut.2) (inside.are.sorted held.line cut.2.0)

      own_side : order.side ≡ side_of held.line
      own_side = sym side ∙ belongs.1

      ahead : (y : Resting) → IsIn y (orders_in places cut.0) → is_lt (resting_cmp order.side order y) ≡ false
      ahead y i =
          let made = from_map order_in y (records_of places cut.0) i in
          let before_it = in_order-ahead (held_cmp (side_of held.line)) (records_of places cut.0) (records_of places cut.1) held line_strict made.0 made.1 in
          ap (λ s. is_lt (resting_cmp s order y)) own_side ∙ ap (λ o. is_lt (resting_cmp (side_of held.line) order o)) made.2
          ∙ ap is_lt (same_rank (side_of held.line) made.0) ∙ (ranks_by (held_total (side_of held.line)) (λ (h : Held). h)).one_way made.0 held before_it

      behind : (y : Resting) → IsIn y (orders_in places cut.1) → is_lt (resting_cmp order.side order y) ≡ true
      behind y i =
          let made = from_map order_in y (records_of places cut.1) i in
          let behind_it = in_order-behind (held_cmp (side_of held.line)) (records_of places cut.0) (records_of places cut.1) held line_strict made.0 made.1 in
          ap (λ s. is_lt (resting_cmp s order y)) own_side ∙ ap (λ o. is_lt (resting_cmp (side_of held.line) order o)) made.2
          ∙ ap is_lt (same_rank (side_of held.line) made.0) ∙ behind_it

      pub set-book : book_in (set places place (Some (record { line = held.line; order = order }))) lines ≡ changed (book_in places lines) order
      set-book =
          book-set places (set places place (Some other_held)) lines lines held.line (orders_in places cut.0 ++ order ∷ orders_in places cut.1) refl cut.2.0
          (λ i inside_i differs. ap (map order_in) (other-kept held_cmp side_of BelongsTo places lines inside.are held.line place held holds cut.0 cut.1 cut.2 (Some other_held) i inside_i differs))
          (ap (map order_in) (set-here held_cmp side_of BelongsTo places lines inside.are held.line place held holds cut.0 cut.1 cut.2 other_held)
          ∙ map-append order_in (records_of places cut.0) (other_held ∷ records_of places cut.1))
          ∙ ap (set (book_in places lines) held.line) (
          sym (put_in_order-between (resting_cmp order.side) (orders_in places cut.0) (orders_in places cut.1) order ahead behind)
          ∙ ap (λ l. put_in_order (resting_cmp order.side) l order) (sym (ap (line_without held.order.number) (line-book places lines held.line) ∙ line-less places lines inside place held holds cut.0 cut.1 cut.2))
          )
          ∙ sym (changed-at (book_in places lines) held.order.number held.line (is_alone places lines inside place held holds) order (sym number))

      pub set-inside : AreKeyed number_of (set places place (Some (record { line = held.line; order = order }))) → IsSound order → IsInside (set places place (Some (record { line = held.line; order = order }))) lines
      set-inside keyed sound = record {
        keyed = keyed;
        are = AreLines-set held_cmp side_of BelongsTo places lines inside.are held.line place held holds cut.0 cut.1 cut.2 other_held (refl, own_side) (same_rank (side_of held.line)) (same_rank_too (side_of held.line));
        whole = inside.whole;
        sound = λ at other holds_other. elim (cases_eq at place) [
          | inl is ↦
              let here : held_at (set places place (Some other_held)) at ≡ Some other_held = ap (held_at (set places place (Some other_held))) is ∙ get_or-set_same places place (Some other_held) None (held-within places place held holds) in
              let same : other_held ≡ other = cc in
              subst (λ (h : Held). IsSound h.order) same sound
          | inr differs ↦ inside.sound at other (sym (get_or-set_other places place at (Some other_held) None differs) ∙ holds_other)
        ];
      }
