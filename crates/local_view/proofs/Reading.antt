-- A line that is read, one order after the other.
use Rattle.std.proofs.Common.{◌≡◌, ◌∙◌, inl, inr, ℕ, zero, suc, ◌+◌, ◌<◌, ◌≤◌, ◌==◌, Bool, true, false, cond, List, [], ◌∷◌, ◌++◌, filter, get_or, length, map, min, not, replicate, set, Option, Some, None, append_assoc, eq-eqb, refl, sym, ap, subst, arith}
use Rattle.std.proofs.lemmas.Bool.{ne_eqb}
use Rattle.std.proofs.lemmas.Bool.Decides.{eqb_tells}
use Rattle.std.proofs.lemmas.List.{append-nil, get_or-set_other, get_or-set_same, length-set}
use Rattle.std.proofs.lemmas.List.Filters.{sum_by-filter_both}
use Rattle.std.proofs.lemmas.List.Sums.{sum_by-cons}
use Rattle.order_kinds.specs.declared.side.Side.{Side}
use Rattle.zone_graph.specs.Pour.{lots_if}
use Rattle.market_model.specs.declared.board.Shown.{Shown}
use Rattle.market_model.specs.declared.reply.ViewRow.{ViewRow}
use Rattle.market_model.specs.Board.{BoardState, IsBoard, first_shown, resting_line, shown_behind}
use Rattle.market_model.specs.Orders.{Standing}
use Rattle.local_view.specs.declared.whole.LineOrder.{LineOrder}
use Rattle.local_view.specs.declared.whole.WholeLine.{WholeLine}
use Rattle.local_view.specs.Poured.{row_if}
use Rattle.local_view.specs.Whole.{IsRead, all_shown, in_line, rows_shown, shown_in}
use Rattle.local_view.proofs.Lines.{StandsAt, from_shown, walk-begins}
use Rattle.local_view.proofs.Listed.{row-first}

-- some lots and others are together all, as far as a view asks for lots
abbrev AreTogether : (some others all : ℕ) → Type 0
AreTogether some others all = min (some + others) 4294967295 ≡ min all 4294967295

-- what was read so far, and the orders from the next one on, are together the line; sums stop at what a view asks for
pub record IsReading (board : BoardState) (part : ℕ) (side : Side) (next : Option Shown) (read : List LineOrder) (rows : List ViewRow) (shown : List ℕ) (all : ℕ) : Type 0 where
  pub stands : next ≡ first_shown (from_shown (resting_line board part side) next)
  pub orders : read ++ map in_line (from_shown (resting_line board part side) next) ≡ map in_line (resting_line board part side)
  pub onward : rows ++ rows_shown (from_shown (resting_line board part side) next) ≡ rows_shown (resting_line board part side)
  pub size : length shown ≡ 64
  pub zones : (zone : ℕ) → zone < 64 → AreTogether (get_or shown zone 0) (shown_in (from_shown (resting_line board part side) next) zone) (shown_in (resting_line board part side) zone)
  pub sums : AreTogether all (all_shown (from_shown (resting_line board part side) next)) (all_shown (resting_line board part side))

zeros : (count k : ℕ) → get_or {A = ℕ} (replicate {A = ℕ} count 0) k 0 ≡ 0
zeros zero k = refl
zeros (suc count) zero = refl
zeros (suc count) (suc k) = zeros count k

shown_more : (order : Standing) (orders : List Standing) (zone : ℕ) → shown_in (order ∷ orders) zone ≡ lots_if (order.order.zone == zone) order.shown + shown_in orders zone
shown_more order orders zone = by (order.order.zone == zone)
  where
    by : (b : Bool) → all_shown (cond b (order ∷ filter (λ (o : Standing). o.order.zone == zone) orders) (filter (λ (o : Standing). o.order.zone == zone) orders))
        ≡ lots_if b order.shown + shown_in orders zone
    by true = sum_by-cons (λ (o : Standing). o.shown) order (filter (λ (o : Standing). o.order.zone == zone) orders)
    by false = omega arith

-- a zone shows no more than all do
pub zone-within : (orders : List Standing) (zone : ℕ) → shown_in orders zone ≤ all_shown orders
zone-within orders zone =
    let parts = sum_by-filter_both (λ (o : Standing). o.order.zone == zone) (λ (o : Standing). not (o.order.zone == zone)) (λ o. refl) (λ (o : Standing). o.shown) orders in
    omega (arith, parts)

module _ (board : BoardState) (part : ℕ) (side : Side) where
  abbrev orders : List Standing
  orders = resting_line board part side

  pub begins : (next : Option Shown) (read : List LineOrder) (rows : List ViewRow) → next ≡ first_shown (resting_line board part side) → read ≡ [] → rows ≡ []
      → IsReading board part side next read rows (replicate 64 0) 0
  begins next read rows first none_read empty =
      let all : from_shown orders next ≡ orders = ap (from_shown orders) first ∙ walk-begins orders in
      record {
        stands = first ∙ ap first_shown (sym all);
        orders = ap (λ os. os ++ map in_line (from_shown orders next)) none_read ∙ ap (map in_line) all;
        onward = ap (λ rs. rs ++ rows_shown (from_shown orders next)) empty ∙ ap rows_shown all;
        size = refl;
        zones = λ zone less. let none = zeros 64 zone in let same = ap (λ os. shown_in os zone) all in omega (arith, none, same);
        sums = (let same = ap all_shown all in omega (arith, same));
      }

  -- at the end all is read
  pub ends : (whole : WholeLine) (all : ℕ) (next : Option Shown) → IsBoard board → IsReading board part side next whole.orders.items whole.rows.items whole.shown all → next ≡ None
      → (whole.fits ≡ true → all < 4294967295) → IsRead board part side whole
  ends whole all next is reading end fits =
      let none : from_shown orders next ≡ [] = ap (from_shown orders) end in
      let sums : AreTogether all 0 (all_shown orders) = subst (λ os. AreTogether all (all_shown os) (all_shown orders)) none reading.sums in
      record {
        is_board = is;
        orders = sym (append-nil whole.orders.items) ∙ ap (λ os. whole.orders.items ++ map in_line os) (sym none) ∙ reading.orders;
        rows = sym (append-nil whole.rows.items) ∙ ap (λ os. whole.rows.items ++ rows_shown os) (sym none) ∙ reading.onward;
        zones = λ e zone less.
            let own : AreTogether (get_or whole.shown zone 0) 0 (shown_in orders zone) = subst (λ os. AreTogether (get_or whole.shown zone 0) (shown_in os zone) (shown_in orders zone)) none (reading.zones zone less) in
            omega (arith, own, sums, fits e, zone-within orders zone);
        few = λ e. omega (arith, sums, fits e);
      }

  -- one order more
  module _ (next after : Option Shown) (order : Shown) (read read_after : List LineOrder) (rows rows_after : List ViewRow) (shown : List ℕ) (all more own_more : ℕ)
      (reading : IsReading board part side next read rows shown all) (at : StandsAt (resting_line board part side) order) (found : next ≡ Some order) where
    here : from_shown orders next ≡ at.order ∷ at.back
    here = ap (from_shown orders) found ∙ at.here

    lots_are : order.lots ≡ at.order.shown
    lots_are = ap (λ (s : Shown). s.lots) at.is

    zone_is : order.zone ≡ at.order.order.zone
    zone_is = ap (λ (s : Shown). s.zone) at.is

    abbrev changed : List ℕ
    changed = set shown order.zone own_more

    abbrev as_read : Shown → LineOrder
    as_read s = record { zone = s.zone; price = s.price; lots = s.lots }

    pub one-read : order.zone < 64 → more ≡ min (all + order.lots) 4294967295 → own_more ≡ min (get_or shown order.zone 0 + order.lots) 4294967295
        → read_after ≡ read ++ record { zone = order.zone; price = order.price; lots = order.lots } ∷ []
        → rows_after ≡ rows ++ row_if order.price order.lots [] → after ≡ shown_behind order.number (resting_line board part side)
        → IsReading board part side after read_after rows_after (set shown order.zone own_more) more
    one-read within more_is own_is read_are rows_are behind = record {
      stands = after_is ∙ ap first_shown (sym rest);
      orders =
          ap (λ os. os ++ map in_line (from_shown orders after)) read_are
          ∙ append_assoc read (as_read order ∷ []) (map in_line (from_shown orders after))
          ∙ ap (λ os. read ++ os) (ap (λ os. as_read order ∷ map in_line os) rest ∙ ap (λ s. as_read s ∷ map in_line at.back) at.is ∙ sym (ap (map in_line) here))
          ∙ reading.orders;
      onward =
          ap (λ rs. rs ++ rows_shown (from_shown orders after)) rows_are
          ∙ append_assoc rows (row_if order.price order.lots []) (rows_shown (from_shown orders after))
          ∙ ap (λ rs. rows ++ rs)
          (sym (row-first order.price order.lots (rows_shown (from_shown orders after)))
          ∙ ap (λ os. row_if order.price order.lots (rows_shown os)) rest
          ∙ ap (λ (s : Shown). row_if s.price s.lots (rows_shown at.back)) at.is
          ∙ sym (ap rows_shown here))
          ∙ reading.onward;
      size = length-set shown order.zone own_more ∙ reading.size;
      zones = λ zone less.
          let old = reading.zones zone less in
          let was : shown_in (from_shown orders next) zone ≡ lots_if (at.order.order.zone == zone) at.order.shown + shown_in at.back zone =
          ap (λ os. shown_in os zone) here ∙ shown_more at.order at.back zone in
          let later : shown_in (from_shown orders after) zone ≡ shown_in at.back zone = ap (λ os. shown_in os zone) rest in
          elim (eqb_tells zone order.zone) [
            | inl same ↦
                let own : get_or changed zone 0 ≡ own_more = ap (λ z. get_or changed z 0) same.1 ∙ get_or-set_same shown order.zone own_more 0 place in
                let before : own_more ≡ min (get_or shown zone 0 + order.lots) 4294967295 = own_is ∙ ap (λ z. min (get_or shown z 0 + order.lots) 4294967295) (sym same.1) in
                let counts : lots_if (at.order.order.zone == zone) at.order.shown ≡ at.order.shown =
                ap (λ b. lots_if b at.order.shown) (eq-eqb at.order.order.zone zone (sym zone_is ∙ sym same.1)) in
                omega (arith, old, was, later, own, before, counts, lots_are)
            | inr apart ↦
                let own : get_or changed zone 0 ≡ get_or shown zone 0 = get_or-set_other shown order.zone zone own_more 0 apart.1 in
                let none : lots_if (at.order.order.zone == zone) at.order.shown ≡ 0 =
                ap (λ b. lots_if b at.order.shown) (ne_eqb at.order.order.zone zone (λ e. apart.1 (sym (zone_is ∙ e)))) in
                omega (arith, old, was, later, own, none)
          ];
      sums = (
          let old = reading.sums in
          let was : all_shown (from_shown orders next) ≡ at.order.shown + all_shown at.back = ap all_shown here ∙ sum_by-cons (λ (o : Standing). o.shown) at.order at.back in
          let later : all_shown (from_shown orders after) ≡ all_shown at.back = ap all_shown rest in
          omega (arith, old, was, later, lots_are, more_is));
    }
      where
        after_is : after ≡ first_shown at.back
        after_is = behind ∙ at.next

        rest : from_shown orders after ≡ at.back
        rest = ap (from_shown orders) after_is ∙ at.onward

        place : order.zone < length shown
        place = let size = reading.size in omega (arith, within, size)
