-- The rows that trades make add up to what is traded.
use Rattle.std.proofs.Common.{◌≡◌, ◌∙◌, inl, inr, ℕ, ◌+◌, ◌||◌, Bool, true, false, List, [], ◌∷◌, ◌++◌, fold, map, sum_by, refl, sym, ap, subst, arith, if◌then◌else◌}
use Rattle.std.proofs.lemmas.Bool.{true≢false}
use Rattle.std.proofs.lemmas.List.Sums.{sum_by-append, sum_by-cons}
use Rattle.std.specs.List.{list_any}
use Rattle.order_kinds.specs.declared.order.OrderName.{OrderName}
use Rattle.order_kinds.specs.Same.{same_name}
use Rattle.zone_graph.specs.Route.{IsIn}
use Rattle.zone_graph.proofs.Membership.{IsIn-append, from_map}
use Rattle.market_model.specs.declared.reply.ViewRow.{ViewRow}
use Rattle.market_model.specs.View.{rows_of}
use Rattle.laws_of_market.proofs.LineSums.{sum-map}
use Rattle.laws_of_market.proofs.Tests.{same_name-eq}
use Rattle.laws_of_rows.specs.declared.trades.Fill.{Fill}
use Rattle.laws_of_rows.specs.declared.trades.MakerRow.{MakerRow}
use Rattle.laws_of_rows.specs.Depth.{leg_of}
use Rattle.laws_of_rows.specs.Filled.{is_row_of, row_in, row_with, rows_with, with_fill, with_lots}
use Rattle.laws_of_rows.proofs.RowLemmas.{rows-are, rows-same, same_name-sym}
use Rattle.laws_of_views.proofs.FirstMakers.{lots_filled}

-- the lots of some rows
abbrev lots_in : List MakerRow → ℕ
lots_in rows = sum_by (λ row. row.row.lots) rows

-- each maker has one row
abbrev RowsOnce : List MakerRow → Type 0
RowsOnce [] = Unit {0}
RowsOnce (row ∷ rows) = ((other : MakerRow) → IsIn other rows → same_name row.maker other.maker ≡ false) × RowsOnce rows

more_maker : (name : OrderName) (lots : ℕ) (row : MakerRow) → (with_lots name lots row).maker ≡ row.maker
more_maker name lots row = by (same_name row.maker name)
  where
    by : (b : Bool) → (if b then record { maker = row.maker; row = record { price = row.row.price; lots = row.row.lots + lots } } else row).maker ≡ row.maker
    by true = refl
    by false = refl

more_lots : (name : OrderName) (lots : ℕ) (row : MakerRow) (b : Bool) → same_name row.maker name ≡ b → (with_lots name lots row).row.lots ≡ (if b then row.row.lots + lots else row.row.lots)
more_lots name lots row b is =
    ap (λ (t : Bool). (if t then record { maker = row.maker; row = record { price = row.row.price; lots = row.row.lots + lots } } else row).row.lots) is ∙ by b
  where
    by : (b : Bool) → (if b then record { maker = row.maker; row = record { price = row.row.price; lots = row.row.lots + lots } } else row).row.lots ≡ (if b then row.row.lots + lots else row.row.lots)
    by true = refl
    by false = refl

once-more : (name : OrderName) (lots : ℕ) (rows : List MakerRow) → RowsOnce rows → RowsOnce (map (with_lots name lots) rows)
once-more name lots [] once = tt
once-more name lots (row ∷ rows) once = (
  λ other i.
      let from = from_map (with_lots name lots) other rows i in
      ap (λ n. same_name n other.maker) (more_maker name lots row)
      ∙ ap (λ (r : MakerRow). same_name row.maker r.maker) from.2
      ∙ ap (same_name row.maker) (more_maker name lots from.0)
      ∙ once.0 from.0 from.1,
  once-more name lots rows once.1,
)

not_rows : (name : OrderName) (rows : List MakerRow) → ((row : MakerRow) → IsIn row rows → same_name row.maker name ≡ false) → list_any (is_row_of name) rows ≡ false
not_rows name [] none = refl
not_rows name (row ∷ rows) none = ap (λ b. b || list_any (is_row_of name) rows) (none row (inl refl)) ∙ not_rows name rows (λ r i. none r (inr i))

-- lots are added to the row of a maker that has one
added : (name : OrderName) (lots : ℕ) (rows : List MakerRow) → RowsOnce rows → list_any (is_row_of name) rows ≡ true → lots_in (map (with_lots name lots) rows) ≡ lots_in rows + lots
added name lots [] once none = absurd (true≢false (sym none))
added name lots (row ∷ rows) once some = by (same_name row.maker name) refl some (added name lots rows once.1)
  where
    by : (b : Bool) → same_name row.maker name ≡ b → (b || list_any (is_row_of name) rows) ≡ true
        → (list_any (is_row_of name) rows ≡ true → lots_in (map (with_lots name lots) rows) ≡ lots_in rows + lots) → lots_in (map (with_lots name lots) (row ∷ rows)) ≡ lots_in (row ∷ rows) + lots
    by true is there rest =
        let same = same_name-eq row.maker name is in
        let others : map (with_lots name lots) rows ≡ rows = rows-same name lots rows (not_rows name rows (λ r i.
        ap (same_name r.maker) (sym same) ∙ same_name-sym r.maker row.maker ∙ once.0 r i)) in
        let unchanged : lots_in (map (with_lots name lots) rows) ≡ lots_in rows = ap lots_in others in
        let own = more_lots name lots row true is in
        omega (arith, sum_by-cons (λ (r : MakerRow). r.row.lots) (with_lots name lots row) (map (with_lots name lots) rows), sum_by-cons (λ (r : MakerRow). r.row.lots) row rows, own, unchanged)
    by false is there rest =
        let own = more_lots name lots row false is in
        let later = rest there in
        omega (arith, sum_by-cons (λ (r : MakerRow). r.row.lots) (with_lots name lots row) (map (with_lots name lots) rows), sum_by-cons (λ (r : MakerRow). r.row.lots) row rows, own, later)

once-push : (rows : List MakerRow) (row : MakerRow) → RowsOnce rows → list_any (is_row_of row.maker) rows ≡ false → RowsOnce (rows ++ row ∷ [])
once-push [] row once none = (λ other i. absurd i, tt)
once-push (first ∷ rows) row once none =
    let parts = or_false (same_name first.maker row.maker) (list_any (is_row_of row.maker) rows) none in (
      λ other i. elim (IsIn-append other rows (row ∷ []) i) [
        | inl j ↦ once.0 other j
        | inr j ↦ elim j [ inl same ↦ ap (λ (r : MakerRow). same_name first.maker r.maker) same ∙ parts.0 | inr never ↦ absurd never ]
      ],
      once-push rows row once.1 parts.1,
    )
  where
    or_false : (a b : Bool) → (a || b) ≡ false → (a ≡ false) × (b ≡ false)
    or_false true b e = absurd (true≢false e)
    or_false false b e = (refl, e)

record Added (rows : List MakerRow) (fill : Fill) : Type 0 where
  once : RowsOnce (with_fill rows fill)
  lots : lots_in (with_fill rows fill) ≡ lots_in rows + fill.lots

add : (rows : List MakerRow) (fill : Fill) → RowsOnce rows → Added rows fill
add rows fill once = by (list_any (is_row_of fill.maker) rows) refl
  where
    by : (b : Bool) → list_any (is_row_of fill.maker) rows ≡ b → Added rows fill
    by true is =
        let with : with_fill rows fill ≡ map (with_lots fill.maker fill.lots) rows = ap (λ b. if b then map (with_lots fill.maker fill.lots) rows else (rows ++ row_with fill ∷ [])) is in
        record {
          once = subst RowsOnce (sym with) (once-more fill.maker fill.lots rows once);
          lots = ap lots_in with ∙ added fill.maker fill.lots rows once is;
        }
    by false is =
        let with : with_fill rows fill ≡ rows ++ row_with fill ∷ [] = ap (λ b. if b then map (with_lots fill.maker fill.lots) rows else (rows ++ row_with fill ∷ [])) is in
        let pushed = sum_by-append (λ (r : MakerRow). r.row.lots) rows (row_with fill ∷ []) in
        let own = sum_by-cons (λ (r : MakerRow). r.row.lots) (row_with fill) [] in
        let same : lots_in (with_fill rows fill) ≡ lots_in (rows ++ row_with fill ∷ []) = ap lots_in with in
        record {
          once = subst RowsOnce (sym with) (once-push rows (row_with fill) once is);
          lots = omega (arith, same, pushed, own);
        }

all_added : (rows : List MakerRow) (fills : List Fill) → RowsOnce rows → lots_in (fold with_fill rows fills) ≡ lots_in rows + lots_filled fills
all_added rows [] once = omega arith
all_added rows (fill ∷ fills) once =
    let one = add rows fill once in
    let rest = all_added (with_fill rows fill) fills one.once in
    let lots = one.lots in
    omega (arith, rest, lots, sum_by-cons (λ (f : Fill). f.lots) fill fills)

-- the rows of the legs of trades add up to the lots of these
pub rows-lots : (taker : OrderName) (fills : List Fill) → sum_by (λ (row : ViewRow). row.lots) (rows_of (map (leg_of taker) fills)) ≡ lots_filled fills
rows-lots taker fills =
    ap (sum_by (λ (row : ViewRow). row.lots)) (sym (rows-are taker fills))
    ∙ sum-map (λ (row : ViewRow). row.lots) row_in (rows_with fills)
    ∙ all_added [] fills tt
    ∙ (let all : 0 + lots_filled fills ≡ lots_filled fills = omega arith in all)
