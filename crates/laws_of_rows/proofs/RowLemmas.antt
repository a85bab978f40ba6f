-- The rows that trades make, one after the other, are those of the market's definition.
use Rattle.std.proofs.Common.{◌≡◌, ◌∙◌, ℕ, ◌+◌, Bool, true, false, ◌||◌, List, [], ◌∷◌, ◌++◌, fold, map, sum_by, append_assoc, refl, sym, ap, if◌then◌else◌, arith}
use Rattle.std.proofs.lemmas.Bool.{or_parts, true≢false}
use Rattle.std.proofs.lemmas.List.{append-nil, map_push}
use Rattle.std.proofs.lemmas.List.Sums.{sum_by_push}
use Rattle.std.specs.List.{list_any}
use Rattle.order_kinds.specs.declared.order.OrderName.{OrderName}
use Rattle.order_kinds.specs.Same.{same_name}
use Rattle.zone_graph.specs.Pour.{lots_if}
use Rattle.market_model.specs.declared.event.Leg.{Leg}
use Rattle.market_model.specs.View.{row_of, rows_of}
use Rattle.laws_of_market.proofs.Tests.{same_name-eq, same_name-refl}
use Rattle.laws_of_rows.specs.declared.trades.Fill.{Fill}
use Rattle.laws_of_rows.specs.declared.trades.MakerRow.{MakerRow}
use Rattle.laws_of_rows.specs.Depth.{leg_of}
use Rattle.laws_of_rows.specs.Filled.{is_row_of, row_in, row_with, rows_with, with_fill, with_lots}

pub same_name-sym : (a b : OrderName) → same_name a b ≡ same_name b a
same_name-sym a b = go (same_name a b) (same_name b a) refl refl
  where
    go : (p q : Bool) → same_name a b ≡ p → same_name b a ≡ q → p ≡ q
    go true true e f = refl
    go false false e f = refl
    go true false e f = absurd (true≢false (sym (same_name-refl b) ∙ ap (same_name b) (sym (same_name-eq a b e)) ∙ f))
    go false true e f = absurd (true≢false (sym (same_name-refl a) ∙ ap (same_name a) (sym (same_name-eq b a f)) ∙ e))

-- the lots of the legs of a maker
abbrev lots_with : List Leg → OrderName → ℕ
lots_with legs name = sum_by (λ (leg : Leg). lots_if (same_name leg.maker name) leg.lots) legs

lots_with-more : (legs : List Leg) (leg : Leg) (name : OrderName) → lots_with (legs ++ leg ∷ []) name ≡ lots_with legs name + lots_if (same_name leg.maker name) leg.lots
lots_with-more legs leg name = sum_by_push (λ (l : Leg). lots_if (same_name l.maker name) l.lots) legs leg

abbrev has_maker : OrderName → List Leg → Bool
has_maker name kept = list_any (λ (other : Leg). same_name other.maker name) kept

abbrev keep_first : List Leg → Leg → List Leg
keep_first kept leg = if has_maker leg.maker kept then kept else (kept ++ leg ∷ [])

-- the row of a first trade, with the maker's name
abbrev named_row : List Leg → Leg → MakerRow
named_row legs first = record { maker = first.maker; row = row_of legs first }

named-any : (name : OrderName) (legs kept : List Leg) → list_any (is_row_of name) (map (named_row legs) kept) ≡ has_maker name kept
named-any name legs [] = refl
named-any name legs (first ∷ kept) = ap (λ b. same_name first.maker name || b) (named-any name legs kept)

-- more lots in the row of the maker
row-more : (legs : List Leg) (leg first : Leg) → with_lots leg.maker leg.lots (named_row legs first) ≡ named_row (legs ++ leg ∷ []) first
row-more legs leg first =
    go (same_name first.maker leg.maker)
    ∙ ap (λ b. at (lots_with legs first.maker + lots_if b leg.lots)) (same_name-sym first.maker leg.maker)
    ∙ ap at (sym (lots_with-more legs leg first.maker))
  where
    at : ℕ → MakerRow
    at n = record { maker = first.maker; row = record { price = first.price; lots = n } }

    go : (b : Bool) → (if b then at (lots_with legs first.maker + leg.lots) else at (lots_with legs first.maker)) ≡ at (lots_with legs first.maker + lots_if b leg.lots)
    go true = refl
    go false = ap at (let n = lots_with legs first.maker in let z : n ≡ n + 0 = omega arith in z)

rows-more : (legs : List Leg) (leg : Leg) (kept : List Leg) → map (with_lots leg.maker leg.lots) (map (named_row legs) kept) ≡ map (named_row (legs ++ leg ∷ [])) kept
rows-more legs leg [] = refl
rows-more legs leg (first ∷ kept) =
    ap (λ r. r ∷ map (with_lots leg.maker leg.lots) (map (named_row legs) kept)) (row-more legs leg first)
    ∙ ap (λ rs. named_row (legs ++ leg ∷ []) first ∷ rs) (rows-more legs leg kept)

-- no row changes where none is of the maker
pub rows-same : (name : OrderName) (lots : ℕ) (rows : List MakerRow) → list_any (is_row_of name) rows ≡ false → map (with_lots name lots) rows ≡ rows
rows-same name lots [] none = refl
rows-same name lots (row ∷ rows) none =
    let both = or_parts (same_name row.maker name) (list_any (is_row_of name) rows) none in
    rw both.0 (ap (λ rs. row ∷ rs) (rows-same name lots rows both.1))

any-append-one : {X : Type 0} (p : X → Bool) (xs : List X) (x : X) → list_any p (xs ++ x ∷ []) ≡ (list_any p xs || (p x || false))
any-append-one p [] x = refl
any-append-one p (y ∷ xs) x = ap (λ b. p y || b) (any-append-one p xs x) ∙ assoc (p y) (list_any p xs) (p x || false)
  where
    assoc : (a b c : Bool) → (a || (b || c)) ≡ ((a || b) || c)
    assoc true b c = refl
    assoc false b c = refl

-- nothing was traded with a maker that has no first trade
abbrev Covers : List Leg → List Leg → Type 0
Covers legs kept = (name : OrderName) → has_maker name kept ≡ false → lots_with legs name ≡ 0

covers-more : (legs kept : List Leg) (leg : Leg) → Covers legs kept → Covers (legs ++ leg ∷ []) (keep_first kept leg)
covers-more legs kept leg covers name = go (has_maker leg.maker kept) refl
  where
    none : has_maker name kept ≡ false → same_name leg.maker name ≡ false → lots_with (legs ++ leg ∷ []) name ≡ 0
    none absent other = lots_with-more legs leg name ∙ ap (λ b. lots_with legs name + lots_if b leg.lots) other ∙ (let zero_lots = covers name absent in omega (arith, zero_lots))

    go : (b : Bool) → has_maker leg.maker kept ≡ b → has_maker name (if b then kept else (kept ++ leg ∷ [])) ≡ false → lots_with (legs ++ leg ∷ []) name ≡ 0
    go true e absent = none absent (by (same_name leg.maker name) refl)
      where
        by : (s : Bool) → same_name leg.maker name ≡ s → s ≡ false
        by false f = refl
        by true f = absurd (true≢false (sym e ∙ ap (λ n. has_maker n kept) (same_name-eq leg.maker name f) ∙ absent))
    go false e absent =
        let both = or_parts (has_maker name kept) (same_name leg.maker name || false) (sym (any-append-one (λ (other : Leg). same_name other.maker name) kept leg) ∙ absent) in
        none both.0 (or_parts (same_name leg.maker name) false both.1).0

module _ (taker : OrderName) where
  fill-more : (legs kept : List Leg) (fill : Fill) → Covers legs kept
      → with_fill (map (named_row legs) kept) fill ≡ map (named_row (legs ++ leg_of taker fill ∷ [])) (keep_first kept (leg_of taker fill))
  fill-more legs kept fill covers =
      ap (λ b. if b then map (with_lots fill.maker fill.lots) (map (named_row legs) kept) else (map (named_row legs) kept ++ row_with fill ∷ []))
      (named-any fill.maker legs kept)
      ∙ go (has_maker fill.maker kept) refl
    where
      go : (b : Bool) → has_maker fill.maker kept ≡ b
          → (if b then map (with_lots fill.maker fill.lots) (map (named_row legs) kept) else (map (named_row legs) kept ++ row_with fill ∷ []))
          ≡ map (named_row (legs ++ leg_of taker fill ∷ [])) (if b then kept else (kept ++ leg_of taker fill ∷ []))
      go true e = rows-more legs (leg_of taker fill) kept
      go false e =
          ap (λ rows. rows ++ row_with fill ∷ [])
          (sym (rows-same fill.maker fill.lots (map (named_row legs) kept) (named-any fill.maker legs kept ∙ e)) ∙ rows-more legs (leg_of taker fill) kept)
          ∙ ap (λ (n : ℕ). map (named_row (legs ++ leg_of taker fill ∷ [])) kept ++ record { maker = fill.maker; row = record { price = fill.price; lots = n } } ∷ [])
          (sym (lots_with-more legs (leg_of taker fill) fill.maker ∙ ap (λ b. lots_with legs fill.maker + lots_if b fill.lots) (same_name-refl fill.maker)
          ∙ (let zero_lots = covers fill.maker e in omega (arith, zero_lots))))
          ∙ sym (map_push (named_row (legs ++ leg_of taker fill ∷ [])) kept (leg_of taker fill))

  rows-fold : (legs kept : List Leg) (fills : List Fill) → Covers legs kept
      → fold with_fill (map (named_row legs) kept) fills ≡ map (named_row (legs ++ map (leg_of taker) fills)) (fold keep_first kept (map (leg_of taker) fills))
  rows-fold legs kept [] covers = ap (λ ls. map (named_row ls) kept) (sym (append-nil legs))
  rows-fold legs kept (fill ∷ fills) covers =
      ap (λ rows. fold with_fill rows fills) (fill-more legs kept fill covers)
      ∙ rows-fold (legs ++ leg_of taker fill ∷ []) (keep_first kept (leg_of taker fill)) fills (covers-more legs kept (leg_of taker fill) covers)
      ∙ ap (λ ls. map (named_row ls) (fold keep_first (keep_first kept (leg_of taker fill)) (map (leg_of taker) fills))) (append_assoc legs (leg_of taker fill ∷ []) (map (leg_of taker) fills))

  rows-unnamed : (legs kept : List Leg) → map row_in (map (named_row legs) kept) ≡ map (row_of legs) kept
  rows-unnamed legs [] = refl
  rows-unnamed legs (first ∷ kept) = ap (λ rs. row_of legs first ∷ rs) (rows-unnamed legs kept)

  -- the rows of trades are those of the legs
  pub rows-are : (fills : List Fill) → map row_in (rows_with fills) ≡ rows_of (map (leg_of taker) fills)
  rows-are fills =
      ap (map row_in) (rows-fold [] [] fills (λ name absent. refl))
      ∙ rows-unnamed (map (leg_of taker) fills) (fold keep_first [] (map (leg_of taker) fills))
