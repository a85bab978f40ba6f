-- The rows and cuts of a line, one order after the other.
use Rattle.std.proofs.Common.{◌≡◌, ◌≢◌, ◌∙◌, ◌⊎◌, inl, inr, ℕ, zero, suc, ◌+◌, ◌-◌, ◌<◌, ◌≤◌, ◌==◌, List, [], ◌∷◌, ◌++◌, drop, get_or, get_or-set_other, get_or-set_same, length, map, min, replicate, set, take, eq-eqb, refl, sym, ap, subst, arith}
use Rattle.std.proofs.lemmas.Bool.{cases_lt}
use Rattle.std.proofs.lemmas.Bool.Decides.{eqb_tells}
use Rattle.std.proofs.lemmas.List.{append-nil, get_or-map, get_or-replicate, length-append, length-map, length-replicate, length-set, length-take, take-append-drop, take_all, take_more}
use Rattle.zone_graph.specs.Pour.{lots_if}
use Rattle.zone_graph.specs.Route.{IsIn}
use Rattle.zone_graph.proofs.Membership.{IsIn-left}
use Rattle.zone_graph.proofs.Places.{at_place}
use Rattle.order_kinds.specs.declared.price.Price.{Price}
use Rattle.market_model.specs.declared.reply.ViewRow.{ViewRow}
use Rattle.market_model.specs.Orders.{Standing}
use Rattle.local_view.specs.declared.cuts.Cuts.{Cuts}
use Rattle.local_view.specs.declared.whole.LineOrder.{LineOrder}
use Rattle.local_view.specs.Certified.{left_after, rows_in_turn}
use Rattle.local_view.specs.Cuts.{AreAlong, AreCutting, IsNoLater, cut_by, given_by}
use Rattle.local_view.specs.Poured.{row_if}
use Rattle.local_view.specs.Whole.{all_shown, in_line, rows_shown, shown_in}
use Rattle.local_view.proofs.Certificates.{left-is, row-append, shown-cons, shown-more, shown-other, shown-own, turn-push}
use Rattle.local_view.proofs.Reading.{zone-within}

-- the order at a place gives some lots, and where they are not all that it shows its zone has its cut there
pub record IsTaken (place : ℕ) (order : LineOrder) (lots : ℕ) (old new : Cuts) : Type 0 where
  pub most : lots ≤ order.lots
  pub early : place < cut_by old order.zone
  pub given : new.given ≡ set old.given order.zone (given_by old order.zone + lots)
  pub size : length new.places ≡ length old.places
  pub cuts : (zone : ℕ) → IsNoLater place (cut_by old zone) (cut_by new zone)
  pub part : lots < order.lots → cut_by new order.zone ≡ place
  pub all : order.lots ≤ lots → new.places ≡ old.places

-- ---- the orders of a line

first_of_line : (line : List Standing) → 0 < length line → Standing
first_of_line [] some = absurd (omega (arith, some))
first_of_line (order ∷ line) some = order

-- the order at a place, behind those before it
pub record IsOrderAt (line : List Standing) (place : ℕ) (seen : LineOrder) : Type 0 where
  pub order : Standing
  pub is : in_line order ≡ seen
  pub there : IsIn order line
  pub next : take (place + 1) line ≡ take place line ++ order ∷ []

pub order_at : (line : List Standing) (orders : List LineOrder) (place : ℕ) (d : LineOrder) → orders ≡ map in_line line → place < length orders
    → IsOrderAt line place (get_or orders place d)
order_at line orders place d are there =
    let within : place < length line = omega (arith, there, ap length are ∙ length-map line in_line) in
    let first = first_of_line line (omega (arith, within)) in
    record {
      order = get_or line place first;
      is = sym (ap (λ (list : List LineOrder). get_or list place d) are ∙ get_or-map in_line line place first d within);
      there = at_place line place first within;
      next = take_more line place first within;
    }

-- it is of one of so many zones
pub seen_small : (line : List Standing) (orders : List LineOrder) (place : ℕ) (d : LineOrder) → orders ≡ map in_line line → place < length orders
    → ((order : Standing) → IsIn order line → order.order.zone < 64) → (get_or orders place d).zone < 64
seen_small line orders place d are there zones =
    let at = order_at line orders place d are there in
    subst (λ (seen : LineOrder). seen.zone < 64) at.is (zones at.order at.there)

-- ---- rows of orders that give the same

-- zones give the same, or all that their orders show
abbrev pub AreAlike : (taken others : ℕ → ℕ) → List Standing → Type 0
AreAlike taken others line = (zone : ℕ) → (taken zone ≡ others zone) ⊎ ((shown_in line zone ≤ taken zone) × (shown_in line zone ≤ others zone))

shown-first : (order : Standing) (line : List Standing) → order.shown ≤ shown_in (order ∷ line) order.order.zone
shown-first order line =
    let own : lots_if (order.order.zone == order.order.zone) order.shown ≡ order.shown = ap (λ b. lots_if b order.shown) (eq-eqb order.order.zone order.order.zone refl) in
    omega (arith, shown-cons order line order.order.zone, own)

turn-alike : (taken others : ℕ → ℕ) (line : List Standing) → AreAlike taken others line → rows_in_turn taken line ≡ rows_in_turn others line
unfolding rows_in_turn
turn-alike taken others [] alike = refl
turn-alike taken others (order ∷ line) alike =
    let lots : min order.shown (taken order.order.zone) ≡ min order.shown (others order.order.zone) = elim (alike order.order.zone) [
      | inl same ↦ ap (min order.shown) same
      | inr all ↦ omega (arith, all.0, all.1, shown-first order line)
    ] in
    let rest : AreAlike (left_after taken order) (left_after others order) line = λ zone. elim (alike zone) [
      | inl same ↦ inl (omega (arith, same, left-is taken order zone, left-is others order zone))
      | inr all ↦ inr (
        omega (arith, all.0, shown-cons order line zone, left-is taken order zone),
        omega (arith, all.1, shown-cons order line zone, left-is others order zone),
      )
    ] in
    ap (λ n. row_if order.price n (rows_in_turn (left_after taken order) line)) lots
    ∙ ap (row_if order.price (min order.shown (others order.order.zone))) (turn-alike (left_after taken order) (left_after others order) line rest)

-- where the zones of the orders give all that they show, the rows are those of all
turn-all : (taken : ℕ → ℕ) (line : List Standing) → ((order : Standing) → IsIn order line → shown_in line order.order.zone ≤ taken order.order.zone) → rows_in_turn taken line ≡ rows_shown line
unfolding rows_in_turn
turn-all taken [] all = refl
turn-all taken (order ∷ line) all =
    let lots : min order.shown (taken order.order.zone) ≡ order.shown = omega (arith, all order (inl refl), shown-first order line) in
    ap (λ n. row_if order.price n (rows_in_turn (left_after taken order) line)) lots
    ∙ ap (row_if order.price order.shown)
    (turn-all (left_after taken order) line (λ other i. omega (arith, all other (inr i), shown-cons order line other.order.zone, left-is taken order other.order.zone)))

-- ---- one order more

module _ (line : List Standing) (place : ℕ) (order : Standing) (next : take (place + 1) line ≡ take place line ++ order ∷ []) (small : order.order.zone < 64)
    (old : Cuts) (rows : List ViewRow) (cutting : AreCutting line place old rows) where
  abbrev own_zone : ℕ
  own_zone = order.order.zone

  abbrev shown_to : (count zone : ℕ) → ℕ
  shown_to count zone = shown_in (take count line) zone

  shows_more : shown_to (place + 1) own_zone ≡ shown_to place own_zone + order.shown
  shows_more = ap (λ orders. shown_in orders own_zone) next ∙ shown-own (take place line) order

  shows_same : (zone : ℕ) → zone ≢ own_zone → shown_to (place + 1) zone ≡ shown_to place zone
  shows_same zone apart = ap (λ orders. shown_in orders zone) next ∙ shown-other (take place line) order zone (λ e. apart (sym e))

  -- the rows, with that of the order
  more_rows : (given : ℕ → ℕ) → rows_in_turn given (take (place + 1) line) ≡ rows_in_turn given (take place line) ++ row_if order.price (min order.shown (given own_zone - shown_to place own_zone)) []
  more_rows given = ap (rows_in_turn given) next ∙ turn-push given (take place line) order

  -- a zone of which the order is not has given enough, wherever its cut came
  before_other : (zone cut : ℕ) → zone < 64 → zone ≢ own_zone → IsNoLater place (cut_by old zone) cut → shown_to (min cut (place + 1)) zone ≤ given_by old zone
  before_other zone cut few apart later = elim (cases_lt place cut) [
    | inl no_cut ↦
        let here : place + 1 ≡ min cut (place + 1) = omega (arith, no_cut) in
        let was : min (cut_by old zone) place ≡ place = elim later [
          | inl same ↦ omega (arith, same, no_cut)
          | inr less ↦ absurd (omega (arith, less, no_cut))
        ] in
        let before = subst (λ n. shown_to n zone ≤ given_by old zone) was (cutting.before zone few) in
        subst (λ n. shown_to n zone ≤ given_by old zone) here (omega (arith, before, shows_same zone apart))
    | inr is_cut ↦
        let same : min (cut_by old zone) place ≡ min cut (place + 1) = elim later [
          | inl same ↦ omega (arith, same, is_cut)
          | inr less ↦ omega (arith, less)
        ] in
        subst (λ n. shown_to n zone ≤ given_by old zone) same (cutting.before zone few)
  ]

  -- and no zone has given more than its orders show up to where its cut came
  behind_other : (zone cut : ℕ) → zone < 64 → IsNoLater place (cut_by old zone) cut → given_by old zone ≤ shown_to (min (suc cut) (place + 1)) zone
  behind_other zone cut few later =
      let less : min (suc (cut_by old zone)) place ≤ min (suc cut) (place + 1) = elim later [
        | inl same ↦ omega (arith, same)
        | inr less ↦ omega (arith, less)
      ] in
      omega (arith, cutting.behind zone few, shown-more line (min (suc (cut_by old zone)) place) (min (suc cut) (place + 1)) zone less)

  -- an order behind its zone's cut gives nothing
  pub passed_by : cut_by old own_zone ≤ place → AreCutting line (place + 1) old rows
  passed_by late = record {
    given_size = cutting.given_size;
    places_size = cutting.places_size;
    before = λ zone few. elim (eqb_tells zone own_zone) [
      | inl same ↦
          let here : min (cut_by old zone) place ≡ min (cut_by old zone) (place + 1) = let late_here = subst (λ z. cut_by old z ≤ place) (sym same.1) late in omega (arith, late_here) in
          subst (λ n. shown_to n zone ≤ given_by old zone) here (cutting.before zone few)
      | inr apart ↦ before_other zone (cut_by old zone) few apart.1 (inl refl)
    ];
    behind = λ zone few. behind_other zone (cut_by old zone) few (inl refl);
    rows_are =
        let most = shown-more line (min (suc (cut_by old own_zone)) place) place own_zone (omega arith) in
        let none : min order.shown (given_by old own_zone - shown_to place own_zone) ≡ 0 = omega (arith, cutting.behind own_zone small, most) in
        cutting.rows_are
        ∙ sym (append-nil (rows_in_turn (given_by old) (take place line)))
        ∙ ap (λ n. rows_in_turn (given_by old) (take place line) ++ row_if order.price n []) (sym none)
        ∙ sym (more_rows (given_by old));
  }

  -- what a zone without a cut gives, with the order's, is no more than all show
  pub given_within : place < cut_by old own_zone → given_by old own_zone + order.shown ≤ all_shown line
  given_within early =
      let most : min (suc (cut_by old own_zone)) place ≡ place = omega (arith, early) in
      let behind = subst (λ n. given_by old own_zone ≤ shown_to n own_zone) most (cutting.behind own_zone small) in
      omega (arith, behind, shows_more, shown-more line (place + 1) (length line + (place + 1)) own_zone (omega arith), all_of_line, zone-within line own_zone)
    where
      all_of_line : shown_to (length line + (place + 1)) own_zone ≡ shown_in line own_zone
      all_of_line = ap (λ orders. shown_in orders own_zone) (take_all (length line + (place + 1)) line (omega arith))

  module _ (new : Cuts) (lots : ℕ) (taken : IsTaken place (in_line order) lots old new) where
    given_own : given_by new own_zone ≡ given_by old own_zone + lots
    given_own = ap (λ (list : List ℕ). get_or list own_zone 0) taken.given ∙ get_or-set_same old.given own_zone _ 0 (omega (arith, small, cutting.given_size))

    given_other : (zone : ℕ) → zone ≢ own_zone → given_by new zone ≡ given_by old zone
    given_other zone apart = ap (λ (list : List ℕ). get_or list zone 0) taken.given ∙ get_or-set_other old.given own_zone zone _ 0 apart

    -- so far the zone's orders give all
    gave_all : given_by old own_zone ≡ shown_to place own_zone
    gave_all =
        let early = taken.early in
        let least : min (cut_by old own_zone) place ≡ place = omega (arith, early) in
        let most : min (suc (cut_by old own_zone)) place ≡ place = omega (arith, early) in
        let before = subst (λ n. shown_to n own_zone ≤ given_by old own_zone) least (cutting.before own_zone small) in
        let behind = subst (λ n. given_by old own_zone ≤ shown_to n own_zone) most (cutting.behind own_zone small) in
        omega (arith, before, behind)

    own_before : shown_to (min (cut_by new own_zone) (place + 1)) own_zone ≤ given_by new own_zone
    own_before = elim (cases_lt lots order.shown) [
      | inl less ↦
          let here : place ≡ min (cut_by new own_zone) (place + 1) = omega (arith, taken.part less) in
          subst (λ n. shown_to n own_zone ≤ given_by new own_zone) here (omega (arith, gave_all, given_own))
      | inr all ↦
          let same : cut_by new own_zone ≡ cut_by old own_zone = ap (λ (list : List ℕ). get_or list own_zone 0) (taken.all all) in
          let here : place + 1 ≡ min (cut_by new own_zone) (place + 1) = omega (arith, same, taken.early) in
          subst (λ n. shown_to n own_zone ≤ given_by new own_zone) here (omega (arith, gave_all, given_own, shows_more, all))
    ]

    own_behind : given_by new own_zone ≤ shown_to (min (suc (cut_by new own_zone)) (place + 1)) own_zone
    own_behind =
        let here : place + 1 ≡ min (suc (cut_by new own_zone)) (place + 1) = elim (cases_lt lots order.shown) [
          | inl less ↦ omega (arith, taken.part less)
          | inr all ↦
              let same : cut_by new own_zone ≡ cut_by old own_zone = ap (λ (list : List ℕ). get_or list own_zone 0) (taken.all all) in
              omega (arith, same, taken.early)
        ] in
        subst (λ n. given_by new own_zone ≤ shown_to n own_zone) here (omega (arith, gave_all, given_own, shows_more, taken.most))

    -- the rows so far stay
    rows_stay : rows_in_turn (given_by old) (take place line) ≡ rows_in_turn (given_by new) (take place line)
    rows_stay = turn-alike (given_by old) (given_by new) (take place line) alike
      where
        alike : AreAlike (given_by old) (given_by new) (take place line)
        alike zone = elim (eqb_tells zone own_zone) [
          | inl same ↦ subst (λ z. (given_by old z ≡ given_by new z) ⊎ ((shown_to place z ≤ given_by old z) × (shown_to place z ≤ given_by new z))) (sym same.1)
              (inr (omega (arith, gave_all), omega (arith, gave_all, given_own)))
          | inr apart ↦ inl (sym (given_other zone apart.1))
        ]

    -- one that gives some
    pub one_more : AreCutting line (place + 1) new (rows ++ row_if order.price lots [])
    one_more = record {
      given_size = ap length taken.given ∙ length-set old.given own_zone _ ∙ cutting.given_size;
      places_size = taken.size ∙ cutting.places_size;
      before = λ zone few. elim (eqb_tells zone own_zone) [
        | inl same ↦ subst (λ z. shown_to (min (cut_by new z) (place + 1)) z ≤ given_by new z) (sym same.1) own_before
        | inr apart ↦
            let least = before_other zone (cut_by new zone) few apart.1 (taken.cuts zone) in
            omega (arith, least, given_other zone apart.1)
      ];
      behind = λ zone few. elim (eqb_tells zone own_zone) [
        | inl same ↦ subst (λ z. given_by new z ≤ shown_to (min (suc (cut_by new z)) (place + 1)) z) (sym same.1) own_behind
        | inr apart ↦
            let most = behind_other zone (cut_by new zone) few (taken.cuts zone) in
            omega (arith, most, given_other zone apart.1)
      ];
      rows_are =
          let gives : lots ≡ min order.shown (given_by new own_zone - shown_to place own_zone) = omega (arith, gave_all, given_own, taken.most) in
          ap (λ list. list ++ row_if order.price lots []) (cutting.rows_are ∙ rows_stay)
          ∙ ap (λ n. rows_in_turn (given_by new) (take place line) ++ row_if order.price n []) gives
          ∙ sym (more_rows (given_by new));
    }

-- so of the order that views see at a place
module _ (line : List Standing) (orders : List LineOrder) (are : orders ≡ map in_line line) (zones : (order : Standing) → IsIn order line → order.order.zone < 64)
    (place : ℕ) (d : LineOrder) (there : place < length orders) (old : Cuts) (rows : List ViewRow) (cutting : AreCutting line place old rows) where
  at : IsOrderAt line place (get_or orders place d)
  at = order_at line orders place d are there

  at_small : at.order.order.zone < 64
  at_small = zones at.order at.there

  pub within_all : place < cut_by old (get_or orders place d).zone → given_by old (get_or orders place d).zone + (get_or orders place d).lots ≤ all_shown line
  within_all =
      subst (λ (seen : LineOrder). place < cut_by old seen.zone → given_by old seen.zone + seen.lots ≤ all_shown line) at.is
      (given_within line place at.order at.next at_small old rows cutting)

  pub next_passed : cut_by old (get_or orders place d).zone ≤ place → AreCutting line (place + 1) old rows
  next_passed =
      subst (λ (seen : LineOrder). cut_by old seen.zone ≤ place → AreCutting line (place + 1) old rows) at.is
      (passed_by line place at.order at.next at_small old rows cutting)

  pub next_taken : (new : Cuts) (lots : ℕ) → IsTaken place (get_or orders place d) lots old new → AreCutting line (place + 1) new (rows ++ row_if (get_or orders place d).price lots [])
  next_taken new lots =
      subst (λ (seen : LineOrder). IsTaken place seen lots old new → AreCutting line (place + 1) new (rows ++ row_if seen.price lots [])) at.is
      (one_more line place at.order at.next at_small old rows cutting new lots)

-- ---- the orders with which a line begins

-- each zone gives all that the first orders of a line show, which have so many rows, and none has a cut
pub record HaveGiven (line : List Standing) (place count : ℕ) (cuts : Cuts) : Type 0 where
  pub size : length cuts.given ≡ 64
  pub places : cuts.places ≡ replicate 64 (length line)
  pub gives : (zone : ℕ) → zone < 64 → given_by cuts zone ≡ shown_in (take place line) zone
  pub rows : count ≡ length (rows_shown (take place line))

rows-push : (line : List Standing) (order : Standing) → rows_shown (line ++ order ∷ []) ≡ rows_shown line ++ row_if order.price order.shown []
rows-push [] order = refl
rows-push (first ∷ line) order = ap (row_if first.price first.shown) (rows-push line order) ∙ row-append first.price first.shown (rows_shown line) (row_if order.price order.shown [])

pub row-count : (price : Price) (lots : ℕ) → 0 < lots → length (row_if price lots []) ≡ 1
row-count price zero some = absurd (omega (arith, some))
row-count price (suc more) some = refl

pub none-counted : (price : Price) (lots count : ℕ) → lots ≤ 0 → count ≡ count + length (row_if price lots [])
none-counted price zero count none = omega arith
none-counted price (suc more) count none = absurd (omega (arith, none))

pub row-few : (price : Price) (lots : ℕ) → length (row_if price lots []) ≤ 1
row-few price zero = omega arith
row-few price (suc more) = omega arith

row-first-of : (price : Price) (lots : ℕ) (few rows : List ViewRow) → take (length few) rows ≡ few → take (length (row_if price lots few)) (row_if price lots rows) ≡ row_if price lots few
row-first-of price zero few rows first = first
row-first-of price (suc more) few rows first = ap (λ list. record { price = price; lots = suc more } ∷ list) first

-- the rows of the first orders are the first rows
rows-first : (place : ℕ) (line : List Standing) → take (length (rows_shown (take place line))) (rows_shown line) ≡ rows_shown (take place line)
rows-first zero line = refl
rows-first (suc place) [] = refl
rows-first (suc place) (order ∷ line) = row-first-of order.price order.shown (rows_shown (take place line)) (rows_shown line) (rows-first place line)

-- so the first orders are gone along
pub first_cutting : (line : List Standing) → ((order : Standing) → IsIn order line → order.order.zone < 64) → (place count : ℕ) (cuts : Cuts) → place ≤ length line → HaveGiven line place count cuts
    → AreCutting line place cuts (take count (rows_shown line))
first_cutting line zones place count cuts within given = record {
  given_size = given.size;
  places_size = ap length given.places ∙ length-replicate 64 (length line);
  before = λ zone few.
      let here : place ≡ min (cut_by cuts zone) place = omega (arith, end zone few, within) in
      subst (λ n. shown_in (take n line) zone ≤ given_by cuts zone) here (omega (arith, given.gives zone few));
  behind = λ zone few.
      let here : place ≡ min (suc (cut_by cuts zone)) place = omega (arith, end zone few, within) in
      subst (λ n. given_by cuts zone ≤ shown_in (take n line) zone) here (omega (arith, given.gives zone few));
  rows_are =
      ap (λ n. take n (rows_shown line)) given.rows
      ∙ rows-first place line
      ∙ sym (turn-all (given_by cuts) (take place line) (λ order i. omega (arith, given.gives order.order.zone (zones order (in_line_too order i)))));
}
  where
    end : (zone : ℕ) → zone < 64 → cut_by cuts zone ≡ length line
    end zone few = ap (λ (list : List ℕ). get_or list zone 0) given.places ∙ get_or-replicate 64 zone (length line) 0 few

    in_line_too : (order : Standing) → IsIn order (take place line) → IsIn order line
    in_line_too order i = subst (IsIn order) (take-append-drop place line) (IsIn-left order (take place line) (drop place line) i)

-- their rows are no more than all
pub first_few : (line : List Standing) (place count : ℕ) (cuts : Cuts) → HaveGiven line place count cuts → count ≤ length (rows_shown line)
first_few line place count cuts given = omega (arith, given.rows, ap length (rows-first place line), length-take (length (rows_shown (take place line))) (rows_shown line))

-- no order has given yet
pub none_given : (line : List Standing) (cuts : Cuts) → cuts.places ≡ replicate 64 (length line) → cuts.given ≡ replicate 64 0 → HaveGiven line 0 0 cuts
none_given line cuts places none = record {
  size = ap length none;
  places = places;
  gives = λ zone few. ap (λ (list : List ℕ). get_or list zone 0) none ∙ get_or-replicate 64 zone 0 0 few;
  rows = refl;
}

-- one more gives
module _ (line : List Standing) (orders : List LineOrder) (are : orders ≡ map in_line line) (zones : (order : Standing) → IsIn order line → order.order.zone < 64)
    (place : ℕ) (d : LineOrder) (there : place < length orders) (count : ℕ) (cuts : Cuts) (given : HaveGiven line place count cuts) where
  next_order : IsOrderAt line place (get_or orders place d)
  next_order = order_at line orders place d are there

  gives_own : given_by cuts next_order.order.order.zone + next_order.order.shown ≡ shown_in (take (place + 1) line) next_order.order.order.zone
  gives_own =
      let order = next_order.order in
      omega (
        arith,
        given.gives order.order.zone (zones order next_order.there),
        ap (λ orders. shown_in orders order.order.zone) next_order.next,
        shown-own (take place line) order,
      )

  pub gives_few : given_by cuts (get_or orders place d).zone + (get_or orders place d).lots ≤ all_shown line
  gives_few =
      let order = next_order.order in
      let whole : shown_in (take (length line + (place + 1)) line) order.order.zone ≡ shown_in line order.order.zone =
      ap (λ orders. shown_in orders order.order.zone) (take_all (length line + (place + 1)) line (omega arith)) in
      subst (λ (seen : LineOrder). given_by cuts seen.zone + seen.lots ≤ all_shown line) next_order.is
      (omega (arith, gives_own, shown-more line (place + 1) (length line + (place + 1)) order.order.zone (omega arith), whole, zone-within line order.order.zone))

  pub gives_more : (new : Cuts) (more : ℕ) → new.given ≡ set cuts.given (get_or orders place d).zone (given_by cuts (get_or orders place d).zone + (get_or orders place d).lots)
      → new.places ≡ cuts.places → more ≡ count + length (row_if (get_or orders place d).price (get_or orders place d).lots []) → HaveGiven line (place + 1) more new
  gives_more new more =
      subst (λ (seen : LineOrder). new.given ≡ set cuts.given seen.zone (given_by cuts seen.zone + seen.lots) → new.places ≡ cuts.places
      → more ≡ count + length (row_if seen.price seen.lots []) → HaveGiven line (place + 1) more new) next_order.is gives
    where
      order : Standing
      order = next_order.order

      gives : new.given ≡ set cuts.given order.order.zone (given_by cuts order.order.zone + order.shown) → new.places ≡ cuts.places
          → more ≡ count + length (row_if order.price order.shown []) → HaveGiven line (place + 1) more new
      gives is same counted = record {
        size = ap length is ∙ length-set cuts.given order.order.zone _ ∙ given.size;
        places = same ∙ given.places;
        gives = λ zone few. elim (eqb_tells zone order.order.zone) [
          | inl own ↦ subst (λ z. given_by new z ≡ shown_in (take (place + 1) line) z) (sym own.1)
              (ap (λ (list : List ℕ). get_or list order.order.zone 0) is
              ∙ get_or-set_same cuts.given order.order.zone _ 0 (omega (arith, zones order next_order.there, given.size))
              ∙ gives_own)
          | inr apart ↦
              ap (λ (list : List ℕ). get_or list zone 0) is
              ∙ get_or-set_other cuts.given order.order.zone zone _ 0 apart.1
              ∙ given.gives zone few
              ∙ sym (ap (λ orders. shown_in orders zone) next_order.next ∙ shown-other (take place line) order zone (λ e. apart.1 (sym e)))
        ];
        rows =
            omega (
              arith,
              counted,
              given.rows,
              ap (λ orders. length (rows_shown orders)) next_order.next,
              ap length (rows-push (take place line) order),
              length-append (rows_shown (take place line)) (row_if order.price order.shown []),
            );
      }

-- ---- the whole line

-- all have
pub all_rows : (line : List Standing) (cuts : Cuts) (rows : List ViewRow) (place : ℕ) → length line ≤ place → AreCutting line place cuts rows → rows ≡ rows_in_turn (given_by cuts) line
all_rows line cuts rows place full are = are.rows_are ∙ ap (rows_in_turn (given_by cuts)) (take_all place line full)

pub all_cut : (line : List Standing) (cuts : Cuts) (rows : List ViewRow) (place : ℕ) → length line ≤ place → AreCutting line place cuts rows → AreAlong line cuts
all_cut line cuts rows place full are = record {
  before = λ zone few. subst (λ orders. shown_in orders zone ≤ given_by cuts zone) (whole (cut_by cuts zone)) (are.before zone few);
  behind = λ zone few. subst (λ orders. given_by cuts zone ≤ shown_in orders zone) (whole (suc (cut_by cuts zone))) (are.behind zone few);
}
  where
    -- up to a place behind the end there are no other orders
    whole : (cut : ℕ) → take (min cut place) line ≡ take cut line
    whole cut = elim (cases_lt cut place) [
      | inl less ↦ ap (λ n. take n line) (omega (arith, less))
      | inr more ↦
          let here : min cut place ≡ place = omega (arith, more) in
          ap (λ n. take n line) here ∙ take_all place line full ∙ sym (take_all cut line (omega (arith, full, more)))
    ]

-- where each zone gives all that its orders show, they give all
pub all_shown_rows : (line : List Standing) (cuts : Cuts) → ((zone : ℕ) → zone < 64 → given_by cuts zone ≡ shown_in line zone)
    → ((order : Standing) → IsIn order line → order.order.zone < 64) → rows_shown line ≡ rows_in_turn (given_by cuts) line
all_shown_rows line cuts gives zones = sym (turn-all (given_by cuts) line (λ order i. omega (arith, gives order.order.zone (zones order i))))

pub all_give : (line : List Standing) (cuts : Cuts) (end : ℕ) → ((zone : ℕ) → zone < 64 → given_by cuts zone ≡ shown_in line zone) → cuts.places ≡ replicate 64 end → end ≡ length line
    → AreAlong line cuts
all_give line cuts end gives places is = record {
  before = λ zone few. omega (arith, gives zone few, shown-all (cut_by cuts zone) zone (omega (arith, ends zone few, is)));
  behind = λ zone few. omega (arith, gives zone few, shown-all (suc (cut_by cuts zone)) zone (omega (arith, ends zone few, is)));
}
  where
    ends : (zone : ℕ) → zone < 64 → cut_by cuts zone ≡ end
    ends zone few = ap (λ (list : List ℕ). get_or list zone 0) places ∙ get_or-replicate 64 zone end 0 few

    shown-all : (count zone : ℕ) → length line ≤ count → shown_in (take count line) zone ≡ shown_in line zone
    shown-all count zone full = ap (λ orders. shown_in orders zone) (take_all count line full)
