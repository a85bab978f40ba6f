-- The book of an hour keeps what every book keeps.
use Rattle.std.proofs.Common.{◌≡◌, ◌≢◌, ◌∙◌, ◌⊎◌, inl, inr, ℕ, zero, suc, ◌/◌, ◌%◌, ◌≤◌, ◌==◌, Bool, true, false, List, [], ◌∷◌, ◌++◌, Some, None, eqb-true, flat_map, get_or, length, map, eq-eqb, refl, sym, ap, subst, if◌then◌else◌, arith}
use Rattle.std.proofs.lemmas.Bool.{true≢false}
use Rattle.std.proofs.lemmas.List.{get_or_past, length-map, map-append}
use Rattle.std.proofs.lemmas.List.Concat.{length-flat_map}
use Rattle.std.specs.List.{filter_map}
use Rattle.std.specs.Ordering.{is_lt}
use Rattle.order_kinds.specs.declared.contract.Contract.{Contract}
use Rattle.order_kinds.specs.declared.contract.Part.{Part}
use Rattle.order_kinds.specs.declared.contract.Part.TheVariants as part
use Rattle.order_kinds.specs.declared.order.OrderName.{OrderName}
use Rattle.order_kinds.specs.declared.side.Side.{Side}
use Rattle.order_kinds.specs.declared.side.Side.TheVariants.{Buy, Sell}
use Rattle.order_kinds.specs.Contract.{is_known, part_number}
use Rattle.zone_graph.specs.InOrder.{IsStrictlyInOrder}
use Rattle.zone_graph.specs.Route.{AreDifferent, IsIn}
use Rattle.zone_graph.proofs.Membership.{IsIn-append, IsIn-filter, IsIn-map, from_flat_map, from_map}
use Rattle.zone_graph.proofs.Places.{place_of}
use Rattle.zone_graph.proofs.Routes.{few_zones}
use Rattle.contract_book.specs.declared.resting.Resting.{Resting}
use Rattle.contract_book.specs.Book.{IsBook, line_number, line_of, order_count}
use Rattle.contract_book.specs.Resting.{IsSound, resting_cmp}
use Rattle.market_model.specs.declared.event.Event.{Event}
use Rattle.market_model.specs.declared.event.Event.TheVariants as event
use Rattle.market_model.specs.declared.setup.Setup.{Setup}
use Rattle.market_model.specs.Orders.{Placed, is_open, name_given, open_names, placed_by, standing}
use Rattle.market_model.specs.WellFormed.{FitAfter}
use Rattle.laws_of_market.proofs.Members.{IsIn-filter_map, from_filter_map}
use Rattle.laws_of_market.proofs.Names.{names-once}
use Rattle.laws_of_market.proofs.Unique.{one_order}
use Rattle.laws_of_books.specs.BookOf.{book_by, book_of, contract_of, numbered_parts, resting_line, resting_of}
use Rattle.laws_of_books.proofs.ChangedOrders.{hour_of}
use Rattle.laws_of_books.proofs.LineOrders.{from_resting, resting-strict, resting_weak, same_names}
use Rattle.laws_of_books.proofs.PartLines.{from_book, line_of-by}
use Rattle.laws_of_books.proofs.SoundRecords.{record-sound}

-- ---- lines by number

-- a number below 7 is that of a part
record IsPart (number : ℕ) : Type 0 where
  part : Part
  known : is_known part ≡ true
  is : number ≡ part_number part

part_or_past : (number : ℕ) → IsPart number ⊎ (7 ≤ number)
part_or_past zero = inl (record { part = part.Hour; known = refl; is = refl })
part_or_past (suc zero) = inl (record { part = part.Quarter 1; known = refl; is = refl })
part_or_past (suc (suc zero)) = inl (record { part = part.Quarter 2; known = refl; is = refl })
part_or_past (suc (suc (suc zero))) = inl (record { part = part.Quarter 3; known = refl; is = refl })
part_or_past (suc (suc (suc (suc zero)))) = inl (record { part = part.Quarter 4; known = refl; is = refl })
part_or_past (suc (suc (suc (suc (suc zero))))) = inl (record { part = part.Half 1; known = refl; is = refl })
part_or_past (suc (suc (suc (suc (suc (suc zero)))))) = inl (record { part = part.Half 2; known = refl; is = refl })
part_or_past (suc (suc (suc (suc (suc (suc (suc n))))))) = inr (omega arith)

module _ (line_in : Part → Side → List Resting) where
  -- behind the seven parts there are no lines
  line-past : (number : ℕ) (side : Side) → 7 ≤ number → line_of (book_by line_in) number side ≡ []
  line-past number side past = get_or_past (book_by line_in) (line_number number side) [] (far side)
    where
      far : (s : Side) → 14 ≤ line_number number s
      far Buy = omega (arith, past)
      far Sell = omega (arith, past)

  -- what holds of no orders and of the lines of the parts holds of each line
  each-line : (P : Side → List Resting → Type 0) → ((side : Side) → P side []) → ((p : Part) (side : Side) → is_known p ≡ true → P side (line_in p side))
      → (number : ℕ) (side : Side) → P side (line_of (book_by line_in) number side)
  each-line P none each number side = elim (part_or_past number) [
    | inl is ↦ subst (P side) (sym (ap (λ n. line_of (book_by line_in) n side) is.is ∙ line_of-by line_in is.part side is.known)) (each is.part side is.known)
    | inr past ↦ subst (P side) (sym (line-past number side past)) (none side)
  ]

  -- where an order stands
  record StandsAt (number : ℕ) (side : Side) (order : Resting) : Type 0 where
    part : Part
    known : is_known part ≡ true
    number_is : number ≡ part_number part
    there : IsIn order (line_in part side)

  stands_at : (number : ℕ) (side : Side) (order : Resting) → IsIn order (line_of (book_by line_in) number side) → StandsAt number side order
  stands_at number side order i = elim (part_or_past number) [
    | inl is ↦ record {
      part = is.part;
      known = is.known;
      number_is = is.is;
      there = subst (IsIn order) (ap (λ n. line_of (book_by line_in) n side) is.is ∙ line_of-by line_in is.part side is.known) i;
    }
    | inr past ↦ absurd (subst (IsIn order) (line-past number side past) i)
  ]

-- ---- how many orders rest

-- the numbers of the orders of some lines
abbrev numbers_of : List (List Resting) → List ℕ
numbers_of lines = map (λ (order : Resting). order.number) (flat_map (λ line. line) lines)

-- a number stands in one line alone
abbrev AreApart : List (List Resting) → Type 0
AreApart lines = (i j : ℕ) (order other : Resting) → IsIn order (get_or lines i []) → IsIn other (get_or lines j []) → order.number ≡ other.number → i ≡ j

different-append : (xs ys : List ℕ) → AreDifferent xs → AreDifferent ys → ((x : ℕ) → IsIn x xs → IsIn x ys → ⊥) → AreDifferent (xs ++ ys)
different-append [] ys one other apart = other
different-append (x ∷ xs) ys one other apart = (
  λ i. elim (IsIn-append x xs ys i) [ inl j ↦ one.0 j | inr j ↦ apart x (inl refl) j ],
  different-append xs ys one.1 other (λ z i j. apart z (inr i) j),
)

numbers-differ : (lines : List (List Resting))
    → ((line : List Resting) → IsIn line lines → AreDifferent (map (λ (order : Resting). order.number) line)) → AreApart lines
    → AreDifferent (numbers_of lines)
numbers-differ [] each apart = tt
numbers-differ (line ∷ lines) each apart =
    subst AreDifferent (sym (map-append (λ (order : Resting). order.number) line (flat_map (λ l. l) lines)))
    (different-append (map (λ (order : Resting). order.number) line) (numbers_of lines) (each line (inl refl))
    (numbers-differ lines (λ l i. each l (inr i)) later) first)
  where
    later : AreApart lines
    later i j order other at too same = let both = apart (suc i) (suc j) order other at too same in omega (arith, both)

    first : (number : ℕ) → IsIn number (map (λ (order : Resting). order.number) line) → IsIn number (numbers_of lines) → ⊥
    first number i j =
        let own = from_map (λ (order : Resting). order.number) number line i in
        let other = from_map (λ (order : Resting). order.number) number (flat_map (λ l. l) lines) j in
        let in_line = from_flat_map (λ (l : List Resting). l) other.0 lines other.1 in
        let none : List Resting = [] in
        let at = place_of in_line.0 lines none in_line.1 in
        let both : 0 ≡ suc at.0 = apart 0 (suc at.0) own.0 other.0 own.1 (subst (IsIn other.0) (sym at.2) in_line.2) (sym own.2 ∙ other.2) in
        omega (arith, both)

-- the event that enters an order gives its name to its hour
name-given : (e : Event) (order : Placed) (hour : ℕ) → placed_by e ≡ Some order → order.name.hour ≡ hour → name_given hour e ≡ Some order.name
name-given (event.Entered name caller entering) order hour is of_hour =
    let same : record { name = name; caller = caller; order = entering } ≡ order = cc in
    let own : name.hour ≡ hour = ap (λ (p : Placed). p.name.hour) same ∙ of_hour in
    ap (λ b. if b then Some name else None) (eq-eqb name.hour hour own) ∙ ap (λ (p : Placed). Some p.name) same
name-given _ order hour is of_hour = absurd (cc)

module _ (setup : Setup) (events : List Event) (fit : FitAfter setup [] events) (hour : ℕ) where
  abbrev lines : Part → Side → List Resting
  lines part side = resting_line events (contract_of hour part) side

  -- two orders of one number are one, in one line
  one-place : (p q : Part) (side opposite : Side) (order other : Resting) → IsIn order (lines p side) → IsIn other (lines q opposite)
      → order.number ≡ other.number
      → (p ≡ q) × (side ≡ opposite) × (order ≡ other)
  one-place p q side opposite order other i j same =
      let own = from_resting events (contract_of hour p) side order i in
      let too = from_resting events (contract_of hour q) opposite other j in
      let hours : own.order.name.hour ≡ too.order.name.hour =
      hour_of setup events fit (contract_of hour p) own.order own.is_placed own.of_contract
      ∙ sym (hour_of setup events fit (contract_of hour q) too.order too.is_placed too.of_contract) in
      let numbers : own.order.name.number ≡ too.order.name.number =
      sym (ap (λ (r : Resting). r.number) own.is) ∙ same ∙ ap (λ (r : Resting). r.number) too.is in
      let one : own.order ≡ too.order =
      one_order events (names-once setup events fit) own.order too.order own.is_placed too.is_placed (same_names own.order.name too.order.name hours numbers) in (
        ap (λ (c : Contract). c.part) (sym own.of_contract) ∙ ap (λ (o : Placed). o.order.contract.part) one ∙ ap (λ (c : Contract). c.part) too.of_contract,
        sym own.on_side ∙ ap (λ (o : Placed). o.order.side) one ∙ too.on_side,
        own.is ∙ ap (λ o. resting_of (standing events o)) one ∙ sym too.is,
      )

  once : (number opposite_number : ℕ) (side opposite : Side) (order other : Resting) → IsIn order (line_of (book_by lines) number side)
      → IsIn other (line_of (book_by lines) opposite_number opposite) → order.number ≡ other.number
      → (number ≡ opposite_number) × (side ≡ opposite) × (order ≡ other)
  once number opposite_number side opposite order other i j same =
      let own = stands_at lines number side order i in
      let too = stands_at lines opposite_number opposite other j in
      let one = one-place own.part too.part side opposite order other own.there too.there same in
      (own.number_is ∙ ap part_number one.0 ∙ sym too.number_is, one.1, one.2)

  -- the lines by their places in the book
  record IsLine (k : ℕ) : Type 0 where
    number : ℕ
    side : Side
    is : k ≡ line_number number side

  is_line : (k : ℕ) → IsLine k
  is_line k = go (k % 2 == 0) refl
    where
      go : (b : Bool) → (k % 2 == 0) ≡ b → IsLine k
      go true e = let even : k % 2 ≡ 0 = eqb-true (k % 2) 0 e in record { number = k / 2; side = Buy; is = omega (arith, even) }
      go false e =
          let odd : k % 2 ≢ 0 = λ even. true≢false (sym (eq-eqb (k % 2) 0 even) ∙ e) in
          record { number = k / 2; side = Sell; is = omega (arith, odd) }

  apart : AreApart (book_by lines)
  apart i j order other at too same =
      let own = is_line i in
      let its = is_line j in
      let one = once own.number its.number own.side its.side order other (subst (λ k. IsIn order (get_or (book_by lines) k [])) own.is at)
      (subst (λ k. IsIn other (get_or (book_by lines) k [])) its.is too) same in
      own.is ∙ ap (λ n. line_number n own.side) one.0 ∙ ap (line_number its.number) one.1 ∙ sym its.is

  -- no number stands twice in a line
  line-differs : (xs : List Resting) (side : Side) → IsStrictlyInOrder (resting_cmp side) xs
      → ((x y : Resting) → IsIn x xs → IsIn y xs → x.number ≡ y.number → x ≡ y) → AreDifferent (map (λ (order : Resting). order.number) xs)
  line-differs [] side strict single = tt
  line-differs (x ∷ xs) side strict single = (
    λ i.
        let y = from_map (λ (order : Resting). order.number) x.number xs i in
        let same : x ≡ y.0 = single x y.0 (inl refl) (inr y.1) y.2 in
        let before : is_lt (resting_cmp side x x) ≡ true = subst (λ z. is_lt (resting_cmp side x z) ≡ true) (sym same) (strict.0 y.0 y.1) in
        true≢false (sym before ∙ (resting_weak side).one_way x x before),
    line-differs xs side strict.1 (λ a b i j. single a b (inr i) (inr j)),
  )

  each-differs : (line : List Resting) → IsIn line (book_by lines) → AreDifferent (map (λ (order : Resting). order.number) line)
  each-differs line i =
      let at = from_flat_map (λ p. lines p Buy ∷ lines p Sell ∷ []) line numbered_parts i in
      elim at.2 [
        | inl buys ↦ own at.0 Buy buys
        | inr rest ↦ elim rest [ inl sells ↦ own at.0 Sell sells | inr none ↦ absurd none ]
      ]
    where
      own : (p : Part) (side : Side) → line ≡ lines p side → AreDifferent (map (λ (order : Resting). order.number) line)
      own p side is =
          subst (λ l. AreDifferent (map (λ (order : Resting). order.number) l)) (sym is)
          (line-differs (lines p side) side (resting-strict setup events fit (contract_of hour p) side) (λ x y j k same. (one-place p p side side x y j k same).2))

  -- each order that rests is open under a name of the hour
  rests-open : (number : ℕ) → IsIn number (numbers_of (book_by lines)) → IsIn number (map (λ (name : OrderName). name.number) (open_names events hour))
  rests-open number i =
      let order = from_map (λ (order : Resting). order.number) number (flat_map (λ line. line) (book_by lines)) i in
      let at = from_book lines order.0 order.1 in
      let there = from_resting events (contract_of hour at.0) at.1 order.0 at.3 in
      let of_hour : there.order.name.hour ≡ hour = hour_of setup events fit (contract_of hour at.0) there.order there.is_placed there.of_contract in
      let entry = from_filter_map placed_by there.order events there.is_placed in
      let given : IsIn there.order.name (filter_map (name_given hour) events) =
      IsIn-filter_map (name_given hour) entry.0 there.order.name events entry.1 (name-given entry.0 there.order hour entry.2 of_hour) in
      let opened : IsIn there.order.name (open_names events hour) =
      IsIn-filter (is_open events) there.order.name (filter_map (name_given hour) events) given there.is_left in
      subst (λ n. IsIn n (map (λ (name : OrderName). name.number) (open_names events hour))) (sym (order.2 ∙ ap (λ (r : Resting). r.number) there.is))
      (IsIn-map (λ (name : OrderName). name.number) there.order.name (open_names events hour) opened)

  few-rest : order_count (book_by lines) ≤ length (open_names events hour)
  few-rest =
      let few = few_zones (numbers_of (book_by lines)) (map (λ (name : OrderName). name.number) (open_names events hour))
      (numbers-differ (book_by lines) each-differs apart) rests-open in
      let own : length (numbers_of (book_by lines)) ≡ length (flat_map (λ line. line) (book_by lines)) =
      length-map (flat_map (λ line. line) (book_by lines)) (λ (order : Resting). order.number) in
      let count : length (flat_map (λ line. line) (book_by lines)) ≡ order_count (book_by lines) =
      length-flat_map (λ (line : List Resting). line) (book_by lines) in
      let names : length (map (λ (name : OrderName). name.number) (open_names events hour)) ≡ length (open_names events hour) =
      length-map (open_names events hour) (λ (name : OrderName). name.number) in
      omega (arith, few, own, count, names)

  -- no more rest than are open
  pub few-in_book : order_count (book_of events hour) ≤ length (open_names events hour)
  unfolding book_of
  few-in_book = few-rest

  pub book-is_book : length (open_names events hour) ≤ 4096 → IsBook (book_of events hour)
  unfolding book_of
  book-is_book few = record {
    whole = refl;
    few = let most = few-rest in omega (arith, few, most);
    sorted = λ number side. each-line lines (λ s line. IsStrictlyInOrder (resting_cmp s) line) (λ s. tt)
        (λ p s known. resting-strict setup events fit (contract_of hour p) s) number side;
    sided = λ number side. each-line lines (λ s line. (order : Resting) → IsIn order line → order.side ≡ s) (λ s order i. absurd i)
        (λ p s known order i. let there = from_resting events (contract_of hour p) s order i in ap (λ (r : Resting). r.side) there.is ∙ there.on_side) number side;
    sound = λ number side. each-line lines (λ s line. (order : Resting) → IsIn order line → IsSound order) (λ s order i. absurd i)
        (λ p s known order i.
        let there = from_resting events (contract_of hour p) s order i in
        subst IsSound (sym there.is) (record-sound setup events fit there.order there.is_placed there.is_left)) number side;
    once = once;
  }
