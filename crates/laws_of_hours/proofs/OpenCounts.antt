-- How many orders and blocks of an hour are open: each rests in one of its two books.
use Rattle.std.proofs.Common.{◌≡◌, ◌∙◌, inl, inr, ℕ, ◌+◌, ◌==◌, ◌&&◌, not, Bool, true, false, cond, List, [], ◌∷◌, filter, fold, length, map, sum_by, Option, Some, None, eqb-true, refl, sym, ap, if◌then◌else◌, arith}
use Rattle.std.specs.List.{cons_option, filter_map}
use Rattle.std.specs.Ordering.{is_lt}
use Rattle.std.specs.declared.cmp.Ordering.{Ordering}
use Rattle.order_kinds.specs.declared.contract.Contract.{Contract}
use Rattle.order_kinds.specs.declared.contract.Part.{Part}
use Rattle.order_kinds.specs.declared.order.OrderName.{OrderName}
use Rattle.order_kinds.specs.declared.side.Side.{Side}
use Rattle.order_kinds.specs.declared.side.Side.TheVariants.{Buy, Sell}
use Rattle.order_kinds.specs.Contract.{is_known}
use Rattle.order_kinds.specs.Same.{same_part, same_side}
use Rattle.zone_graph.specs.InOrder.{in_order, put_in_order}
use Rattle.zone_graph.specs.Route.{IsIn}
use Rattle.contract_book.specs.declared.resting.Resting.{Resting}
use Rattle.contract_book.specs.Book.{order_count}
use Rattle.block_book.specs.Blocks.{number_cmp}
use Rattle.market_model.specs.declared.event.Event.{Event}
use Rattle.market_model.specs.declared.event.Event.TheVariants as event
use Rattle.market_model.specs.declared.setup.Setup.{Setup}
use Rattle.market_model.specs.Board.{is_in_hand}
use Rattle.market_model.specs.Lines.{line, priority_cmp, stands_in}
use Rattle.market_model.specs.Orders.{Placed, PlacedBlock, blocks_placed, is_open, name_given, placed, standing}
use Rattle.market_model.specs.WellFormed.{FitAfter}
use Rattle.laws_of_market.proofs.Counts.{length-in_order}
use Rattle.laws_of_market.proofs.Names.{names-once}
use Rattle.laws_of_market.proofs.Placed.{all_are_sound}
use Rattle.laws_of_market.proofs.Unique.{order_is_no_block}
use Rattle.laws_of_market.proofs.LocalAnswers.{open_names-agree}
use Rattle.laws_of_market.proofs.Restrict.{filter-same}
use Rattle.std.proofs.lemmas.List.{length-map}
use Rattle.laws_of_books.specs.BookOf.{book_of, contract_of, numbered_parts, resting_line, resting_of}
use Rattle.laws_of_books.proofs.LineOrders.{same_names}
use Rattle.laws_of_books.proofs.PartLines.{each-part}
use Rattle.laws_of_books.specs.BlockLaws.{IsOfOrder}
use Rattle.laws_of_books.specs.BlocksOf.{blocks_of, resting_block, rests_from}
use Rattle.laws_of_hours.specs.OpenCounts.{AllThatRestIsInTheBooks}
use Rattle.laws_of_hours.specs.OrderEvents.{without_hand}
use Rattle.laws_of_hours.proofs.NextEvents.{agrees, blocks-are, book-is, placed-too}
use Rattle.laws_of_hours.proofs.Numbers.{one_if}

-- ---- how many pass a test

passing-cons : {X : Type 0} (p : X → Bool) (x : X) (xs : List X) → length (filter p (x ∷ xs)) ≡ one_if (p x) + length (filter p xs)
passing-cons {X} p x xs = go (p x)
  where
    go : (b : Bool) → length (cond b (x ∷ filter p xs) (filter p xs)) ≡ one_if b + length (filter p xs)
    go true = omega arith
    go false = omega arith

passing-put : {X : Type 0} (p : X → Bool) (cmp : X → X → Ordering) (ys : List X) (x : X)
    → length (filter p (put_in_order cmp ys x)) ≡ one_if (p x) + length (filter p ys)
passing-put p cmp [] x = passing-cons p x []
passing-put {X} p cmp (y ∷ ys) x = go (is_lt (cmp x y)) (passing-put p cmp ys x)
  where
    go : (b : Bool) → length (filter p (put_in_order cmp ys x)) ≡ one_if (p x) + length (filter p ys)
        → length (filter p (if b then (x ∷ y ∷ ys) else (y ∷ put_in_order cmp ys x))) ≡ one_if (p x) + length (filter p (y ∷ ys))
    go true rest = passing-cons p x (y ∷ ys)
    go false rest =
        let now = passing-cons p y (put_in_order cmp ys x) in
        let was = passing-cons p y ys in
        omega (arith, rest, now, was)

passing-fold : {X : Type 0} (p : X → Bool) (cmp : X → X → Ordering) (ys xs : List X)
    → length (filter p (fold (put_in_order cmp) ys xs)) ≡ length (filter p ys) + length (filter p xs)
passing-fold p cmp ys [] = omega arith
passing-fold p cmp ys (x ∷ xs) =
    let rest = passing-fold p cmp (put_in_order cmp ys x) xs in
    let put = passing-put p cmp ys x in
    let first = passing-cons p x xs in
    omega (arith, rest, put, first)

passing-in_order : {X : Type 0} (p : X → Bool) (cmp : X → X → Ordering) (xs : List X) → length (filter p (in_order cmp xs)) ≡ length (filter p xs)
passing-in_order p cmp xs = let all = passing-fold p cmp [] xs in omega (arith, all)

passing-map : {X Y : Type 0} (p : Y → Bool) (f : X → Y) (xs : List X) → length (filter p (map f xs)) ≡ length (filter (λ x. p (f x)) xs)
passing-map p f [] = refl
passing-map p f (x ∷ xs) =
    let rest = passing-map p f xs in
    let made = passing-cons p (f x) (map f xs) in
    let own = passing-cons (λ y. p (f y)) x xs in
    omega (arith, rest, made, own)

passing-both : {X : Type 0} (p q : X → Bool) (xs : List X) → filter p (filter q xs) ≡ filter (λ x. q x && p x) xs
passing-both p q [] = refl
passing-both {X} p q (x ∷ xs) = go (q x) (passing-both p q xs)
  where
    go : (b : Bool) → filter p (filter q xs) ≡ filter (λ y. q y && p y) xs
        → filter p (cond b (x ∷ filter q xs) (filter q xs)) ≡ cond (b && p x) (x ∷ filter (λ y. q y && p y) xs) (filter (λ y. q y && p y) xs)
    go true rest = ap (λ ys. cond (p x) (x ∷ ys) ys) rest
    go false rest = rest

-- ---- the names that an hour has given

-- those that pass a test are orders' or blocks' names
module _ (hour : ℕ) (ok : OrderName → Bool) where
  abbrev of_order : Placed → Bool
  of_order order = (order.name.hour == hour) && ok order.name

  abbrev of_block : PlacedBlock → Bool
  of_block block = (block.name.hour == hour) && ok block.name

  given-one : (b : Bool) (name : OrderName) (names : List OrderName)
      → length (filter ok (cons_option (if b then Some name else None) names)) ≡ one_if (b && ok name) + length (filter ok names)
  given-one true name names = passing-cons ok name names
  given-one false name names = omega arith

  names-are : (events : List Event) → length (filter ok (filter_map (name_given hour) events)) ≡ length (filter of_order (placed events)) + length (filter of_block (blocks_placed events))
  names-are [] = refl
  names-are (event.Entered name caller order ∷ events) =
      let rest = names-are events in
      let given = given-one (name.hour == hour) name (filter_map (name_given hour) events) in
      let own = passing-cons of_order (record { name = name; caller = caller; order = order }) (placed events) in
      omega (arith, rest, given, own)
  names-are (event.EnteredBlock name caller order ∷ events) =
      let rest = names-are events in
      let given = given-one (name.hour == hour) name (filter_map (name_given hour) events) in
      let own = passing-cons of_block (record { name = name; caller = caller; order = order }) (blocks_placed events) in
      omega (arith, rest, given, own)
  names-are (_ ∷ events) = names-are events

-- ---- the lines of the parts

-- the sum over the parts and sides of an hour
abbrev in_lines : (Part → Side → ℕ) → ℕ
in_lines count = sum_by (λ p. count p Buy + count p Sell) numbered_parts

in_lines-same : (one other : Part → Side → ℕ) → ((p : Part) (s : Side) → one p s ≡ other p s) → in_lines one ≡ in_lines other
in_lines-same one other same = λ i. in_lines (λ p s. same p s i)

in_lines-add : (one other : Part → Side → ℕ) → in_lines (λ p s. one p s + other p s) ≡ in_lines one + in_lines other
in_lines-add one other = omega arith

-- an order of a part stands in one line of its hour, if it is open and rests
one-line : (opened of_hour rests : Bool) (own : Part) (side : Side) → is_known own ≡ true
    → in_lines (λ p s. one_if (((opened && (of_hour && same_part own p)) && same_side side s) && rests)) ≡ one_if (of_hour && (opened && rests))
one-line true true true own Buy known =
    each-part (λ o. in_lines (λ p s. one_if (((true && (true && same_part o p)) && same_side Buy s) && true)) ≡ 1) refl refl refl refl refl refl refl own known
one-line true true true own Sell known =
    each-part (λ o. in_lines (λ p s. one_if (((true && (true && same_part o p)) && same_side Sell s) && true)) ≡ 1) refl refl refl refl refl refl refl own known
one-line true true false own Buy known =
    each-part (λ o. in_lines (λ p s. one_if (((true && (true && same_part o p)) && same_side Buy s) && false)) ≡ 0) refl refl refl refl refl refl refl own known
one-line true true false own Sell known =
    each-part (λ o. in_lines (λ p s. one_if (((true && (true && same_part o p)) && same_side Sell s) && false)) ≡ 0) refl refl refl refl refl refl refl own known
one-line true false rests own side known = refl
one-line false true rests own side known = refl
one-line false false rests own side known = refl

-- ---- the books

module _ (setup : Setup) (events : List Event) (fit : FitAfter setup [] events) (hour : ℕ) (rests : ℕ → Bool)
    (blocks_rest : (block : PlacedBlock) → IsIn block (blocks_placed events) → block.name.hour ≡ hour → rests block.name.number ≡ true) where
  abbrev ok : OrderName → Bool
  ok name = is_open events name && rests name.number

  -- an order stands in a line, and rests
  abbrev in_line : Part → Side → Placed → Bool
  in_line p s order = stands_in events (contract_of hour p) s order && rests order.name.number

  line-passing : (p : Part) (s : Side)
      → length (filter (λ (r : Resting). rests r.number) (resting_line events (contract_of hour p) s)) ≡ length (filter (in_line p s) (placed events))
  unfolding line
  line-passing p s =
      let contract : Contract = contract_of hour p in
      let stand : List Placed = filter (stands_in events contract s) (placed events) in
      passing-map (λ (r : Resting). rests r.number) resting_of (line events contract s)
      ∙ passing-in_order (λ x. rests x.name.number) (priority_cmp s) (map (standing events) stand)
      ∙ passing-map (λ x. rests x.name.number) (standing events) stand
      ∙ ap length (passing-both (λ (o : Placed). rests o.name.number) (stands_in events contract s) (placed events))

  lines-are : (orders : List Placed) → ((order : Placed) → IsIn order orders → is_known order.order.contract.part ≡ true)
      → in_lines (λ p s. length (filter (in_line p s) orders)) ≡ length (filter (λ (o : Placed). (o.order.contract.hour == hour) && ok o.name) orders)
  lines-are [] known = refl
  lines-are (order ∷ orders) known =
      let of_hour : Placed → Bool = λ o. (o.order.contract.hour == hour) && ok o.name in
      let rest = lines-are orders (λ o i. known o (inr i)) in
      let first = in_lines-same (λ p s. length (filter (in_line p s) (order ∷ orders))) (λ p s. one_if (in_line p s order) + length (filter (in_line p s) orders))
      (λ p s. passing-cons (in_line p s) order orders) in
      let both = in_lines-add (λ p s. one_if (in_line p s order)) (λ p s. length (filter (in_line p s) orders)) in
      let one = one-line (is_open events order.name) (order.order.contract.hour == hour) (rests order.name.number) order.order.contract.part order.order.side (known order (inl refl)) in
      let own = passing-cons of_hour order orders in
      first ∙ both ∙ omega (arith, one, rest, own)

  orders-are : in_lines (λ p s. length (filter (λ (r : Resting). rests r.number) (resting_line events (contract_of hour p) s)))
      ≡ length (filter (of_order hour ok) (placed events))
  orders-are =
      let sound = (all_are_sound setup events fit).orders in
      in_lines-same _ (λ p s. length (filter (in_line p s) (placed events))) line-passing
      ∙ lines-are (placed events) (λ o i. (sound o i).in_part)
      ∙ ap length (filter-same (λ (o : Placed). (o.order.contract.hour == hour) && ok o.name) (of_order hour ok) (placed events)
      (λ o i. ap (λ h. (h == hour) && ok o.name) (sym (sound o i).named)))

  blocks-count : length (blocks_of events hour) ≡ length (filter (of_block hour ok) (blocks_placed events))
  unfolding blocks_of
  blocks-count =
      length-in_order number_cmp (map (resting_block events) (filter (rests_from events hour) (blocks_placed events)))
      ∙ length-map (filter (rests_from events hour) (blocks_placed events)) (resting_block events)
      ∙ ap length (filter-same (rests_from events hour) (of_block hour ok) (blocks_placed events) same)
    where
      go : (opened rest of_hour : Bool) → (of_hour ≡ true → rest ≡ true) → (opened && of_hour) ≡ (of_hour && (opened && rest))
      go true rest true own = sym (own refl)
      go true rest false own = refl
      go false rest true own = refl
      go false rest false own = refl

      same : (block : PlacedBlock) → IsIn block (blocks_placed events) → rests_from events hour block ≡ of_block hour ok block
      same block i =
          ap (λ h. is_open events block.name && (h == hour)) (sym ((all_are_sound setup events fit).blocks block i).named)
          ∙ go (is_open events block.name) (rests block.name.number) (block.name.hour == hour) (λ e. blocks_rest block i (eqb-true block.name.hour hour e))

  -- what rests of the open names stands in the lines of the hour and among its blocks
  all-rest : length (filter (λ (name : OrderName). rests name.number) (filter (is_open events) (filter_map (name_given hour) events)))
      ≡ in_lines (λ p s. length (filter (λ (r : Resting). rests r.number) (resting_line events (contract_of hour p) s))) + length (blocks_of events hour)
  all-rest =
      let names = ap length (passing-both (λ (name : OrderName). rests name.number) (is_open events) (filter_map (name_given hour) events)) in
      let given = names-are hour ok events in
      let orders = orders-are in
      let blocks = blocks-count in
      omega (arith, names, given, orders, blocks)

-- ---- the order in hand

-- a number is not that of the order in hand
abbrev is_beside : Option ℕ → ℕ → Bool
is_beside None number = true
is_beside (Some held) number = not (number == held)

all-stay : (line : List Resting) → length (filter (λ (r : Resting). true) line) ≡ length line
all-stay [] = refl
all-stay (x ∷ line) = let rest = all-stay line in omega (arith, rest)

-- the lines of a book, without the order in hand
book-count : (events : List Event) (hour : ℕ) (hand : Option ℕ)
    → order_count (without_hand hand (book_of events hour)) ≡ in_lines (λ p s. length (filter (λ (r : Resting). is_beside hand r.number) (resting_line events (contract_of hour p) s)))
unfolding book_of
book-count events hour None =
    omega arith ∙ in_lines-same (λ p s. length (resting_line events (contract_of hour p) s)) _ (λ p s. sym (all-stay (resting_line events (contract_of hour p) s)))
book-count events hour (Some held) = omega arith

names-count : (hand : Option ℕ) (names : List OrderName)
    → length (filter (λ name. not (is_in_hand hand name)) names) ≡ length (filter (λ (name : OrderName). is_beside hand name.number) names)
names-count None names = refl
names-count (Some held) names = refl

pub all_rest : AllThatRestIsInTheBooks
all_rest graph hour events hand stands of_order =
    let history : List Event = stands.history in
    let names = ap (λ ns. length (filter (λ name. not (is_in_hand hand name)) ns)) (open_names-agree (hour ∷ []) events history (agrees graph hour events stands) hour (inl refl)) in
    let named = names-count hand (filter (is_open history) (filter_map (name_given hour) history)) in
    let book = ap (λ b. order_count (without_hand hand b)) (book-is graph hour events stands) in
    let counted = book-count history hour hand in
    let blocks = ap length (blocks-are graph hour events stands) in
    let all = all-rest stands.setup history stands.fit hour (is_beside hand) (beside hand of_order) in
    omega (arith, names, named, book, counted, blocks, all)
  where
    -- the number in hand is an order's, and so no block's
    beside : (held : Option ℕ) → ((number : ℕ) → held ≡ Some number → IsOfOrder events (record { hour = hour; number = number }))
        → (block : PlacedBlock) → IsIn block (blocks_placed stands.history) → block.name.hour ≡ hour → is_beside held block.name.number ≡ true
    beside None own block i of_hour = refl
    beside (Some held) own block i of_hour = go (block.name.number == held) refl
      where
        go : (b : Bool) → (block.name.number == held) ≡ b → not b ≡ true
        go false e = refl
        go true e =
            let order = own held refl in
            let name : OrderName = record { hour = hour; number = held } in
            let there = placed-too graph hour events stands order.0 (ap (λ (n : OrderName). n.hour) order.2) order.1 in
            let same : block.name ≡ name = same_names block.name name of_hour (eqb-true block.name.number held e) in
            absurd (order_is_no_block stands.history (names-once stands.setup stands.history stands.fit) order.0 block there i (order.2 ∙ sym same))
