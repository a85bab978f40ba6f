-- Sums over the orders of a line are sums over those that entered, each of whose names stands once.
use Rattle.std.proofs.Common.{◌≡◌, ◌∙◌, inl, inr, ℕ, ◌+◌, ◌≤◌, Bool, true, false, cond, List, [], ◌∷◌, filter, fold, map, sum_by, Option, Some, None, refl, sym, ap, subst, if◌then◌else◌, arith}
use Rattle.std.proofs.lemmas.Bool.{true≢false}
use Rattle.std.proofs.lemmas.List.Sums.{sum_by-cons}
use Rattle.std.specs.List.{cons_option}
use Rattle.std.specs.Ordering.{is_lt}
use Rattle.std.specs.declared.cmp.Ordering.{Ordering}
use Rattle.order_kinds.specs.declared.contract.Contract.{Contract}
use Rattle.order_kinds.specs.declared.order.OrderName.{OrderName}
use Rattle.order_kinds.specs.declared.side.Side.{Side}
use Rattle.order_kinds.specs.Same.{same_name}
use Rattle.zone_graph.specs.Pour.{lots_if}
use Rattle.zone_graph.specs.Route.{IsIn}
use Rattle.market_model.specs.declared.event.Event.{Event}
use Rattle.market_model.specs.Lines.{line, priority_cmp, stands_in}
use Rattle.market_model.specs.Orders.{Placed, Standing, placed, placed_by, standing}
use Rattle.laws_of_market.proofs.Names.{NamesOnce, enters_as, times_entered}
use Rattle.laws_of_market.proofs.Tests.{same_name-eq, same_name-refl}
use Rattle.laws_of_market.proofs.Unique.{enters-placed}
use Rattle.zone_graph.specs.InOrder.{put_in_order, in_order}

-- ---- lists in order

-- a sum over a list in order is that over the list
sum-put : {X : Type 0} (f : X → ℕ) (cmp : X → X → Ordering) (ys : List X) (x : X) → sum_by f (put_in_order cmp ys x) ≡ f x + sum_by f ys
sum-put f cmp [] x = sum_by-cons f x []
sum-put f cmp (y ∷ ys) x = go (sum-put f cmp ys x) (is_lt (cmp x y))
  where
    go : sum_by f (put_in_order cmp ys x) ≡ f x + sum_by f ys → (b : Bool)
        → sum_by f (if b then (x ∷ y ∷ ys) else (y ∷ put_in_order cmp ys x)) ≡ f x + sum_by f (y ∷ ys)
    go rest true = sum_by-cons f x (y ∷ ys)
    go rest false = rw (sum_by-cons f y (put_in_order cmp ys x), sum_by-cons f y ys) (omega (arith, rest))

sum-fold : {X : Type 0} (f : X → ℕ) (cmp : X → X → Ordering) (ys xs : List X) → sum_by f (fold (put_in_order cmp) ys xs) ≡ sum_by f ys + sum_by f xs
sum-fold f cmp ys [] = omega arith
sum-fold f cmp ys (x ∷ xs) =
    let rest = sum-fold f cmp (put_in_order cmp ys x) xs in
    let one = sum-put f cmp ys x in
    let own = sum_by-cons f x xs in omega (arith, rest, one, own)

pub sum-in_order : {X : Type 0} (f : X → ℕ) (cmp : X → X → Ordering) (xs : List X) → sum_by f (in_order cmp xs) ≡ sum_by f xs
sum-in_order f cmp xs = let all = sum-fold f cmp [] xs in omega (arith, all)

pub sum-map : {X Y : Type 0} (f : Y → ℕ) (g : X → Y) (xs : List X) → sum_by f (map g xs) ≡ sum_by (λ x. f (g x)) xs
sum-map f g [] = refl
sum-map f g (x ∷ xs) = sum_by-cons f (g x) (map g xs) ∙ ap (λ n. f (g x) + n) (sum-map f g xs) ∙ sym (sum_by-cons (λ y. f (g y)) x xs)

-- what passes a test counts, and nothing else
pub sum-filter : {X : Type 0} (f : X → ℕ) (p : X → Bool) (xs : List X) → sum_by f (filter p xs) ≡ sum_by (λ x. lots_if (p x) (f x)) xs
sum-filter f p [] = refl
sum-filter {X} f p (x ∷ xs) = by (p x) (sum-filter f p xs) ∙ sym (sum_by-cons (λ y. lots_if (p y) (f y)) x xs)
  where
    by : (b : Bool) → sum_by f (filter p xs) ≡ sum_by (λ y. lots_if (p y) (f y)) xs
        → sum_by f (cond b (x ∷ filter p xs) (filter p xs)) ≡ lots_if b (f x) + sum_by (λ y. lots_if (p y) (f y)) xs
    by true rest = sum_by-cons f x (filter p xs) ∙ ap (λ n. f x + n) rest
    by false rest = rest ∙ (let none : sum_by (λ y. lots_if (p y) (f y)) xs ≡ 0 + sum_by (λ y. lots_if (p y) (f y)) xs = omega arith in none)

-- a sum over a line
pub sum-line : (events : List Event) (contract : Contract) (side : Side) (f : Standing → ℕ)
    → sum_by f (line events contract side) ≡ sum_by (λ order. lots_if (stands_in events contract side order) (f (standing events order))) (placed events)
unfolding line
sum-line events contract side f =
    sum-in_order f (priority_cmp side) (map (standing events) (filter (stands_in events contract side) (placed events)))
    ∙ sum-map f (standing events) (filter (stands_in events contract side) (placed events))
    ∙ sum-filter (λ order. f (standing events order)) (stands_in events contract side) (placed events)

-- ---- names

abbrev pub one_if : Bool → ℕ
one_if b = cond b 1 0

-- how often a name stands among the orders that entered
pub times_placed : (name : OrderName) (events : List Event) → sum_by (λ (p : Placed). one_if (same_name p.name name)) (placed events) ≤ times_entered events name
times_placed name [] = omega arith
times_placed name (e ∷ events) = go (times_placed name events) (placed_by e) refl
  where
    go : sum_by (λ (p : Placed). one_if (same_name p.name name)) (placed events) ≤ times_entered events name → (o : Option Placed) → placed_by e ≡ o
        → sum_by (λ (p : Placed). one_if (same_name p.name name)) (cons_option o (placed events)) ≤ times_entered (e ∷ events) name
    go rest None is = rw (sum_by-cons (λ x. one_if (enters_as name x)) e events) (omega (arith, rest))
    go rest (Some p) is =
        let own = by (same_name p.name name) refl in
        rw (sum_by-cons (λ x. one_if (enters_as name x)) e events, sum_by-cons (λ (q : Placed). one_if (same_name q.name name)) p (placed events)) (omega (arith, rest, own))
      where
        by : (b : Bool) → same_name p.name name ≡ b → one_if b ≤ one_if (enters_as name e)
        by false s = omega arith
        by true s =
            let enters : enters_as name e ≡ true = subst (λ n. enters_as n e ≡ true) (same_name-eq p.name name s) (enters-placed p e is) in
            rw enters (omega arith)

-- where nothing passes nothing counts
count-none : {X : Type 0} (p : X → Bool) (xs : List X) (lots : ℕ) → sum_by (λ x. one_if (p x)) xs ≡ 0 → sum_by (λ x. lots_if (p x) lots) xs ≡ 0
count-none p [] lots none = refl
count-none {X} p (x ∷ xs) lots none =
    go (p x) refl (sum_by-cons (λ y. one_if (p y)) x xs) (sum_by-cons (λ y. lots_if (p y) lots) x xs) (count-none p xs lots)
  where
    go : (b : Bool) → p x ≡ b → sum_by (λ y. one_if (p y)) (x ∷ xs) ≡ one_if (p x) + sum_by (λ y. one_if (p y)) xs
        → sum_by (λ y. lots_if (p y) lots) (x ∷ xs) ≡ lots_if (p x) lots + sum_by (λ y. lots_if (p y) lots) xs
        → (sum_by (λ y. one_if (p y)) xs ≡ 0 → sum_by (λ y. lots_if (p y) lots) xs ≡ 0) → sum_by (λ y. lots_if (p y) lots) (x ∷ xs) ≡ 0
    go true e counts sums later = let one : one_if (p x) ≡ 1 = ap one_if e in absurd (omega (arith, counts, one, none))
    go false e counts sums later =
        let nothing : lots_if (p x) lots ≡ 0 = ap (λ b. lots_if b lots) e in
        let rest = later (omega (arith, counts, none)) in omega (arith, sums, nothing, rest)

-- what counts at the one that passes
pub count-one : {X : Type 0} (p : X → Bool) (xs : List X) (x : X) (lots : ℕ) → IsIn x xs → p x ≡ true → sum_by (λ y. one_if (p y)) xs ≤ 1
    → sum_by (λ y. lots_if (p y) lots) xs ≡ lots
count-one p [] x lots i passes once = absurd i
count-one {X} p (y ∷ xs) x lots i passes once =
    go (p y) refl (sum_by-cons (λ z. one_if (p z)) y xs) (sum_by-cons (λ z. lots_if (p z) lots) y xs) (λ j few. count-one p xs x lots j passes few)
  where
    go : (b : Bool) → p y ≡ b → sum_by (λ z. one_if (p z)) (y ∷ xs) ≡ one_if (p y) + sum_by (λ z. one_if (p z)) xs
        → sum_by (λ z. lots_if (p z) lots) (y ∷ xs) ≡ lots_if (p y) lots + sum_by (λ z. lots_if (p z) lots) xs
        → (IsIn x xs → sum_by (λ z. one_if (p z)) xs ≤ 1 → sum_by (λ z. lots_if (p z) lots) xs ≡ lots) → sum_by (λ z. lots_if (p z) lots) (y ∷ xs) ≡ lots
    go true e counts sums later =
        let one : one_if (p y) ≡ 1 = ap one_if e in
        let own : lots_if (p y) lots ≡ lots = ap (λ b. lots_if b lots) e in
        let none = count-none p xs lots (omega (arith, counts, one, once)) in
        omega (arith, sums, own, none)
    go false e counts sums later =
        let none : one_if (p y) ≡ 0 = ap one_if e in
        let nothing : lots_if (p y) lots ≡ 0 = ap (λ b. lots_if b lots) e in
        elim i [
          | inl s ↦ absurd (true≢false (sym passes ∙ ap p s ∙ e))
          | inr j ↦ let rest = later j (omega (arith, counts, none, once)) in omega (arith, sums, nothing, rest)
        ]

-- so what counts at the orders of the name of one that entered counts once
pub count-named : (events : List Event) (order : Placed) (lots : ℕ) → NamesOnce events → IsIn order (placed events)
    → sum_by (λ (p : Placed). lots_if (same_name p.name order.name) lots) (placed events) ≡ lots
count-named events order lots names there =
    let few = times_placed order.name events in
    let once = names.once order.name in
    count-one (λ (p : Placed). same_name p.name order.name) (placed events) order lots there (same_name-refl order.name) (omega (arith, few, once))
