-- Each order stands once in a line, so that what is withdrawn of the orders of a line is withdrawn
-- of each of them once.
use Rattle.std.proofs.Common.{◌≡◌, ◌∙◌, inl, inr, ℕ, ◌+◌, ◌-◌, ◌≤◌, Bool, true, false, cond, List, [], ◌∷◌, filter, map, nat_lt, sum_by, refl, sym, ap, subst, arith}
use Rattle.std.proofs.lemmas.Bool.{ltb-false, true≢false}
use Rattle.std.proofs.lemmas.List.Sums.{sum_by-cons}
use Rattle.order_kinds.specs.declared.contract.Contract.{Contract}
use Rattle.order_kinds.specs.declared.order.OrderName.{OrderName}
use Rattle.order_kinds.specs.declared.side.Side.{Side}
use Rattle.order_kinds.specs.Same.{same_name}
use Rattle.zone_graph.specs.Pour.{lots_if}
use Rattle.zone_graph.specs.Route.{IsIn}
use Rattle.market_model.specs.declared.event.Event.{Event}
use Rattle.market_model.specs.Lines.{line, stands_in}
use Rattle.market_model.specs.Orders.{Placed, Standing, placed, taken_off_by}
use Rattle.market_model.specs.View.{hidden_withdrawn}
use Rattle.laws_of_market.proofs.LineSums.{one_if, sum-line, times_placed}
use Rattle.laws_of_market.proofs.Names.{times_entered}
use Rattle.laws_of_market.proofs.Tests.{same_name-refl}

-- what counts where a test passes is no more than all
sum-if : {X : Type 0} (f : X → ℕ) (p : X → Bool) (xs : List X) → sum_by (λ x. lots_if (p x) (f x)) xs ≤ sum_by f xs
sum-if f p [] = omega arith
sum-if {X} f p (x ∷ xs) =
    let counted = sum_by-cons (λ y. lots_if (p y) (f y)) x xs in
    let all = sum_by-cons f x xs in
    let own = by (p x) in
    let rest = sum-if f p xs in omega (arith, counted, all, own, rest)
  where
    by : (b : Bool) → lots_if b (f x) ≤ f x
    by true = omega arith
    by false = omega arith

times_in_line : (events : List Event) (contract : Contract) (side : Side) (name : OrderName)
    → sum_by (λ (s : Standing). one_if (same_name s.name name)) (line events contract side) ≤ times_entered events name
times_in_line events contract side name =
    let all = sum-line events contract side (λ s. one_if (same_name s.name name)) in
    let kept = sum-if (λ (p : Placed). one_if (same_name p.name name)) (stands_in events contract side) (placed events) in
    let most = times_placed name events in
    omega (arith, all, kept, most)

-- ---- what is withdrawn

-- what is hidden of the orders of a name
abbrev pub hidden_of : OrderName → Standing → ℕ
hidden_of name s = lots_if (same_name s.name name) (s.left - s.shown)

-- the withdrawals of what is hidden take that off
pub withdrawn-hidden : (name : OrderName) (orders : List Standing)
    → sum_by (taken_off_by name) (map hidden_withdrawn (filter (λ (s : Standing). nat_lt s.shown s.left) orders)) ≡ sum_by (hidden_of name) orders
withdrawn-hidden name [] = refl
withdrawn-hidden name (s ∷ orders) = go (withdrawn-hidden name orders) (nat_lt s.shown s.left) refl
  where
    nothing : (b : Bool) → s.left ≤ s.shown → lots_if b (s.left - s.shown) ≡ 0
    nothing true none = omega (arith, none)
    nothing false none = refl

    go : sum_by (taken_off_by name) (map hidden_withdrawn (filter (λ (o : Standing). nat_lt o.shown o.left) orders)) ≡ sum_by (hidden_of name) orders → (b : Bool) → nat_lt s.shown s.left ≡ b
        → sum_by (taken_off_by name) (map hidden_withdrawn (cond b (s ∷ filter (λ (o : Standing). nat_lt o.shown o.left) orders) (filter (λ (o : Standing). nat_lt o.shown o.left) orders)))
        ≡ sum_by (hidden_of name) (s ∷ orders)
    go rest true e =
        sum_by-cons (taken_off_by name) (hidden_withdrawn s) (map hidden_withdrawn (filter (λ (o : Standing). nat_lt o.shown o.left) orders))
        ∙ ap (λ n. hidden_of name s + n) rest ∙ sym (sum_by-cons (hidden_of name) s orders)
    go rest false e =
        let none = nothing (same_name s.name name) (ltb-false s.shown s.left e) in
        let sums = sum_by-cons (hidden_of name) s orders in omega (arith, rest, sums, none)

pub hidden-none : (name : OrderName) (orders : List Standing) → ((s : Standing) → IsIn s orders → same_name s.name name ≡ false) → sum_by (hidden_of name) orders ≡ 0
hidden-none name [] other = refl
hidden-none name (s ∷ orders) other =
    let sums = sum_by-cons (hidden_of name) s orders in
    let own : hidden_of name s ≡ 0 = ap (λ b. lots_if b (s.left - s.shown)) (other s (inl refl)) in
    let rest = hidden-none name orders (λ o i. other o (inr i)) in omega (arith, sums, own, rest)

-- a name that stands once has what is hidden of its order
count-none : (name : OrderName) (orders : List Standing) → sum_by (λ (s : Standing). one_if (same_name s.name name)) orders ≡ 0
    → (s : Standing) → IsIn s orders → same_name s.name name ≡ false
count-none name [] none s i = absurd i
count-none name (o ∷ orders) none s i =
    go (λ z j. count-none name orders z s j) (same_name o.name name) refl (sym (sum_by-cons (λ (x : Standing). one_if (same_name x.name name)) o orders) ∙ none)
  where
    go : (sum_by (λ (x : Standing). one_if (same_name x.name name)) orders ≡ 0 → IsIn s orders → same_name s.name name ≡ false)
        → (b : Bool) → same_name o.name name ≡ b → one_if (same_name o.name name) + sum_by (λ (x : Standing). one_if (same_name x.name name)) orders ≡ 0 → same_name s.name name ≡ false
    go later true e all = let one = rw e at all in absurd (omega (arith, one))
    go later false e all =
        let none_of = rw e at all in
        elim i [ inl same ↦ ap (λ (x : Standing). same_name x.name name) same ∙ e | inr j ↦ later (omega (arith, none_of)) j ]

hidden-one : (s : Standing) (orders : List Standing) → IsIn s orders → sum_by (λ (o : Standing). one_if (same_name o.name s.name)) orders ≤ 1
    → sum_by (hidden_of s.name) orders ≡ s.left - s.shown
hidden-one s [] i once = absurd i
hidden-one s (o ∷ orders) i once =
    let counted = sum_by-cons (λ (x : Standing). one_if (same_name x.name s.name)) o orders in
    let sums = sum_by-cons (hidden_of s.name) o orders in
    elim i [
      | inl same ↦
          let own : same_name o.name s.name ≡ true = subst (λ (x : Standing). same_name x.name s.name ≡ true) same (same_name-refl s.name) in
          let one : one_if (same_name o.name s.name) ≡ 1 = ap one_if own in
          let none = hidden-none s.name orders (count-none s.name orders (omega (arith, counted, one, once))) in
          let here : hidden_of s.name o ≡ o.left - o.shown = ap (λ b. lots_if b (o.left - o.shown)) own in
          let its : o.left - o.shown ≡ s.left - s.shown = ap (λ (x : Standing). x.left - x.shown) (sym same) in
          omega (arith, sums, none, here, its)
      | inr j ↦ go (λ few. hidden-one s orders j few) (same_name o.name s.name) refl counted sums j
    ]
  where
    go : (sum_by (λ (x : Standing). one_if (same_name x.name s.name)) orders ≤ 1 → sum_by (hidden_of s.name) orders ≡ s.left - s.shown)
        → (b : Bool) → same_name o.name s.name ≡ b
        → sum_by (λ (x : Standing). one_if (same_name x.name s.name)) (o ∷ orders) ≡ one_if (same_name o.name s.name) + sum_by (λ (x : Standing). one_if (same_name x.name s.name)) orders
        → sum_by (hidden_of s.name) (o ∷ orders) ≡ hidden_of s.name o + sum_by (hidden_of s.name) orders → IsIn s orders
        → sum_by (hidden_of s.name) (o ∷ orders) ≡ s.left - s.shown
    go later true e counted sums j =
        let one : one_if (same_name o.name s.name) ≡ 1 = ap one_if e in
        absurd (true≢false (sym (same_name-refl s.name) ∙ count-none s.name orders (omega (arith, counted, one, once)) s j))
    go later false e counted sums j =
        let none : one_if (same_name o.name s.name) ≡ 0 = ap one_if e in
        let here : hidden_of s.name o ≡ 0 = ap (λ b. lots_if b (o.left - o.shown)) e in
        let rest = later (omega (arith, counted, none, once)) in omega (arith, sums, here, rest)

pub hidden-in_line : (events : List Event) (contract : Contract) (side : Side) (s : Standing) → ((name : OrderName) → times_entered events name ≤ 1)
    → IsIn s (line events contract side) → sum_by (hidden_of s.name) (line events contract side) ≡ s.left - s.shown
hidden-in_line events contract side s once i =
    hidden-one s (line events contract side) i (let most = times_in_line events contract side s.name in let one = once s.name in omega (arith, most, one))
