-- How many names an hour has given, and with one more event.
use Rattle.std.proofs.Common.{◌≡◌, ℕ, ◌+◌, Bool, true, false, cond, List, [], ◌∷◌, refl, ap, arith}
use Rattle.std.proofs.lemmas.List.Sums.{sum_by-append}
use Rattle.std.specs.List.{count_by}
use Rattle.market_model.specs.declared.event.Event.{Event}
use Rattle.market_model.specs.History.{and_then, enters_in}
use Rattle.market_model.specs.Orders.{next_name}

-- 1 where a test holds
abbrev pub one_if : Bool → ℕ
one_if true = 1
one_if false = 0

count-one : (hour : ℕ) (e : Event) → count_by (enters_in hour) (e ∷ []) ≡ one_if (enters_in hour e)
count-one hour e = go (enters_in hour e)
  where
    go : (b : Bool) → 0 + cond b 1 0 ≡ one_if b
    go true = refl
    go false = refl

-- one more event gives one more name where an order or a block enters by it
pub count-more : (hour : ℕ) (events : List Event) (e : Event) → count_by (enters_in hour) (and_then events e) ≡ count_by (enters_in hour) events + one_if (enters_in hour e)
count-more hour events e =
    let all = sum_by-append (λ (x : Event). cond (enters_in hour x) 1 0) events (e ∷ []) in
    let own = count-one hour e in
    omega (arith, all, own)

-- else the next name is as before
pub same-next : (hour : ℕ) (events : List Event) (e : Event) → enters_in hour e ≡ false → next_name (and_then events e) hour ≡ next_name events hour
same-next hour events e none =
    let more = count-more hour events e in
    let no = ap one_if none in
    let same : count_by (enters_in hour) (and_then events e) ≡ count_by (enters_in hour) events = omega (arith, more, no) in
    ap (λ n. record { hour = hour; number = n + 1 }) same
