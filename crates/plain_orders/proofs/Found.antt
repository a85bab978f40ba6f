-- Orders and blocks that are sought by their names, and how many enter in an hour.
use Rattle.std.proofs.Common.{◌≡◌, ◌∙◌, ◌&&◌, Bool, true, false, List, [], ◌∷◌, None, refl, ap}
use Rattle.std.specs.List.{find}
use Rattle.order_kinds.specs.declared.order.OrderName.{OrderName}
use Rattle.order_kinds.specs.Same.{same_name}
use Rattle.market_model.specs.declared.event.Event.{Event}
use Rattle.market_model.specs.Orders.{is_open}
use Rattle.laws_of_market.proofs.Tests.{same_name-eq}
use Rattle.laws_of_market.proofs.Restrict.{find-same}

both-open : (events : List Event) (given name : OrderName) (b : Bool) → is_open events name ≡ b → (same_name given name && is_open events given) ≡ (same_name given name && b)
both-open events given name b is = go (same_name given name) refl
  where
    go : (t : Bool) → same_name given name ≡ t → (t && is_open events given) ≡ (t && b)
    go true e = ap (is_open events) (same_name-eq given name e) ∙ is
    go false e = refl

-- where a name is open, who bears it is open
pub find-open : {X : Type 0} (name_of : X → OrderName) (events : List Event) (name : OrderName) (xs : List X) → is_open events name ≡ true
    → find (λ x. same_name (name_of x) name && is_open events (name_of x)) xs ≡ find (λ x. same_name (name_of x) name) xs
find-open name_of events name xs is =
    find-same _ _ xs (λ x i. both-open events (name_of x) name true is ∙ and-itself (same_name (name_of x) name))
  where
    and-itself : (t : Bool) → (t && true) ≡ t
    and-itself true = refl
    and-itself false = refl

-- where it is not, nobody is found
pub find-closed : {X : Type 0} (name_of : X → OrderName) (events : List Event) (name : OrderName) (xs : List X) → is_open events name ≡ false
    → find (λ x. same_name (name_of x) name && is_open events (name_of x)) xs ≡ None
find-closed name_of events name [] is = refl
find-closed name_of events name (x ∷ xs) is = rw (both-open events (name_of x) name false is, and-false (same_name (name_of x) name)) (find-closed name_of events name xs is)
  where
    and-false : (t : Bool) → (t && false) ≡ false
    and-false true = refl
    and-false false = refl
