-- An order that enters counts in its own hour alone.
use Rattle.std.proofs.Common.{◌≡◌, ◌<◌, inl, inr, ℕ, ◌+◌, Bool, true, false, cond, List, [], ◌∷◌, ◌++◌, count_by, nat_eq, eqb-true, refl, ap, arith}
use Rattle.std.proofs.lemmas.Bool.{true≢false}
use Rattle.std.proofs.lemmas.List.Sums.{sum_by-append, sum_by-cons}
use Rattle.order_kinds.specs.declared.contract.Part.{Part}
use Rattle.order_kinds.specs.declared.order.Order.{Order}
use Rattle.order_kinds.specs.declared.order.OrderName.{OrderName}
use Rattle.zone_graph.specs.Graph.{Graph}
use Rattle.laws_of_market.proofs.Closing.{AreQuiet, quiet-append, rest-quiet, sweep-quiet, take-quiet}
use Rattle.market_model.specs.declared.event.Event.{Event}
use Rattle.market_model.specs.declared.event.Event.TheVariants as event
use Rattle.market_model.specs.Entering.{enter, legs_taken, name_of_next, rest_of, rest_withdrawn, with_order}
use Rattle.market_model.specs.History.{enters, enters_in}
use Rattle.market_model.specs.Sweep.{sweep}

-- an event by which nothing enters
quiet-here : (hour : ℕ) (e : Event) → enters e ≡ false → enters_in hour e ≡ false
quiet-here hour (event.Entered name caller order) quiet = absurd (true≢false quiet)
quiet-here hour (event.EnteredBlock name caller order) quiet = absurd (true≢false quiet)
quiet-here hour (event.Leg contract leg) quiet = refl
quiet-here hour (event.BlockLeg first last leg) quiet = refl
quiet-here hour (event.Granted arc first last lots) quiet = refl
quiet-here hour (event.Offered arc first last lots) quiet = refl
quiet-here hour (event.Halted border first last) quiet = refl
quiet-here hour (event.Resumed border first last) quiet = refl
quiet-here hour (event.Gated gated phase) quiet = refl
quiet-here hour (event.Withdrawn name lots) quiet = refl
quiet-here hour (event.Reduced name by) quiet = refl

-- what an event counts in an hour
abbrev counted : (hour : ℕ) → Event → ℕ
counted hour e = cond (enters_in hour e) 1 0

quiet-count : (hour : ℕ) (events : List Event) → AreQuiet events → count_by (enters_in hour) events ≡ 0
quiet-count hour [] quiet = refl
quiet-count hour (e ∷ events) quiet =
    let here : counted hour e ≡ 0 = ap (λ b. cond b 1 0) (quiet-here hour e (quiet e (inl refl))) in
    let rest = quiet-count hour events (λ other i. quiet other (inr i)) in
    let whole = sum_by-cons (counted hour) e events in
    omega (arith, here, rest, whole)

-- numbers that are apart
apart : (a b : ℕ) → a < b → nat_eq a b ≡ false
apart a b less = go (nat_eq a b) refl
  where
    go : (t : Bool) → nat_eq a b ≡ t → t ≡ false
    go true e = let same = eqb-true a b e in absurd (omega arith)
    go false e = refl

-- the count of a later hour stays
pub later-count : (parts : List Part) (graph : Graph) (caller : ℕ) (order : Order) (events : List Event) (hour : ℕ) → order.contract.hour < hour
    → count_by (enters_in hour) (events ++ enter parts graph caller order events) ≡ count_by (enters_in hour) events
unfolding enter
later-count parts graph caller order events hour later =
    let name : OrderName = name_of_next events order in
    let entry : List Event = event.Entered name caller order ∷ [] in
    let legs : List Event = legs_taken graph events caller order in
    let rest : List Event = rest_withdrawn order.kind name (rest_of graph events caller order) in
    let done : List Event = entry ++ legs ++ rest in
    let swept : List Event = sweep parts graph order.contract.hour (events ++ done) in
    let quiet : AreQuiet ((legs ++ rest) ++ swept) =
    quiet-append (legs ++ rest) swept
    (quiet-append legs rest (take-quiet graph (with_order events caller order) name) (rest-quiet order.kind name (rest_of graph events caller order)))
    (sweep-quiet parts graph order.contract.hour (events ++ done)) in
    let count : List Event → ℕ = count_by (enters_in hour) in
    let whole : count (events ++ (done ++ swept)) ≡ count events + count (done ++ swept) = sum_by-append (counted hour) events (done ++ swept) in
    let none : count ((legs ++ rest) ++ swept) ≡ 0 = quiet-count hour ((legs ++ rest) ++ swept) quiet in
    let own : count (done ++ swept) ≡ counted hour (event.Entered name caller order) + count ((legs ++ rest) ++ swept) =
    sum_by-cons (counted hour) (event.Entered name caller order) ((legs ++ rest) ++ swept) in
    let other : counted hour (event.Entered name caller order) ≡ 0 = ap (λ b. cond b 1 0) (apart order.contract.hour hour later) in
    omega (arith, whole, none, own, other)
