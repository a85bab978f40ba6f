-- What happens as orders enter depends on the events of their hours alone.
use Rattle.std.proofs.Common.{◌≡◌, ◌∙◌, inl, inr, ℕ, zero, suc, List, [], ◌∷◌, ◌++◌, refl, sym, ap, subst}
use Rattle.order_kinds.specs.declared.contract.Part.{Part}
use Rattle.order_kinds.specs.declared.order.Kind.{Kind}
use Rattle.order_kinds.specs.declared.order.Kind.TheVariants as kind
use Rattle.order_kinds.specs.declared.order.Order.{Order}
use Rattle.order_kinds.specs.declared.order.OrderName.{OrderName}
use Rattle.zone_graph.specs.Graph.{Graph}
use Rattle.zone_graph.specs.Route.{IsIn}
use Rattle.market_model.specs.declared.event.Event.{Event}
use Rattle.market_model.specs.declared.event.Event.TheVariants as event
use Rattle.market_model.specs.Entering.{after_taking, enter, enter_all, legs_taken, name_of_next, rest_of, rest_withdrawn, with_order}
use Rattle.market_model.specs.History.{and_then}
use Rattle.market_model.specs.Orders.{left}
use Rattle.market_model.specs.Sweep.{sweep, sweeps}
use Rattle.market_model.specs.Taking.{take}
use Rattle.laws_of_market.proofs.LocalLines.{sweep-agree, sweep-named, take-agree, take-named}
use Rattle.laws_of_market.proofs.NamedByHour.{AreNamedByHour, IsNamedByHour, named-append}
use Rattle.laws_of_market.proofs.LocalStates.{Agree, agree-append, agree-more, left-agree, next_name-agree}

pub sweeps-agree : (hours : List ℕ) (parts : List Part) (graph : Graph) (swept : List ℕ) (a b : List Event) → Agree hours a b
    → ((hour : ℕ) → IsIn hour swept → IsIn hour hours) → sweeps parts graph swept a ≡ sweeps parts graph swept b
sweeps-agree hours parts graph [] a b agree within = refl
sweeps-agree hours parts graph (hour ∷ swept) a b agree within =
    let legs : List Event = sweep parts graph hour a in
    let same = sweep-agree hours a b parts graph hour agree (within hour (inl refl)) in
    let own = sweep-named parts graph hour a agree.named_a in
    ap (λ rest. legs ++ rest) (sweeps-agree hours parts graph swept (a ++ legs) (b ++ legs) (agree-append hours a b legs agree own) (λ k i. within k (inr i)))
    ∙ ap (λ l. l ++ sweeps parts graph swept (b ++ l)) same

rest-named : (kind : Kind) (name : OrderName) (rest : ℕ) → AreNamedByHour (rest_withdrawn kind name rest)
rest-named kind.Ioc name zero = λ e h. absurd h
rest-named kind.Ioc name (suc more) = λ e h. elim h [ inl s ↦ subst IsNamedByHour (sym s) tt | inr i ↦ absurd i ]
rest-named kind.Limit name rest = λ e h. absurd h
rest-named kind.Fok name rest = λ e h. absurd h
rest-named (kind.Iceberg peak delta) name rest = λ e h. absurd h

module _ (hours : List ℕ) (a b : List Event) (agree : Agree hours a b) (graph : Graph) (caller : ℕ) (order : Order) (h : IsIn order.contract.hour hours) where
  -- the order as it enters
  abbrev pub entry : Event
  entry = event.Entered (name_of_next a order) caller order

  names : name_of_next a order ≡ name_of_next b order
  names = next_name-agree hours a b agree order.contract.hour h

  pub with_order-agree : Agree hours (with_order a caller order) (with_order b caller order)
  with_order-agree =
      subst (λ (n : OrderName). Agree hours (with_order a caller order) (and_then b (event.Entered n caller order))) names (agree-more hours a b entry agree refl)

  pub legs_taken-agree : legs_taken graph a caller order ≡ legs_taken graph b caller order
  legs_taken-agree =
      take-agree hours (with_order a caller order) (with_order b caller order) graph (name_of_next a order) with_order-agree h
      ∙ ap (take graph (with_order b caller order)) names

  pub legs_taken-named : AreNamedByHour (legs_taken graph a caller order)
  legs_taken-named = take-named graph (with_order a caller order) (name_of_next a order) with_order-agree.named_a

  pub after_taking-agree : Agree hours (after_taking graph a caller order) (after_taking graph b caller order)
  after_taking-agree =
      subst (λ l. Agree hours (after_taking graph a caller order) (with_order b caller order ++ l)) legs_taken-agree
      (agree-append hours (with_order a caller order) (with_order b caller order) (legs_taken graph a caller order) with_order-agree legs_taken-named)

  pub rest_of-agree : rest_of graph a caller order ≡ rest_of graph b caller order
  rest_of-agree =
      left-agree hours (after_taking graph a caller order) (after_taking graph b caller order) after_taking-agree (name_of_next a order) h
      ∙ ap (left (after_taking graph b caller order)) names

  -- the events of an order that enters, in parts
  abbrev pub before_sweep : List Event → List Event
  before_sweep events =
      (event.Entered (name_of_next events order) caller order ∷ []) ++ legs_taken graph events caller order
      ++ rest_withdrawn order.kind (name_of_next events order) (rest_of graph events caller order)

  before_sweep-agree : before_sweep a ≡ before_sweep b
  before_sweep-agree =
      ap (λ (n : OrderName). (event.Entered n caller order ∷ []) ++ legs_taken graph a caller order ++ rest_withdrawn order.kind n (rest_of graph a caller order)) names
      ∙ ap (λ l. (event.Entered (name_of_next b order) caller order ∷ []) ++ l ++ rest_withdrawn order.kind (name_of_next b order) (rest_of graph a caller order)) legs_taken-agree
      ∙ ap (λ n. (event.Entered (name_of_next b order) caller order ∷ []) ++ legs_taken graph b caller order ++ rest_withdrawn order.kind (name_of_next b order) n) rest_of-agree

  pub before_sweep-named : AreNamedByHour (before_sweep a)
  before_sweep-named =
      named-append ((entry ∷ []) ++ legs_taken graph a caller order) (rest_withdrawn order.kind (name_of_next a order) (rest_of graph a caller order))
      (named-append (entry ∷ []) (legs_taken graph a caller order) (λ e i. elim i [ inl s ↦ subst IsNamedByHour (sym s) refl | inr k ↦ absurd k ]) legs_taken-named)
      (rest-named order.kind (name_of_next a order) (rest_of graph a caller order))

  pub enter-agree : (parts : List Part) → enter parts graph caller order a ≡ enter parts graph caller order b
  unfolding enter
  enter-agree parts =
      ap (λ legs. before_sweep a ++ legs) (sweep-agree hours (a ++ before_sweep a) (b ++ before_sweep a) parts graph order.contract.hour
      (agree-append hours a b (before_sweep a) agree before_sweep-named) h)
      ∙ ap (λ done. done ++ sweep parts graph order.contract.hour (b ++ done)) before_sweep-agree

  pub enter-named : (parts : List Part) → AreNamedByHour (enter parts graph caller order a)
  unfolding enter
  enter-named parts =
      named-append (before_sweep a) (sweep parts graph order.contract.hour (a ++ before_sweep a)) before_sweep-named
      (sweep-named parts graph order.contract.hour (a ++ before_sweep a) (named-append a (before_sweep a) agree.named_a before_sweep-named))

pub enter_all-agree : (hours : List ℕ) (parts : List Part) (graph : Graph) (caller : ℕ) (orders : List Order) (a b : List Event) → Agree hours a b
    → ((order : Order) → IsIn order orders → IsIn order.contract.hour hours) → enter_all parts graph caller orders a ≡ enter_all parts graph caller orders b
enter_all-agree hours parts graph caller [] a b agree within = refl
enter_all-agree hours parts graph caller (order ∷ orders) a b agree within =
    let done : List Event = enter parts graph caller order a in
    let h = within order (inl refl) in
    ap (λ rest. done ++ rest) (enter_all-agree hours parts graph caller orders (a ++ done) (b ++ done)
    (agree-append hours a b done agree (enter-named hours a b agree graph caller order h parts)) (λ o i. within o (inr i)))
    ∙ ap (λ d. d ++ enter_all parts graph caller orders (b ++ d)) (enter-agree hours a b agree graph caller order h parts)
