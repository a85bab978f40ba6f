-- What the rules on filling say of an order, by what its taking leaves of it.
use Rattle.std.proofs.Common.{◌≡◌, ◌∙◌, ◌⊎◌, inl, inr, ℕ, zero, suc, ◌==◌, ◌<◌, Bool, true, false, List, Option, Some, None, if◌then◌else◌, eqb-true, refl, ap, arith}
use Rattle.std.proofs.lemmas.Bool.{false_from_ne_true}
use Rattle.order_kinds.specs.declared.order.Kind.{Kind}
use Rattle.order_kinds.specs.declared.order.Kind.TheVariants as kind
use Rattle.order_kinds.specs.declared.order.Order.{Order}
use Rattle.order_kinds.specs.declared.price.Lots.{Lots}
use Rattle.order_kinds.specs.Order.{is_fill_or_kill}
use Rattle.zone_graph.specs.Graph.{Graph}
use Rattle.market_model.specs.declared.command.Command.TheVariants as command
use Rattle.market_model.specs.declared.event.Event.{Event}
use Rattle.market_model.specs.declared.refusal.Refusal.{Refusal}
use Rattle.market_model.specs.declared.refusal.Refusal.TheVariants as refusal
use Rattle.market_model.specs.Certificate.{bound_of, unfilled_zones}
use Rattle.market_model.specs.Entering.{after_taking, name_of_next, rest_of}
use Rattle.market_model.specs.Refusals.{can_rest, has_desk_room, order_desk_refusal}
use Rattle.market_model.specs.Rules.{first_broken, unless}
use Rattle.market_model.specs.Sweep.{or_else}
use Rattle.market_model.specs.StateRules.{filling_rules}

-- the rules on filling of an order of a kind, by what it is refused for as one to be filled, and as one
-- that rests
abbrev chain : Kind → (unfilled full : Option Refusal) → Option Refusal
chain given unfilled full =
    or_else (if is_fill_or_kill given then unfilled else None) (λ _. or_else None (λ _. or_else (if can_rest given then full else None) (λ _. None)))

last-of : (o : Option Refusal) → or_else o (λ _. None) ≡ o
last-of None = refl
last-of (Some x) = refl

not-zero : (n : ℕ) → 0 < n → (n == 0) ≡ false
not-zero n some = false_from_ne_true (n == 0) (λ none. let same = eqb-true n 0 none in omega (arith, some, same))

-- a limit order and an iceberg come to rest
pub may-rest : (order : Order) → (order.kind ≡ kind.Limit) ⊎ ((peak : Lots) × (delta : ℕ) × (order.kind ≡ kind.Iceberg peak delta))
    → (can_rest order.kind ≡ true) × (is_fill_or_kill order.kind ≡ false)
may-rest order is = elim is [
  | inl e ↦ (ap can_rest e, ap is_fill_or_kill e)
  | inr e ↦ (ap can_rest e.2, ap is_fill_or_kill e.2)
]

module _ (graph : Graph) (events : List Event) (caller : ℕ) (order : Order) where
  -- why it is refused by the rules on filling, and what they ask
  abbrev pub refused : Option Refusal
  refused = first_broken (filling_rules graph events caller (command.Enter order))

  abbrev rest : ℕ
  rest = rest_of graph events caller order

  abbrev pub zones_then : List ℕ
  zones_then = unfilled_zones graph events caller order

  abbrev certified : Refusal
  certified = refusal.Unfilled zones_then (bound_of graph events caller order zones_then)

  abbrev unfilled : Option Refusal
  unfilled = unless (rest == 0) certified

  abbrev full : Option Refusal
  full = order_desk_refusal graph events caller order

  abbrev pub has_room : Bool
  has_room = has_desk_room (after_taking graph events caller order) (name_of_next events order)

  some-full : (more : ℕ) → rest ≡ suc more → full ≡ unless has_room refusal.DeskFull
  some-full more e = rw e refl

  -- a fill-or-kill order is where something is left of it
  pub fok-refused : order.kind ≡ kind.Fok → 0 < rest → refused ≡ Some certified
  fok-refused e some = ap (λ k. chain k unfilled full) e ∙ last-of unfilled ∙ ap (λ b. unless b certified) (not-zero rest some)

  -- one that rests is refused where there is no room
  rest-judged : can_rest order.kind ≡ true → is_fill_or_kill order.kind ≡ false → (more : ℕ) → rest ≡ suc more → refused ≡ unless has_room refusal.DeskFull
  rest-judged rests apart more is =
      ap (λ (b : Bool). or_else (if b then unfilled else None) (λ _. or_else None (λ _. or_else (if can_rest order.kind then full else None) (λ _. None)))) apart
      ∙ ap (λ (b : Bool). or_else (if b then full else None) (λ _. None)) rests
      ∙ last-of full
      ∙ some-full more is

  pub rest-passes : can_rest order.kind ≡ true → is_fill_or_kill order.kind ≡ false → 0 < rest → has_room ≡ true → refused ≡ None
  rest-passes rests apart some room = go rest refl some
    where
      go : (n : ℕ) → rest ≡ n → 0 < n → refused ≡ None
      go zero is less = absurd (omega arith)
      go (suc more) is less = rest-judged rests apart more is ∙ ap (λ b. unless b refusal.DeskFull) room

  pub rest-refused : can_rest order.kind ≡ true → is_fill_or_kill order.kind ≡ false → 0 < rest → has_room ≡ false → refused ≡ Some refusal.DeskFull
  rest-refused rests apart some room = go rest refl some
    where
      go : (n : ℕ) → rest ≡ n → 0 < n → refused ≡ Some refusal.DeskFull
      go zero is less = absurd (omega arith)
      go (suc more) is less = rest-judged rests apart more is ∙ ap (λ b. unless b refusal.DeskFull) room
