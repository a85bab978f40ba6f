-- A command that is refused as unfilled broke no rule on what it names and on its numbers.
use Rattle.std.proofs.Common.{◌≡◌, ◌∙◌, ◌⊎◌, inl, inr, ℕ, zero, suc, Bool, true, false, List, [], ◌∷◌, ◌++◌, Option, Some, None, refl, sym, ap, subst, if◌then◌else◌}
use Rattle.std.specs.Option.{option_and_then, option_map}
use Rattle.order_kinds.specs.Period.{range_quarters}
use Rattle.zone_graph.specs.declared.route.Arc.{Arc}
use Rattle.zone_graph.specs.Graph.{Graph}
use Rattle.zone_graph.specs.Grid.{arc_between}
use Rattle.zone_graph.specs.Route.{IsIn}
use Rattle.market_model.specs.declared.command.Command.{Command}
use Rattle.market_model.specs.declared.command.Command.TheVariants as command
use Rattle.market_model.specs.declared.event.Event.{Event}
use Rattle.market_model.specs.declared.refusal.Refusal.{Refusal}
use Rattle.market_model.specs.declared.refusal.Refusal.TheVariants as refusal
use Rattle.market_model.specs.declared.reply.Reply.TheVariants as reply
use Rattle.market_model.specs.declared.setup.Setup.{Setup}
use Rattle.market_model.specs.Blocks.{StandingBlock, partner_found}
use Rattle.market_model.specs.Entering.{rest_of}
use Rattle.market_model.specs.Grid.{graph_of}
use Rattle.market_model.specs.Market.{reply_let_in, refused_or, reply_by, reply_to}
use Rattle.market_model.specs.Refusals.{basket_refusal, below_flow, block_desk_refusal, can_rest, closed_hour, desk_refusal, gate_refusal, no_room, offer_refusal, order_desk_refusal, order_is_known, reduces, refusal_of_command, request_refusal, unfilled_refusal}
use Rattle.market_model.specs.Rules.{first_broken, naming_refusal, naming_rules, numbers_refusal, numbers_rules, unless}
use Rattle.market_model.specs.Sweep.{all_parts, first_answer, or_else}
use Rattle.laws_of_market.proofs.Members.{from_first_answer}

-- ---- the refusal of a reply

-- an answer is no refusal
answered : (setup : Setup) (events : List Event) (caller : ℕ) (given : Command) (broken : Refusal) → reply_let_in all_parts setup events caller given ≡ reply.Refused broken → ⊥
answered setup events caller (command.View contract side zone) broken e = cc
answered setup events caller _ broken e = cc

pub refused-by : (setup : Setup) (events : List Event) (caller : ℕ) (given : Command) (broken : Refusal) → reply_to setup events caller given ≡ reply.Refused broken
    → refusal_of_command setup events caller given ≡ Some broken
unfolding reply_by
refused-by setup events caller given broken e = go (refusal_of_command setup events caller given) refl e
  where
    go : (o : Option Refusal) → refusal_of_command setup events caller given ≡ o → refused_or o (λ _. reply_let_in all_parts setup events caller given) ≡ reply.Refused broken
        → refusal_of_command setup events caller given ≡ Some broken
    go None is k = absurd (answered setup events caller given broken k)
    go (Some other) is k = let same : other ≡ broken = cc in is ∙ ap Some same

-- ---- rules that say nothing of filling

-- a refusal says that an order is not filled
abbrev IsOfFilling : Refusal → Type 0
IsOfFilling (refusal.Unfilled zones bound) = Unit {0}
IsOfFilling (refusal.BasketUnfilled hour zones bound) = Unit {0}
IsOfFilling _ = ⊥

-- a rule says nothing of filling
abbrev IsOther : Option Refusal → Type 0
IsOther o = (broken : Refusal) → o ≡ Some broken → IsOfFilling broken → ⊥

unless-other : (b : Bool) (named : Refusal) → (IsOfFilling named → ⊥) → IsOther (unless b named)
unless-other true named other broken e of = cc
unless-other false named other broken e of = let same : broken ≡ named = cc in other (subst IsOfFilling same of)

none-other : IsOther None
none-other broken e of = cc

-- of rules none of which says something of filling, the first that is broken does not
first-other : (several : List (Unit {0} → Option Refusal)) → ((rule : Unit {0} → Option Refusal) → IsIn rule several → IsOther (rule tt)) → IsOther (first_broken several)
first-other several each broken e of =
    let found = from_first_answer (λ (rule : Unit {0} → Option Refusal). rule tt) broken several e in each found.0 found.1 broken found.2 of

asked-other : {X : Type 0} (ask : X → Option Refusal) (xs : List X) → ((x : X) → IsOther (ask x)) → IsOther (first_answer ask xs)
asked-other ask xs each broken e of = let found = from_first_answer ask broken xs e in each found.0 broken found.2 of

at_rule : (named : Option Refusal) (rule : Unit {0} → Option Refusal) → rule ≡ (λ _. named) → IsOther named → IsOther (rule tt)
at_rule named rule same other = subst (λ (r : Unit {0} → Option Refusal). IsOther (r tt)) (sym same) other

naming-other : (setup : Setup) (caller : ℕ) (given : Command) → IsOther (naming_refusal setup caller given)
unfolding naming_refusal
naming-other setup caller given = first-other (naming_rules setup caller given) (λ rule i. elim i [
  | inl s ↦ at_rule _ rule s (unless-other _ refusal.WrongRole (λ h. h))
  | inr i ↦ elim i [
    | inl s ↦ at_rule _ rule s (unless-other _ refusal.UnknownHour (λ h. h))
    | inr i ↦ elim i [
      | inl s ↦ at_rule _ rule s (unless-other _ refusal.UnknownContract (λ h. h))
      | inr i ↦ elim i [
        | inl s ↦ at_rule _ rule s (unless-other _ refusal.UnknownZone (λ h. h))
        | inr i ↦ elim i [
          | inl s ↦ at_rule _ rule s (unless-other _ refusal.UnknownBorder (λ h. h))
          | inr i ↦ elim i [
            | inl s ↦ at_rule _ rule s (unless-other _ refusal.BadPeriod (λ h. h))
            | inr i ↦ elim i [
              | inl s ↦ at_rule _ rule s (unless-other _ refusal.BadBasket (λ h. h))
              | inr i ↦ absurd i
            ]
          ]
        ]
      ]
    ]
  ]
])

numbers-other : (given : Command) → IsOther (numbers_refusal given)
unfolding numbers_refusal
numbers-other given = first-other (numbers_rules given) (λ rule i. elim i [
  | inl s ↦ at_rule _ rule s (unless-other _ refusal.PriceOutOfRange (λ h. h))
  | inr i ↦ elim i [
    | inl s ↦ at_rule _ rule s (unless-other _ refusal.QuantityOutOfRange (λ h. h))
    | inr i ↦ elim i [
      | inl s ↦ at_rule _ rule s (unless-other _ refusal.BadPeak (λ h. h))
      | inr i ↦ absurd i
    ]
  ]
])

closing-other : (o : Option ℕ) → IsOther (option_map (λ hour. refusal.Closed hour) o)
closing-other None broken e of = cc
closing-other (Some hour) broken e of = let same : broken ≡ refusal.Closed hour = cc in subst IsOfFilling same of

gate-other : (events : List Event) (given : Command) → IsOther (gate_refusal events given)
gate-other events (command.Gate hour asked) = unless-other _ _ (λ h. h)
gate-other events _ = none-other

offer-other : (graph : Graph) (events : List Event) (given : Command) → IsOther (offer_refusal graph events given)
offer-other graph events (command.Offer from to first last lots) = go (arc_between graph from to)
  where
    go : (o : Option Arc) → IsOther (option_and_then (λ arc. first_answer (below_flow events arc lots) (range_quarters first last)) o)
    go None = none-other
    go (Some arc) = asked-other (below_flow events arc lots) (range_quarters first last) (λ quarter. unless-other _ _ (λ h. h))
offer-other graph events _ = none-other

request-other : (graph : Graph) (events : List Event) (given : Command) → IsOther (request_refusal graph events given)
request-other graph events (command.Request from to first last lots) = go (arc_between graph from to)
  where
    go : (o : Option Arc) → IsOther (option_and_then (λ arc. first_answer (no_room events arc lots) (range_quarters first last)) o)
    go None = none-other
    go (Some arc) = asked-other (no_room events arc lots) (range_quarters first last) (λ quarter. unless-other _ _ (λ h. h))
request-other graph events _ = none-other

desk-other : (graph : Graph) (events : List Event) (caller : ℕ) (given : Command) → IsOther (desk_refusal graph events caller given)
desk-other graph events caller (command.Enter order) = by_test (can_rest order.kind)
  where
    by_rest : (n : ℕ) → rest_of graph events caller order ≡ n → IsOther (order_desk_refusal graph events caller order)
    by_rest zero is = rw is none-other
    by_rest (suc more) is = rw is (unless-other _ _ (λ h. h))

    by_test : (b : Bool) → IsOther (if b then order_desk_refusal graph events caller order else None)
    by_test true = by_rest (rest_of graph events caller order) refl
    by_test false = none-other
desk-other graph events caller (command.EnterBlock order) = go (partner_found graph events caller order) refl
  where
    go : (o : Option StandingBlock) → partner_found graph events caller order ≡ o → IsOther (block_desk_refusal graph events caller order)
    go None is = rw is (unless-other _ _ (λ h. h))
    go (Some maker) is = rw is none-other
desk-other graph events caller _ = none-other

-- ---- what is refused as unfilled

-- a refusal is one of the rules on filling, and comes after those on names and numbers
pub record IsRefusedUnfilled (setup : Setup) (events : List Event) (caller : ℕ) (given : Command) (broken : Refusal) : Type 0 where
  pub names : naming_refusal setup caller given ≡ None
  pub numbers : numbers_refusal given ≡ None
  pub by : (unfilled_refusal (graph_of setup) events caller given ≡ Some broken) ⊎ (basket_refusal (graph_of setup) events caller given ≡ Some broken)

-- where none of the first rules says something of filling, they hold and a later one is broken
record ArePassed (front later : List (Unit {0} → Option Refusal)) (broken : Refusal) : Type 0 where
  hold : (rule : Unit {0} → Option Refusal) → IsIn rule front → rule tt ≡ None
  onward : first_broken later ≡ Some broken

passed : (front later : List (Unit {0} → Option Refusal)) (broken : Refusal) → ((rule : Unit {0} → Option Refusal) → IsIn rule front → IsOther (rule tt))
    → IsOfFilling broken → first_broken (front ++ later) ≡ Some broken → ArePassed front later broken
passed [] later broken others of e = record { hold = λ rule i. absurd i; onward = e }
passed (first ∷ front) later broken others of e = go (first tt) refl e (passed front later broken (λ rule i. others rule (inr i)) of)
  where
    go : (o : Option Refusal) → first tt ≡ o → or_else o (λ _. first_broken (front ++ later)) ≡ Some broken
        → (first_broken (front ++ later) ≡ Some broken → ArePassed front later broken) → ArePassed (first ∷ front) later broken
    go None is k rest =
        let more = rest k in
        record { hold = λ rule i. elim i [ inl s ↦ ap (λ (r : Unit {0} → Option Refusal). r tt) s ∙ is | inr j ↦ more.hold rule j ]; onward = more.onward }
    go (Some found) is k rest = let same : found ≡ broken = cc in absurd (others first (inl refl) broken (is ∙ ap Some same) of)

-- the rule is broken, or a later one
first_or_later : (rule : Unit {0} → Option Refusal) (later : List (Unit {0} → Option Refusal)) (broken : Refusal)
    → first_broken (rule ∷ later) ≡ Some broken → (rule tt ≡ Some broken) ⊎ (first_broken later ≡ Some broken)
first_or_later rule later broken e = go (rule tt) refl e
  where
    go : (o : Option Refusal) → rule tt ≡ o → or_else o (λ _. first_broken later) ≡ Some broken → (rule tt ≡ Some broken) ⊎ (first_broken later ≡ Some broken)
    go None is k = inr k
    go (Some found) is k = inl (is ∙ k)

-- the rules before those on filling, and these with the ones after them
abbrev front_rules : Setup → List Event → (caller : ℕ) → Command → List (Unit {0} → Option Refusal)
front_rules setup events caller given =
    (λ _. naming_refusal setup caller given)
    ∷ (λ _. numbers_refusal given)
    ∷ (λ _. unless (reduces events caller given) refusal.QuantityOutOfRange)
    ∷ (λ _. option_map (λ hour. refusal.Closed hour) (closed_hour events given))
    ∷ (λ _. gate_refusal events given)
    ∷ (λ _. unless (order_is_known events caller given) refusal.UnknownOrder)
    ∷ (λ _. offer_refusal (graph_of setup) events given)
    ∷ (λ _. request_refusal (graph_of setup) events given)
    ∷ []

abbrev last_rules : Setup → List Event → (caller : ℕ) → Command → List (Unit {0} → Option Refusal)
last_rules setup events caller given =
    (λ _. unfilled_refusal (graph_of setup) events caller given)
    ∷ (λ _. basket_refusal (graph_of setup) events caller given)
    ∷ (λ _. desk_refusal (graph_of setup) events caller given)
    ∷ []

front-other : (setup : Setup) (events : List Event) (caller : ℕ) (given : Command) (rule : Unit {0} → Option Refusal) → IsIn rule (front_rules setup events caller given) → IsOther (rule tt)
front-other setup events caller given rule i = elim i [
  | inl s ↦ at_rule _ rule s (naming-other setup caller given)
  | inr i ↦ elim i [
    | inl s ↦ at_rule _ rule s (numbers-other given)
    | inr i ↦ elim i [
      | inl s ↦ at_rule _ rule s (unless-other _ refusal.QuantityOutOfRange (λ h. h))
      | inr i ↦ elim i [
        | inl s ↦ at_rule _ rule s (closing-other (closed_hour events given))
        | inr i ↦ elim i [
          | inl s ↦ at_rule _ rule s (gate-other events given)
          | inr i ↦ elim i [
            | inl s ↦ at_rule _ rule s (unless-other _ refusal.UnknownOrder (λ h. h))
            | inr i ↦ elim i [
              | inl s ↦ at_rule _ rule s (offer-other (graph_of setup) events given)
              | inr i ↦ elim i [
                | inl s ↦ at_rule _ rule s (request-other (graph_of setup) events given)
                | inr i ↦ absurd i
              ]
            ]
          ]
        ]
      ]
    ]
  ]
]

of_filling : (setup : Setup) (events : List Event) (caller : ℕ) (given : Command) (broken : Refusal) → IsOfFilling broken
    → refusal_of_command setup events caller given ≡ Some broken → IsRefusedUnfilled setup events caller given broken
unfolding refusal_of_command
of_filling setup events caller given broken of e =
    let past = passed (front_rules setup events caller given) (last_rules setup events caller given) broken (front-other setup events caller given) of e in
    record {
      names = past.hold (λ _. naming_refusal setup caller given) (inl refl);
      numbers = past.hold (λ _. numbers_refusal given) (inr (inl refl));
      by = by past.onward;
    }
  where
    after_basket : first_broken ((λ _. desk_refusal (graph_of setup) events caller given) ∷ []) ≡ Some broken → ⊥
    after_basket k =
        let found = from_first_answer (λ (rule : Unit {0} → Option Refusal). rule tt) broken ((λ _. desk_refusal (graph_of setup) events caller given) ∷ []) k in
        elim found.1 [
          | inl s ↦ at_rule (desk_refusal (graph_of setup) events caller given) found.0 s (desk-other (graph_of setup) events caller given) broken found.2 of
          | inr j ↦ absurd j
        ]

    by : first_broken (last_rules setup events caller given) ≡ Some broken
        → (unfilled_refusal (graph_of setup) events caller given ≡ Some broken) ⊎ (basket_refusal (graph_of setup) events caller given ≡ Some broken)
    by k = elim (first_or_later (λ _. unfilled_refusal (graph_of setup) events caller given)
        ((λ _. basket_refusal (graph_of setup) events caller given) ∷ (λ _. desk_refusal (graph_of setup) events caller given) ∷ []) broken k) [
          | inl own ↦ inl own
          | inr later ↦ elim (first_or_later (λ _. basket_refusal (graph_of setup) events caller given) ((λ _. desk_refusal (graph_of setup) events caller given) ∷ []) broken later) [
            | inl own ↦ inr own
            | inr last ↦ absurd (after_basket last)
          ]
        ]

pub unfilled-by : (setup : Setup) (events : List Event) (caller : ℕ) (given : Command) (zones : List ℕ) (bound : ℕ)
    → reply_to setup events caller given ≡ reply.Refused (refusal.Unfilled zones bound) → IsRefusedUnfilled setup events caller given (refusal.Unfilled zones bound)
unfilled-by setup events caller given zones bound e =
    of_filling setup events caller given (refusal.Unfilled zones bound) tt (refused-by setup events caller given (refusal.Unfilled zones bound) e)

pub basket-by : (setup : Setup) (events : List Event) (caller : ℕ) (given : Command) (hour : ℕ) (zones : List ℕ) (bound : ℕ)
    → reply_to setup events caller given ≡ reply.Refused (refusal.BasketUnfilled hour zones bound) → IsRefusedUnfilled setup events caller given (refusal.BasketUnfilled hour zones bound)
basket-by setup events caller given hour zones bound e =
    of_filling setup events caller given (refusal.BasketUnfilled hour zones bound) tt (refused-by setup events caller given (refusal.BasketUnfilled hour zones bound) e)
