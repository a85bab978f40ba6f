-- The refusal of a command, part by part: by the early rules, by those on the state, and by those on what its entry leads to.
use Rattle.std.proofs.Common.{◌≡◌, ◌∙◌, inl, ℕ, true, List, [], ◌∷◌, nat_lt, Option, Some, None, refl, ap}
use Rattle.std.proofs.lemmas.Bool.{ltb-true}
use Rattle.order_kinds.specs.declared.contract.Contract.{Contract}
use Rattle.order_kinds.specs.declared.order.BlockOrder.{BlockOrder}
use Rattle.order_kinds.specs.declared.order.Order.{Order}
use Rattle.order_kinds.specs.declared.side.Side.{Side}
use Rattle.order_kinds.specs.Contract.{is_known}
use Rattle.zone_graph.specs.Graph.{Graph, HasZone, zone_count}
use Rattle.market_model.specs.declared.command.Command.{Command}
use Rattle.market_model.specs.declared.command.Command.TheVariants as command
use Rattle.market_model.specs.declared.event.Event.{Event}
use Rattle.market_model.specs.declared.refusal.Refusal.{Refusal}
use Rattle.market_model.specs.declared.setup.Setup.{Setup}
use Rattle.market_model.specs.Grid.{graph_of}
use Rattle.market_model.specs.Refusals.{refusal_of_command}
use Rattle.market_model.specs.Rules.{early_refusal, first_broken, naming_refusal, numbers_refusal}
use Rattle.market_model.specs.Sweep.{or_else}
use Rattle.market_model.specs.StateRules.{filling_rules, state_refusal}
use Rattle.market_model.specs.LetIn.{IsLetIn, IsNoEntry}
use Rattle.laws_of_market.proofs.Admitted.{NamesWhatIs, all-pass, naming-none}
use Rattle.laws_of_market.proofs.StateRules.{state_comes_second}

-- no early rule refuses
pub record IsNamed (setup : Setup) (caller : ℕ) (given : Command) : Type 0 where
  pub naming : naming_refusal setup caller given ≡ None
  pub numbers : numbers_refusal given ≡ None

pub early-none : (setup : Setup) (caller : ℕ) (given : Command) → early_refusal setup caller given ≡ None → IsNamed setup caller given
early-none setup caller given is = go (naming_refusal setup caller given) (numbers_refusal given) refl refl is
  where
    go : (n m : Option Refusal) → naming_refusal setup caller given ≡ n → numbers_refusal given ≡ m → or_else n (λ _. or_else m (λ _. None)) ≡ None → IsNamed setup caller given
    go None None a b e = record { naming = a; numbers = b }
    go None (Some r) a b e = absurd (cc)
    go (Some r) m a b e = absurd (cc)

-- an early refusal is the command's
pub early-some : (setup : Setup) (events : List Event) (caller : ℕ) (given : Command) (broken : Refusal) → early_refusal setup caller given ≡ Some broken
    → refusal_of_command setup events caller given ≡ Some broken
early-some setup events caller given broken is =
    state_comes_second setup events caller given
    ∙ ap (λ o. or_else o (λ _. or_else (state_refusal (graph_of setup) events caller given) (λ _. first_broken (filling_rules (graph_of setup) events caller given)))) is

named-early : (setup : Setup) (caller : ℕ) (given : Command) → IsNamed setup caller given → early_refusal setup caller given ≡ None
named-early setup caller given named =
    ap (λ o. or_else o (λ _. or_else (numbers_refusal given) (λ _. None))) named.naming ∙ ap (λ o. or_else o (λ _. None)) named.numbers

-- after the early rules come those on the state
after-early : (setup : Setup) (events : List Event) (caller : ℕ) (given : Command) → IsNamed setup caller given
    → refusal_of_command setup events caller given
    ≡ or_else (state_refusal (graph_of setup) events caller given) (λ _. first_broken (filling_rules (graph_of setup) events caller given))
after-early setup events caller given named =
    state_comes_second setup events caller given
    ∙ ap (λ o. or_else o (λ _. or_else (state_refusal (graph_of setup) events caller given) (λ _. first_broken (filling_rules (graph_of setup) events caller given))))
    (named-early setup caller given named)

pub state-some : (setup : Setup) (events : List Event) (caller : ℕ) (given : Command) (broken : Refusal) → IsNamed setup caller given
    → state_refusal (graph_of setup) events caller given ≡ Some broken → refusal_of_command setup events caller given ≡ Some broken
state-some setup events caller given broken named is =
    after-early setup events caller given named ∙ ap (λ o. or_else o (λ _. first_broken (filling_rules (graph_of setup) events caller given))) is

-- of a command that is let in the rules on what its entry leads to decide
pub let_in-refusal : (setup : Setup) (events : List Event) (caller : ℕ) (given : Command) → IsLetIn setup events caller given
    → refusal_of_command setup events caller given ≡ first_broken (filling_rules (graph_of setup) events caller given)
let_in-refusal setup events caller given let_in =
    after-early setup events caller given (record { naming = let_in.naming; numbers = let_in.numbers })
    ∙ ap (λ o. or_else o (λ _. first_broken (filling_rules (graph_of setup) events caller given))) let_in.state

pub view-named : (setup : Setup) (events : List Event) (caller : ℕ) (contract : Contract) (side : Side) (zone : ℕ) → IsLetIn setup events caller (command.View contract side zone)
    → (is_known contract.part ≡ true) × HasZone (graph_of setup) zone
view-named setup events caller contract side zone let_in =
    let names : NamesWhatIs setup caller (command.View contract side zone) = naming-none setup caller (command.View contract side zone) let_in.naming in (
      all-pass is_known (contract.part ∷ []) names.parts contract.part (inl refl),
      ltb-true zone (zone_count (graph_of setup)) (all-pass (λ z. nat_lt z (zone_count (graph_of setup))) (zone ∷ []) names.zones zone (inl refl)),
    )

-- no rule on what an entry leads to is of them
pub no_entry-rules : (graph : Graph) (events : List Event) (caller : ℕ) (given : Command) → IsNoEntry given → first_broken (filling_rules graph events caller given) ≡ None
no_entry-rules graph events caller (command.Enter order) entry = absurd entry
no_entry-rules graph events caller (command.EnterBlock order) entry = absurd entry
no_entry-rules graph events caller (command.EnterBasket orders) entry = absurd entry
no_entry-rules graph events caller _ entry = refl

-- a command that is none of the entries enters nothing
pub is-no_entry : (given : Command) → ((order : Order) → ¬ (given ≡ command.Enter order)) → ((order : BlockOrder) → ¬ (given ≡ command.EnterBlock order))
    → ((orders : List Order) → ¬ (given ≡ command.EnterBasket orders)) → IsNoEntry given
is-no_entry (command.Enter order) a b c = absurd (a order refl)
is-no_entry (command.EnterBlock order) a b c = absurd (b order refl)
is-no_entry (command.EnterBasket orders) a b c = absurd (c orders refl)
is-no_entry _ a b c = tt
