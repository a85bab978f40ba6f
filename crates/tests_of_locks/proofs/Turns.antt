-- The test's two traders: which hours their entries touch, and which seats are lent.
use Rattle.std.proofs.Common.{◌≡◌, ◌∙◌, ℕ, zero, suc, ◌<◌, false, true, List, [], ◌∷◌, ◌-◌, ap, arith, filter, length, refl, subst, sym, take}
use Rattle.order_kinds.specs.Period.{hours_from}
use Rattle.zone_graph.specs.Route.{has}
use Rattle.market_model.specs.declared.command.Command.{Command}
use Rattle.market_model.specs.declared.command.Command.TheVariants as command
use Rattle.market_model.specs.declared.entry.Entry.{Entry}
use Rattle.market_model.specs.declared.setup.Setup.{Setup}
use Rattle.market_model.specs.Rules.{naming_refusal, touched_hours}
use Rattle.journal_front.specs.Fronts.{DeskSeatState, FrontState, desk_of, touched_in_order}
use Rattle.tests_of_locks.specs.TwoTraders.{IsOfHours, two_traders}

-- the hours that a command of a trader touches
abbrev hours_touched : (caller : ℕ) → Command → List ℕ
hours_touched caller given = filter (λ hour. has hour (touched_hours two_traders caller given)) (hours_from 1 2)

one_hour : (caller : ℕ) → caller < 2 → 1 ∷ [] ≡ hours_touched caller (command.Cancel (record { hour = 1; number = 1 }))
unfolding naming_refusal
one_hour zero few = refl
one_hour (suc zero) few = refl
one_hour (suc (suc caller)) few = absurd (omega (arith, few))

both_hours : (caller : ℕ) → caller < 2 → 1 ∷ 2 ∷ [] ≡ hours_touched caller (command.Blocks 1 2)
unfolding naming_refusal
both_hours zero few = refl
both_hours (suc zero) few = refl
both_hours (suc (suc caller)) few = absurd (omega (arith, few))

pub touches-one : (setup : Setup) (entry : Entry) → setup ≡ two_traders → entry.caller < 2 → IsOfHours false entry → 1 ∷ [] ≡ touched_in_order setup entry
touches-one setup entry day few given =
    subst (λ s. 1 ∷ [] ≡ touched_in_order s entry) (sym day)
    (subst (λ c. 1 ∷ [] ≡ hours_touched entry.caller c) (sym given) (one_hour entry.caller few))

pub touches-both : (setup : Setup) (entry : Entry) → setup ≡ two_traders → entry.caller < 2 → IsOfHours true entry → 1 ∷ 2 ∷ [] ≡ touched_in_order setup entry
touches-both setup entry day few given =
    subst (λ s. 1 ∷ 2 ∷ [] ≡ touched_in_order s entry) (sym day)
    (subst (λ c. 1 ∷ 2 ∷ [] ≡ hours_touched entry.caller c) (sym given) (both_hours entry.caller few))

-- of two desks' seats, what is left when the last is taken
pub first-alone : (front : FrontState) (first second : List Entry) (desks rest : List DeskSeatState) (count : ℕ) → desks ≡ desk_of front first 1 ∷ desk_of front second 2 ∷ []
    → count ≡ length desks → rest ≡ take (count - 1) desks → rest ≡ desk_of front first 1 ∷ []
first-alone front first second desks rest count are counted left =
    left ∙ ap (λ n. take (n - 1) desks) counted ∙ ap (λ d. take (length d - 1) d) are
