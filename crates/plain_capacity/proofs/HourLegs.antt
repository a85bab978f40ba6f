-- Legs that count in all quarters of an hour.
use Rattle.std.proofs.Common.{◌≡◌, ◌∙◌, ◌&&◌, ◌++◌, ℕ, Bool, true, List, length, take, refl, sym, subst}
use Rattle.std.proofs.lemmas.Bool.{eq-eqb}
use Rattle.order_kinds.specs.declared.contract.Contract.{Contract}
use Rattle.order_kinds.specs.declared.contract.Part.TheVariants as part
use Rattle.order_kinds.specs.Contract.{covers}
use Rattle.order_kinds.specs.Period.{EachQuarter, block_has, contract_has, is_quarter, is_within, quarter_of}
use Rattle.quarter_capacity.specs.Row.{Row}
use Rattle.zone_graph.specs.declared.route.Arc.{Arc}
use Rattle.zone_graph.specs.Pour.{lots_if, uses}
use Rattle.market_model.specs.declared.event.Event.{Event}
use Rattle.market_model.specs.declared.event.Event.TheVariants as event
use Rattle.market_model.specs.declared.event.Leg.{Leg}
use Rattle.plain_capacity.specs.Rows.{CanCarry, FlowsMore, IsCarried}
use Rattle.plain_capacity.specs.Hour.{CanNoteIn, Capacity, IsLegOfHour, rows_in}
use Rattle.plain_capacity.proofs.Hours.{each, written_back}

-- the whole hour delivers in each of its quarters
hour-has : (hour : ℕ) → EachQuarter (λ number. contract_has (record { hour = hour; part = part.Hour }) (quarter_of hour number) ≡ true)
hour-has hour = each (λ number. contract_has (record { hour = hour; part = part.Hour }) (quarter_of hour number) ≡ true) (has 1 refl) (has 2 refl) (has 3 refl) (has 4 refl)
  where
    has : (number : ℕ) → covers part.Hour number ≡ true → contract_has (record { hour = hour; part = part.Hour }) (quarter_of hour number) ≡ true
    has number covered = rw (eq-eqb hour hour refl) covered

block-has : (first last hour : ℕ) → is_within first last hour ≡ true → EachQuarter (λ number. block_has first last (quarter_of hour number) ≡ true)
block-has first last hour within = each (λ number. block_has first last (quarter_of hour number) ≡ true) (has 1 refl) (has 2 refl) (has 3 refl) (has 4 refl)
  where
    has : (number : ℕ) → is_quarter (quarter_of hour number) ≡ true → block_has first last (quarter_of hour number) ≡ true
    has number quarter = rw within quarter

-- its lots can be carried in each quarter
pub leg-can : (hour : ℕ) (leg : Leg) (e : Event) (capacity : Capacity) → IsLegOfHour hour leg e → CanNoteIn hour e capacity
    → EachQuarter (λ number. CanCarry (rows_in capacity number) leg.route leg.lots)
leg-can hour leg (event.Leg contract made) capacity (same, whole) can = λ number first last.
    subst (λ (l : Leg). CanCarry (rows_in capacity number) l.route l.lots) same
    (can.quarters number first last (subst (λ (c : Contract). contract_has c (quarter_of hour number) ≡ true) (sym whole) (hour-has hour number first last)))
leg-can hour leg (event.BlockLeg from to made) capacity (same, within) can = λ number first last.
    subst (λ (l : Leg). CanCarry (rows_in capacity number) l.route l.lots) same (can.quarters number first last (block-has from to hour within number first last))
leg-can hour leg _ capacity none can = absurd none

-- and carrying them there lets the event count
counted : (counts : Bool) (route : List Arc) (lots : ℕ) (old new : List Row) → counts ≡ true → IsCarried route lots old new
    → FlowsMore (λ arc. lots_if (counts && uses route arc) lots) old new
counted counts route lots old new on carried = subst (λ b. FlowsMore (λ arc. lots_if (b && uses route arc) lots) old new) (sym on) carried.flows

-- rows that are written back
pub carried_back : (route : List Arc) (lots : ℕ) (old was new rest : List Row) (n : ℕ) → was ≡ old → length was ≡ n → IsCarried route lots was new
    → IsCarried route lots old (take n (new ++ rest))
carried_back route lots old was new rest n kept size carried =
    subst (IsCarried route lots old) (written_back n new rest (carried.size ∙ size)) (subst (λ rows. IsCarried route lots rows new) kept carried)
