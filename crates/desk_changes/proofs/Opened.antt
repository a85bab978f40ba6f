-- After an event on a border no other part can have a leg than those over which an arc of the border got
-- its first room.
use Rattle.std.proofs.Common.{◌≡◌, ◌≢◌, ◌∙◌, ◌⊎◌, inl, inr, ℕ, ◌<◌, ◌&&◌, ◌||◌, not, Bool, true, false, nat_eq, eq-eqb, eqb-true, None, refl, sym, ap, subst}
use Rattle.std.proofs.lemmas.Bool.{lt-ltb, ltb-true, true≢false}
use Rattle.order_kinds.specs.declared.contract.Contract.{Contract}
use Rattle.order_kinds.specs.declared.contract.Quarter.{Quarter}
use Rattle.order_kinds.specs.Contract.{contract_at, part_at}
use Rattle.order_kinds.specs.Period.{contract_quarters, is_within, range_has}
use Rattle.zone_graph.specs.declared.route.Arc.{Arc}
use Rattle.zone_graph.specs.Pour.{opposite_arc, same_arc}
use Rattle.zone_graph.proofs.Arcs.{same_arc-is}
use Rattle.market_model.specs.declared.event.Event.{Event}
use Rattle.market_model.specs.Board.{BoardState, IsHourOf}
use Rattle.market_model.specs.History.{and_then}
use Rattle.market_model.specs.Room.{room}
use Rattle.laws_of_boards.specs.Quiet.{IsAside, raises}
use Rattle.sweep_core.specs.declared.part_set.PartSet.{PartSet}
use Rattle.sweep_core.specs.Parts.{has_part}
use Rattle.sweep_core.specs.Sweeping.{OthersAreQuiet}
use Rattle.kept_hour.specs.State.{grant_of, offer_of, resumption_of}
use Rattle.desk_changes.specs.declared.openings.PartsWithRoom.{PartsWithRoom}
use Rattle.desk_changes.specs.Openings.{AreWithRoom, HaveRoom, arc_over, gets_room, opens}
use Rattle.desk_changes.specs.Quiet.{HasNoLeg}
use Rattle.desk_changes.proofs.Quiet.{quiet-next}

-- ---- events on a border

-- an event enters nothing, trades nothing, and can raise the rooms of no arcs but those of a border
pub record IsOnBorder (border : ℕ) (e : Event) : Type 0 where
  pub aside : (contract : Contract) → IsAside contract e
  pub elsewhere : (quarter : Quarter) (arc : Arc) → arc.border ≢ border → raises e quarter arc ≡ false

not-then : (a b : Bool) → (b ≡ true → ⊥) → (a && b) ≡ false
not-then true true never = absurd (never refl)
not-then true false never = refl
not-then false b never = refl

pub offer-on : (arc : Arc) (first last : Quarter) (lots : ℕ) → IsOnBorder arc.border (offer_of arc first last lots)
offer-on arc first last lots = record {
  aside = λ contract. tt;
  elsewhere = λ quarter other apart.
      not-then (range_has first last quarter) (same_arc arc other) (λ same. apart (ap (λ (a : Arc). a.border) (sym (same_arc-is arc other same))));
}

pub grant-on : (arc : Arc) (first last : Quarter) (lots : ℕ) → IsOnBorder arc.border (grant_of arc first last lots)
grant-on arc first last lots = record {
  aside = λ contract. tt;
  elsewhere = λ quarter other apart.
      not-then (range_has first last quarter) (same_arc arc (opposite_arc other))
      (λ same. apart (ap (λ (a : Arc). a.border) (sym (same_arc-is arc (opposite_arc other) same))));
}

pub resumption-on : (border first last : ℕ) → IsOnBorder border (resumption_of border first last)
resumption-on border first last = record {
  aside = λ contract. tt;
  elsewhere = λ quarter other apart. go quarter other apart (nat_eq border other.border) refl;
}
  where
    go : (quarter : Quarter) (other : Arc) → other.border ≢ border → (b : Bool) → nat_eq border other.border ≡ b → (b && is_within first last quarter.hour) ≡ false
    go quarter other apart true e = absurd (apart (sym (eqb-true border other.border e)))
    go quarter other apart false e = refl

-- ---- what opened

abbrev pub with_more : BoardState → Event → BoardState
with_more board e = record { grid = board.grid; hour = board.hour; parts = board.parts; events = and_then board.events e; hand = None }

both-false : (a b : Bool) → (a || b) ≡ false → (a ≡ false) × (b ≡ false)
both-false false false is = (refl, refl)
both-false false true is = absurd (cc)
both-false true b is = absurd (cc)

-- what is there now, and did not come, was there before
was-there : (was now : Bool) → (now && not was) ≡ false → now ≡ true → was ≡ true
was-there true now none is = refl
was-there false true none is = absurd (cc)
was-there false false none is = is

module _ (board : BoardState) (e : Event) (border : ℕ) (was now : PartsWithRoom) (opened : PartSet)
    (stands : IsHourOf board.grid board.hour (and_then board.events e)) (on : IsOnBorder border e) (quiet : HasNoLeg board.grid board.hour board.events)
    (before : AreWithRoom board border was) (after : AreWithRoom (with_more board e) border now)
    (tells : (part : ℕ) → part < 7 → has_part opened part ≡ opens was now part) where
  -- over a part that did not open, an arc of the border had room before if it has any
  had-room : (part : ℕ) → part < 7 → (arc : Arc) (old new : PartSet) → HaveRoom board arc old → HaveRoom (with_more board e) arc new → gets_room old new part ≡ false
      → 0 < room (and_then board.events e) (contract_quarters (contract_at board.hour part)) arc → 0 < room board.events (contract_quarters (contract_at board.hour part)) arc
  had-room part low arc old new old_has new_has none some =
      ltb-true 0 (room board.events (contract_quarters (contract_at board.hour part)) arc)
      (sym (old_has part low)
      ∙ was-there (has_part old part) (has_part new part) none
      (new_has part low ∙ lt-ltb 0 (room (and_then board.events e) (contract_quarters (contract_at board.hour part)) arc) some))

  pub others-quiet : OthersAreQuiet (with_more board e) opened
  others-quiet part low out =
      quiet-next board.grid board.hour board.events e (part_at part) stands (on.aside (contract_at board.hour part)) (λ arc there. by arc (nat_eq arc.border border) refl) (quiet (part_at part))
    where
      none : (gets_room was.forward now.forward part ≡ false) × (gets_room was.backward now.backward part ≡ false)
      none = both-false (gets_room was.forward now.forward part) (gets_room was.backward now.backward part) (sym (tells part low) ∙ out)

      Had : Arc → Type 0
      Had arc = 0 < room (and_then board.events e) (contract_quarters (contract_at board.hour part)) arc → 0 < room board.events (contract_quarters (contract_at board.hour part)) arc

      over : (arc : Arc) (forward : Bool) → arc.border ≡ border → arc.forward ≡ forward → arc_over border forward ≡ arc
      over arc forward same is = ap (λ b. arc_over b forward) (sym same) ∙ ap (arc_over arc.border) (sym is)

      of_border : (arc : Arc) → arc.border ≡ border → (forward : Bool) → arc.forward ≡ forward → Had arc
      of_border arc same true is = subst Had (over arc true same is) (had-room part low (arc_over border true) was.forward now.forward before.forward after.forward none.0)
      of_border arc same false is = subst Had (over arc false same is) (had-room part low (arc_over border false) was.backward now.backward before.backward after.backward none.1)

      by : (arc : Arc) (b : Bool) → nat_eq arc.border border ≡ b → ((quarter : Quarter) → raises e quarter arc ≡ false) ⊎ Had arc
      by arc false other = inl (λ quarter. on.elsewhere quarter arc (λ same. true≢false (sym (eq-eqb arc.border border same) ∙ other)))
      by arc true same = inr (of_border arc (eqb-true arc.border border same) arc.forward refl)
