-- The flows of an hour after what happens in quarters and hours of a range, and before any event.
use Rattle.std.proofs.Common.{◌≡◌, ◌∙◌, ◌==◌, ◌&&◌, ℕ, Bool, true, false, Some, None, unwrap_or, nat_le, if◌then◌else◌, refl, sym, ap}
use Rattle.order_kinds.specs.declared.contract.Part.TheVariants as part
use Rattle.order_kinds.specs.Contract.{covers}
use Rattle.order_kinds.specs.Period.{EachQuarter, block_has, is_quarter, quarter_of, range_has}
use Rattle.zone_graph.specs.Pour.{opposite_arc, same_arc, uses}
use Rattle.zone_graph.proofs.Arcs.{eqb-symm}
use Rattle.market_model.specs.declared.event.Event.TheVariants as event
use Rattle.flow_netting.specs.Flows as kept
use Rattle.flow_netting.specs.QuarterSet.{has}
use Rattle.flow_netting.proofs.OneArc.{of_four}
use Rattle.laws_of_hours.specs.FlowLaws.{BlockLegsStand, FlowsBeginIdle, GrantsStand, HaltsStand, OffersStand, ResumptionsStand}
use Rattle.laws_of_hours.proofs.Noted.{carried-flow, no_more, noted-stands}

-- the whole hour has its four quarters
pub hour-covers : EachQuarter (λ number. covers part.Hour number ≡ (nat_le 1 number && nat_le number 4))
hour-covers = of_four (λ number. covers part.Hour number ≡ (nat_le 1 number && nat_le number 4)) refl refl refl refl

pub block_legs : BlockLegsStand
block_legs graph events first_hour last_hour leg set hour old new is within of_hour carried =
    noted-stands graph events (event.BlockLeg first_hour last_hour leg) hour old new is (record {
      size = carried.size;
      offers = λ arc there number first last. carried.offers arc number first last;
      flows = λ arc there number first last.
          carried-flow (has set number) (block_has first_hour last_hour (quarter_of hour number)) (uses leg.route arc) (uses leg.route (opposite_arc arc)) leg.lots
          (kept.flow_of old arc number) (kept.flow_of new arc number)
          (of_hour number first last ∙ hour-covers number first last ∙ ap (λ b. b && is_quarter (quarter_of hour number)) (sym within)) (carried.flows arc number first last);
      halts = λ border there. carried.halts border;
      phase = carried.phase;
    })

pub grants : GrantsStand
grants graph events granted from to lots hour counts old new is in_range carried =
    noted-stands graph events (event.Granted granted from to lots) hour old new is (record {
      size = carried.size;
      offers = λ arc there number first last. carried.offers arc number first last;
      flows = λ arc there number first last.
          carried-flow (counts number) (range_has from to (quarter_of hour number)) (same_arc granted arc) (same_arc granted (opposite_arc arc)) lots
          (kept.flow_of old arc number) (kept.flow_of new arc number) (in_range number first last) (carried.flows arc number first last);
      halts = λ border there. carried.halts border;
      phase = carried.phase;
    })

-- what is offered in the quarters that count
offered-said : (counts inside same : Bool) (lots old new : ℕ) → counts ≡ inside → new ≡ (if same && counts then lots else old)
    → new ≡ unwrap_or (if inside && same then Some lots else None) old
offered-said counts inside same lots old new is now = by inside same (now ∙ ap (λ b. if same && b then lots else old) is)
  where
    by : (i s : Bool) → new ≡ (if s && i then lots else old) → new ≡ unwrap_or (if i && s then Some lots else None) old
    by true true h = h
    by true false h = h
    by false true h = h
    by false false h = h

pub offers : OffersStand
offers graph events offered from to lots hour counts old new is in_range said =
    noted-stands graph events (event.Offered offered from to lots) hour old new is (record {
      size = said.size;
      offers = λ arc there number first last.
          offered-said (counts number) (range_has from to (quarter_of hour number)) (same_arc offered arc) lots (kept.offered_of old arc number) (kept.offered_of new arc number)
          (in_range number first last) (said.offers arc number first last);
      flows = λ arc there number first last. said.flows arc number first last ∙ no_more (kept.flow_of old arc number);
      halts = λ border there. said.halts border;
      phase = said.phase;
    })

-- a border that is halted or goes on in an hour
halted-said : (border other : ℕ) (within halted old new : Bool) → within ≡ true → new ≡ (if other == border then halted else old)
    → new ≡ unwrap_or (if (border == other) && within then Some halted else None) old
halted-said border other within halted old new is now =
    by (border == other) (now ∙ ap (λ b. if b then halted else old) (eqb-symm other border))
    ∙ ap (λ w. unwrap_or (if (border == other) && w then Some halted else None) old) (sym is)
  where
    by : (b : Bool) → new ≡ (if b then halted else old) → new ≡ unwrap_or (if b && true then Some halted else None) old
    by true h = h
    by false h = h

pub halts : HaltsStand
halts graph events border from to hour old new is within said =
    noted-stands graph events (event.Halted border from to) hour old new is (record {
      size = said.size;
      offers = λ arc there number first last. said.offers arc number first last;
      flows = λ arc there number first last. said.flows arc number first last ∙ no_more (kept.flow_of old arc number);
      halts = λ other there. halted-said border other _ true (kept.is_halted old other) (kept.is_halted new other) within (said.halts other);
      phase = said.phase;
    })

pub resumptions : ResumptionsStand
resumptions graph events border from to hour old new is within said =
    noted-stands graph events (event.Resumed border from to) hour old new is (record {
      size = said.size;
      offers = λ arc there number first last. said.offers arc number first last;
      flows = λ arc there number first last. said.flows arc number first last ∙ no_more (kept.flow_of old arc number);
      halts = λ other there. halted-said border other _ false (kept.is_halted old other) (kept.is_halted new other) within (said.halts other);
      phase = said.phase;
    })

pub idle : FlowsBeginIdle
idle graph hour flows is = record {
  size = is.size;
  offered_same = λ arc there number first last. is.offers arc number first last;
  flow_same = λ arc there number first last. is.none_flows arc number first last;
  halted_same = λ border there. is.halts border;
  phase_same = is.phase;
}
