-- What an hour has planned after one event and more.
use Rattle.std.proofs.Common.{◌≡◌, ◌∙◌, ℕ, ◌<◌, List, [], ◌∷◌, ◌++◌, append_assoc, map, None, Result, Ok, Err, IfOk, OnOk, refl, sym, ap, subst}
use Rattle.std.proofs.lemmas.List.{append-nil}
use Rattle.order_kinds.specs.declared.contract.Quarter.{Quarter}
use Rattle.order_kinds.specs.declared.phase.Phase.{Phase}
use Rattle.zone_graph.specs.declared.route.Arc.{Arc}
use Rattle.zone_graph.specs.Graph.{Graph, HasArc}
use Rattle.market_model.specs.declared.event.Event.{Event}
use Rattle.market_model.specs.Board.{with_events}
use Rattle.market_model.specs.Market.{gate, withdrawals}
use Rattle.market_model.specs.Sweep.{all_parts, sweep, sweeps}
use Rattle.market_model.specs.WellFormed.{GrantFits, OfferFits}
use Rattle.laws_of_hours.proofs.NextEvents.{next}
use Rattle.laws_of_boards.specs.Settled.{IsSettled}
use Rattle.sweep_core.specs.declared.part_set.PartSet.{PartSet}
use Rattle.sweep_core.specs.Parts.{has_part}
use Rattle.sweep_core.specs.Sweeping.{OthersAreQuiet}
use Rattle.kept_hour.specs.Planned.{IsUnplanned, after_events, with_planned}
use Rattle.kept_hour.specs.State.{CanBeNext, HourState, after_event, gate_of, grant_of, halt_of, offer_of, with_board, with_hand}
use Rattle.desk_changes.specs.declared.openings.PartsWithRoom.{PartsWithRoom}
use Rattle.desk_changes.specs.declared.still_open.StillOpen.{StillOpen}
use Rattle.desk_changes.specs.Changes.{then_sweep}
use Rattle.desk_changes.specs.Openings.{AreWithRoom, opens}
use Rattle.desk_changes.specs.Quiet.{HasNoLeg}
use Rattle.desk_changes.specs.StillOpen.{withdrawal}
use Rattle.desk_changes.proofs.Opened.{IsOnBorder, others-quiet}
use Rattle.desk_changes.proofs.Quiet.{no-sweep, still-quiet}

-- one event, and more behind it
pub planned-is : (hour : HourState) (e : Event) (more : List Event) → IsUnplanned hour
    → with_board hour (with_hand (with_events hour.board ((hour.board.events ++ e ∷ []) ++ more)) None) ≡ with_planned hour (e ∷ more)
planned-is hour e more unplanned =
    ap (λ es. with_board hour (with_hand (with_events hour.board es) None))
    (append_assoc hour.board.events (e ∷ []) more ∙ ap (λ es. es ++ e ∷ more) unplanned.events)

-- a gate and what it ends, in an hour that is quiet then
pub gated-is : (hour : HourState) (asked : Phase) (ends : List Event) → IsUnplanned hour → ends ≡ withdrawals hour.board.events hour.board.hour asked
    → HasNoLeg hour.board.grid hour.board.hour ((hour.board.events ++ gate_of hour asked ∷ []) ++ ends)
    → with_board hour (with_hand (with_events hour.board ((hour.board.events ++ gate_of hour asked ∷ []) ++ ends)) None)
    ≡ with_planned hour (gate all_parts hour.board.grid hour.board.hour asked hour.settled)
gated-is hour asked ends unplanned ended quiet =
    planned-is hour gated ends unplanned
    ∙ ap (with_planned hour) (
    sym (append-nil (gated ∷ ends))
    ∙ ap (λ legs. (gated ∷ ends) ++ (legs ++ [])) (sym none)
    ∙ ap (λ es. (gated ∷ es) ++ sweeps all_parts hour.board.grid (hour.board.hour ∷ []) (hour.board.events ++ (gated ∷ es))) ended
    ∙ ap (λ es. gate all_parts hour.board.grid hour.board.hour asked es) unplanned.events
    )
  where
    gated : Event
    gated = gate_of hour asked

    none : sweep all_parts hour.board.grid hour.board.hour (hour.board.events ++ (gated ∷ ends)) ≡ []
    none = ap (sweep all_parts hour.board.grid hour.board.hour) (sym (append_assoc hour.board.events (gated ∷ []) ends))
        ∙ no-sweep hour.board.grid hour.board.hour ((hour.board.events ++ gated ∷ []) ++ ends) quiet

-- where no phase before it is planned: the gate, and what it ended
pub gate-planned : (old mid new : HourState) (asked : Phase) (items : List StillOpen) → IsUnplanned old → mid ≡ after_event old (gate_of old asked) None
    → map (withdrawal old.board.hour) items ≡ withdrawals old.board.events old.board.hour asked
    → new ≡ after_events mid (map (withdrawal mid.board.hour) items) → HasNoLeg new.board.grid new.board.hour new.board.events
    → new ≡ with_planned old (gate all_parts old.board.grid old.board.hour asked old.settled)
gate-planned old mid new asked items unplanned mid_is ended new_is quiet =
    all ∙ gated-is old asked (map (withdrawal old.board.hour) items) unplanned ended (subst (λ (h : HourState). HasNoLeg h.board.grid h.board.hour h.board.events) all quiet)
  where
    all : new ≡ after_events (after_event old (gate_of old asked) None) (map (withdrawal old.board.hour) items)
    all = new_is ∙ ap (λ (h : HourState). after_events h (map (withdrawal h.board.hour) items)) mid_is

-- as settled, no part of an hour has a leg
pub settled-quiet : (hour : HourState) (graph : Graph) → graph ≡ hour.board.grid → IsUnplanned hour → IsSettled graph hour.board.hour hour.settled
    → HasNoLeg hour.board.grid hour.board.hour hour.board.events
settled-quiet hour graph over unplanned settled =
    subst (λ g. HasNoLeg g hour.board.hour hour.board.events) over
    (subst (HasNoLeg graph hour.board.hour) (sym unplanned.events) settled.no_leg)

-- a halt, behind which nothing is swept
pub halt-planned : (old new : HourState) (border first last : ℕ) → IsUnplanned old → CanBeNext old (halt_of border first last)
    → IsSettled old.board.grid old.board.hour old.settled → new ≡ after_event old (halt_of border first last) None
    → new ≡ with_planned old (then_sweep old.board.grid old (halt_of border first last))
halt-planned old new border first last unplanned stands settled is =
    is ∙ ap (λ es. with_board old (with_hand (with_events old.board (es ++ halted ∷ [])) None)) unplanned.events
    ∙ ap (λ legs. with_planned old (halted ∷ legs)) (sym (no-sweep old.board.grid old.board.hour (old.settled ++ halted ∷ [])
    (subst (λ es. HasNoLeg old.board.grid old.board.hour (es ++ halted ∷ [])) unplanned.events
    (still-quiet old.board.grid old.board.hour old.board.events halted stands (λ c. tt) (λ quarter arc. refl)
    (settled-quiet old old.board.grid refl unplanned settled)))))
  where
    halted : Event
    halted = halt_of border first last

-- an event on a border, behind which no other parts can have a leg than those that opened
pub opened-quiet : (old new : HourState) (graph : Graph) (e : Event) (border : ℕ) (was now : PartsWithRoom) (opened : PartSet) → graph ≡ old.board.grid
    → IsUnplanned old → CanBeNext old e → IsSettled graph old.board.hour old.settled → IsOnBorder border e → new ≡ after_event old e None
    → AreWithRoom old.board border was → AreWithRoom new.board border now → ((part : ℕ) → part < 7 → has_part opened part ≡ opens was now part)
    → OthersAreQuiet new.board opened
opened-quiet old new graph e border was now opened over unplanned stands settled on is before after tells =
    subst (λ (h : HourState). OthersAreQuiet h.board opened) (sym is)
    (others-quiet old.board e border was now opened stands on (settled-quiet old graph over unplanned settled) before
    (subst (λ (h : HourState). AreWithRoom h.board border now) is after) tells)

-- ---- borders

pub offer-border : (hour : HourState) (arc : Arc) (first last : Quarter) (lots : ℕ) → CanBeNext hour (offer_of arc first last lots) → HasArc hour.board.grid arc
offer-border hour arc first last lots stands =
    let own = next hour.board.grid hour.board.hour hour.board.events (offer_of arc first last lots) stands in
    let fits : OfferFits own.setup own.history arc first last lots = own.fits in
    subst (λ g. HasArc g arc) own.over_grid fits.range.on_arc

pub grant-border : (hour : HourState) (arc : Arc) (first last : Quarter) (lots : ℕ) → CanBeNext hour (grant_of arc first last lots) → HasArc hour.board.grid arc
grant-border hour arc first last lots stands =
    let own = next hour.board.grid hour.board.hour hour.board.events (grant_of arc first last lots) stands in
    let fits : GrantFits own.setup own.history arc first last lots = own.fits in
    subst (λ g. HasArc g arc) own.over_grid fits.range.on_arc

-- ---- results

pub on-ok : {T E : Type 0} (result : Result T E) (P Q : Type 0) → (P → Q) → OnOk result P → OnOk result Q
on-ok (Ok x) P Q so p = so p
on-ok (Err e) P Q so p = tt

pub if-ok : {T E : Type 0} (result : Result T E) (P Q : T → Type 0) → ((x : T) → P x → Q x) → IfOk result P → IfOk result Q
if-ok (Ok x) P Q so p = so x p
if-ok (Err e) P Q so p = tt
