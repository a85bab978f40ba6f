-- What is noted is of what is planned, and stays so with more events.
use Rattle.std.proofs.Common.{◌≡◌, ◌∙◌, ◌⊎◌, inl, inr, ℕ, ◌<◌, ◌||◌, true, List, [], ◌∷◌, ◌++◌, append_assoc, drop, length, map, Option, Some, None, refl, sym, ap, subst}
use Rattle.std.proofs.Math.Seq.{drop-append_seam}
use Rattle.std.proofs.lemmas.Bool.{true≢false}
use Rattle.std.proofs.lemmas.List.{append-nil}
use Rattle.std.proofs.lemmas.List.Folds.{list_any-append}
use Rattle.std.specs.List.{list_any}
use Rattle.order_kinds.specs.declared.contract.Contract.{Contract}
use Rattle.order_kinds.specs.declared.side.Side.{Side}
use Rattle.order_kinds.specs.Contract.{contract_at}
use Rattle.zone_graph.specs.declared.route.RouteLeg.{RouteLeg}
use Rattle.zone_graph.specs.Route.{IsIn}
use Rattle.zone_graph.proofs.Again.{or-false, or-true}
use Rattle.zone_graph.proofs.Membership.{IsIn-left, IsIn-right}
use Rattle.block_match.specs.declared.deal.BlockDeal.{BlockDeal}
use Rattle.block_match.specs.Market.{leg_event}
use Rattle.market_model.specs.declared.event.Event.{Event}
use Rattle.market_model.specs.declared.event.Event.TheVariants as event
use Rattle.market_model.specs.Board.{with_events}
use Rattle.market_model.specs.History.{and_then}
use Rattle.market_model.specs.Orders.{Placed, placed}
use Rattle.laws_of_hours.specs.FlowEvents as flow_events
use Rattle.laws_of_views.specs.Changes.{order_zones, zones_of_events}
use Rattle.hour_store.specs.declared.change.Change.{Change}
use Rattle.hour_store.specs.Changed.{NotesNoFlow, NotesNoOrder, NotesOrdersAt, changes_flows, has_changed}
use Rattle.kept_hour.specs.Deals.{NotesDeal}
use Rattle.kept_hour.specs.Kept.{IsNotedOf}
use Rattle.kept_hour.specs.Planned.{moves_flows, planned_of, planned_zones}
use Rattle.kept_hour.specs.State.{HourState, name_in, with_board, with_hand, without_hand}

-- the zones of events, and of more behind them
zones-append : (contract : Contract) (side : Side) (before events more : List Event) → zones_of_events before (events ++ more) contract side
    ≡ zones_of_events before events contract side ++ zones_of_events (before ++ events) more contract side
zones-append contract side before [] more = ap (λ es. zones_of_events es more contract side) (sym (append-nil before))
zones-append contract side before (e ∷ events) more =
    let first : List ℕ = order_zones before e contract side in
    let rest : List ℕ = zones_of_events (and_then before e) events contract side in
    ap (λ zs. first ++ zs)
    (zones-append contract side (and_then before e) events more
    ∙ ap (λ es. rest ++ zones_of_events es more contract side) (append_assoc before (e ∷ []) events))
    ∙ sym (append_assoc first rest (zones_of_events (before ++ e ∷ events) more contract side))

-- what more events of an hour note: orders that they name, as they do the one in hand if it was not, and flows
pub record NotesNext (hour : HourState) (more : List Event) (hand : Option ℕ) (old new : List Change) : Type 0 where
  pub orders : (part : ℕ) (side : Side) (zone : ℕ) → part < 7 → has_changed new part side zone ≡ true
      → (has_changed old part side zone ≡ true) ⊎ IsIn zone (zones_of_events hour.board.events more (contract_at hour.board.hour part) side)
  pub held : (number : ℕ) (order : Placed) → hand ≡ Some number → IsIn order (placed (hour.board.events ++ more)) → order.name ≡ name_in hour number
      → ((hour.board.hand ≡ Some number) × IsIn order (placed hour.board.events))
      ⊎ IsIn order.order.zone (zones_of_events hour.board.events more order.order.contract order.order.side)
  pub flows : list_any changes_flows new ≡ true → (list_any changes_flows old ≡ true) ⊎ (list_any moves_flows more ≡ true)

module _ (hour : HourState) (more : List Event) (hand : Option ℕ) (old new : List Change) (is : IsNotedOf hour old) (next : NotesNext hour more hand old new) where
  abbrev settled : List Event
  settled = hour.settled

  abbrev planned : List Event
  planned = planned_of hour

  planned-more : drop (length settled) (hour.board.events ++ more) ≡ planned ++ more
  planned-more =
      ap (λ es. drop (length settled) (es ++ more)) is.first ∙ ap (drop (length settled)) (append_assoc settled planned more)
      ∙ drop-append_seam settled (planned ++ more)

  module _ (contract : Contract) (side : Side) (zone : ℕ) where
    whole : IsIn zone (zones_of_events settled planned contract side ++ zones_of_events (settled ++ planned) more contract side)
        → IsIn zone (zones_of_events settled (drop (length settled) (hour.board.events ++ more)) contract side)
    whole i =
        subst (λ es. IsIn zone (zones_of_events settled es contract side)) (sym planned-more)
        (subst (IsIn zone) (sym (zones-append contract side settled planned more)) i)

    earlier : IsIn zone (zones_of_events settled planned contract side) → IsIn zone (zones_of_events settled (drop (length settled) (hour.board.events ++ more)) contract side)
    earlier i = whole (IsIn-left zone (zones_of_events settled planned contract side) (zones_of_events (settled ++ planned) more contract side) i)

    later : IsIn zone (zones_of_events hour.board.events more contract side) → IsIn zone (zones_of_events settled (drop (length settled) (hour.board.events ++ more)) contract side)
    later i =
        whole (IsIn-right zone (zones_of_events settled planned contract side) (zones_of_events (settled ++ planned) more contract side)
        (subst (λ es. IsIn zone (zones_of_events es more contract side)) is.first i))

  either : (list_any changes_flows old ≡ true) ⊎ (list_any moves_flows more ≡ true) → (list_any moves_flows planned || list_any moves_flows more) ≡ true
  either (inl before) = ap (λ b. b || list_any moves_flows more) (is.flows before)
  either (inr now) = ap (λ b. list_any moves_flows planned || b) now ∙ or-true (list_any moves_flows planned)

  pub noted-next : IsNotedOf (with_board hour (with_hand (with_events hour.board (hour.board.events ++ more)) hand)) new
  noted-next = record {
    first = ap (λ es. es ++ more) is.first ∙ append_assoc settled planned more ∙ ap (λ es. settled ++ es) (sym planned-more);
    orders = λ part side zone low noted. elim (next.orders part side zone low noted) [
      | inl before ↦ earlier (contract_at hour.board.hour part) side zone (is.orders part side zone low before)
      | inr now ↦ later (contract_at hour.board.hour part) side zone now
    ];
    hand = λ number order held there named. elim (next.held number order held there named) [
      | inl before ↦ earlier order.order.contract order.order.side order.order.zone (is.hand number order before.0 before.1 named)
      | inr now ↦ later order.order.contract order.order.side order.order.zone now
    ];
    flows = λ noted. ap (list_any moves_flows) planned-more ∙ list_any-append moves_flows planned more ∙ either (next.flows noted);
  }

-- where nothing is planned and no order is in hand, nothing is noted
pub noted-none : (hour : HourState) (changes : List Change) → hour.board.events ≡ hour.settled → hour.board.hand ≡ None → changes ≡ [] → IsNotedOf hour changes
noted-none hour changes all free none =
    let nothing : planned_of hour ≡ [] = ap (drop (length hour.settled)) (all ∙ sym (append-nil hour.settled)) ∙ drop-append_seam hour.settled [] in
    record {
      first = all ∙ sym (append-nil hour.settled) ∙ ap (λ es. hour.settled ++ es) (sym nothing);
      orders = λ part side zone low is. absurd (true≢false (sym is ∙ ap (λ cs. has_changed cs part side zone) none));
      hand = λ number order held there named. absurd (let no : None ≡ Some number = sym free ∙ held in let wrong : ⊥ = cc in wrong);
      flows = λ is. absurd (true≢false (sym is ∙ ap (list_any changes_flows) none));
    }

-- no order is in hand any more: of orders it was noted where the planned events name one
pub noted-bare : (hour : HourState) (old new : List Change) (at : (part : ℕ) → Side → (zone : ℕ) → Type 0) → IsNotedOf hour old → NotesOrdersAt at old new → NotesNoFlow old new
    → ((part : ℕ) (side : Side) (zone : ℕ) → part < 7 → at part side zone → IsIn zone (planned_zones hour part side)) → IsNotedOf (without_hand hour) new
noted-bare hour old new at is noted no_flow there = record {
  first = is.first;
  orders = λ part side zone low more. elim (noted part side zone more) [
    | inl before ↦ is.orders part side zone low before
    | inr now ↦ there part side zone low now
  ];
  hand = λ number order held. absurd (let wrong : ⊥ = cc in wrong);
  flows = λ more. is.flows (sym no_flow ∙ more);
}

-- ---- events that note no order, with none in hand

module _ (hour : HourState) (more : List Event) (old new : List Change) (noted : NotesNoOrder old new) where
  pub notes-plain : (list_any changes_flows new ≡ true → (list_any changes_flows old ≡ true) ⊎ (list_any moves_flows more ≡ true)) → NotesNext hour more None old new
  notes-plain flows = record {
    orders = λ part side zone low is. inl (sym (noted part side zone) ∙ is);
    held = λ number order held. absurd (let wrong : ⊥ = cc in wrong);
    flows = flows;
  }

  pub notes-nothing : NotesNoFlow old new → NotesNext hour more None old new
  notes-nothing no_flow = notes-plain (λ is. inl (sym no_flow ∙ is))

moves-flow : (e : Event) → flow_events.changes_flows e ≡ true → moves_flows e ≡ true
moves-flow (event.Leg contract leg) is = refl
moves-flow (event.BlockLeg first last leg) is = refl
moves-flow e is = is

-- one of the flows
pub notes-flows : (hour : HourState) (e : Event) (old new : List Change) → flow_events.changes_flows e ≡ true → NotesNoOrder old new → NotesNext hour (e ∷ []) None old new
notes-flows hour e old new is noted = notes-plain hour (e ∷ []) old new noted (λ more. inr (or-false (moves_flows e) ∙ moves-flow e is))

-- the legs of a deal
pub deal-flows : (first last : ℕ) (deal : BlockDeal) (old new : List Change) → NotesDeal deal old new → list_any changes_flows new ≡ true
    → (list_any changes_flows old ≡ true) ⊎ (list_any moves_flows (map (leg_event first last deal) deal.legs) ≡ true)
deal-flows first last deal old new noted is = go deal.legs noted.flows
  where
    go : (legs : List RouteLeg) → (legs ≡ [] → NotesNoFlow old new) → (list_any changes_flows old ≡ true) ⊎ (list_any moves_flows (map (leg_event first last deal) legs) ≡ true)
    go [] still = inl (sym (still refl) ∙ is)
    go (leg ∷ legs) still = inr refl
