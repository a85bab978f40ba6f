-- What the capacity of an hour says of offers and requests, and what the events say of them.
use Rattle.std.proofs.Common.{◌≡◌, ◌∙◌, ℕ, suc, zero, ◌+◌, ◌<◌, ◌≤◌, Bool, true, false, List, ◌∷◌, cond, filter, map, nat_le, not, Option, Some, None, pos, int_lt, ◌≤ℤ◌, refl, sym, ap, ap₂, subst, arith}
use Rattle.std.proofs.lemmas.Int.{ints}
use Rattle.std.specs.List.{range_with_len}
use Rattle.std.specs.Option.{option_and_then, option_map}
use Rattle.order_kinds.specs.declared.contract.Quarter.{Quarter}
use Rattle.order_kinds.specs.Period.{EachQuarter, quarter_of, range_quarters}
use Rattle.quarter_capacity.specs.Capacity.{flow_of, most_offered}
use Rattle.zone_graph.specs.declared.route.Arc.{Arc}
use Rattle.zone_graph.specs.Graph.{Graph, HasArc}
use Rattle.zone_graph.specs.Grid.{arc_between}
use Rattle.zone_graph.specs.Pour.{opposite_arc}
use Rattle.market_model.specs.declared.command.Command.TheVariants as command
use Rattle.market_model.specs.declared.event.Event.{Event}
use Rattle.market_model.specs.declared.refusal.Refusal.{Refusal}
use Rattle.market_model.specs.declared.refusal.Refusal.TheVariants as refusal
use Rattle.market_model.specs.Capacity.{allocated, offered}
use Rattle.market_model.specs.Refusals.{below_flow, no_room, offer_refusal, request_refusal}
use Rattle.market_model.specs.Room.{lots_of}
use Rattle.market_model.specs.Rules.{unless}
use Rattle.market_model.specs.StateRules.{capacity_refusal}
use Rattle.market_model.specs.Sweep.{first_answer, or_else}
use Rattle.market_model.specs.WellFormed.{IsLegalOver}
use Rattle.market_model.specs.declared.asked.Asked.{Asked}
use Rattle.market_model.specs.Asked.{first_in_hour, is_asked}
use Rattle.laws_of_market.proofs.Uses.{within_offers}
use Rattle.plain_capacity.specs.Hour.{Capacity, IsCapacityOf}
use Rattle.plain_capacity.proofs.RoomLemmas.{room-is}
use Rattle.plain_refusals.specs.declared.capacity.Rule.{Rule}
use Rattle.plain_refusals.specs.declared.capacity.Rule.TheVariants.{Offer, Request}
use Rattle.plain_refusals.specs.Asked.{FlowsAtMost, asked_between, first_refusal, refusal_at, refusal_by}

-- ---- the same answers in each quarter

same-from : {Y : Type 0} (ask other : Quarter → Option Y) (passes : Quarter → Bool) (hour number n : ℕ)
    → ((k : ℕ) → number ≤ k → k < number + n → ask (quarter_of hour k) ≡ other (quarter_of hour k))
    → first_answer ask (filter passes (map (quarter_of hour) (range_with_len number n))) ≡ first_answer other (filter passes (map (quarter_of hour) (range_with_len number n)))
same-from ask other passes hour number zero same = refl
same-from {Y} ask other passes hour number (suc n) same =
    go (passes (quarter_of hour number)) (same number (omega arith) (omega arith))
    (same-from ask other passes hour (number + 1) n (λ k low high. same k (omega arith) (omega arith)))
  where
    go : (b : Bool) → ask (quarter_of hour number) ≡ other (quarter_of hour number)
        → first_answer ask (filter passes (map (quarter_of hour) (range_with_len (number + 1) n))) ≡ first_answer other (filter passes (map (quarter_of hour) (range_with_len (number + 1) n)))
        → first_answer ask (cond b (quarter_of hour number ∷ filter passes (map (quarter_of hour) (range_with_len (number + 1) n))) (filter passes (map (quarter_of hour) (range_with_len (number + 1) n))))
        ≡ first_answer other (cond b (quarter_of hour number ∷ filter passes (map (quarter_of hour) (range_with_len (number + 1) n))) (filter passes (map (quarter_of hour) (range_with_len (number + 1) n))))
    go true here rest = ap₂ (λ (o later : Option Y). or_else o (λ _. later)) here rest
    go false here rest = rest

same-in_hour : {Y : Type 0} (ask other : Quarter → Option Y) (asked : Asked) (hour : ℕ)
    → EachQuarter (λ number. ask (quarter_of hour number) ≡ other (quarter_of hour number)) → first_in_hour ask asked hour ≡ first_in_hour other asked hour
unfolding first_in_hour
same-in_hour ask other asked hour same = same-from ask other (is_asked asked) hour 1 4 (λ k low high. same k low (omega arith))

-- ---- the capacity of an hour

flow-most : (there back offer : ℕ) → there ≤ offer + back → offer ≤ most_offered → flow_of there back ≤ℤ pos most_offered
flow-most there back offer covered most = omega (arith, ints)

module _ (graph : Graph) (events : List Event) (hour : ℕ) (capacity : Capacity) (is : IsCapacityOf graph events hour capacity) (asked : Asked) where
  -- no more flows than may be offered
  pub flows-most : IsLegalOver graph events → FlowsAtMost most_offered capacity asked.arc
  flows-most legal number first last =
      let within = within_offers legal.setup events legal.fit in
      let quarter = quarter_of hour number in
      subst (λ z. z ≤ℤ pos most_offered) (sym ((is.quarters number first last).flows asked.arc))
      (flow-most (allocated events quarter asked.arc) (allocated events quarter (opposite_arc asked.arc)) (offered events quarter asked.arc)
      (within.covered quarter asked.arc) (within.most quarter asked.arc))

  -- the capacity says what the events say
  pub refusals-same : (rule : Rule) → HasArc graph asked.arc → first_in_hour (refusal_at rule capacity asked) asked hour ≡ first_in_hour (refusal_by rule events asked) asked hour
  refusals-same Offer known = same-in_hour (refusal_at Offer capacity asked) (refusal_by Offer events asked) asked hour (λ number first last.
      ap (λ z. unless (not (int_lt (pos asked.lots) z)) (refusal.BelowFlow (quarter_of hour number) (lots_of z))) ((is.quarters number first last).flows asked.arc))
  refusals-same Request known = same-in_hour (refusal_at Request capacity asked) (refusal_by Request events asked) asked hour (λ number first last.
      ap (λ (room : ℕ). unless (nat_le asked.lots room) (refusal.NoRoom (quarter_of hour number) room)) (room-is graph events hour capacity is asked.arc known number first last))

-- ---- an offer and a request over the arc between two zones

alone : (o : Option Refusal) → or_else o (λ _. None) ≡ o
alone None = refl
alone (Some answer) = refl

module _ (graph : Graph) (events : List Event) (from to : ℕ) (first last : Quarter) (lots : ℕ) (asked : Asked)
    (found : asked_between graph from to first last lots ≡ Some asked) where
  over : (ask : Asked → Option Refusal)
      → ask asked ≡ option_and_then (λ arc. ask (record { arc = arc; first = first; last = last; lots = lots })) (arc_between graph from to)
  over ask = go (arc_between graph from to) found
    where
      go : (o : Option Arc) → option_map (λ arc. record { arc = arc; first = first; last = last; lots = lots }) o ≡ Some asked
          → ask asked ≡ option_and_then (λ arc. ask (record { arc = arc; first = first; last = last; lots = lots })) o
      go None k = absurd (cc)
      go (Some arc) k =
          let made : Asked = record { arc = arc; first = first; last = last; lots = lots } in
          let same : asked ≡ made = cc in
          ap ask same

  pub offer-is : first_refusal Offer events asked ≡ capacity_refusal graph events (command.Offer from to first last lots)
  unfolding first_refusal capacity_refusal
  offer-is = over (λ (a : Asked). first_answer (below_flow events a.arc a.lots) (range_quarters a.first a.last)) ∙ sym (alone (offer_refusal graph events (command.Offer from to first last lots)))

  pub request-is : first_refusal Request events asked ≡ capacity_refusal graph events (command.Request from to first last lots)
  unfolding first_refusal capacity_refusal
  request-is = over (λ (a : Asked). first_answer (no_room events a.arc a.lots) (range_quarters a.first a.last)) ∙ sym (alone (request_refusal graph events (command.Request from to first last lots)))
