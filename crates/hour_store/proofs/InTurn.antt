-- What is carried and offered in the quarters of a set, one quarter after the other, and on the arcs of
-- a route, one arc after the other.
use Rattle.std.proofs.Common.{◌≡◌, ◌∙◌, ℕ, ◌+◌, ◌<◌, ◌==◌, ◌&&◌, ltb, pos, ◌≤ℤ◌, Bool, true, List, length, get_or, map, take}
use Rattle.zone_graph.specs.declared.route.Arc.{Arc}
use Rattle.zone_graph.specs.Pour.{same_arc, uses}
use Rattle.zone_graph.specs.Route.{AreDifferent}
use Rattle.flow_netting.specs.declared.quarter_set.QuarterSet.{QuarterSet}
use Rattle.order_kinds.specs.Period.{EachQuarter}
use Rattle.flow_netting.specs.Flows.{Flows, flow_of, offered_of, remaining_of}
use Rattle.flow_netting.specs.QuarterSet.{has}
use Rattle.flow_netting.proofs.RouteLemmas.{flow_more, left_on_next}
use Rattle.laws_of_hours.specs.Standing.{IsCarried}

-- the quarters of a set below a number
abbrev pub below_in : (ℕ → Bool) → (number quarter : ℕ) → Bool
below_in counts number quarter = ltb quarter number && counts quarter

-- one quarter, if it counts
abbrev pub only : (number : ℕ) → (counts : Bool) → (quarter : ℕ) → Bool
only number counts quarter = (quarter == number) && counts

-- ---- lots that are carried

-- ---- lots that are offered

-- ---- the arcs of a route

module _ (route : List Arc) (i : ℕ) (d : Arc) (differ : AreDifferent (map (λ arc. arc.border) route)) (within : i < length route) (set : QuarterSet) (lots : ℕ) (old mid : Flows)
    (so_far : IsCarried (uses (take i route)) (has set) lots old mid) where
  -- one arc more
  pub carried-arc : (new : Flows) → IsCarried (same_arc (get_or route i d)) (has set) lots mid new → IsCarried (uses (take (i + 1) route)) (has set) lots old new
  carried-arc new next = record {
    flows = λ arc number first last.
        flow_more route i d differ within lots arc (has set number) (flow_of old arc number) (flow_of mid arc number) (flow_of new arc number)
        (so_far.flows arc number first last) (next.flows arc number first last);
    offers = λ arc number first last. next.offers arc number first last ∙ so_far.offers arc number first last;
    halts = λ border. next.halts border ∙ so_far.halts border;
    phase = next.phase ∙ so_far.phase;
    size = next.size ∙ so_far.size;
  }

  -- on the next arc as much remains as at first
  pub remains-arc : EachQuarter (λ number. has set number ≡ true → pos lots ≤ℤ remaining_of old (get_or route i d) number)
      → EachQuarter (λ number. has set number ≡ true → pos lots ≤ℤ remaining_of mid (get_or route i d) number)
  remains-arc room = λ number first last counts.
      left_on_next route i d differ within lots (has set number) (offered_of old (get_or route i d) number) (offered_of mid (get_or route i d) number)
      (flow_of old (get_or route i d) number) (flow_of mid (get_or route i d) number) counts
      (so_far.offers (get_or route i d) number first last) (so_far.flows (get_or route i d) number first last) (room number first last counts)
