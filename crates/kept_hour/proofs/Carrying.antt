-- Legs are carried one after the other.
use Rattle.std.proofs.Common.{◌≡◌, ◌∙◌, ℕ, suc, ◌+◌, ◌<◌, List, ◌∷◌, add-one, drop, get_or, length, sym, ap, subst}
use Rattle.std.proofs.Math.Seq.{drop-cons}
use Rattle.std.proofs.lemmas.List.Sums.{sum_by-cons}
use Rattle.order_kinds.specs.declared.contract.Part.TheVariants as part
use Rattle.zone_graph.specs.declared.route.RouteLeg.{RouteLeg}
use Rattle.zone_graph.specs.Pour.{uses}
use Rattle.flow_netting.specs.declared.quarter_set.QuarterSet.{QuarterSet}
use Rattle.flow_netting.specs.Flows.{Flows}
use Rattle.flow_netting.specs.QuarterSet.{has}
use Rattle.laws_of_hours.specs.CallLaws.{CanCarry}
use Rattle.laws_of_hours.specs.Standing.{IsCarried, IsSetOf}
use Rattle.kept_hour.specs.Deals.{AreCarried, CanCarryAll, arc_count}

-- the leg at a place
module _ (legs : List RouteLeg) (k : ℕ) (within : k < length legs) (leg default : RouteLeg) (is : leg ≡ get_or legs k default) where
  -- the legs from a place on are the one there and those behind it
  pub from-place : drop k legs ≡ leg ∷ drop (k + 1) legs
  from-place = drop-cons legs k default within ∙ ap (λ l. l ∷ drop (suc k) legs) (sym is) ∙ ap (λ n. leg ∷ drop n legs) (sym (add-one k))

  pub arcs-from : arc_count (drop k legs) ≡ length leg.route + arc_count (drop (k + 1) legs)
  arcs-from = ap arc_count from-place ∙ sum_by-cons (λ (l : RouteLeg). length l.route) leg (drop (k + 1) legs)

  pub can-now : (flows : Flows) → CanCarryAll flows (drop k legs) → (set : QuarterSet) → IsSetOf set part.Hour → CanCarry flows leg.route set leg.lots
  can-now flows can = (subst (CanCarryAll flows) from-place can).0

  pub can-then : (flows : Flows) → CanCarryAll flows (drop k legs) → (set : QuarterSet) (next : Flows) → IsSetOf set part.Hour
      → IsCarried (uses leg.route) (has set) leg.lots flows next → CanCarryAll next (drop (k + 1) legs)
  can-then flows can = (subst (CanCarryAll flows) from-place can).1

  -- with one more leg, those behind it are left to be carried
  pub carried-more : (old now next : Flows) → ((final : Flows) → AreCarried (drop k legs) now final → AreCarried legs old final)
      → (set : QuarterSet) → IsSetOf set part.Hour → IsCarried (uses leg.route) (has set) leg.lots now next
      → (final : Flows) → AreCarried (drop (k + 1) legs) next final → AreCarried legs old final
  carried-more old now next so_far set of_hour carries final rest =
      so_far final (subst (λ ls. AreCarried ls now final) (sym from-place) (set, next, of_hour, carries, rest))
