-- What flows and offers stay within.
use Rattle.std.proofs.Common.{◌≡◌, ◌≤◌, ◌==◌, ◌&&◌, ℕ, ℤ, pos, ◌+ℤ◌, ◌-ℤ◌, ◌≤ℤ◌, Bool, true, false, refl, sym, subst, arith, eqb-true, if◌then◌else◌}
use Rattle.std.proofs.lemmas.Int.{ints}
use Rattle.quarter_capacity.specs.Capacity.{most_offered, remaining_of}
use Rattle.zone_graph.specs.declared.route.Arc.{Arc}
use Rattle.zone_graph.specs.Pour.{lots_if, opposite_arc, same_arc}
use Rattle.zone_graph.proofs.Arcs.{same_arc-is}
use Rattle.order_kinds.specs.Period.{EachQuarter}
use Rattle.flow_netting.specs.Flows.{Flows, flow_of, offered_of}
use Rattle.flow_netting.specs.Flows as kept
use Rattle.laws_of_hours.specs.Standing.{IsCarried, IsOffered}
use Rattle.hour_store.specs.Contents.{NothingOverdrawn, OffersInRange}
use Rattle.hour_store.proofs.Alike.{remaining-same}

pub drawn-same : (old new : Flows) → kept.SameOffers old.borders new.borders → kept.SameFlows old.borders new.borders → NothingOverdrawn old → NothingOverdrawn new
drawn-same old new offers flows drawn = λ arc number first last.
    subst (λ z. pos 0 ≤ℤ z) (sym (remaining-same old new offers flows arc number first last)) (drawn arc number first last)

pub offers-alike : (old new : Flows) → kept.SameOffers old.borders new.borders → OffersInRange old → OffersInRange new
offers-alike old new same range = λ arc number first last. subst (λ o. o ≤ most_offered) (sym (same arc number first last)) (range arc number first last)

-- lots that are carried where they remain
carried_one : (counts carries opposite : Bool) (lots offer offer' : ℕ) (old new : ℤ) → pos 0 ≤ℤ remaining_of offer old
    → (carries ≡ true → counts ≡ true → pos lots ≤ℤ remaining_of offer old) → offer' ≡ offer
    → new ≡ (if counts then old +ℤ (pos (lots_if carries lots) -ℤ pos (lots_if opposite lots)) else old) → pos 0 ≤ℤ remaining_of offer' new
carried_one false carries opposite lots offer offer' old new drawn room same is = omega (arith, ints)
carried_one true false true lots offer offer' old new drawn room same is = omega (arith, ints)
carried_one true false false lots offer offer' old new drawn room same is = omega (arith, ints)
carried_one true true true lots offer offer' old new drawn room same is = omega (arith, ints)
carried_one true true false lots offer offer' old new drawn room same is = let enough = room refl refl in omega (arith, ints)

pub drawn-carried : (arc : Arc) (counts : ℕ → Bool) (lots : ℕ) (old new : Flows) → NothingOverdrawn old
    → EachQuarter (λ number. counts number ≡ true → pos lots ≤ℤ kept.remaining_of old arc number) → IsCarried (same_arc arc) counts lots old new → NothingOverdrawn new
drawn-carried arc counts lots old new drawn room carried = λ other number first last.
    carried_one (counts number) (same_arc arc other) (same_arc arc (opposite_arc other)) lots (offered_of old other number) (offered_of new other number) (flow_of old other number) (flow_of new other number)
    (drawn other number first last)
    (λ is on. subst (λ a. pos lots ≤ℤ kept.remaining_of old a number) (same_arc-is arc other is) (room number first last on))
    (carried.offers other number first last) (carried.flows other number first last)

-- an offer of no less than what flows
offered_one : (here : Bool) (lots offer offer' : ℕ) (old new : ℤ) → pos 0 ≤ℤ remaining_of offer old → (here ≡ true → old ≤ℤ pos lots)
    → offer' ≡ (if here then lots else offer) → new ≡ old → pos 0 ≤ℤ remaining_of offer' new
offered_one true lots offer offer' old new drawn covers is same = let enough = covers refl in omega (arith, ints)
offered_one false lots offer offer' old new drawn covers is same = omega (arith, ints)

-- both tests hold
pub both-true : (a b : Bool) → (a && b) ≡ true → (a ≡ true) × (b ≡ true)
both-true true b e = (refl, e)
both-true false b e = absurd (cc)

pub drawn-offered : (arc : Arc) (number lots : ℕ) (old new : Flows) → NothingOverdrawn old
    → flow_of old arc number ≤ℤ pos lots → IsOffered arc (λ quarter. quarter == number) lots old new → NothingOverdrawn new
drawn-offered arc number lots old new drawn covers offered = λ other quarter first last.
    offered_one (same_arc arc other && (quarter == number)) lots (offered_of old other quarter) (offered_of new other quarter) (flow_of old other quarter) (flow_of new other quarter)
    (drawn other quarter first last)
    (λ is.
    let both = both-true (same_arc arc other) (quarter == number) is in
    subst (λ a. flow_of old a quarter ≤ℤ pos lots) (same_arc-is arc other both.0)
    (subst (λ q. flow_of old arc q ≤ℤ pos lots) (sym (eqb-true quarter number both.1)) covers))
    (offered.offers other quarter first last) (offered.flows other quarter first last)

pub offers-offered : (arc : Arc) (number lots : ℕ) (old new : Flows) → OffersInRange old
    → lots ≤ most_offered → IsOffered arc (λ quarter. quarter == number) lots old new → OffersInRange new
offers-offered arc number lots old new range most offered = λ other quarter first last.
    by (same_arc arc other && (quarter == number)) (offered_of old other quarter) (offered_of new other quarter) (range other quarter first last) (offered.offers other quarter first last)
  where
    by : (here : Bool) (offer offer' : ℕ) → offer ≤ most_offered → offer' ≡ (if here then lots else offer) → offer' ≤ most_offered
    by true offer offer' low is = omega (arith, most, is)
    by false offer offer' low is = omega (arith, low, is)

-- where nothing is offered and nothing flows
nothing_remains : (offer : ℕ) (flow : ℤ) → offer ≡ 0 → flow ≡ pos 0 → pos 0 ≤ℤ remaining_of offer flow
nothing_remains offer flow none still = omega (arith, ints)

pub drawn-idle : (flows : Flows) → kept.InEachQuarter (λ arc number. offered_of flows arc number ≡ 0) → kept.InEachQuarter (λ arc number. flow_of flows arc number ≡ pos 0) → NothingOverdrawn flows
drawn-idle flows none still = λ arc number first last. nothing_remains (offered_of flows arc number) (flow_of flows arc number) (none arc number first last) (still arc number first last)

pub offers-idle : (flows : Flows) → kept.InEachQuarter (λ arc number. offered_of flows arc number ≡ 0) → OffersInRange flows
offers-idle flows none = λ arc number first last. subst (λ o. o ≤ most_offered) (sym (none arc number first last)) (omega arith)
