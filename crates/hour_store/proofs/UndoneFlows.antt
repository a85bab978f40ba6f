-- What takes a change of the flows back.
use Rattle.std.proofs.Common.{◌≡◌, ◌∙◌, ◌<◌, ◌≤◌, ◌==◌, ◌&&◌, ℕ, ℤ, pos, ◌+ℤ◌, ◌-ℤ◌, ◌≤ℤ◌, Bool, true, false, not, refl, sym, ap, subst, arith, eqb-true, if◌then◌else◌}
use Rattle.std.proofs.lemmas.Int.{ints}
use Rattle.quarter_capacity.specs.Capacity.{remaining_of}
use Rattle.order_kinds.specs.declared.phase.Phase.{Phase}
use Rattle.zone_graph.specs.declared.route.Arc.{Arc}
use Rattle.zone_graph.specs.Pour.{lots_if, opposite_arc, same_arc, same_bool}
use Rattle.zone_graph.proofs.Arcs.{same_arc-is, same_arc-itself}
use Rattle.flow_netting.specs.declared.quarter_set.QuarterSet.{QuarterSet}
use Rattle.flow_netting.specs.Flows.{Flows, border_count, flow_of, is_halted, offered_of}
use Rattle.flow_netting.specs.QuarterSet.{has}
use Rattle.laws_of_hours.specs.Standing.{IsCarried, IsHaltSet, IsOffered}
use Rattle.hour_store.specs.declared.change.Change.TheVariants as change
use Rattle.hour_store.specs.Contents.{AreAlike, AreSame, Contents, KeepsBooks, NothingOverdrawn, OffersInRange}
use Rattle.hour_store.proofs.Alike.{alike-itself}
use Rattle.hour_store.proofs.Leads.{IsUndoneBy}
use Rattle.hour_store.proofs.Ranges.{both-true}

-- an arc is another one's opposite as that one is its own
pub opposite_arc-either : (arc other : Arc) → same_arc (opposite_arc arc) other ≡ same_arc arc (opposite_arc other)
opposite_arc-either arc other = by (arc.border == other.border) arc.forward other.forward
  where
    by : (b f g : Bool) → (b && same_bool (not f) g) ≡ (b && same_bool f (not g))
    by false f g = refl
    by true true true = refl
    by true true false = refl
    by true false true = refl
    by true false false = refl

pub opposite_arc-both : (arc other : Arc) → same_arc (opposite_arc arc) (opposite_arc other) ≡ same_arc arc other
opposite_arc-both arc other = by (arc.border == other.border) arc.forward other.forward
  where
    by : (b f g : Bool) → (b && same_bool (not f) (not g)) ≡ (b && same_bool f g)
    by false f g = refl
    by true true true = refl
    by true true false = refl
    by true false true = refl
    by true false false = refl

opposite_arc-other : (arc : Arc) → same_arc arc (opposite_arc arc) ≡ false
opposite_arc-other arc = by (arc.border == arc.border) arc.forward
  where
    by : (b f : Bool) → (b && same_bool f (not f)) ≡ false
    by false f = refl
    by true true = refl
    by true false = refl

-- the books are kept both ways
books-back : (old now before : Contents) → KeepsBooks old now → KeepsBooks now before → AreAlike old.flows before.flows → AreSame old before
books-back old now before kept back alike = record { book = back.book ∙ kept.book; blocks = back.blocks ∙ kept.blocks; flows = alike }

-- lots that flow over an arc and then back
there_and_back : (counts : Bool) (a b a' b' : ℕ) (old mid new : ℤ) → a' ≡ b → b' ≡ a
    → mid ≡ (if counts then old +ℤ (pos a -ℤ pos b) else old) → new ≡ (if counts then mid +ℤ (pos a' -ℤ pos b') else mid) → new ≡ old
there_and_back true a b a' b' old mid new e f one two = omega (arith, ints)
there_and_back false a b a' b' old mid new e f one two = two ∙ one

there_and_back-was : (counts : Bool) (a b a' b' : ℕ) (old mid : ℤ) → a' ≡ b → b' ≡ a
    → mid ≡ (if counts then old +ℤ (pos a -ℤ pos b) else old) → old ≡ (if counts then mid +ℤ (pos a' -ℤ pos b') else mid)
there_and_back-was true a b a' b' old mid e f one = omega (arith, ints)
there_and_back-was false a b a' b' old mid e f one = sym one

-- the books are the same the other way round
books-other : (old now : Contents) → KeepsBooks old now → KeepsBooks now old
books-other old now kept = record { book = sym kept.book; blocks = sym kept.blocks }

-- on the opposite arc they remain
back_remains : (counts carries opposite : Bool) (lots offer offer' : ℕ) (old new : ℤ) → carries ≡ false → opposite ≡ true → pos 0 ≤ℤ remaining_of offer old → offer' ≡ offer
    → new ≡ (if counts then old +ℤ (pos (lots_if carries lots) -ℤ pos (lots_if opposite lots)) else old) → counts ≡ true → pos lots ≤ℤ remaining_of offer' new
back_remains counts true opposite lots offer offer' old new e f drawn same is on = absurd (cc)
back_remains counts false false lots offer offer' old new e f drawn same is on = absurd (cc)
back_remains false false true lots offer offer' old new e f drawn same is on = absurd (cc)
back_remains true false true lots offer offer' old new e f drawn same is on = omega (arith, ints)

pub carried-undone : (arc : Arc) (set : QuarterSet) (lots : ℕ) (old now : Contents) → KeepsBooks old now → arc.border < border_count old.flows → NothingOverdrawn old.flows
    → IsCarried (same_arc arc) (has set) lots old.flows now.flows → IsUndoneBy (change.Carried arc set lots) old now
carried-undone arc set lots old now keeps border drawn carried = record {
  can = record {
    border = let size = carried.size in omega (arith, size, border);
    room = λ number first last counts.
        back_remains (has set number) (same_arc arc (opposite_arc arc)) (same_arc arc (opposite_arc (opposite_arc arc))) lots
        (offered_of old.flows (opposite_arc arc) number) (offered_of now.flows (opposite_arc arc) number) (flow_of old.flows (opposite_arc arc) number) (flow_of now.flows (opposite_arc arc) number)
        (opposite_arc-other arc)
        (sym (opposite_arc-either arc (opposite_arc arc)) ∙ opposite_arc-both arc arc ∙ same_arc-itself arc)
        (drawn (opposite_arc arc) number first last) (carried.offers (opposite_arc arc) number first last) (carried.flows (opposite_arc arc) number first last) counts;
  };
  was = (
    books-other old now keeps,
    record {
      flows = λ other number first last.
          there_and_back-was (has set number) (lots_if (same_arc arc other) lots) (lots_if (same_arc arc (opposite_arc other)) lots)
          (lots_if (same_arc (opposite_arc arc) other) lots) (lots_if (same_arc (opposite_arc arc) (opposite_arc other)) lots)
          (flow_of old.flows other number) (flow_of now.flows other number)
          (ap (λ b. lots_if b lots) (opposite_arc-either arc other)) (ap (λ b. lots_if b lots) (opposite_arc-both arc other))
          (carried.flows other number first last);
      offers = λ other number first last. sym (carried.offers other number first last);
      halts = λ border. sym (carried.halts border);
      phase = sym carried.phase;
      size = sym carried.size;
    },
  );
  back = λ before back. books-back old now before keeps back.0 (record {
    offers = λ other number first last. back.1.offers other number first last ∙ carried.offers other number first last;
    flows = λ other number first last.
        there_and_back (has set number) (lots_if (same_arc arc other) lots) (lots_if (same_arc arc (opposite_arc other)) lots)
        (lots_if (same_arc (opposite_arc arc) other) lots) (lots_if (same_arc (opposite_arc arc) (opposite_arc other)) lots)
        (flow_of old.flows other number) (flow_of now.flows other number) (flow_of before.flows other number)
        (ap (λ b. lots_if b lots) (opposite_arc-either arc other)) (ap (λ b. lots_if b lots) (opposite_arc-both arc other))
        (carried.flows other number first last) (back.1.flows other number first last);
    halts = λ border. back.1.halts border ∙ carried.halts border;
    phase = back.1.phase ∙ carried.phase;
    size = back.1.size ∙ carried.size;
  });
}

-- an offer that is made and then the old one again
offered_again : (same here : Bool) (lots was old mid new : ℕ) → ((same && here) ≡ true → was ≡ old)
    → mid ≡ (if same && here then lots else old) → new ≡ (if same && here then was else mid) → new ≡ old
offered_again true true lots was old mid new is one two = two ∙ is refl
offered_again true false lots was old mid new is one two = two ∙ one
offered_again false here lots was old mid new is one two = two ∙ one

offered_again-was : (same here : Bool) (lots was old mid : ℕ) → ((same && here) ≡ true → was ≡ old)
    → mid ≡ (if same && here then lots else old) → old ≡ (if same && here then was else mid)
offered_again-was true true lots was old mid is one = sym (is refl)
offered_again-was true false lots was old mid is one = sym one
offered_again-was false here lots was old mid is one = sym one

covered : (offer : ℕ) (old new : ℤ) → pos 0 ≤ℤ remaining_of offer old → new ≡ old → new ≤ℤ pos offer
covered offer old new drawn same = omega (arith, ints)

pub offered-undone : (arc : Arc) (number lots : ℕ) (old now : Contents) → KeepsBooks old now → arc.border < border_count old.flows → 1 ≤ number → number ≤ 4
    → NothingOverdrawn old.flows → OffersInRange old.flows → IsOffered arc (λ quarter. quarter == number) lots old.flows now.flows
    → IsUndoneBy (change.Offered arc number (offered_of old.flows arc number)) old now
offered-undone arc number lots old now keeps border first last drawn range offered = record {
  can = record {
    border = let size = offered.size in omega (arith, size, border);
    first = first;
    last = last;
    most = range arc number first last;
    covers = covered (offered_of old.flows arc number) (flow_of old.flows arc number) (flow_of now.flows arc number) (drawn arc number first last) (offered.flows arc number first last);
  };
  was = (
    books-other old now keeps,
    record {
      offers = λ other quarter low high.
          offered_again-was (same_arc arc other) (quarter == number) lots (offered_of old.flows arc number) (offered_of old.flows other quarter) (offered_of now.flows other quarter)
          (here other quarter) (offered.offers other quarter low high);
      flows = λ other quarter low high. sym (offered.flows other quarter low high);
      halts = λ border. sym (offered.halts border);
      phase = sym offered.phase;
      size = sym offered.size;
    },
  );
  back = λ before back. books-back old now before keeps back.0 (record {
    offers = λ other quarter low high.
        offered_again (same_arc arc other) (quarter == number) lots (offered_of old.flows arc number) (offered_of old.flows other quarter) (offered_of now.flows other quarter) (offered_of before.flows other quarter)
        (here other quarter) (offered.offers other quarter low high) (back.1.offers other quarter low high);
    flows = λ other quarter low high. back.1.flows other quarter low high ∙ offered.flows other quarter low high;
    halts = λ border. back.1.halts border ∙ offered.halts border;
    phase = back.1.phase ∙ offered.phase;
    size = back.1.size ∙ offered.size;
  });
}
  where
    here : (other : Arc) (quarter : ℕ) → (same_arc arc other && (quarter == number)) ≡ true → offered_of old.flows arc number ≡ offered_of old.flows other quarter
    here other quarter is =
        let both = both-true (same_arc arc other) (quarter == number) is in
        ap (offered_of old.flows arc) (sym (eqb-true quarter number both.1)) ∙ ap (λ a. offered_of old.flows a quarter) (same_arc-is arc other both.0)

pub halt-undone : (border : ℕ) (halted : Bool) (old now : Contents) → KeepsBooks old now → border < border_count old.flows
    → IsHaltSet border halted old.flows now.flows → IsUndoneBy (change.HaltSet border (is_halted old.flows border)) old now
halt-undone border halted old now keeps within set = record {
  can = let size = set.size in omega (arith, size, within);
  was = (
    books-other old now keeps,
    record {
      halts = λ other. one (other == border) (λ e. ap (is_halted old.flows) (eqb-true other border e)) (set.halts other);
      offers = λ other number first last. sym (set.offers other number first last);
      flows = λ other number first last. sym (set.flows other number first last);
      phase = sym set.phase;
      size = sym set.size;
    },
  );
  back = λ before back. books-back old now before keeps back.0 (record {
    offers = λ other number first last. back.1.offers other number first last ∙ set.offers other number first last;
    flows = λ other number first last. back.1.flows other number first last ∙ set.flows other number first last;
    halts = λ other. by other (other == border) refl (set.halts other) (back.1.halts other);
    phase = back.1.phase ∙ set.phase;
    size = back.1.size ∙ set.size;
  });
}
  where
    one : {was old mid : Bool} (b : Bool) → (b ≡ true → old ≡ was) → mid ≡ (if b then halted else old) → old ≡ (if b then was else mid)
    one true is set = is refl
    one false is set = sym set

    by : (other : ℕ) {mid new : Bool} (b : Bool) → (other == border) ≡ b → mid ≡ (if b then halted else is_halted old.flows other)
        → new ≡ (if b then is_halted old.flows border else mid) → new ≡ is_halted old.flows other
    by other true e one two = two ∙ ap (is_halted old.flows) (sym (eqb-true other border e))
    by other false e one two = two ∙ one

pub phase-undone : (phase : Phase) (old now : Contents) → KeepsBooks old now → now.flows ≡ record old.flows { phase = phase } → IsUndoneBy (change.PhaseSet old.flows.phase) old now
phase-undone phase old now keeps is = record {
  can = tt;
  was = (books-other old now keeps, subst (λ (flows : Flows). AreAlike (record flows { phase = old.flows.phase }) old.flows) (sym is) (alike-itself old.flows));
  back = λ before back.
      let alike = subst (λ (flows : Flows). AreAlike (record flows { phase = old.flows.phase }) before.flows) is back.1 in
      books-back old now before keeps back.0 alike;
}
