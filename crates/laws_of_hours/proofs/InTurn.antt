-- What is carried and offered in one quarter after the other.
use Rattle.std.proofs.Common.{◌≡◌, ◌∙◌, ◌==◌, ◌&&◌, ◌||◌, ℕ, ◌+ℤ◌, ℤ, Bool, true, false, if◌then◌else◌, eqb-true, refl, sym, ap}
use Rattle.zone_graph.specs.Pour.{same_arc}
use Rattle.flow_netting.specs.Flows.{added_by}
use Rattle.flow_netting.specs.Flows as kept
use Rattle.laws_of_hours.specs.FlowLaws.{NothingIsCarried, NothingIsOffered, QuartersAreCarriedInTurn, QuartersAreOfferedInTurn}

-- a flow that changes in some quarters, and then in one more
flow-in_turn : (is_next counts more : Bool) (old mid new added : ℤ) → (is_next ≡ true → counts ≡ false) → more ≡ (is_next || counts)
    → mid ≡ (if counts then old +ℤ added else old) → new ≡ (if is_next then mid +ℤ added else mid) → new ≡ (if more then old +ℤ added else old)
flow-in_turn is_next counts more old mid new added apart is before now =
    by is_next counts apart before now ∙ ap (λ b. if b then old +ℤ added else old) (sym is)
  where
    by : (n c : Bool) → (n ≡ true → c ≡ false) → mid ≡ (if c then old +ℤ added else old) → new ≡ (if n then mid +ℤ added else mid)
        → new ≡ (if n || c then old +ℤ added else old)
    by true true a b h = absurd (let no = a refl in cc)
    by true false a b h = h ∙ ap (λ z. z +ℤ added) b
    by false true a b h = h ∙ b
    by false false a b h = h ∙ b

-- and an offer
offer-in_turn : (same is_next counts more : Bool) (old mid new lots : ℕ) → more ≡ (is_next || counts)
    → mid ≡ (if same && counts then lots else old) → new ≡ (if same && is_next then lots else mid) → new ≡ (if same && more then lots else old)
offer-in_turn same is_next counts more old mid new lots is before now =
    by same is_next counts before now ∙ ap (λ b. if same && b then lots else old) (sym is)
  where
    by : (s n c : Bool) → mid ≡ (if s && c then lots else old) → new ≡ (if s && n then lots else mid) → new ≡ (if s && (n || c) then lots else old)
    by true true c b h = h
    by true false true b h = h ∙ b
    by true false false b h = h ∙ b
    by false n c b h = h ∙ b

pub carried_none : NothingIsCarried
carried_none carries lots flows = record {
  flows = λ arc number first last. refl;
  offers = λ arc number first last. refl;
  halts = λ border. refl;
  phase = refl;
  size = refl;
}

pub carried_in_turn : QuartersAreCarriedInTurn
carried_in_turn carries counts more number lots old mid new before apart now is = record {
  flows = λ arc quarter first last.
      flow-in_turn (quarter == number) (counts quarter) (more quarter) (kept.flow_of old arc quarter) (kept.flow_of mid arc quarter) (kept.flow_of new arc quarter)
      (added_by carries lots arc) (λ same. ap counts (eqb-true quarter number same) ∙ apart) (is quarter first last)
      (before.flows arc quarter first last) (now.flows arc quarter first last);
  offers = λ arc quarter first last. now.offers arc quarter first last ∙ before.offers arc quarter first last;
  halts = λ border. now.halts border ∙ before.halts border;
  phase = now.phase ∙ before.phase;
  size = now.size ∙ before.size;
}

pub offered_none : NothingIsOffered
offered_none arc lots flows = record {
  offers = λ other number first last. none (same_arc arc other) lots (kept.offered_of flows other number);
  flows = λ other number first last. refl;
  halts = λ border. refl;
  phase = refl;
  size = refl;
}
  where
    none : (same : Bool) (lots offer : ℕ) → offer ≡ (if same && false then lots else offer)
    none true lots offer = refl
    none false lots offer = refl

pub offered_in_turn : QuartersAreOfferedInTurn
offered_in_turn arc counts more number lots old mid new before now is = record {
  offers = λ other quarter first last.
      offer-in_turn (same_arc arc other) (quarter == number) (counts quarter) (more quarter) (kept.offered_of old other quarter) (kept.offered_of mid other quarter)
      (kept.offered_of new other quarter) lots (is quarter first last) (before.offers other quarter first last) (now.offers other quarter first last);
  flows = λ other quarter first last. now.flows other quarter first last ∙ before.flows other quarter first last;
  halts = λ border. now.halts border ∙ before.halts border;
  phase = now.phase ∙ before.phase;
  size = now.size ∙ before.size;
}
