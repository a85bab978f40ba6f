-- What the noted changes leave as it was over a border: the flows, where none is of them there.
use Rattle.std.proofs.Common.{◌≡◌, ◌∙◌, inl, inr, ℕ, ℤ, ◌==◌, ◌&&◌, ◌+ℤ◌, ◌-ℤ◌, pos, Bool, true, false, List, [], ◌∷◌, reverse, refl, sym, ap, arith, if◌then◌else◌}
use Rattle.std.proofs.lemmas.Bool.{eqb-false, ne_eqb, true≢false}
use Rattle.std.proofs.lemmas.Int.{ints}
use Rattle.zone_graph.specs.declared.route.Arc.{Arc}
use Rattle.zone_graph.specs.Pour.{lots_if, opposite_arc, same_arc}
use Rattle.zone_graph.specs.Route.{IsIn}
use Rattle.flow_netting.specs.Flows.{Flows, added_by, flow_of, is_halted, offered_of}
use Rattle.flow_netting.specs.QuarterSet.{has}
use Rattle.hour_store.specs.declared.change.Change.{Change}
use Rattle.hour_store.specs.declared.change.Change.TheVariants as change
use Rattle.hour_store.specs.Changed.{BordersChangeWhereNoted, changes_over}
use Rattle.hour_store.specs.Contents.{AreAlike, AreAlikeOver, Contents}
use Rattle.hour_store.specs.TakenBack.{IsTakenBack, LeadsBack}
use Rattle.hour_store.proofs.ChangesLeave.{any-none, from_reverse}

-- what says the same says it over each border
over-alike : (border : ℕ) (old new : Flows) → AreAlike old new → AreAlikeOver border new old
over-alike border old new alike = record {
  offers = λ arc on number first last. sym (alike.offers arc number first last);
  flows = λ arc on number first last. sym (alike.flows arc number first last);
  halts = sym (alike.halts border);
  phase = sym alike.phase;
}

over-through : (border : ℕ) (a b c : Flows) → AreAlikeOver border a b → AreAlikeOver border b c → AreAlikeOver border a c
over-through border a b c one two = record {
  offers = λ arc on number first last. two.offers arc on number first last ∙ one.offers arc on number first last;
  flows = λ arc on number first last. two.flows arc on number first last ∙ one.flows arc on number first last;
  halts = two.halts ∙ one.halts;
  phase = two.phase ∙ one.phase;
}

-- an arc over another border is neither the same nor the opposite one
not-same : (arc other : Arc) → (arc.border == other.border) ≡ false → same_arc arc other ≡ false
not-same arc other apart = rw apart refl

-- so what such an arc carries adds nothing
module _ (arc other : Arc) (apart : (arc.border == other.border) ≡ false) (lots : ℕ) where
  none-added : (z : ℤ) → z +ℤ added_by (same_arc arc) lots other ≡ z
  none-added z = by (same_arc arc other) (same_arc arc (opposite_arc other)) (not-same arc other apart) (not-same arc (opposite_arc other) apart)
    where
      by : (a b : Bool) → a ≡ false → b ≡ false → z +ℤ (pos (lots_if a lots) -ℤ pos (lots_if b lots)) ≡ z
      by false false e f = omega (arith, ints)
      by true b e f = absurd (true≢false e)
      by false true e f = absurd (true≢false f)

  carried-not : (counts : Bool) (old new : ℤ) → new ≡ (if counts then old +ℤ added_by (same_arc arc) lots other else old) → old ≡ new
  carried-not true old new is = sym (is ∙ none-added old)
  carried-not false old new is = sym is

-- a border by its number in place of an arc's
on-border : (own border : ℕ) (arc : Arc) → (own == border) ≡ false → arc.border ≡ border → (own == arc.border) ≡ false
on-border own border arc apart on = ap (λ b. own == b) on ∙ apart

-- what takes a change back leaves the flows over other borders
over-step : (border : ℕ) (c : Change) (now before : Contents) → changes_over border c ≡ false → IsTakenBack c now before → AreAlikeOver border before.flows now.flows
over-step border (change.OrderRested own order) now before none back = over-alike border now.flows before.flows back.flows
over-step border (change.OrderChanged own was) now before none back = over-alike border now.flows before.flows back.flows
over-step border (change.BlockRested number) now before none back = over-alike border now.flows before.flows back.flows
over-step border (change.BlockLeft was) now before none back = over-alike border now.flows before.flows back.flows
over-step border (change.Carried arc set lots) now before none back = record {
  offers = λ other on number first last. sym (back.1.offers other number first last);
  flows = λ other on number first last.
      carried-not (opposite_arc arc) other (on-border arc.border border other none on) lots (has set number) (flow_of now.flows other number) (flow_of before.flows other number)
      (back.1.flows other number first last);
  halts = sym (back.1.halts border);
  phase = sym back.1.phase;
}
over-step border (change.Offered arc number lots) now before none back = record {
  offers = λ other on quarter first last.
      sym (back.1.offers other quarter first last
      ∙ ap (λ b. if b && (quarter == number) then lots else offered_of now.flows other quarter) (not-same arc other (on-border arc.border border other none on)));
  flows = λ other on quarter first last. sym (back.1.flows other quarter first last);
  halts = sym (back.1.halts border);
  phase = sym back.1.phase;
}
over-step border (change.HaltSet own was) now before none back = record {
  offers = λ other on number first last. sym (back.1.offers other number first last);
  flows = λ other on number first last. sym (back.1.flows other number first last);
  halts = sym (back.1.halts border ∙ ap (λ b. if b then was else is_halted now.flows border) (ne_eqb border own (λ same. eqb-false own border none (sym same))));
  phase = sym back.1.phase;
}
over-step border (change.PhaseSet was) now before none back = absurd (true≢false none)

over-same : (border : ℕ) (records : List Change) (now target : Contents) → ((c : Change) → IsIn c records → changes_over border c ≡ false) → LeadsBack records now target
    → AreAlikeOver border target.flows now.flows
unfolding LeadsBack
over-same border [] now target none leads = record {
  offers = λ arc on number first last. leads.flows.offers arc number first last;
  flows = λ arc on number first last. leads.flows.flows arc number first last;
  halts = leads.flows.halts border;
  phase = leads.flows.phase;
}
over-same border (last ∷ records) now target none leads =
    let before = leads.1.0 in
    over-through border target.flows before.flows now.flows (over-same border records before target (λ c i. none c (inr i)) (leads.2 before leads.1.1))
    (over-step border last now before (none last (inl refl)) leads.1.1)

pub borders-change : BordersChangeWhereNoted
borders-change store target border leads none =
    over-same border (reverse store.changes) store.contents target (λ c i. any-none (changes_over border) store.changes none c (from_reverse c store.changes i)) leads
