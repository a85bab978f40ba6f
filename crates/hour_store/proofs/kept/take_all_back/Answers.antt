use Rattle.std.proofs.Common.{◌≡◌, ◌∷◌, ◌++◌, [], length, length-append, ap, refl, subst, arith}
use Rattle.hour_store.specs.Contents.{Contents}
use Rattle.hour_store.specs.Inside.{LogLeadsBack, contents_of}
use Rattle.hour_store.proofs.Leads.{led-none, led-noted}
use Rattle.hour_store.proofs.kept.take_all_back.Goals as goal

pub take_back-requires-clause-can : goal.take_back-requires-clause-can
take_back-requires-clause-can c =
    let can = c.loop-change.invariant.can in
    (led-noted c.back.new.self.records c.in-Some.change (contents_of c.loop-change.kept) can.target
    (subst (λ list. LogLeadsBack list (contents_of c.loop-change.kept) can.target) c.in-Some.ensures.records can.leads)).0

pub loop-change-preserved : goal.loop-change-preserved
loop-change-preserved c =
    let now : Contents = contents_of c.loop-change.kept in
    let before : Contents = contents_of c.take_back.new.kept in
    let can = c.loop-change.invariant.can in
    let is : c.loop-change.log.records ≡ c.back.new.self.records ++ c.in-Some.change ∷ [] = c.in-Some.ensures.records in
    let back = λ (target : Contents) (leads : LogLeadsBack c.loop-change.log.records now target).
    (led-noted c.back.new.self.records c.in-Some.change now target (subst (λ list. LogLeadsBack list now target) is leads)).2 before c.take_back.ensures.back in
    record {
      kept = c.take_back.ensures.kept;
      can = record { target = can.target; leads = back can.target can.leads };
      back = λ target leads. back target (c.loop-change.invariant.back target leads);
      spare =
          let sum = c.loop-change.invariant.spare in
          let more = c.in-Some.ensures.spare in
          let longer : length c.loop-change.log.records ≡ length (c.back.new.self.records ++ c.in-Some.change ∷ []) = ap length is in
          omega (arith, sum, more, longer, length-append c.back.new.self.records (c.in-Some.change ∷ []));
    }

pub returns-clause-back : goal.returns-clause-back
returns-clause-back c = λ target leads.
    let now : Contents = contents_of c.loop-change.kept in
    let none : c.loop-change.log.records ≡ [] = c.in_default.ensures.none.0 refl in
    led-none now target (subst (λ list. LogLeadsBack list now target) none (c.loop-change.invariant.back target leads))
