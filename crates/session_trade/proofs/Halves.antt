-- The callers of two halves are all callers.
use Rattle.std.proofs.Common.{◌≡◌, ℕ, zero, suc, List, [], ◌∷◌, ◌++◌, drop, length, take, Result, Ok, Err, refl, sym, ap, subst}
use Rattle.std.specs.Result.{OnOk}
use Rattle.market_model.specs.declared.command.Command.{Command}
use Rattle.journal_front.specs.Fronts.{FrontState}
use Rattle.trader_pass.specs.Passes.{PassState}
use Rattle.session_trade.specs.Callers.{AllGave, AllMayGive}

module _ (venue : FrontState) where
  pub may-length : (commands : List (List Command)) (passes : List PassState) → AllMayGive venue commands passes → length commands ≡ length passes
  may-length [] [] may = refl
  may-length [] (pass ∷ passes) may = absurd may
  may-length (own ∷ commands) [] may = absurd may
  may-length (own ∷ commands) (pass ∷ passes) may = ap suc (may-length commands passes may.2)

  pub may-front : (n : ℕ) (commands : List (List Command)) (passes : List PassState) → AllMayGive venue commands passes → AllMayGive venue (take n commands) (take n passes)
  may-front zero commands passes may = tt
  may-front (suc n) [] [] may = tt
  may-front (suc n) [] (pass ∷ passes) may = absurd may
  may-front (suc n) (own ∷ commands) [] may = absurd may
  may-front (suc n) (own ∷ commands) (pass ∷ passes) may = (may.0, may.1, may-front n commands passes may.2)

  pub may-back : (n : ℕ) (commands : List (List Command)) (passes : List PassState) → AllMayGive venue commands passes → AllMayGive venue (drop n commands) (drop n passes)
  may-back zero commands passes may = may
  may-back (suc n) [] [] may = tt
  may-back (suc n) [] (pass ∷ passes) may = absurd may
  may-back (suc n) (own ∷ commands) [] may = absurd may
  may-back (suc n) (own ∷ commands) (pass ∷ passes) may = may-back n commands passes may.2

-- those of one half, and those of the other
pub gave-both : (first : List (List Command)) (olds news : List PassState) (second : List (List Command)) (others after : List PassState) → AllGave first olds news
    → AllGave second others after → AllGave (first ++ second) (olds ++ others) (news ++ after)
gave-both [] [] [] second others after one two = two
gave-both [] [] (new ∷ news) second others after one two = absurd one
gave-both [] (old ∷ olds) news second others after one two = absurd one
gave-both (own ∷ first) [] news second others after one two = absurd one
gave-both (own ∷ first) (old ∷ olds) [] second others after one two = absurd one
gave-both (own ∷ first) (old ∷ olds) (new ∷ news) second others after one two = (one.0, gave-both first olds news second others after one.1 two)

-- so where both went well, all gave theirs
pub gave-halves : {T E : Type 0} (result : Result T E) (all first second : List (List Command)) (olds ahead behind news after : List PassState) → all ≡ first ++ second
    → olds ≡ ahead ++ behind → OnOk result (AllGave first ahead news) → OnOk result (AllGave second behind after) → OnOk result (AllGave all olds (news ++ after))
gave-halves (Ok done) all first second olds ahead behind news after whole pieces one two =
    subst (λ cs. AllGave cs olds (news ++ after)) (sym whole)
    (subst (λ os. AllGave (first ++ second) os (news ++ after)) (sym pieces) (gave-both first ahead news second behind after one two))
gave-halves (Err fault) all first second olds ahead behind news after whole pieces one two = tt
