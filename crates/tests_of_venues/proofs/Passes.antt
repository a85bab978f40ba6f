-- The passes of a venue, of which one is changed.
use Rattle.std.proofs.Common.{◌≡◌, ◌∙◌, inl, inr, ℕ, zero, suc, ◌<◌, List, [], ◌∷◌, get_or, length, map, set, Result, Ok, Err, IfOk, OnErr, refl, sym, ap, arith, subst}
use Rattle.std.proofs.Math.Seq.{map-set_same}
use Rattle.std.specs.List.{range_with_len}
use Rattle.zone_graph.specs.Route.{IsIn}
use Rattle.zone_graph.proofs.Membership.{from_map}
use Rattle.market_model.specs.declared.setup.Setup.{Setup}
use Rattle.journal_front.specs.Fronts.{FrontState}
use Rattle.trader_pass.specs.Passes.{IsOf, PassState}
use Rattle.market_model.specs.declared.command.Command.{Command}
use Rattle.venue_core.specs.declared.faults.SubmitFault.{SubmitFault}
use Rattle.venue_core.specs.declared.venue.Receipt.{Receipt}
use Rattle.venue_core.specs.Submitting.{IsSubmitted}
use Rattle.venue_core.specs.Venues.{AreAllOf, IsOpenedFor, first_pass}

-- what stands in a list of which one item was changed
in-set : {X : Type 0} (P : X → Type 0) (xs : List X) (i : ℕ) (new : X) → ((x : X) → IsIn x xs → P x) → P new → (x : X) → IsIn x (set xs i new) → P x
in-set P [] i new all own x there = absurd there
in-set P (y ∷ xs) zero new all own x (inl same) = subst P (sym same) own
in-set P (y ∷ xs) zero new all own x (inr later) = all x (inr later)
in-set P (y ∷ xs) (suc i) new all own x (inl same) = all x (inl same)
in-set P (y ∷ xs) (suc i) new all own x (inr later) = in-set P xs i new (λ z is. all z (inr is)) own x later

at-place : {X : Type 0} (xs : List X) (i : ℕ) (otherwise : X) → i < length xs → IsIn (get_or xs i otherwise) xs
at-place [] i otherwise less = absurd (omega arith)
at-place (x ∷ xs) zero otherwise less = inl refl
at-place (x ∷ xs) (suc i) otherwise less = inr (at-place xs i otherwise (omega arith))

module _ (venue : FrontState) where
  -- the pass of a caller is of the venue
  pub own-pass : (passes : List PassState) (i : ℕ) (otherwise : PassState) → i < length passes → AreAllOf venue passes → IsOf venue (get_or passes i otherwise)
  own-pass passes i otherwise less all = all.own (get_or passes i otherwise) (at-place passes i otherwise less)

  -- a pass gives way to another one of its caller
  pub all-set : (passes : List PassState) (i : ℕ) (old new : PassState) → old ≡ get_or passes i old → AreAllOf venue passes → IsOf venue new → new.caller ≡ old.caller
      → AreAllOf venue (set passes i new)
  all-set passes i old new at all own same = record {
    callers = map-set_same (λ (p : PassState). p.caller) passes i new old (same ∙ ap (λ (p : PassState). p.caller) at) ∙ all.callers;
    own = in-set (IsOf venue) passes i new all.own own;
  }

  -- a pass that submits a command, or fails to, gives way to itself
  pub still-own : (command : Command) (result : Result Receipt SubmitFault) (old new : PassState) → IfOk result (λ receipt. IsSubmitted command receipt old new)
      → OnErr result (new ≡ old) → IsOf venue old → IsOf venue new × (new.caller ≡ old.caller)
  still-own command (Ok receipt) old new done same is = (
    record { same_front = ap (λ (p : PassState). p.front) done.pass ∙ is.same_front; same_setup = ap (λ (p : PassState). p.setup) done.pass ∙ is.same_setup },
    ap (λ (p : PassState). p.caller) done.pass,
  )
  still-own command (Err fault) old new done same is = (subst (IsOf venue) (sym same) is, ap (λ (p : PassState). p.caller) same)

  callers-are : (numbers : List ℕ) → map (λ (p : PassState). p.caller) (map (first_pass venue) numbers) ≡ numbers
  callers-are [] = refl
  callers-are (number ∷ numbers) = ap (λ ns. number ∷ ns) (callers-are numbers)

  -- the passes with which a venue is opened are all of its passes
  pub opened-all : (setup : Setup) (passes : List PassState) → IsOpenedFor setup venue passes → AreAllOf venue passes
  opened-all setup passes opened =
      let numbers : List ℕ = range_with_len 0 (length setup.callers) in
      record {
        callers = ap (map (λ (p : PassState). p.caller)) opened.passes_are ∙ callers-are numbers ∙ ap (λ (s : Setup). range_with_len 0 (length s.callers)) (sym opened.same_setup);
        own = λ pass there.
            let first = from_map (first_pass venue) pass numbers (subst (IsIn pass) opened.passes_are there) in
            subst (IsOf venue) (sym first.2) (record { same_front = refl; same_setup = refl });
      }
