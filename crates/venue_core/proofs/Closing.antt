-- Passes that are opened with a venue, and come back when it closes.
use Rattle.std.proofs.Common.{◌≡◌, ◌∙◌, ℕ, ◌≤◌, List, [], length, map, refl, sym, ap, subst}
use Rattle.std.specs.List.{range_with_len}
use Rattle.std.proofs.lemmas.List.{length-map}
use Rattle.std.proofs.lemmas.List.FromFn.{length-map-range_with_len}
use mathlib.Core.List.{map-map}
use Rattle.zone_graph.specs.Route.{IsIn}
use Rattle.zone_graph.proofs.Membership.{IsIn-map, from_map}
use Rattle.market_model.specs.declared.entry.Entry.{Entry}
use Rattle.market_model.specs.declared.setup.Setup.{Setup}
use Rattle.market_model.specs.declared.who.Who.TheVariants as who
use Rattle.market_model.specs.Concerned.{IsCurrent}
use Rattle.market_model.proofs.Concerned.{current-callers}
use Rattle.journal_front.specs.Fronts.{DeskSeatState, FrontState, IsOpened, IsPassOf, JournalSeatState, PassSeatState, pass_of}
use Rattle.trader_pass.specs.Passes.{IsOf, PassState, pass_of_seat}
use Rattle.venue_core.specs.Venues.{AreAllOf, EndsWith, IsOpenedFor}
use Rattle.venue_core.proofs.Commits.{seat-of}

-- each caller has a pass that has seen nothing
pub opened-for : (setup : Setup) (front : FrontState) (journal : JournalSeatState) (desks : List DeskSeatState) (seats : List PassSeatState) (passes : List PassState)
    → IsOpened setup front journal desks seats → passes ≡ map pass_of_seat seats → IsOpenedFor setup front passes
opened-for setup front journal desks seats passes opened same = record {
  same_setup = opened.same_setup;
  passes_are = same ∙ ap (map pass_of_seat) opened.passes_are ∙ map-map pass_of_seat (pass_of front [] 0) (range_with_len 0 (length setup.callers));
}

-- all passes are as many as the callers
pub passes-many : (venue : FrontState) (passes : List PassState) → AreAllOf venue passes → length passes ≡ length venue.setup.callers
passes-many venue passes all =
    let count : ℕ = length venue.setup.callers in
    sym (length-map passes (λ (pass : PassState). pass.caller))
    ∙ ap (λ (callers : List ℕ). length callers) all.callers
    ∙ sym (length-map (range_with_len 0 count) (λ (caller : ℕ). caller))
    ∙ length-map-range_with_len (λ (caller : ℕ). caller) 0 count

module _ (venue : FrontState) (passes : List PassState) (seats : List PassSeatState) (same : map pass_of_seat seats ≡ passes) where
  -- their seats are of the venue's front
  pub seats-of-front : ((pass : PassState) → IsIn pass passes → IsOf venue pass) → (seat : PassSeatState) → IsIn seat seats → IsPassOf venue seat
  seats-of-front own seat there =
      seat-of venue (pass_of_seat seat) seat refl (own (pass_of_seat seat) (subst (IsIn (pass_of_seat seat)) same (IsIn-map pass_of_seat seat seats there)))

  -- each has seen a beginning of the journal, its own entries are its caller's, and it was told of no more than there are
  pub all-end : (journal : List Entry) (count : ℕ) → count ≡ length journal
      → ((seat : PassSeatState) → IsIn seat seats → IsCurrent venue.setup (who.Caller seat.caller) seat.entries journal)
      → ((seat : PassSeatState) → IsIn seat seats → seat.known ≤ count) → (pass : PassState) → IsIn pass passes → EndsWith journal pass
  all-end journal count long current known pass there =
      let of_seat = from_map pass_of_seat pass seats (subst (IsIn pass) (sym same) there) in
      let seat = of_seat.0 in
      let is = current seat of_seat.1 in
      subst (EndsWith journal) (sym of_seat.2) (record {
        later = is.later;
        whole = is.whole;
        mine = current-callers venue.setup seat.caller seat.entries journal is;
        known = subst (λ (n : ℕ). seat.known ≤ n) long (known seat of_seat.1);
      })
