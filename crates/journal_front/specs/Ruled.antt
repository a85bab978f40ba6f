-- The rule of the journal's word, and what each kind of step on it tells its seat.
use Rattle.std.specs.Prelude.{◌≡◌, ℕ, ◌^◌, ◌<◌, ◌≤◌, true, false, [], ◌∷◌, List, length, count_by, sum_by}
use mathlib.Core.Option.{some}
use lib.ListN.{get_elem?}
use Rattle.zone_graph.specs.Route.{IsIn}
use Rattle.atomic_table.specs.Table.{State, Me, Step}
use Rattle.market_model.specs.declared.entry.Entry.{Entry}
use Rattle.market_model.specs.declared.setup.Setup.{Setup}
use Rattle.market_model.specs.declared.who.Who.{Who}
use Rattle.market_model.specs.Concerned.{IsCurrent}
use Rattle.journal_front.specs.declared.view.Standing.{Standing}
use Rattle.journal_front.specs.declared.view.View.{View}
use Rattle.journal_front.specs.Views.{everyone, is_leading, is_same, times_in, view_grown, view_told}

-- a standing fits a journal: its entries are current for whom it is of, and no number that was loaded
-- is above the journal's length
pub record Holds (setup : Setup) (journal : List Entry) (standing : Standing) : Type 0 where
  pub current : IsCurrent setup standing.who standing.entries journal
  pub known : standing.known ≤ length journal

-- a live view fits a journal: the journal's seat has its entries, any other has one standing, and each
-- standing fits
pub record Fits (setup : Setup) (journal : List Entry) (view : View) : Type 0 where
  pub same_setup : view.setup ≡ setup
  pub leading : view.leads ≡ true → view.entries ≡ journal
  pub alone : view.leads ≡ false → length view.standings ≡ 1
  pub standings : (standing : Standing) → IsIn standing view.standings → Holds setup journal standing

-- the rule, for a journal: the word is its length; it is not too long; its entries are of callers of
-- the setup; one live view is the journal's seat's; each hour and each caller stands in the views as
-- often as in the setup; each live view fits
pub record Stands (setup : Setup) (journal : List Entry) (state : State ℕ View) : Type 0 where
  pub word : state.words ≡ length journal ∷ []
  pub room : length journal ≤ 2 ^ 31
  pub callers : (entry : Entry) → IsIn entry journal → entry.caller < length setup.callers
  pub leader : count_by is_leading state.views ≡ 1
  pub shared : (someone : Who) → sum_by (times_in someone) state.views ≡ count_by (is_same someone) (everyone setup)
  pub views : (id : ℕ) (view : View) → get_elem? state.views id ≡ some view → view.live ≡ true → Fits setup journal view

-- the rule: there is a journal for which it holds
abbrev pub IsRuled : Setup → State ℕ View → Type 0
IsRuled setup state = (journal : List Entry) × Stands setup journal state

-- a load of the journal's seat: it finds the length of the seat's list, for which each standing in its
-- view fits
abbrev pub learned : Step ℕ → Me ℕ View → ℕ → Me ℕ View → Type 0
learned step before found after =
    (after ≡ before) × (found ≡ length before.0.entries)
    × ((standing : Standing) → IsIn standing before.0.standings → Holds before.0.setup before.0.entries standing)

-- an addition of 1 by the journal's seat: the entry goes to the end
abbrev pub committed : Entry → Step ℕ → Me ℕ View → ℕ → Me ℕ View → Type 0
committed entry step before found after = (after ≡ (view_grown entry before.0, before.1)) × (found ≡ length before.0.entries)

-- a load of another seat: the number that it finds is at least the length of the seat's list, and at
-- least what was known
abbrev pub looked : Step ℕ → Me ℕ View → ℕ → Me ℕ View → Type 0
looked step before found after =
    (after ≡ (view_told found before.0, before.1))
    × ((standing : Standing) → IsIn standing before.0.standings → (length standing.entries ≤ found) × (standing.known ≤ found))
