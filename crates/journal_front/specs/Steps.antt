-- What is to be true of each kind of step on the journal's word: it keeps the rule from every state that
-- meets it. These are statements; a function's contract says that they hold.
use Rattle.std.specs.Prelude.{◌≡◌, ℕ, ◌+◌, ◌%◌, ◌^◌, ◌<◌, ◌≤◌, true, false, [], ◌∷◌, length, count_by}
use mathlib.Core.Option.{none}
use Rattle.atomic_table.specs.Table.{Allows, Joins, Splits, opening, step}
use Rattle.market_model.specs.declared.entry.Entry.{Entry}
use Rattle.market_model.specs.declared.setup.Setup.{Setup}
use Rattle.market_model.specs.declared.who.Who.{Who}
use Rattle.market_model.specs.Concerned.{concerns}
use Rattle.journal_front.specs.declared.view.View.{View}
use Rattle.journal_front.specs.Ruled.{IsRuled, committed, learned, looked}
use Rattle.journal_front.specs.Views.{everyone, first_view, is_same, spent_view, times_in, view_dealt, view_joined, view_left}

-- a view is that of the journal's seat
pub record Leads (view : View) : Type 0 where
  pub live : view.live ≡ true
  pub leads : view.leads ≡ true

-- a view is that of another seat
pub record Follows (view : View) : Type 0 where
  pub live : view.live ≡ true
  pub follows : view.leads ≡ false

-- the table is made, with the word 0, for the journal's seat
abbrev pub MakingKeeps : Type 0
MakingKeeps = (setup : Setup) → IsRuled setup (opening (0 ∷ []) [] (first_view setup))

-- an hour or a caller leaves the journal's seat for a seat of its own
abbrev pub SplittingKeeps : Type 0
SplittingKeeps = (setup : Setup) (id : ℕ) (view : View) → Leads view → 0 < length view.standings
    → Splits (IsRuled setup) id view (view_left view) (view_dealt view)

-- a seat is joined into the journal's
abbrev pub JoiningKeeps : Type 0
JoiningKeeps = (setup : Setup) (id : ℕ) (view : View) (other : ℕ) (joined : View) → Leads view → Follows joined
    → Joins (IsRuled setup) id view other joined (view_joined view joined) spent_view

-- the journal's seat loads the word
abbrev pub LearningKeeps : Type 0
LearningKeeps = (setup : Setup) (slots id : ℕ) (view : View) → Leads view
    → Allows (IsRuled setup) slots id (view, []) 0 (λ word. word) (learned (step slots 0 0 0 none) (view, []))

-- everyone whom the entry concerns has all their standings in the view
abbrev pub HasConcerned : Setup → Entry → View → Type 0
HasConcerned setup entry view = (someone : Who) → concerns setup someone entry ≡ true
    → count_by (is_same someone) (everyone setup) ≤ times_in someone view

-- the journal's seat adds 1, with everyone whom the entry concerns in its view
abbrev pub CommittingKeeps : Type 0
CommittingKeeps = (setup : Setup) (slots id : ℕ) (view : View) (entry : Entry) → Leads view → HasConcerned setup entry view
    → entry.caller < length setup.callers → length view.entries < 2 ^ 31
    → Allows (IsRuled setup) slots id (view, []) 0 (λ word. (word + 1) % 2 ^ 64) (committed entry (step slots 0 1 0 none) (view, []))

-- another seat loads the word
abbrev pub LookingKeeps : Type 0
LookingKeeps = (setup : Setup) (slots id : ℕ) (view : View) → Follows view
    → Allows (IsRuled setup) slots id (view, []) 0 (λ word. word) (looked (step slots 0 0 0 none) (view, []))
