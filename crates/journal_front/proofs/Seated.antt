-- The steps on the journal's word, of a place of which it is known that it holds no slot.
use Rattle.std.proofs.Common.{◌≡◌, ℕ, ◌+◌, ◌%◌, ◌^◌, ◌<◌, [], length, sym, subst}
use mathlib.Core.Option.{none}
use Rattle.atomic_table.specs.Table.{Allows, Me, step}
use Rattle.market_model.specs.declared.entry.Entry.{Entry}
use Rattle.market_model.specs.declared.setup.Setup.{Setup}
use Rattle.journal_front.specs.declared.view.View.{View}
use Rattle.journal_front.specs.Ruled.{IsRuled, committed, learned, looked}
use Rattle.journal_front.specs.Steps.{Follows, HasConcerned, Leads}
use Rattle.journal_front.proofs.Turns.{committing, learning, looking}

pub with_none : (me : Me ℕ View) → me.1 ≡ [] → me ≡ (me.0, [])
with_none me empty = λ i. (me.0, empty i)

module _ (setup : Setup) (slots id : ℕ) (me : Me ℕ View) (empty : me.1 ≡ []) where
  pub learning_by : Leads me.0 → Allows (IsRuled setup) slots id me 0 (λ word. word) (learned (step slots 0 0 0 none) me)
  learning_by leads =
      subst (λ seat. Allows (IsRuled setup) slots id seat 0 (λ word. word) (learned (step slots 0 0 0 none) seat)) (sym (with_none me empty)) (learning setup slots id me.0 leads)

  pub looking_by : Follows me.0 → Allows (IsRuled setup) slots id me 0 (λ word. word) (looked (step slots 0 0 0 none) me)
  looking_by follows =
      subst (λ seat. Allows (IsRuled setup) slots id seat 0 (λ word. word) (looked (step slots 0 0 0 none) seat)) (sym (with_none me empty)) (looking setup slots id me.0 follows)

  pub committing_by : (entry : Entry) → Leads me.0 → HasConcerned setup entry me.0 → entry.caller < length setup.callers → length me.0.entries < 2 ^ 31
      → Allows (IsRuled setup) slots id me 0 (λ word. (word + 1) % 2 ^ 64) (committed entry (step slots 0 1 0 none) me)
  committing_by entry leads has_concerned known room =
      subst (λ seat. Allows (IsRuled setup) slots id seat 0 (λ word. (word + 1) % 2 ^ 64) (committed entry (step slots 0 1 0 none) seat)) (sym (with_none me empty))
      (committing setup slots id me.0 entry leads has_concerned known room)
