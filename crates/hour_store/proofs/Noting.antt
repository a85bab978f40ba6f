-- What one more change says of those that are noted.
use Rattle.std.proofs.Common.{◌≡◌, ◌∙◌, ◌⊎◌, inl, inr, ℕ, ◌||◌, Bool, true, false, List, [], ◌∷◌, ◌++◌, Some, IsSomeAnd, refl, sym, ap, subst}
use Rattle.std.proofs.lemmas.List.Folds.{list_any-append}
use Rattle.std.specs.List.{list_any}
use Rattle.order_kinds.specs.declared.side.Side.{Side}
use Rattle.zone_graph.proofs.Again.{or-false}
use Rattle.contract_book.specs.declared.resting.Resting.{Resting}
use Rattle.contract_book.specs.Book.{order_of}
use Rattle.hour_store.specs.declared.change.Change.{Change}
use Rattle.hour_store.specs.declared.change.Change.TheVariants as change
use Rattle.hour_store.specs.Changed.{NotesNoFlow, NotesNoOrder, NotesOrdersAt, RestsAt, changes_flows, changes_in, has_changed, stands_in}

module _ (old seen new : List Change) (same : old ≡ seen) (record_of : Change) (is : new ≡ old ++ record_of ∷ []) where
  -- it is the last that is asked
  any-more : (p : Change → Bool) → list_any p new ≡ (list_any p seen || p record_of)
  any-more p =
      ap (list_any p) is ∙ list_any-append p old (record_of ∷ []) ∙ ap (λ b. list_any p old || b) (or-false (p record_of))
      ∙ ap (λ l. list_any p l || p record_of) same

  any-same : (p : Change → Bool) → p record_of ≡ false → list_any p new ≡ list_any p seen
  any-same p fails = any-more p ∙ ap (λ b. list_any p seen || b) fails ∙ or-false (list_any p seen)

  pub notes-no_order : ((part : ℕ) (side : Side) (zone : ℕ) → changes_in part side zone record_of ≡ false) → NotesNoOrder seen new
  notes-no_order fails part side zone = any-same (changes_in part side zone) (fails part side zone)

  pub notes-no_flow : changes_flows record_of ≡ false → NotesNoFlow seen new
  notes-no_flow fails = any-same changes_flows fails

  -- a change of an order is noted where this stands
  pub notes-order : (at : (part : ℕ) → Side → (zone : ℕ) → Type 0) → ((part : ℕ) (side : Side) (zone : ℕ) → changes_in part side zone record_of ≡ true → at part side zone)
      → NotesOrdersAt at seen new
  notes-order at there part side zone noted = go (has_changed seen part side zone) refl
    where
      go : (b : Bool) → has_changed seen part side zone ≡ b → (has_changed seen part side zone ≡ true) ⊎ at part side zone
      go true e = inl e
      go false e = inr (there part side zone (sym (ap (λ b. b || changes_in part side zone record_of) e) ∙ sym (any-more (changes_in part side zone)) ∙ noted))

-- one of the order of a number is noted where that rests
pub rests-at : (book : List (List Resting)) (number own : ℕ) (order : Resting) → order_of book number ≡ Some order → (part : ℕ) (side : Side) (zone : ℕ)
    → changes_in part side zone (change.OrderChanged own order) ≡ true → RestsAt book number own part side zone
rests-at book number own order found part side zone is = subst (λ o. IsSomeAnd o (λ r. stands_in part side zone own r ≡ true)) (sym found) is

-- ---- what is noted one after the other

module _ (at next : (part : ℕ) → Side → (zone : ℕ) → Type 0) (old mid late : List Change) (first : NotesOrdersAt at old mid) (second : NotesOrdersAt next mid late) where
  pub notes-both : NotesOrdersAt (λ part side zone. at part side zone ⊎ next part side zone) old late
  notes-both part side zone noted = elim (second part side zone noted) [
    | inl before ↦ elim (first part side zone before) [ inl older ↦ inl older | inr now ↦ inr (inl now) ]
    | inr now ↦ inr (inr now)
  ]

pub notes-then : (at : (part : ℕ) → Side → (zone : ℕ) → Type 0) (old mid late : List Change) → NotesOrdersAt at old mid → NotesNoOrder mid late → NotesOrdersAt at old late
notes-then at old mid late first second part side zone noted = first part side zone (sym (second part side zone) ∙ noted)
