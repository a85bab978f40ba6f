-- Each kind of step on the table of a lock keeps the rule.
use mathlib.Core.Option as mathlib_option
use Rattle.std.proofs.Common.{◌≡◌, ℕ, slice_index, zero, suc, ◌==◌, List, [], ◌∷◌, ◌++◌, None, Some, Option, refl, ◌∙◌, sym, ap, subst, inl, inr, ⊎_elim, set}
use mathlib.Core.Option.{none, some, some-injective, some-ne-none}
use prog.Atomic.{either}
use lib.ListN.{get_elem?}
use Rattle.atomic_table.proofs.Lists.{at_set, at_snoc}
use Rattle.atomic_table.specs.Table.{Act, Me, Step, takes, gives, keeps, Allows, rest, step, stepped, Valid, carried_after}
use Rattle.kept_lock.specs.Lock.{IsBusy, IsKept, given, tried}
use Rattle.kept_lock.specs.Steps.{MakingKeeps, SittingKeeps, TakingKeeps, AskingKeeps, GivingKeeps}

-- each view is the key
abbrev AllKnow : {K : Type 0} → K → List K → Type 0
AllKnow {K} key views = (id : ℕ) (view : K) → get_elem? views id ≡ some view → view ≡ key

module _ {K : Type 0} (key : K) where
  one_knows : AllKnow key (key ∷ [])
  one_knows zero view at = sym (some-injective key view at)
  one_knows (suc id) view at = absurd (some-ne-none view (sym at))

  more_know : (views : List K) → AllKnow key views → AllKnow key (views ++ key ∷ [])
  more_know views known id view at = ⊎_elim (known id view) sym (at_snoc views key view id at)

  still_know : (views : List K) (id : ℕ) → AllKnow key views → AllKnow key (set views id key)
  still_know views id known other view at = ⊎_elim (λ here. sym here.1) (λ there. known other view there.1) (at_set views id other key view at)

module _ {K T : Type 0} (promise : K → T → Type 0) where
  pub making : MakingKeeps promise
  making key value promised = record { place = inl (value, refl, refl, promised); views = one_knows key }

  pub sitting : SittingKeeps promise
  sitting key slots state kept length_is bound = (key, record { place = kept.place; views = more_know key state.views kept.views }, refl)

  -- what a try asks of a state, by its parts: it leaves another word
  abbrev Tries : (next : ℕ → ℕ) → Step (Option T) → K → ℕ → List ℕ → List (mathlib_option.Option (Option T)) → List K → Type 0
  Tries next turn key id words homes views = (view : K) × (act : Act (Option T)) × Valid homes [] act
      × IsKept promise key (stepped (record { words = words; homes = homes; views = views }) 0 (next (slice_index words 0)) id [] view act)
      × tried promise turn (key, []) (slice_index words 0) (view, carried_after [] act)

  -- where each word that is left says that the lock is taken
  module _ (next : ℕ → ℕ) (from_free : IsBusy (next 0)) (from_taken : (word : ℕ) → IsBusy word → IsBusy (next word)) (turn : Step (Option T))
      (key : K) (slots id : ℕ) where
    try_free : (views : List K) (value : T) → AllKnow key views → promise key value → Tries next turn key id (0 ∷ []) (some (Some value) ∷ []) views
    try_free views value known promised = (
      key,
      takes 0 (Some value),
      refl,
      record { place = inr (next 0, from_free, refl, refl); views = still_know key views id known },
      (value, refl, promised),
    )

    not_got : (word : ℕ) → IsBusy word → tried promise turn (key, []) word (key, [])
    not_got word (inl one) = subst (λ n. tried promise turn (key, []) n (key, [])) (sym one) refl
    not_got word (inr two) = subst (λ n. tried promise turn (key, []) n (key, [])) (sym two) refl

    try_taken : (views : List K) (word : ℕ) → AllKnow key views → IsBusy word → Tries next turn key id (word ∷ []) (none ∷ []) views
    try_taken views word known busy =
        (key, keeps, tt, record { place = inr (next word, from_taken word busy, refl, refl); views = still_know key views id known }, not_got word busy)

    trying : Allows (IsKept promise key) slots id (key, []) 0 next (tried promise turn (key, []))
    trying state kept length_is at bound = ⊎_elim
        (λ free. subst (λ words. Tries next turn key id words state.homes state.views) (sym free.1)
        (subst (λ homes. Tries next turn key id (0 ∷ []) homes state.views) (sym free.2) (try_free state.views free.0 kept.views free.3)))
        (λ taken. subst (λ words. Tries next turn key id words state.homes state.views) (sym taken.2)
        (subst (λ homes. Tries next turn key id (taken.0 ∷ []) homes state.views) (sym taken.3) (try_taken state.views taken.0 kept.views taken.1)))
        kept.place

  abbrev taken_next : ℕ → ℕ
  taken_next word = either (word == 0) 1 word

  stays_busy : (word : ℕ) → IsBusy word → IsBusy (taken_next word)
  stays_busy word (inl one) = subst (λ n. IsBusy (taken_next n)) (sym one) (inl refl)
  stays_busy word (inr two) = subst (λ n. IsBusy (taken_next n)) (sym two) (inr refl)

  pub taking : TakingKeeps promise
  taking key slots id = trying taken_next (inl refl) stays_busy (step slots 0 0 1 none) key slots id

  pub asking : AskingKeeps promise
  asking key slots id = trying (λ word. 2) (inr refl) (λ word busy. inr refl) (step slots 0 2 0 none) key slots id

  -- after the lock is given back it is free, whatever it was
  give_back : (key : K) (value : T) (id : ℕ) (words : List ℕ) (homes : List (mathlib_option.Option (Option T))) (views : List K) (word : ℕ) (home : mathlib_option.Option (Option T))
      → words ≡ word ∷ [] → homes ≡ home ∷ [] → AllKnow key views → promise key value
      → IsKept promise key (stepped (record { words = words; homes = homes; views = views }) 0 0 id ((0, Some value) ∷ []) key gives)
  give_back key value id words homes views word home words_are homes_are known promised = record {
    place = inl (value, ap (λ (w : List ℕ). set w 0 0) words_are, ap (λ (h : List (mathlib_option.Option (Option T))). set h 0 (some (Some value))) homes_are, promised);
    views = still_know key views id known;
  }

  pub giving : GivingKeeps promise
  giving key value slots id promised state kept length_is at bound = (
    key,
    gives,
    tt,
    ⊎_elim
        (λ free. give_back key value id state.words state.homes state.views 0 (some (Some free.0)) free.1 free.2 kept.views promised)
        (λ taken. give_back key value id state.words state.homes state.views taken.0 none taken.2 taken.3 kept.views promised)
        kept.place,
    refl,
  )

  -- a try that found 0 has got the value
  pub won : (turn : Step (Option T)) (before after : Me (Option T) K) (found : ℕ) → found ≡ 0 → tried promise turn before found after
      → (value : T) × (after ≡ (before.0, (0, Some value) ∷ [])) × promise before.0 value
  won turn before after found at_zero done = subst (λ word. tried promise turn before word after) at_zero done

  -- the same steps of a seat of which it is known what it is
  pub taking_by : (key : K) (slots id : ℕ) (me : Me (Option T) K) → me ≡ (key, [])
      → Allows (IsKept promise key) slots id me 0 (λ word. either (word == 0) 1 word) (tried promise (step slots 0 0 1 none) me)
  taking_by key slots id me seated = subst
      (λ seat. Allows (IsKept promise key) slots id seat 0 (λ word. either (word == 0) 1 word) (tried promise (step slots 0 0 1 none) seat))
      (sym seated)
      (taking key slots id)

  pub asking_by : (key : K) (slots id : ℕ) (me : Me (Option T) K) → me ≡ (key, [])
      → Allows (IsKept promise key) slots id me 0 (λ word. 2) (tried promise (step slots 0 2 0 none) me)
  asking_by key slots id me seated = subst
      (λ seat. Allows (IsKept promise key) slots id seat 0 (λ word. 2) (tried promise (step slots 0 2 0 none) seat))
      (sym seated)
      (asking key slots id)

  pub giving_by : (key : K) (value : T) (slots id : ℕ) (me : Me (Option T) K) → me ≡ (key, (0, Some value) ∷ []) → promise key value
      → Allows (IsKept promise key) slots id me 0 (λ word. 0) (given (step slots 0 0 0 none) me)
  giving_by key value slots id me seated promised = subst
      (λ seat. Allows (IsKept promise key) slots id seat 0 (λ word. 0) (given (step slots 0 0 0 none) seat))
      (sym seated)
      (giving key value slots id promised)

  -- a seat whose slot held nothing, once a value was put there
  pub filled : (key : K) (value : T) (before after : Me (Option T) K) → before.0 ≡ key → before.1 ≡ (0, None) ∷ []
      → after ≡ (before.0, (0, Some value) ∷ rest before.1) → after ≡ (key, (0, Some value) ∷ [])
  filled key value before after keyed empty put =
      put ∙ ap (λ (held : Me (Option T) K). (held.0, (0, Some value) ∷ rest held.1)) (λ i. (keyed i, empty i))
