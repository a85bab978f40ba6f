-- Marks of zones, and how many zones are free of them.
use Rattle.std.proofs.Common.{◌≡◌, ◌∙◌, ◌<◌, ◌+◌, ◌==◌, ℕ, zero, suc, replicate, Bool, true, false, List, [], ◌∷◌, ◌++◌, length, length-append, if◌then◌else◌, eqb-true, eq-eqb, refl, sym, ap, arith}
use Rattle.std.proofs.lemmas.Bool.{true≢false}
use Rattle.market_model.specs.declared.board.Shown.{Shown}
use Rattle.sweep_core.specs.Meeting.{is_marked}
use Rattle.zone_graph.proofs.Walks.{differs}

-- where each mark is none no zone is marked
pub none-marked : (count : ℕ) (zone : ℕ) → is_marked (replicate count false) zone ≡ false
none-marked zero zone = refl
none-marked (suc count) zero = refl
none-marked (suc count) (suc zone) = none-marked count zone

-- one for a zone that is free
abbrev pub one_if_free : (marked : Bool) → ℕ
one_if_free marked = if marked then 0 else 1

-- how many of the first zones are free
abbrev pub free_zones : (count : ℕ) → (marks : List Bool) → ℕ
free_zones zero marks = 0
free_zones (suc count) marks = one_if_free (is_marked marks count) + free_zones count marks

-- one more zone is marked
abbrev pub MarksToo : (zone : ℕ) → (marks more : List Bool) → Type 0
MarksToo zone marks more = (other : ℕ) → is_marked more other ≡ (if other == zone then true else is_marked marks other)

-- without a mark all are free
pub all-free : (count : ℕ) (marks : List Bool) → ((zone : ℕ) → is_marked marks zone ≡ false) → free_zones count marks ≡ count
all-free zero marks none = refl
all-free (suc count) marks none =
    let here : one_if_free (is_marked marks count) ≡ 1 = ap one_if_free (none count) in
    let below = all-free count marks none in
    omega (arith, here, below)

-- a zone that is free is counted
pub some-free : (count zone : ℕ) (marks : List Bool) → zone < count → is_marked marks zone ≡ false → 0 < free_zones count marks
some-free zero zone marks less free = absurd (omega (arith, less))
some-free (suc count) zone marks less free = go (λ under. some-free count zone marks under free) (count == zone) refl
  where
    go : (zone < count → 0 < free_zones count marks) → (b : Bool) → (count == zone) ≡ b → 0 < free_zones (suc count) marks
    go onward true e =
        let here : one_if_free (is_marked marks count) ≡ 1 = ap (λ z. one_if_free (is_marked marks z)) (eqb-true count zone e) ∙ ap one_if_free free in
        omega (arith, here)
    go onward false e =
        let apart : (count ≡ zone → ⊥) = λ same. true≢false (sym (eq-eqb count zone same) ∙ e) in
        let below = onward (omega (arith, less, apart)) in
        omega (arith, below)

-- marks that say the same count the same
same-free : (count : ℕ) (marks more : List Bool) → ((zone : ℕ) → zone < count → is_marked more zone ≡ is_marked marks zone) → free_zones count more ≡ free_zones count marks
same-free zero marks more same = refl
same-free (suc count) marks more same =
    let here : one_if_free (is_marked more count) ≡ one_if_free (is_marked marks count) = ap one_if_free (same count (omega arith)) in
    let below = same-free count marks more (λ zone less. same zone (omega (arith, less))) in
    omega (arith, here, below)

module _ (zone : ℕ) (marks more : List Bool) (marked : MarksToo zone marks more) where
  pub marked-here : is_marked more zone ≡ true
  marked-here = marked zone ∙ ap (λ b. if b then true else is_marked marks zone) (eq-eqb zone zone refl)

  pub marked-elsewhere : (other : ℕ) → (other == zone) ≡ false → is_marked more other ≡ is_marked marks other
  marked-elsewhere other apart = marked other ∙ ap (λ b. if b then true else is_marked marks other) apart

  -- one zone less is free, if it was
  less-free : (count : ℕ) → zone < count → is_marked marks zone ≡ false → free_zones count more + 1 ≡ free_zones count marks
  less-free zero less free = absurd (omega (arith, less))
  less-free (suc count) less free = go (λ under. less-free count under free) (count == zone) refl
    where
      go : (zone < count → free_zones count more + 1 ≡ free_zones count marks) → (b : Bool) → (count == zone) ≡ b
          → free_zones (suc count) more + 1 ≡ free_zones (suc count) marks
      go onward true e =
          let is : count ≡ zone = eqb-true count zone e in
          let was : one_if_free (is_marked marks count) ≡ 1 = ap (λ z. one_if_free (is_marked marks z)) is ∙ ap one_if_free free in
          let now : one_if_free (is_marked more count) ≡ 0 = ap (λ z. one_if_free (is_marked more z)) is ∙ ap one_if_free marked-here in
          let below = same-free count marks more (λ other under. marked-elsewhere other (differs other zone (λ same. omega (arith, under, same, is)))) in
          omega (arith, was, now, below)
      go onward false e =
          let apart : (count ≡ zone → ⊥) = λ same. true≢false (sym (eq-eqb count zone same) ∙ e) in
          let here : one_if_free (is_marked more count) ≡ one_if_free (is_marked marks count) = ap one_if_free (marked-elsewhere count e) in
          let below = onward (omega (arith, less, apart)) in
          omega (arith, here, below)

  -- or as many, if it was not
  still-free : (count : ℕ) → is_marked marks zone ≡ true → free_zones count more ≡ free_zones count marks
  still-free count taken = same-free count marks more (λ other less. go other (other == zone) refl)
    where
      go : (other : ℕ) (b : Bool) → (other == zone) ≡ b → is_marked more other ≡ is_marked marks other
      go other true e =
          let is : other ≡ zone = eqb-true other zone e in
          ap (is_marked more) is ∙ marked-here ∙ sym taken ∙ ap (is_marked marks) (sym is)
      go other false e = marked-elsewhere other e

-- each order that was kept has taken a zone that was free
pub room-kept : (count : ℕ) (marks more : List Bool) (sell : Shown) (fronts kept : List Shown) → sell.zone < count → MarksToo sell.zone marks more
    → kept ≡ (if is_marked marks sell.zone then fronts else (fronts ++ sell ∷ [])) → length fronts + free_zones count marks ≡ count
    → length kept + free_zones count more ≡ count
room-kept count marks more sell fronts kept less marked is room = go (is_marked marks sell.zone) refl is
  where
    go : (b : Bool) → is_marked marks sell.zone ≡ b → kept ≡ (if b then fronts else (fronts ++ sell ∷ [])) → length kept + free_zones count more ≡ count
    go true e same =
        let long : length kept ≡ length fronts = ap length same in
        let free = still-free sell.zone marks more marked count e in
        omega (arith, long, free, room)
    go false e same =
        let long : length kept ≡ length fronts + 1 = ap length same ∙ length-append fronts (sell ∷ []) in
        let free = less-free sell.zone marks more marked count less e in
        omega (arith, long, free, room)
