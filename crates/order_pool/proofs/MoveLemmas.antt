-- What a place's move from one ring to another changes, and what it keeps.
use Rattle.std.proofs.Common.{◌≡◌, ◌≢◌, inl, inr, ℕ, ◌+◌, ◌<◌, List, ◌∷◌, ◌++◌, length, set, sum_by, Option, Some, sym, ap, ◌∙◌, subst, arith}
use Rattle.std.proofs.lemmas.List.{length-set}
use Rattle.order_pool.specs.Lines.{line_at, StandsIn, StandsBetween, StandOnce, IsInserted}
use Rattle.order_pool.proofs.Chains.{split_at}
use Rattle.order_pool.proofs.OnceLemmas.{removed_loses, removed_keeps, removed_absent, removed_total, joined_here, joined_keeps, joined_cases, joined_total, insertion_split}

-- the place stands in the ring now, and every other place where it stood; so many more places stand
-- in rings
pub record IsShifted (old new : List (List ℕ)) (place ring grown : ℕ) : Type 0 where
  pub stays : (k other : ℕ) → other ≢ place → StandsIn old k other → StandsIn new k other
  pub stood : (k other : ℕ) → other ≢ place → StandsIn new k other → StandsIn old k other
  pub here : StandsIn new ring place
  pub only : (k : ℕ) → StandsIn new k place → k ≡ ring
  pub total : sum_by length new ≡ sum_by length old + grown
  pub many : length new ≡ length old

-- where a place stands between
pub between_in : (lines : List (List ℕ)) (k place : ℕ) → StandsIn lines k place → (front : List ℕ) × (back : List ℕ) × StandsBetween lines k front place back
between_in lines k place stands =
    let parts = split_at place (line_at lines k) stands.1 in
    (parts.0, parts.1, (stands.0, parts.2))

module _ (old : List (List ℕ)) (once : StandOnce old) (from place : ℕ) (front back : List ℕ) (stands : StandsBetween old from front place back) where
  -- once a place is out, the place that it is to stand before is where it was
  pub still_before : (ring : ℕ) (before : Option ℕ) → ((after : ℕ) → before ≡ Some after → StandsIn old ring after) → before ≢ Some place → (after : ℕ) → before ≡ Some after → StandsIn (set old from (front ++ back)) ring after
  still_before ring before ahead apart after is =
      removed_keeps old once from place front back stands ring after (λ same. apart (is ∙ ap Some same)) (ahead after is)

  pub is_shifted : (new : List (List ℕ)) (ring : ℕ) (before : Option ℕ) → ring < length old → ((after : ℕ) → before ≡ Some after → StandsIn old ring after) → before ≢ Some place → IsInserted (set old from (front ++ back)) new ring before place → IsShifted old new place ring 0
  is_shifted new ring before within ahead apart inserted =
      let out = set old from (front ++ back) in
      let within_out : ring < length out = omega (arith, within, length-set old from (front ++ back)) in
      let cut = insertion_split out new ring before place inserted within_out (still_before ring before ahead apart) in
      let ring_new = cut.0 ++ place ∷ cut.1 in
      let shifted : IsShifted old (set out ring ring_new) place ring 0 =
      record {
        stays = λ k other differs has. joined_keeps out ring place cut.0 cut.1 within_out cut.2 k other (removed_keeps old once from place front back stands k other differs has);
        stood = λ k other differs has. elim (joined_cases out ring place cut.0 cut.1 within_out cut.2 k other has) [
          | inl was ↦ (removed_loses old once from place front back stands k other was).0
          | inr it ↦ absurd (differs (sym it.0))
        ];
        here = joined_here out ring place cut.0 cut.1 within_out cut.2;
        only = λ k has. elim (joined_cases out ring place cut.0 cut.1 within_out cut.2 k place has) [
          | inl was ↦ absurd (removed_absent old once from place front back stands k was)
          | inr it ↦ it.1
        ];
        total = omega (arith, joined_total out ring place cut.0 cut.1 within_out cut.2, removed_total old once from place front back stands);
        many = length-set out ring ring_new ∙ length-set old from (front ++ back);
      } in
      let P : List (List ℕ) → Type 0 = λ r. IsShifted old r place ring 0 in
      subst P (sym cut.3) shifted

-- a place that stood in no ring joins one
pub is_joined : (old new : List (List ℕ)) (place ring : ℕ) (before : Option ℕ) → ((k : ℕ) → StandsIn old k place → ⊥) → ring < length old → ((after : ℕ) → before ≡ Some after → StandsIn old ring after) → IsInserted old new ring before place → IsShifted old new place ring 1
is_joined old new place ring before absent within ahead inserted =
    let cut = insertion_split old new ring before place inserted within ahead in
    let ring_new = cut.0 ++ place ∷ cut.1 in
    let joined : IsShifted old (set old ring ring_new) place ring 1 =
    record {
      stays = λ k other differs has. joined_keeps old ring place cut.0 cut.1 within cut.2 k other has;
      stood = λ k other differs has. elim (joined_cases old ring place cut.0 cut.1 within cut.2 k other has) [
        | inl was ↦ was
        | inr it ↦ absurd (differs (sym it.0))
      ];
      here = joined_here old ring place cut.0 cut.1 within cut.2;
      only = λ k has. elim (joined_cases old ring place cut.0 cut.1 within cut.2 k place has) [
        | inl was ↦ absurd (absent k was)
        | inr it ↦ it.1
      ];
      total = joined_total old ring place cut.0 cut.1 within cut.2;
      many = length-set old ring ring_new;
    } in
    let P : List (List ℕ) → Type 0 = λ r. IsShifted old r place ring 1 in
    subst P (sym cut.3) joined
