-- The parts of kept views, one after the other.
use Rattle.std.proofs.Common.{◌≡◌, ◌≢◌, ◌∙◌, inl, inr, ℕ, zero, suc, ◌+◌, ◌<◌, List, [], ◌∷◌, ◌++◌, get_or, length, map, slice_set, take, Option, IfSome, refl, sym, ap, subst, arith}
use Rattle.std.proofs.lemmas.Bool.Decides.{eqb_tells}
use Rattle.std.proofs.lemmas.List.{get_or-map, get_or-set_other, get_or-set_same, length-map, length-set}
use Rattle.std.proofs.Math.Seq.{map-set_same, take-append_seam}
use Rattle.order_kinds.specs.declared.side.Side.{Side}
use Rattle.order_kinds.specs.declared.side.Side.TheVariants.{Buy, Sell}
use Rattle.market_model.specs.Board.{BoardState}
use Rattle.local_view.specs.declared.part_views.PartViews.{PartViews}
use Rattle.local_view.specs.declared.work.Work.{Work}
use Rattle.local_view.specs.Insides.{IsInside}
use Rattle.local_view.specs.Kept.{AreNext, AreSized, IsSized, Views, no_part, on_side, part_forgotten, views_forgotten}
use Rattle.local_view.specs.Works.{IsSound}

-- parts of which the same is kept are as many, and have as many zones
pub sized_alike : (zones : ℕ) (old new : List PartViews) → map part_forgotten new ≡ map part_forgotten old → AreSized zones old → AreSized zones new
sized_alike zones old new same sized part less =
    let many : length new ≡ length old = sym (length-map new part_forgotten) ∙ ap length same ∙ length-map old part_forgotten in
    let there : part < length old = omega (arith, less, many) in
    let alike : part_forgotten (get_or new part no_part) ≡ part_forgotten (get_or old part no_part) =
    sym (get_or-map part_forgotten new part no_part no_part less) ∙ ap (λ ps. get_or ps part no_part) same ∙ get_or-map part_forgotten old part no_part no_part there in
    subst (IsSized zones) (sym alike) (sized part there)

pub many_alike : (old new : List PartViews) → map part_forgotten new ≡ map part_forgotten old → length new ≡ length old
many_alike old new same = sym (length-map new part_forgotten) ∙ ap length same ∙ length-map old part_forgotten

pub forgotten_twice : (parts : List PartViews) → map part_forgotten (map part_forgotten parts) ≡ map part_forgotten parts
forgotten_twice [] = refl
forgotten_twice (part ∷ parts) = ap (λ ps. part_forgotten part ∷ ps) (forgotten_twice parts)

-- a part is changed
pub sized_set : (zones : ℕ) (parts : List PartViews) (place : ℕ) (new : PartViews) → place < length parts → AreSized zones parts
    → (IsSized zones (get_or parts place no_part) → IsSized zones new) → AreSized zones (slice_set parts place new)
sized_set zones parts place new there sized own part less =
    let within : part < length parts = (let size = length-set parts place new in omega (arith, less, size)) in
    elim (eqb_tells part place) [
      | inl same ↦ subst (IsSized zones) (sym (ap (λ k. get_or (slice_set parts place new) k no_part) same.1 ∙ get_or-set_same parts place new no_part there)) (own (sized place there))
      | inr other ↦ subst (IsSized zones) (sym (get_or-set_other parts place part new no_part other.1)) (sized part within)
    ]

-- an item that is there is it, whatever stands for one that is not
pub there_at : {X : Type 0} (xs : List X) (place : ℕ) (d e : X) → place < length xs → get_or xs place d ≡ get_or xs place e
there_at [] place d e less = absurd (let no : ⊥ = omega (arith, less) in no)
there_at (x ∷ xs) zero d e less = refl
there_at (x ∷ xs) (suc place) d e less = there_at xs place d e (omega (arith, less))

pub kept_set : (parts : List PartViews) (place : ℕ) (new d : PartViews) → part_forgotten new ≡ part_forgotten (get_or parts place d)
    → map part_forgotten (slice_set parts place new) ≡ map part_forgotten parts
kept_set parts place new d same = map-set_same part_forgotten parts place new d same

pub next_set : (board : BoardState) (zones : ℕ) (parts : List PartViews) (place : ℕ) (new : PartViews) → place < length parts
    → ((part : ℕ) (side : Side) → part < place → AreNext board part side zones (on_side (get_or parts part no_part) side))
    → AreNext board place Buy zones new.buys → AreNext board place Sell zones new.sells
    → (part : ℕ) (side : Side) → part < place + 1 → AreNext board part side zones (on_side (get_or (slice_set parts place new) part no_part) side)
next_set board zones parts place new there before buys sells part side less =
    elim (eqb_tells part place) [
      | inl same ↦ subst (λ k. AreNext board k side zones (on_side (get_or (slice_set parts place new) k no_part) side)) (sym same.1)
          (subst (λ p. AreNext board place side zones (on_side p side)) (sym (get_or-set_same parts place new no_part there)) (own side))
      | inr other ↦ subst (λ p. AreNext board part side zones (on_side p side)) (sym (get_or-set_other parts place part new no_part other.1))
          (before part side (let apart = other.1 in below apart))
    ]
  where
    own : (s : Side) → AreNext board place s zones (on_side new s)
    own Buy = buys
    own Sell = sells

    below : part ≢ place → part < place
    below apart = omega (arith, apart, less)

-- what is inside, where the parts were written back
pub inside_back : (zones : ℕ) (items lent new rest : List PartViews) (len : ℕ) (work_old work : Option Work) → IsInside zones items work_old → lent ≡ items → length lent ≡ len
    → length new ≡ length lent → AreSized zones new → IfSome work IsSound → IsInside zones (take len (new ++ rest)) work
inside_back zones items lent new rest len work_old work inside is size many sized works =
    subst (λ ps. IsInside zones ps work) (sym (ap (λ n. take n (new ++ rest)) (sym (many ∙ size)) ∙ take-append_seam new rest)) (record {
      sized = sized;
      few = (let few = inside.few in let same = ap length is in omega (arith, few, same, many));
      work_is = works;
    })

-- after next rows were dropped the same is kept
pub kept_forgotten : (old refreshed now : Views) → now ≡ views_forgotten refreshed → map part_forgotten refreshed.lines ≡ map part_forgotten old.lines → refreshed.zones ≡ old.zones
    → views_forgotten now ≡ views_forgotten (record { zones = old.zones; lines = old.lines; made = now.made })
kept_forgotten old refreshed now is kept zones =
    let lines = forgotten_twice refreshed.lines ∙ kept in
    let made : refreshed.made ≡ now.made = sym (ap (λ (v : Views). v.made) is) in
    ap views_forgotten is ∙ (λ i. record { zones = zones i; lines = lines i; made = made i })
