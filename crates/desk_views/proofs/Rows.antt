-- The rows of a part and side of views that are forgotten, adopted or made anew.
use Rattle.std.proofs.Common.{◌≡◌, ◌∙◌, ℕ, get_or, length, None, refl, sym, ap}
use mathlib.Core.List.{map-map}
use Rattle.std.proofs.Math.ListN.{get_or-map}
use Rattle.std.proofs.lemmas.List.{length-map}
use Rattle.order_kinds.specs.declared.side.Side.{Side}
use Rattle.order_kinds.specs.declared.side.Side.TheVariants.{Buy, Sell}
use Rattle.local_view.specs.declared.part_views.PartViews.{PartViews}
use Rattle.local_view.specs.Kept.{Views, adopted, forgotten, line_of, no_part, on_side, part_adopted, part_forgotten, views_adopted, views_forgotten}
use Rattle.local_view.specs.Rows.{LineRows}
use Rattle.desk_views.specs.Desk.{views_with_made}

forgotten-side : (part : PartViews) (side : Side) → on_side (part_forgotten part) side ≡ forgotten (on_side part side)
forgotten-side part Buy = refl
forgotten-side part Sell = refl

adopted-side : (part : PartViews) (side : Side) → on_side (part_adopted part) side ≡ adopted (on_side part side)
adopted-side part Buy = refl
adopted-side part Sell = refl

pub forgotten-line : (views : Views) (part : ℕ) (side : Side) → line_of (views_forgotten views) part side ≡ forgotten (line_of views part side)
forgotten-line views part side = ap (λ p. on_side p side) (get_or-map part_forgotten views.lines part no_part) ∙ forgotten-side (get_or views.lines part no_part) side

pub adopted-line : (views : Views) (part : ℕ) (side : Side) → line_of (views_adopted views) part side ≡ adopted (line_of views part side)
adopted-line views part side = ap (λ p. on_side p side) (get_or-map part_adopted views.lines part no_part) ∙ adopted-side (get_or views.lines part no_part) side

pub adopted-count : (views : Views) → length (views_adopted views).lines ≡ length views.lines
adopted-count views = length-map views.lines part_adopted

pub forgotten-count : (views : Views) → length (views_forgotten views).lines ≡ length views.lines
forgotten-count views = length-map views.lines part_forgotten

-- what is left of views that were forgotten
module _ (one other : Views) (same : views_forgotten one ≡ views_forgotten other) where
  pub same-zones : one.zones ≡ other.zones
  same-zones = ap (λ (v : Views). v.zones) same

  pub same-count : length one.lines ≡ length other.lines
  same-count = sym (length-map one.lines part_forgotten) ∙ ap (λ (v : Views). length v.lines) same ∙ length-map other.lines part_forgotten

-- where nothing was next
pub none-next : (views : Views) → views_forgotten views ≡ views → (part : ℕ) (side : Side) → (line_of views part side).next ≡ None
none-next views none part side = ap (λ v. (line_of v part side).next) (sym none) ∙ ap (λ (l : LineRows). l.next) (forgotten-line views part side)

-- what was computed since is nothing to what is kept
pub made-forgotten : (one other : Views) (made : ℕ) → views_forgotten one ≡ views_forgotten other → views_forgotten (views_with_made one made) ≡ views_forgotten (views_with_made other made)
made-forgotten one other made same = ap (λ v. views_with_made v made) same

-- what was forgotten is forgotten
pub forgotten-twice : (views : Views) → views_forgotten (views_forgotten views) ≡ views_forgotten views
forgotten-twice views = ap (λ lines. record { zones = views.zones; lines = lines; made = views.made }) (map-map part_forgotten part_forgotten views.lines)

pub forgotten-again : (one other : Views) → other ≡ views_forgotten one → views_forgotten other ≡ other
forgotten-again one other is = ap views_forgotten is ∙ forgotten-twice one ∙ sym is
