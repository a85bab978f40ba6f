-- The next rows of one more part or side.
use Rattle.std.proofs.Common.{◌≡◌, ◌≢◌, ◌∙◌, ◌+◌, ◌<◌, inl, inr, ℕ, List, refl, sym, ap, subst, arith}
use Rattle.std.proofs.lemmas.Bool.{cases_eq}
use Rattle.order_kinds.specs.declared.side.Side.{Side}
use Rattle.order_kinds.specs.declared.side.Side.TheVariants.{Buy, Sell}
use Rattle.market_model.specs.declared.reply.ViewRow.{ViewRow}
use Rattle.market_model.specs.Board.{BoardState}
use Rattle.local_view.specs.Kept.{Views, line_of, made_after, views_forgotten}
use Rattle.local_view.specs.Nearness.{AreOthers, WereViews}
use Rattle.desk_views.specs.Desk.{views_with_made}
use Rattle.desk_views.specs.Standing.{AreComing}
use Rattle.desk_views.proofs.Rows.{made-forgotten}
use Rattle.desk_views.proofs.Sums.{made-twice}

-- what is kept stays through two steps
pub kept-through : (old mid new : Views) → views_forgotten mid ≡ views_forgotten (views_with_made old mid.made) → views_forgotten new ≡ views_forgotten (views_with_made mid new.made)
    → views_forgotten new ≡ views_forgotten (views_with_made old new.made)
kept-through old mid new one two = two ∙ made-forgotten mid (views_with_made old mid.made) new.made one

-- and what was made adds up
pub made-through : (old mid new first second : ℕ) → mid ≡ made_after old first → new ≡ made_after mid second → new ≡ made_after old (first + second)
made-through old mid new first second one two = two ∙ ap (λ n. made_after n second) one ∙ made-twice old first second

module _ (board : BoardState) (mid new : Views) where
  -- the rows of another part or side stay
  coming-still : (part : ℕ) (side : Side) → line_of new part side ≡ line_of mid part side → AreComing board part side (line_of mid part side) → AreComing board part side (line_of new part side)
  coming-still part side same coming = subst (AreComing board part side) (sym same) coming

  pub side-more : (part : ℕ) → AreComing board part Buy (line_of mid part Buy) → AreComing board part Sell (line_of new part Sell)
      → ((other : ℕ) (otherwise : Side) → AreOthers part Sell other otherwise → line_of new other otherwise ≡ line_of mid other otherwise)
      → (side : Side) → AreComing board part side (line_of new part side)
  side-more part buys sells others Buy = coming-still part Buy (others part Buy (λ same. refl)) buys
  side-more part buys sells others Sell = sells

  pub part-more : (part : ℕ) → ((other : ℕ) (side : Side) → other < part → AreComing board other side (line_of mid other side))
      → ((side : Side) → AreComing board part side (line_of new part side))
      → ((other : ℕ) (side : Side) → other ≢ part → line_of new other side ≡ line_of mid other side)
      → (other : ℕ) (side : Side) → other < part + 1 → AreComing board other side (line_of new other side)
  part-more part done own others other side low = elim (cases_eq other part) [
    | inl same ↦ subst (λ p. AreComing board p side (line_of new p side)) (sym same) (own side)
    | inr apart ↦ coming-still other side (others other side apart) (done other side (omega (arith, low, apart)))
  ]

-- what kept rows were they still are, where the same is asked of the same rows
pub were-again : (board : BoardState) (part : ℕ) (side : Side) (touched again : ℕ) (rooms others : List (ℕ × ℕ)) (kept still : List (List ViewRow))
    → WereViews board part side touched rooms kept → again ≡ touched → others ≡ rooms → still ≡ kept → WereViews board part side again others still
were-again board part side touched again rooms others kept still were same_zones same_rooms same_rows =
    subst (λ t. WereViews board part side t others still) (sym same_zones)
    (subst (λ r. WereViews board part side touched r still) (sym same_rooms)
    (subst (λ k. WereViews board part side touched rooms k) (sym same_rows) were))
