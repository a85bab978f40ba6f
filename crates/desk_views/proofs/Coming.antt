-- The rows that a part and side will have, where they were made anew and where none were.
use Rattle.std.proofs.Common.{◌≡◌, ◌∙◌, ℕ, List, [], get_or, None, sym, ap, subst, arith}
use Rattle.order_kinds.specs.declared.side.Side.{Side}
use Rattle.order_kinds.specs.Contract.{contract_at}
use Rattle.zone_graph.specs.Graph.{zone_count}
use Rattle.market_model.specs.Board.{BoardState, IsBoard}
use Rattle.laws_of_views.specs.Nearby.{DifferWithin}
use Rattle.local_view.specs.Kept.{AreNext, adopted_rows}
use Rattle.local_view.specs.Nearness.{WereViews, zones_touched}
use Rattle.local_view.specs.Rows.{LineRows}
use Rattle.desk_views.specs.Standing.{AreComing}
use Rattle.desk_views.proofs.Bits.{none_touched}
use Rattle.desk_views.proofs.SameViews.{views-same}

-- where no zone is touched the kept rows are the views
pub still-coming : (board : BoardState) (is : IsBoard board) (part : ℕ) (side : Side) (touched : ℕ) (rooms : List (ℕ × ℕ)) (line : LineRows)
    → WereViews board part side touched rooms line.kept → line.next ≡ None → touched ≡ 0 → AreComing board part side line
still-coming board is part side touched rooms line were none zero zone there =
    ap (λ next. get_or (adopted_rows line.kept next) zone []) none
    ∙ were.kept_are zone there
    ∙ sym (views-same board.grid board.hour were.events board.events were.stands is.stands part side zone
    (subst (λ zones. DifferWithin board.grid were.events board.events (contract_at board.hour part) side zones)
    (ap (zones_touched board.grid) zero ∙ none_touched board.grid) were.differ))

-- next rows are
pub next-coming : (board : BoardState) (part : ℕ) (side : Side) (zones : ℕ) (line : LineRows) → zone_count board.grid ≡ zones → AreNext board part side zones line
    → AreComing board part side line
next-coming board part side zones line count next zone there =
    ap (λ rows. get_or (adopted_rows line.kept rows) zone []) next.is ∙ next.each zone (omega (arith, there, count))
