-- What a desk always keeps is kept by what is planned, carried and dropped.
use Rattle.std.proofs.Common.{◌≡◌, ◌∙◌, ℕ, Bool, true, false, not, List, [], filter, length, None, refl, sym, ap, subst}
use Rattle.market_model.specs.declared.event.Event.{Event}
use Rattle.zone_graph.specs.Graph.{Graph}
use Rattle.market_model.specs.Board.{BoardState, IsBoard, IsHourOf, is_in_hand, resting_names}
use Rattle.market_model.specs.Orders.{open_names}
use Rattle.desk_changes.specs.State.{HourState, empty_board, settled_board, settled_now, undone, with_hand}
use Rattle.desk_views.specs.Desk as views
use Rattle.desk_views.specs.Standing.{IsNext, StandAt}
use Rattle.desk_changes.proofs.Lists.{all-pass}
use Rattle.hour_desk.specs.Desk.{DeskState}
use Rattle.hour_desk.specs.Insides.{IsInside, desk_of, planned_if}
use Rattle.laws_of_boards.specs.Settled.{IsSettled}
use Rattle.hour_desk.proofs.Quiet.{empty-settled}
use Rattle.hour_desk.proofs.Views.{adopted-forgotten, forgotten-again, forgotten-stands, next-forgotten, next-kept}

-- where nothing is planned the flag says so
not-planned : (is_planned : Bool) (events : List Event) → planned_if is_planned events ≡ None → is_planned ≡ false
not-planned true events none = absurd (cc)
not-planned false events none = refl

module _ (kept : HourState) (shown : views.DeskState) (is_planned : Bool) (inside : IsInside kept shown is_planned) where
  -- dropped
  pub undone-inside : (later : Bool) → IsInside (undone kept) (views.forgotten shown) later
  undone-inside later = record {
    seven = inside.seven;
    free = refl;
    settled = inside.settled;
    quiet = inside.settled;
    stands = forgotten-stands (settled_board kept) shown inside.stands;
    next = next-forgotten (settled_board kept) shown inside.stands;
    unplanned = λ none. refl;
    none_next = λ none. forgotten-again shown;
  }

  -- carried
  pub carried-inside : IsInside (settled_now kept) (views.adopted shown) false
  carried-inside =
      let free : kept.board ≡ with_hand kept.board None = ap (with_hand kept.board) inside.free in
      let stands : StandAt (settled_board (settled_now kept)) (views.adopted shown) = subst (λ (b : BoardState). StandAt b (views.adopted shown)) free inside.next in
      record {
        seven = inside.seven;
        free = inside.free;
        settled = inside.quiet;
        quiet = inside.quiet;
        stands = stands;
        next = next-kept kept.board (views.adopted shown) (adopted-forgotten shown) inside.next;
        unplanned = λ none. refl;
        none_next = λ none. adopted-forgotten shown;
      }

  -- so many are open where nothing is planned
  pub open-count : (seen : DeskState) → desk_of kept is_planned ≡ seen → seen.planned ≡ None
      → length (resting_names kept.board) ≡ length (open_names seen.settled seen.hour)
  open-count seen is none =
      let off : is_planned ≡ false = not-planned is_planned kept.board.events (ap (λ (d : DeskState). d.planned) is ∙ none) in
      ap (λ hand. length (filter (λ name. not (is_in_hand hand name)) (open_names kept.board.events kept.board.hour))) inside.free
      ∙ ap length (all-pass (open_names kept.board.events kept.board.hour))
      ∙ ap (λ es. length (open_names es kept.board.hour)) (inside.unplanned off)
      ∙ ap (λ (d : DeskState). length (open_names d.settled d.hour)) is

-- what is dropped stands as it is settled
pub undone-stands : (kept new : HourState) (is_planned : Bool) (seen : DeskState) → new ≡ undone kept → desk_of kept is_planned ≡ seen → IsBoard new.board
    → IsHourOf seen.grid seen.hour seen.settled
undone-stands kept new is_planned seen is told board =
    subst (λ (d : DeskState). IsHourOf d.grid d.hour d.settled) told (subst (λ (h : HourState). IsHourOf h.board.grid h.board.hour h.board.events) is board.stands)

-- a new desk
pub new-inside : (kept : HourState) (shown : views.DeskState) (graph : Graph) (hour : ℕ) → kept ≡ record { board = empty_board graph hour; settled = [] }
    → StandAt (empty_board graph hour) shown → views.forgotten shown ≡ shown → IsInside kept shown false
new-inside kept shown graph hour is stands none = record {
  seven = ap (λ (h : HourState). h.board.parts) is;
  free = ap (λ (h : HourState). h.board.hand) is;
  settled = subst (λ (h : HourState). IsSettled h.board.grid h.board.hour h.settled) (sym is) (empty-settled graph hour);
  quiet = subst (λ (h : HourState). IsSettled h.board.grid h.board.hour h.board.events) (sym is) (empty-settled graph hour);
  stands = subst (λ (h : HourState). StandAt (settled_board h) shown) (sym is) stands;
  next = subst (λ (h : HourState). IsNext h.board shown) (sym is) (next-kept (empty_board graph hour) shown none stands);
  unplanned = λ no. ap (λ (h : HourState). h.board.events) is ∙ ap (λ (h : HourState). h.settled) (sym is);
  none_next = λ no. none;
}
