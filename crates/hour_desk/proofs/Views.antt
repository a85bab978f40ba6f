-- What a desk keeps for its views, once it is adopted or what is next is dropped.
use Rattle.std.proofs.Common.{◌≡◌, ◌∙◌, ℕ, zero, suc, ◌<◌, List, [], ◌∷◌, get_or, length, map, None, refl, sym, ap, subst, arith}
use Rattle.std.proofs.lemmas.List.{length-map}
use Rattle.order_kinds.specs.declared.side.Side.{Side}
use Rattle.order_kinds.specs.declared.side.Side.TheVariants.{Buy, Sell}
use Rattle.zone_graph.specs.Pour.{opposite_arc}
use Rattle.market_model.specs.Board.{BoardState}
use Rattle.match_core.specs.Walks as walks
use Rattle.local_view.specs.Boards as boards
use Rattle.local_view.specs.Kept.{Views, adopted as line_adopted, forgotten as line_forgotten, kept_of, no_part, on_side, part_adopted, part_forgotten, views_adopted, views_forgotten}
use Rattle.local_view.specs.Rows.{LineRows}
use Rattle.local_view.specs.declared.part_views.PartViews.{PartViews}
use Rattle.desk_changes.specs.Planned.{IsUnplanned}
use Rattle.desk_changes.specs.State.{HourState, settled_board}
use Rattle.desk_views.specs.Desk.{DeskState, adopted, forgotten, with_made}
use Rattle.desk_views.specs.Standing.{StandAt}
use Rattle.hour_desk.proofs.Planned.{settled-same}

at-map : {X Y : Type 0} (f : X → Y) (xs : List X) (i : ℕ) (d : X) → get_or (map f xs) i (f d) ≡ f (get_or xs i d)
at-map f [] i d = refl
at-map f (x ∷ xs) zero d = refl
at-map f (x ∷ xs) (suc i) d = at-map f xs i d

side-forgotten : (part : PartViews) (side : Side) → on_side (part_forgotten part) side ≡ line_forgotten (on_side part side)
side-forgotten part Buy = refl
side-forgotten part Sell = refl

side-adopted : (part : PartViews) (side : Side) → on_side (part_adopted part) side ≡ line_adopted (on_side part side)
side-adopted part Buy = refl
side-adopted part Sell = refl

-- dropping what is next leaves what is kept
kept-forgotten : (views : Views) (part : ℕ) (side : Side) (zone : ℕ) → kept_of (views_forgotten views) part side zone ≡ kept_of views part side zone
kept-forgotten views part side zone =
    ap (λ (p : PartViews). get_or (on_side p side).kept zone []) (at-map part_forgotten views.lines part no_part)
    ∙ ap (λ (line : LineRows). get_or line.kept zone []) (side-forgotten (get_or views.lines part no_part) side)

-- and so does adopting then
kept-adopted : (views : Views) (part : ℕ) (side : Side) (zone : ℕ) → kept_of (views_adopted (views_forgotten views)) part side zone ≡ kept_of views part side zone
kept-adopted views part side zone =
    ap (λ (p : PartViews). get_or (on_side p side).kept zone []) (at-map part_adopted (map part_forgotten views.lines) part no_part)
    ∙ ap (λ (p : PartViews). get_or (on_side (part_adopted p) side).kept zone []) (at-map part_forgotten views.lines part no_part)
    ∙ ap (λ (line : LineRows). get_or line.kept zone []) (side-adopted (part_forgotten (get_or views.lines part no_part)) side)
    ∙ ap (λ (line : LineRows). get_or (line_adopted line).kept zone []) (side-forgotten (get_or views.lines part no_part) side)

pub forgotten-stands : (board : BoardState) (views : DeskState) → StandAt board views → StandAt board (forgotten views)
forgotten-stands board views stands = record {
  zones = stands.zones;
  parts = length-map views.views.lines part_forgotten ∙ stands.parts;
  kept = λ part side zone low there. kept-forgotten views.views part side zone ∙ stands.kept part side zone low there;
  rooms = stands.rooms;
}

-- where nothing is next, what is next is what is kept
pub next-forgotten : (board : BoardState) (views : DeskState) → StandAt board views → StandAt board (adopted (forgotten views))
next-forgotten board views stands = record {
  zones = stands.zones;
  parts = length-map (map part_forgotten views.views.lines) part_adopted ∙ length-map views.views.lines part_forgotten ∙ stands.parts;
  kept = λ part side zone low there. kept-adopted views.views part side zone ∙ stands.kept part side zone low there;
  rooms = stands.rooms;
}

pub next-kept : (board : BoardState) (views : DeskState) → forgotten views ≡ views → StandAt board views → StandAt board (adopted views)
next-kept board views none stands = subst (λ v. StandAt board (adopted v)) none (next-forgotten board views stands)

-- what is kept as it was stands as it did
pub kept-stands : (board : BoardState) (old new : DeskState) (made : ℕ) → forgotten new ≡ with_made old made → StandAt board old → StandAt board new
kept-stands board old new made same stands = record {
  zones = ap (λ (v : DeskState). v.views.zones) same ∙ stands.zones;
  parts = sym (length-map new.views.lines part_forgotten) ∙ ap (λ (v : DeskState). length v.views.lines) same ∙ stands.parts;
  kept = λ part side zone low there.
      sym (kept-forgotten new.views part side zone) ∙ ap (λ (v : DeskState). kept_of v.views part side zone) same ∙ stands.kept part side zone low there;
  rooms = λ part low. subst (λ (v : DeskState). boards.AreRoomsOf board part (get_or v.rooms part [])) (sym same) (stands.rooms part low);
}

map-again : {X : Type 0} (f g : X → X) (xs : List X) → ((x : X) → f (g x) ≡ g x) → map f (map g xs) ≡ map g xs
map-again f g [] same = refl
map-again f g (x ∷ xs) same = ap (λ y. y ∷ map f (map g xs)) (same x) ∙ ap (λ ys. g x ∷ ys) (map-again f g xs same)

-- once dropped or adopted, nothing is next
pub forgotten-again : (views : DeskState) → forgotten (forgotten views) ≡ forgotten views
forgotten-again views =
    ap (λ lines. record { views = record { zones = views.views.zones; lines = lines; made = views.views.made }; rooms = views.rooms; next = None })
    (map-again part_forgotten part_forgotten views.views.lines (λ part. refl))

pub adopted-forgotten : (views : DeskState) → forgotten (adopted views) ≡ adopted views
adopted-forgotten views =
    ap (λ lines. record { views = record { zones = views.views.zones; lines = lines; made = views.views.made }; rooms = (adopted views).rooms; next = None })
    (map-again part_forgotten part_adopted views.views.lines (λ part. refl))

-- the rooms of a part, as an order that enters wants them
pub rooms-fit : (board : BoardState) (part : ℕ) (rooms : List (ℕ × ℕ)) → boards.AreRoomsOf board part rooms → walks.AreRoomsOf board part rooms
rooms-fit board part rooms are = record {
  size = are.size;
  same = are.are;
  fit = λ arc known.
      let one = are.most arc known in
      let other = are.most (opposite_arc arc) known in
      omega arith;
}

-- so are those that a desk keeps, for its hour with nothing planned
pub order-rooms : (hour : HourState) (views : DeskState) (part : ℕ) (rooms : List (ℕ × ℕ)) → IsUnplanned hour → hour.board.parts ≡ 7 → StandAt (settled_board hour) views
    → part < 7 → rooms ≡ get_or views.rooms part [] → walks.AreRoomsOf hour.board part rooms
order-rooms hour views part rooms unplanned seven stands low is =
    let here : StandAt hour.board views = subst (λ (b : BoardState). StandAt b views) (settled-same hour unplanned) stands in
    subst (walks.AreRoomsOf hour.board part) (sym is)
    (rooms-fit hour.board part (get_or views.rooms part []) (here.rooms part (subst (λ n. part < n) (sym seven) low)))
