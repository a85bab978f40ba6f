-- What a desk's refresh is given, and what it leaves.
use Rattle.std.proofs.Common.{◌≡◌, ◌∙◌, inl, inr, ◌++◌, ◌<◌, ◌≤◌, ℕ, Bool, true, false, List, [], get_or, length, take, None, unwrap_or, refl, sym, ap, subst, arith}
use Rattle.std.proofs.Math.Seq.{take-append_seam}
use Rattle.std.proofs.lemmas.Bool.{or_cases, true≢false}
use Rattle.order_kinds.specs.declared.side.Side.{Side}
use Rattle.order_kinds.specs.Contract.{contract_at}
use Rattle.zone_graph.specs.Graph.{Graph, IsGraph, zone_count}
use Rattle.zone_graph.specs.Grid.{IsGrid}
use Rattle.cut_proof.specs.ZoneSet.{holds}
use Rattle.hour_store.specs.Changed.{zones_of}
use Rattle.local_view.proofs.Bits.{holds-or}
use Rattle.laws_of_views.specs.Changes.{RoomsDifferWithin}
use Rattle.kept_hour.specs.Changed.{AreBoards, AreRoomsSettled, AreSeenElsewhere, AreZonesPlanned}
use Rattle.kept_hour.specs.State.{HourState, settled_board}
use Rattle.local_view.specs.Boards.{AreRoomsOf}
use Rattle.local_view.specs.Kept.{Views, line_of, made_after, views_forgotten}
use Rattle.local_view.specs.Nearness.{WereViews, zones_touched}
use Rattle.desk_views.specs.Desk.{DeskState, forgotten, views_with_made, with_made}
use Rattle.desk_views.specs.Insides.{IsInside, planned_if}
use Rattle.desk_views.specs.Moved.{AreMoved, touched_of}
use Rattle.desk_views.specs.Standing.{AreComing, IsMadeNear, IsNext, StandAt, near_of_parts}
use Rattle.desk_views.proofs.Next.{differs, is-next, rooms-move, rooms-next, rooms-settled, rooms-within, were-views}

-- a list that was lent as a slice and written back whole
pub written-back : {X : Type 0} (lent new rest : List X) (many : ℕ) → length lent ≡ many → length new ≡ length lent → take many (new ++ rest) ≡ new
written-back lent new rest many size same = ap (λ n. take n (new ++ rest)) (sym (same ∙ size)) ∙ take-append_seam new rest

-- what is kept inside, where the next rooms were written
pub inside-back : (rooms items lent new rest : List (List (ℕ × ℕ))) (many : ℕ) → IsInside rooms items → lent ≡ items → length lent ≡ many → length new ≡ length lent
    → ((part : ℕ) → length (get_or new part []) ≡ length (get_or lent part [])) → IsInside rooms (take many (new ++ rest))
inside-back rooms items lent new rest many inside is size same each =
    subst (IsInside rooms) (sym (written-back lent new rest many size same)) (record {
      seven = inside.seven;
      seven_planned = same ∙ ap length is ∙ inside.seven_planned;
      same = λ part. inside.same part ∙ sym (each part ∙ ap (λ rows. length (get_or rows part [])) is);
    })

-- of a desk of which nothing is next
module _ (views : Views) (rooms planned : List (List (ℕ × ℕ))) (asked : Bool) (old : DeskState)
    (is : record { views = views; rooms = rooms; next = planned_if asked planned } ≡ old) (none : forgotten old ≡ old) where
  pub no-rooms-next : planned_if asked planned ≡ None
  no-rooms-next = ap (λ (d : DeskState). d.next) is ∙ sym (ap (λ (d : DeskState). d.next) none)

  -- what is kept is as it was, with what was computed since
  pub kept-made : (new : Views) → views_forgotten new ≡ views_with_made views new.made
      → record { views = views_forgotten new; rooms = rooms; next = None } ≡ with_made old new.made
  kept-made new kept =
      ap (λ v. record { views = v; rooms = rooms; next = None }) kept
      ∙ ap (λ next. record { views = views_with_made views new.made; rooms = rooms; next = next }) (sym no-rooms-next)
      ∙ ap (λ (d : DeskState). with_made d new.made) is

  -- and where no rows were made and no rooms asked for all is as it was
  pub all-still : (new : Views) (again : Bool) (other : List (List (ℕ × ℕ))) → new ≡ views → again ≡ false
      → record { views = new; rooms = rooms; next = planned_if again other } ≡ old
  all-still new again other same unasked =
      ap (λ v. record { views = v; rooms = rooms; next = planned_if again other }) same
      ∙ ap (λ b. record { views = views; rooms = rooms; next = planned_if b other }) unasked
      ∙ ap (λ next. record { views = views; rooms = rooms; next = next }) (sym no-rooms-next)
      ∙ is

-- no rooms are next where none were asked for
pub next-unasked : (asked planned : Bool) (rows : List (List (ℕ × ℕ))) → (asked ≡ true → planned ≡ true) → planned ≡ false → planned_if asked rows ≡ None
next-unasked true planned rows told none = absurd (true≢false (sym (told refl) ∙ none))
next-unasked false planned rows told none = refl

-- the rooms that are shown are those of the hour as it is settled
pub shown-settled : (hour : HourState) → AreBoards hour → (views : Views) (rooms planned shown : List (List (ℕ × ℕ))) (asked : Bool) (old : DeskState)
    → record { views = views; rooms = rooms; next = planned_if asked planned } ≡ old → shown ≡ rooms → StandAt (settled_board hour) old
    → (part : ℕ) → part < 7 → AreRoomsOf (settled_board hour) part (get_or shown part [])
shown-settled hour boards views rooms planned shown asked old view_is same stands part low =
    subst (λ rows. AreRoomsOf (settled_board hour) part (get_or rows part [])) (sym (same ∙ ap (λ (d : DeskState). d.rooms) view_is))
    (rooms-settled hour boards old stands part low)

-- a refresh of the views and rooms of a desk: of the rooms that are shown, those that are next are written anew if the hour's flows have changed
module _ (hour : HourState) (boards : AreBoards hour) (grid : Graph) (own : grid ≡ hour.board.grid) (is_grid : IsGrid grid)
    (views : Views) (rooms planned shown : List (List (ℕ × ℕ))) (was : Bool) (old : DeskState)
    (view_is : record { views = views; rooms = rooms; next = planned_if was planned } ≡ old) (same : shown ≡ rooms) (stands : StandAt (settled_board hour) old)
    (changed moved : List ℕ) (seen : AreSeenElsewhere hour changed) (asked : Bool) (written : List (List (ℕ × ℕ)))
    (still : asked ≡ false → AreRoomsSettled hour)
    (are : asked ≡ true → (part : ℕ) → part < 7 → AreRoomsOf hour.board part (get_or written part []))
    (told : asked ≡ true → (part : ℕ) → part < 7 → AreMoved grid (get_or shown part []) (get_or written part []) (get_or moved part 0)) where
  -- what is kept, as it is inside
  abbrev kept : DeskState
  kept = record { views = views; rooms = shown; next = None }

  stands-inside : StandAt (settled_board hour) (record { views = views; rooms = rooms; next = planned_if was planned })
  stands-inside = subst (StandAt (settled_board hour)) (sym view_is) stands

  stands-shown : StandAt (settled_board hour) kept
  stands-shown = record {
    zones = stands-inside.zones;
    parts = stands-inside.parts;
    kept = stands-inside.kept;
    rooms = λ part low. subst (λ rows. AreRoomsOf (settled_board hour) part (get_or rows part [])) (sym same) (stands-inside.rooms part low);
  }

  rooms-differ : (part : ℕ) → part < 7
      → RoomsDifferWithin hour.board.grid hour.settled hour.board.events (contract_at hour.board.hour part) (zones_touched hour.board.grid (get_or moved part 0))
  rooms-differ =
      rooms-within hour boards shown (rooms-settled hour boards kept stands-shown) (subst IsGraph own is_grid.is_graph) (subst (λ g. zone_count g ≤ 64) own is_grid.few_zones) asked written moved still are
      (λ yes part low. subst (λ g. AreMoved g (get_or shown part []) (get_or written part []) (get_or moved part 0)) own (told yes part low))

  pub near : (part : ℕ) (side : Side) → part < 7 → WereViews hour.board part side (touched_of changed moved part side) (get_or shown part []) (line_of views part side).kept
  near = were-views hour boards kept stands-shown changed moved seen rooms-differ

  pub near-made : AreZonesPlanned hour changed → (asked ≡ false → (part : ℕ) → part < 7 → get_or moved part 0 ≡ 0) → (new : DeskState) → new.views.made ≡ made_after views.made (near_of_parts grid shown (touched_of changed moved) 7) → IsMadeNear hour old new
  near-made named none new made = record {
    touched = touched_of changed moved;
    differ = differs hour boards kept stands-shown changed moved seen rooms-differ;
    touches = λ part side zone low small is. elim (or_cases (holds (zones_of changed part side) zone) (holds (get_or moved part 0) zone)
        (sym (holds-or (zones_of changed part side) (get_or moved part 0) zone) ∙ is)) [
          | inl order ↦ inl (named part side zone low small order)
          | inr room ↦ inr (rooms-move hour boards shown (rooms-settled hour boards kept stands-shown) (subst IsGraph own is_grid.is_graph) (subst (λ g. zone_count g ≤ 64) own is_grid.few_zones)
              asked written moved none are (λ yes p low_p. subst (λ g. AreMoved g (get_or shown p []) (get_or written p []) (get_or moved p 0)) own (told yes p low_p)) part zone low small room)
        ];
    made =
        made
        ∙ ap (λ (d : DeskState). made_after d.views.made (near_of_parts grid shown (touched_of changed moved) 7)) view_is
        ∙ ap (λ g. made_after old.views.made (near_of_parts g shown (touched_of changed moved) 7)) own
        ∙ ap (λ r. made_after old.views.made (near_of_parts hour.board.grid r (touched_of changed moved) 7)) (same ∙ ap (λ (d : DeskState). d.rooms) view_is);
  }

  pub next-stands : (new : Views) (back : List (List (ℕ × ℕ))) → back ≡ written → views_forgotten new ≡ views_with_made views new.made
      → ((part : ℕ) (side : Side) → part < 7 → AreComing hour.board part side (line_of new part side))
      → IsNext hour.board (record { views = new; rooms = rooms; next = planned_if asked back })
  next-stands new back copied left coming =
      is-next hour boards kept stands-shown (record { views = new; rooms = rooms; next = planned_if asked back }) left coming
      (subst (λ rows. (part : ℕ) → part < 7 → AreRoomsOf hour.board part (get_or (unwrap_or (planned_if asked rows) rooms) part [])) (sym copied)
      (rooms-next hour boards rooms (λ part low. stands-inside.rooms part (let parts = boards.parts in omega (arith, low, parts))) asked written still are))
