-- What is next after a refresh.
use Rattle.std.proofs.Common.{◌≡◌, ◌∙◌, ◌<◌, ◌≤◌, ℕ, zero, suc, Bool, true, false, List, [], get_or, length, replicate, unwrap_or, refl, sym, ap, arith}
use Rattle.std.proofs.lemmas.Bool.{true≢false}
use Rattle.std.specs.Int.RustNames.{bit_or}
use Rattle.cut_proof.specs.ZoneSet.{holds}
use Rattle.local_view.proofs.Bits.{holds-zero}
use Rattle.contract_book.specs.Book.{line_number}
use Rattle.order_kinds.specs.declared.side.Side.{Side}
use Rattle.order_kinds.specs.Contract.{contract_at}
use Rattle.zone_graph.specs.Graph.{IsGraph, zone_count}
use Rattle.hour_store.specs.Changed.{no_zones, zones_of}
use Rattle.kept_hour.specs.Changed.{AreBoards, AreRoomsSettled, AreSeenElsewhere}
use Rattle.kept_hour.specs.State.{HourState, settled_board}
use Rattle.laws_of_views.specs.Nearby.{DifferWithin}
use Rattle.local_view.specs.Boards.{AreRoomsOf}
use Rattle.local_view.specs.Kept.{Views, line_of, views_forgotten}
use Rattle.local_view.specs.Nearness.{WereViews, zones_touched}
use Rattle.local_view.specs.Rows.{LineRows}
use Rattle.laws_of_views.specs.Changes.{RoomsDifferWithin}
use Rattle.desk_views.specs.Desk.{DeskState, views_with_made}
use Rattle.desk_views.specs.Insides.{planned_if}
use Rattle.desk_views.specs.Moved.{AreMoved, touched_of}
use Rattle.desk_views.specs.Standing.{AreComing, IsNext, RoomsMoveAt, StandAt}
use Rattle.desk_views.proofs.Bits.{has-first}
use Rattle.desk_views.proofs.Rows.{adopted-count, adopted-line, forgotten-count}
use Rattle.desk_views.proofs.Touched.{differ-touched, from-moved, moved-within, none-moved}

module _ (hour : HourState) (boards : AreBoards hour) where
  within : (part : ℕ) → part < 7 → part < hour.board.parts
  within part low = let parts = boards.parts in omega (arith, low, parts)

  -- rooms that are as settled are those of the plan
  pub rooms-still : (part : ℕ) (rooms : List (ℕ × ℕ)) → part < 7 → AreRoomsSettled hour → AreRoomsOf (settled_board hour) part rooms → AreRoomsOf hour.board part rooms
  rooms-still part rooms low still are = record {
    size = are.size;
    are = λ arc known. are.are arc known ∙ sym (still part arc low known);
    most = are.most;
  }

  module _ (rooms : List (List (ℕ × ℕ))) (settled : (part : ℕ) → part < 7 → AreRoomsOf (settled_board hour) part (get_or rooms part [])) where
    -- the rooms that are next, or stay
    pub rooms-next : (asked : Bool) (planned : List (List (ℕ × ℕ))) → (asked ≡ false → AreRoomsSettled hour)
        → (asked ≡ true → (part : ℕ) → part < 7 → AreRoomsOf hour.board part (get_or planned part []))
        → (part : ℕ) → part < 7 → AreRoomsOf hour.board part (get_or (unwrap_or (planned_if asked planned) rooms) part [])
    rooms-next true planned still are part low = are refl part low
    rooms-next false planned still are part low = rooms-still part (get_or rooms part []) low (still refl) (settled part low)

    -- in which zones they are others
    pub rooms-within : (is_graph : IsGraph hour.board.grid) → (few : zone_count hour.board.grid ≤ 64) → (asked : Bool) (planned : List (List (ℕ × ℕ))) (moved : List ℕ)
        → (asked ≡ false → AreRoomsSettled hour)
        → (asked ≡ true → (part : ℕ) → part < 7 → AreRoomsOf hour.board part (get_or planned part []))
        → (asked ≡ true → (part : ℕ) → part < 7 → AreMoved hour.board.grid (get_or rooms part []) (get_or planned part []) (get_or moved part 0))
        → (part : ℕ) → part < 7
        → RoomsDifferWithin hour.board.grid hour.settled hour.board.events (contract_at hour.board.hour part) (zones_touched hour.board.grid (get_or moved part 0))
    rooms-within is_graph few true planned moved still are told part low =
        moved-within hour.board.grid is_graph few hour.settled hour.board.events (contract_at hour.board.hour part) (get_or rooms part []) (get_or planned part [])
        (settled part low).are (are refl part low).are (get_or moved part 0) (told refl part low)
    rooms-within is_graph few false planned moved still are told part low =
        none-moved hour.board.grid hour.settled hour.board.events (contract_at hour.board.hour part) (zones_touched hour.board.grid (get_or moved part 0)) (λ arc known. still refl part arc low known)

    -- and they are where an arc begins or ends whose room is another one
    pub rooms-move : (is_graph : IsGraph hour.board.grid) → (few : zone_count hour.board.grid ≤ 64) → (asked : Bool) (planned : List (List (ℕ × ℕ))) (moved : List ℕ)
        → (asked ≡ false → (part : ℕ) → part < 7 → get_or moved part 0 ≡ 0)
        → (asked ≡ true → (part : ℕ) → part < 7 → AreRoomsOf hour.board part (get_or planned part []))
        → (asked ≡ true → (part : ℕ) → part < 7 → AreMoved hour.board.grid (get_or rooms part []) (get_or planned part []) (get_or moved part 0))
        → (part zone : ℕ) → part < 7 → zone < 64 → holds (get_or moved part 0) zone ≡ true → RoomsMoveAt hour part zone
    rooms-move is_graph few true planned moved none are told part zone low small is =
        from-moved hour.board.grid is_graph few hour.settled hour.board.events (contract_at hour.board.hour part) (get_or rooms part []) (get_or planned part [])
        (settled part low).are (are refl part low).are (get_or moved part 0) (told refl part low) zone small is
    rooms-move is_graph few false planned moved none are told part zone low small is =
        absurd (true≢false (sym is ∙ ap (λ bits. holds bits zone) (none refl part low) ∙ holds-zero zone))

  module _ (old : DeskState) (stands : StandAt (settled_board hour) old) where
    pub rooms-settled : (part : ℕ) → part < 7 → AreRoomsOf (settled_board hour) part (get_or old.rooms part [])
    rooms-settled part low = stands.rooms part (within part low)

    module _ (changed moved : List ℕ) (seen : AreSeenElsewhere hour changed)
        (rooms : (part : ℕ) → part < 7
        → RoomsDifferWithin hour.board.grid hour.settled hour.board.events (contract_at hour.board.hour part) (zones_touched hour.board.grid (get_or moved part 0))) where
      -- the hour as it is planned is as it is settled in all zones but those that are touched
      pub differs : (part : ℕ) (side : Side) → part < 7
          → DifferWithin hour.board.grid hour.settled hour.board.events (contract_at hour.board.hour part) side (zones_touched hour.board.grid (touched_of changed moved part side))
      differs part side low =
          differ-touched hour.board.grid hour.settled hour.board.events (contract_at hour.board.hour part) side (zones_of changed part side) (get_or moved part 0)
          (seen part side (zones_touched hour.board.grid (touched_of changed moved part side)) low (has-first hour.board.grid (zones_of changed part side) (get_or moved part 0)))
          (rooms part low)

      -- and what is kept are its views as it is settled
      pub were-views : (part : ℕ) (side : Side) → part < 7
          → WereViews hour.board part side (touched_of changed moved part side) (get_or old.rooms part []) (line_of old.views part side).kept
      were-views part side low = record {
        events = hour.settled;
        stands = boards.settled.stands;
        size = (stands.rooms part (within part low)).size;
        rooms_are = (stands.rooms part (within part low)).are;
        kept_are = λ zone there. stands.kept part side zone (within part low) there;
        differ = differs part side low;
      }

    -- what comes is of the hour as it is planned
    pub is-next : (new : DeskState) → views_forgotten new.views ≡ views_with_made old.views new.views.made
        → ((part : ℕ) (side : Side) → part < 7 → AreComing hour.board part side (line_of new.views part side))
        → ((part : ℕ) → part < 7 → AreRoomsOf hour.board part (get_or (unwrap_or new.next new.rooms) part []))
        → IsNext hour.board new
    is-next new kept coming rooms = record {
      zones = ap (λ (v : Views). v.zones) kept ∙ stands.zones;
      parts = adopted-count new.views ∙ sym (forgotten-count new.views) ∙ ap (λ (v : Views). length v.lines) kept ∙ stands.parts;
      kept = λ part side zone low there.
          ap (λ (l : LineRows). get_or l.kept zone []) (adopted-line new.views part side)
          ∙ coming part side (let parts = boards.parts in omega (arith, low, parts)) zone there;
      rooms = λ part low. rooms part (let parts = boards.parts in omega (arith, low, parts));
    }

-- what stands at any place of a list of one item
get_or-replicate_any : {X : Type 0} (x : X) (many place : ℕ) → get_or (replicate many x) place x ≡ x
get_or-replicate_any x zero place = refl
get_or-replicate_any x (suc many) zero = refl
get_or-replicate_any x (suc many) (suc place) = get_or-replicate_any x many place

-- where nothing was changed nothing is touched
zones-none : (part : ℕ) (side : Side) → part < 7 → zones_of no_zones part side ≡ 0
zones-none part side low = get_or-replicate_any 0 14 (line_number part side)

pub touched-none : (changed moved : List ℕ) (part : ℕ) (side : Side) → part < 7 → changed ≡ no_zones → get_or moved part 0 ≡ 0 → touched_of changed moved part side ≡ 0
touched-none changed moved part side low none still =
    ap (λ zones. bit_or (zones_of zones part side) (get_or moved part 0)) none ∙ ap (λ n. bit_or n (get_or moved part 0)) (zones-none part side low) ∙ ap (bit_or 0) still
