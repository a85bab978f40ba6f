-- Rooms that are asked for over the borders that have changed, and stay over the others.
use Rattle.std.proofs.Common.{◌≡◌, ◌≢◌, ◌∙◌, ◌<◌, ◌==◌, ◌&&◌, ◌||◌, ℕ, Bool, true, false, not, List, get_or, refl, sym, ap, ap₂, subst, eq-eqb, if◌then◌else◌}
use Rattle.std.proofs.lemmas.Bool.{ne_eqb}
use Rattle.zone_graph.specs.declared.route.Arc.{Arc}
use Rattle.zone_graph.specs.Graph.{HasArc}
use Rattle.zone_graph.specs.Pour.{same_arc, same_bool}
use Rattle.zone_graph.specs.Rooms.{room_of}
use Rattle.zone_graph.proofs.Arcs.{over-is}
use Rattle.kept_hour.specs.Changed.{AreRoomsSettledBut}
use Rattle.kept_hour.specs.State.{HourState, settled_board}
use Rattle.local_view.specs.Boards.{AreRoomsOf}
use Rattle.desk_views.specs.Insides.{IsRoomOf}
use Rattle.desk_views.specs.Moved.{AreStillBut, is_moved}

module _ (hour : HourState) (changed : List Bool) (still : AreRoomsSettledBut hour changed) (part : ℕ) (low : part < 7) (old : List (ℕ × ℕ))
    (settled : AreRoomsOf (settled_board hour) part old) where
  -- over a border that has not changed what was the room is the room
  pub room-still : (arc : Arc) → HasArc hour.board.grid arc → get_or changed arc.border false ≡ false → IsRoomOf hour.board part arc (room_of old arc)
  room-still arc known unmarked = (settled.are arc known ∙ sym (still part arc low known unmarked), settled.most arc known)

  -- so no room has become another one there
  pub still-but : (new : List (ℕ × ℕ)) → AreRoomsOf hour.board part new → AreStillBut hour.board.grid changed old new
  still-but new are border known unmarked = ap₂ (λ a b. a || b) (same true) (same false)
    where
      same : (forward : Bool) → is_moved old new (record { border = border; forward = forward }) ≡ false
      same forward =
          let arc : Arc = record { border = border; forward = forward } in
          ap not (eq-eqb (room_of old arc) (room_of new arc) ((room-still arc known unmarked).0 ∙ sym (are.are arc known)))

-- an arc over a border
abbrev over : ℕ → Bool → Arc
over border forward = record { border = border; forward = forward }

-- both arcs over a border get a room
module _ (arc : Arc) (border old mid new forward backward : ℕ)
    (first : mid ≡ (if same_arc (record { border = border; forward = true }) arc then forward else old))
    (second : new ≡ (if same_arc (record { border = border; forward = false }) arc then backward else mid)) where
  pub written : (P : Arc → ℕ → Type 0) → P (record { border = border; forward = true }) forward → P (record { border = border; forward = false }) backward
      → arc.border ≡ border → P arc new
  written P is back on =
      let own : over border arc.forward ≡ arc = over-is border arc.forward arc (sym on) refl in
      subst (λ a. P a new) own
      (at arc.forward (subst (λ a. mid ≡ (if same_arc (over border true) a then forward else old)) (sym own) first)
      (subst (λ a. new ≡ (if same_arc (over border false) a then backward else mid)) (sym own) second))
    where
      yes : (border == border) ≡ true
      yes = eq-eqb border border refl

      at : (b : Bool) → mid ≡ (if same_arc (over border true) (over border b) then forward else old)
          → new ≡ (if same_arc (over border false) (over border b) then backward else mid) → P (over border b) new
      at true one two =
          subst (P (over border true))
          (sym (two ∙ ap (λ t. if t && false then backward else mid) yes ∙ one ∙ ap (λ t. if t && true then forward else old) yes)) is
      at false one two = subst (P (over border false)) (sym (two ∙ ap (λ t. if t && true then backward else mid) yes)) back

  -- and no others
  pub unwritten : arc.border ≢ border → new ≡ old
  unwritten apart =
      let no : (border == arc.border) ≡ false = ne_eqb border arc.border (λ same. apart (sym same)) in
      second ∙ ap (λ t. if t && same_bool false arc.forward then backward else mid) no
      ∙ first ∙ ap (λ t. if t && same_bool true arc.forward then forward else old) no
