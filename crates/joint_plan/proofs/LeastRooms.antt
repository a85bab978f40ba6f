-- The least rooms of the hours of some desks.
use Rattle.std.proofs.Common.{◌≡◌, ◌∙◌, ℕ, zero, suc, ◌+◌, ◌≤◌, List, [], ◌∷◌, ◌++◌, fold, length, map, min, take, Some, refl, sym, ap, arith, slice_get, subst}
use Rattle.std.proofs.lemmas.List.{map-append}
use Rattle.zone_graph.specs.declared.route.Arc.{Arc}
use Rattle.zone_graph.specs.Graph.{Graph, HasArc, border_count}
use Rattle.zone_graph.specs.Rooms.{room_of}
use Rattle.market_model.specs.Room.{least}
use Rattle.local_view.specs.Boards.{AreRoomsOf}
use Rattle.hour_desk.specs.Desk.{DeskState, board_of}
use Rattle.joint_plan.specs.Rooms.{AreRoomsOver, room_at}
use Rattle.joint_plan.proofs.Lists.{take-end, take-more}

fold-behind : (m n : ℕ) (ns : List ℕ) → fold min m (ns ++ n ∷ []) ≡ min (fold min m ns) n
fold-behind m n [] = refl
fold-behind m n (other ∷ ns) = fold-behind (min m other) n ns

-- the least of numbers with one more behind them
least-behind : (m n : ℕ) (ns : List ℕ) → least ((m ∷ ns) ++ n ∷ []) ≡ min (least (m ∷ ns)) n
least-behind m n ns = fold-behind m n ns

module _ (graph : Graph) where
  -- the rooms of the first hour
  pub first-rooms : (desks : List DeskState) (desk : DeskState) (rooms : List (ℕ × ℕ)) → slice_get desks 0 ≡ Some desk → desk.grid ≡ graph → AreRoomsOf (board_of desk) 0 rooms
      → AreRoomsOver graph (take 1 desks) rooms
  first-rooms [] desk rooms at over are = cc
  first-rooms (d ∷ desks) desk rooms at over are =
      let same : desk ≡ d = cc in record {
        size = are.size ∙ ap border_count over;
        are = λ arc has. are.are arc (subst (λ (g : Graph). HasArc g arc) (sym over) has) ∙ ap (λ d. least (map (room_at arc) (d ∷ []))) same;
        most = λ arc has. are.most arc (subst (λ (g : Graph). HasArc g arc) (sym over) has);
      }

  -- the rooms with one more hour
  pub more-rooms : (desks : List DeskState) (i : ℕ) (desk : DeskState) (rooms other after : List (ℕ × ℕ)) → 1 ≤ i → slice_get desks i ≡ Some desk → desk.grid ≡ graph
      → AreRoomsOver graph (take i desks) rooms → AreRoomsOf (board_of desk) 0 other → length after ≡ length rooms
      → ((arc : Arc) → room_of after arc ≡ min (room_of rooms arc) (room_of other arc)) → AreRoomsOver graph (take (i + 1) desks) after
  more-rooms [] i desk rooms other after low at over are one size lesser = cc
  more-rooms (d ∷ desks) i desk rooms other after low at over are one size lesser = record {
    size = size ∙ are.size;
    are = λ arc has.
        let there : HasArc desk.grid arc = subst (λ (g : Graph). HasArc g arc) (sym over) has in
        lesser arc ∙ ap (λ n. min n (room_of other arc)) (are.are arc has) ∙ ap (λ n. min (least (map (room_at arc) (take i (d ∷ desks)))) n) (one.are arc there)
        ∙ joined arc i low at;
    most = λ arc has. let few = are.most arc has in let is = lesser arc in omega arith;
  }
    where
      joined : (arc : Arc) (k : ℕ) → 1 ≤ k → slice_get (d ∷ desks) k ≡ Some desk
          → min (least (map (room_at arc) (take k (d ∷ desks)))) (room_at arc desk) ≡ least (map (room_at arc) (take (k + 1) (d ∷ desks)))
      joined arc zero l h = absurd (omega arith)
      joined arc (suc k) l h =
          sym (least-behind (room_at arc d) (room_at arc desk) (map (room_at arc) (take k desks)))
          ∙ ap least (sym (map-append (room_at arc) (d ∷ take k desks) (desk ∷ [])))
          ∙ ap (λ (l : List DeskState). least (map (room_at arc) l)) (sym (take-more (d ∷ desks) (suc k) desk h))

  pub all-rooms : (desks : List DeskState) (i : ℕ) (rooms : List (ℕ × ℕ)) → length desks ≤ i → AreRoomsOver graph (take i desks) rooms → AreRoomsOver graph desks rooms
  all-rooms desks i rooms end are = subst (λ (ds : List DeskState). AreRoomsOver graph ds rooms) (take-end desks i end) are
