-- A kept hour begins without events.
use Rattle.std.proofs.Common.{◌≡◌, ◌∙◌, ℕ, List, [], ◌*◌, replicate, None, refl, sym, subst, arith}
use Rattle.zone_graph.specs.Graph.{Graph, IsGraph}
use Rattle.market_model.specs.declared.event.Event.{Event}
use Rattle.market_model.specs.Board.{IsBoard}
use Rattle.laws_of_books.proofs.FoundOrders as books
use Rattle.laws_of_books.proofs.WholeBlockBooks as blocks
use Rattle.laws_of_hours.specs.Standing.{IsIdle}
use Rattle.laws_of_hours.proofs.Ranges.{idle}
use Rattle.laws_of_hours.proofs.NextEvents.{empty}
use Rattle.hour_store.specs.Store.{Store}
use Rattle.kept_hour.specs.Kept.{AreOf, IsKept, hour_of}
use Rattle.kept_hour.specs.State.{empty_board}
use Rattle.kept_hour.proofs.Keeping.{leads-here}
use Rattle.kept_hour.proofs.Noting.{noted-none}

module _ (grid : Graph) (number : ℕ) (store : Store) (is_graph : IsGraph grid) (no_order : store.contents.book ≡ replicate (2 * 7) [])
    (no_block : store.contents.blocks ≡ []) (is_idle : IsIdle grid store.contents.flows) (settled : store.changes ≡ []) where
  board : IsBoard (empty_board grid number)
  board = record { stands = empty grid number is_graph; few = omega arith }

  contents : AreOf (empty_board grid number) store.contents
  contents = record {
    book = no_order ∙ sym (books.book-begins number);
    blocks = no_block ∙ sym (blocks.book-begins number);
    flows = idle grid number store.contents.flows is_idle;
  }

  begins : IsKept (hour_of grid number [] 0 None) 0 0 0 store
  begins = record {
    first_part = omega arith;
    keeps = record {
      board = board;
      contents = contents;
      numbered = refl;
      in_hand = λ held is. absurd (let no : ⊥ = cc in no);
      settled = board;
      settled_numbered = refl;
      target = store.contents;
      back = leads-here store settled;
      target_of = contents;
      noted = noted-none (hour_of grid number [] 0 None) store.changes refl refl settled;
    };
  }

  pub new-kept : (graph : Graph) (events : List Event) → graph ≡ grid → events ≡ [] → IsKept (hour_of graph number events 0 None) 0 0 0 store
  new-kept graph events over none =
      subst (λ g. IsKept (hour_of g number events 0 None) 0 0 0 store) (sym over)
      (subst (λ es. IsKept (hour_of grid number es 0 None) 0 0 0 store) (sym none) begins)
