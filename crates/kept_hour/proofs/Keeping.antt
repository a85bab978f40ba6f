-- A store keeps an hour, and keeps it after one more event, when it is taken back and when it is settled.
use Rattle.std.proofs.Common.{◌≡◌, ◌∙◌, ℕ, ◌≤◌, List, [], ◌∷◌, length, length-append, take, Option, Some, None, reverse, refl, sym, ap, subst, arith}
use Rattle.std.proofs.Math.Seq.{take-length}
use Rattle.std.proofs.lemmas.List.{length-take-le}
use Rattle.zone_graph.specs.Graph.{Graph}
use Rattle.flow_netting.specs.Flows.{Flows}
use Rattle.market_model.specs.declared.event.Event.{Event}
use Rattle.market_model.specs.Board.{BoardState, IsBoard}
use Rattle.market_model.specs.History.{and_then}
use Rattle.market_model.specs.Refusals.{desk_room}
use Rattle.laws_of_books.specs.BlockLaws.{IsOfOrder}
use Rattle.laws_of_hours.specs.Standing.{Stands}
use Rattle.laws_of_hours.specs.OrderEvents.{resting_count}
use Rattle.hour_store.specs.Contents.{AreAlike, AreSame, Contents}
use Rattle.hour_store.specs.Store.{GoesBackTo, StillLeadsBack, Store}
use Rattle.hour_store.specs.TakenBack.{LeadsBack}
use Rattle.kept_hour.specs.Kept.{AreOf, IsKept, Keeps, hour_of, names_given}
use Rattle.kept_hour.specs.State.{CanBeNext, HourState, after_event, name_in, settled_board, settled_now, undone}
use Rattle.kept_hour.proofs.Lists.{take-more}
use Rattle.kept_hour.proofs.Noting.{NotesNext, noted-next, noted-none}

-- flows that say the same stand for the same events
pub alike-stands : (graph : Graph) (events : List Event) (hour : ℕ) (old new : Flows) → Stands graph events hour old → AreAlike old new → Stands graph events hour new
alike-stands graph events hour old new is alike = record {
  size = alike.size ∙ is.size;
  offered_same = λ arc there number first last. alike.offers arc number first last ∙ is.offered_same arc there number first last;
  flow_same = λ arc there number first last. alike.flows arc number first last ∙ is.flow_same arc there number first last;
  halted_same = λ border low. alike.halts border ∙ is.halted_same border low;
  phase_same = alike.phase ∙ is.phase_same;
}

pub same-are : (board : BoardState) (old new : Contents) → AreOf board old → AreSame old new → AreOf board new
same-are board old new are same = record {
  book = same.book ∙ are.book;
  blocks = same.blocks ∙ are.blocks;
  flows = alike-stands board.grid board.events board.hour old.flows new.flows are.flows same.flows;
}

-- a store without changes leads back to what it has
pub leads-here : (store : Store) → store.changes ≡ [] → GoesBackTo store store.contents
unfolding LeadsBack
leads-here store none = subst (λ rs. LeadsBack (reverse rs) store.contents store.contents) (sym none) (record {
  book = refl;
  blocks = refl;
  flows = record {
    offers = λ arc number first last. refl;
    flows = λ arc number first last. refl;
    halts = λ border. refl;
    phase = refl;
    size = refl;
  };
})

-- what a store must be to keep an hour after one more event
pub record KeepsNext (hour : HourState) (event : Event) (hand : Option ℕ) (numbers : ℕ) (old new : Store) : Type 0 where
  pub next : CanBeNext hour event
  pub few : resting_count (and_then hour.board.events event) hour.board.hour hand ≤ desk_room
  pub contents : AreOf (after_event hour event hand).board new.contents
  pub numbered : numbers ≡ names_given (after_event hour event hand).board
  pub in_hand : (number : ℕ) → hand ≡ Some number → IsOfOrder (and_then hour.board.events event) (name_in hour number)
  pub back : StillLeadsBack old new
  pub noted : NotesNext hour (event ∷ []) hand old.changes new.changes

pub keeps-next : (hour : HourState) (numbers settled_numbers : ℕ) (store : Store) → Keeps hour numbers settled_numbers store
    → (event : Event) (hand : Option ℕ) (more : ℕ) (new : Store) → KeepsNext hour event hand more store new
    → Keeps (after_event hour event hand) more settled_numbers new
keeps-next hour numbers settled_numbers store keeps event hand more new own = record {
  board = record { stands = own.next; few = own.few };
  contents = own.contents;
  numbered = own.numbered;
  in_hand = own.in_hand;
  settled = keeps.settled;
  settled_numbered = keeps.settled_numbered;
  target = keeps.target;
  back = own.back keeps.target keeps.back;
  target_of = keeps.target_of;
  noted = noted-next hour (event ∷ []) hand store.changes new.changes keeps.noted own.noted;
}

-- the hour as its fields have it is `own`, as a caller sees it `seen`
module _ (grid : Graph) (number : ℕ) (events : List Event) (settled : ℕ) (hand : Option ℕ) where
  abbrev pub own : HourState
  own = hour_of grid number events settled hand

  pub after-is : settled ≤ length events → (event : Event) (later : Option ℕ)
      → hour_of grid number (and_then events event) settled later ≡ after_event own event later
  after-is few event later = ap (λ es. record (hour_of grid number (and_then events event) settled later) { settled = es }) (take-more settled events event few)

  module _ (numbers settled_numbers : ℕ) (store : Store) (kept : IsKept own settled numbers settled_numbers store) where
    pub kept-next : (event : Event) (later : Option ℕ) (more : ℕ) (new : Store) → KeepsNext own event later more store new
        → IsKept (hour_of grid number (and_then events event) settled later) settled more settled_numbers new
    kept-next event later more new next =
        subst (λ h. IsKept h settled more settled_numbers new) (sym (after-is kept.first_part event later))
        (record {
          first_part = (let first = kept.first_part in omega (arith, first, length-append events (event ∷ [])));
          keeps = keeps-next own numbers settled_numbers store kept.keeps event later more new next;
        })

    -- a store without changes keeps what it has
    kept-now : (hour : HourState) (more : ℕ) (new : Store) → IsBoard hour.board → IsBoard (settled_board hour) → AreOf hour.board new.contents
        → AreOf (settled_board hour) new.contents → more ≡ names_given hour.board → more ≡ names_given (settled_board hour)
        → hour.board.events ≡ hour.settled → hour.board.hand ≡ None → new.changes ≡ [] → Keeps hour more more new
    kept-now hour more new board settled_too contents target_of numbered settled_numbered all free none = record {
      board = board;
      contents = contents;
      numbered = numbered;
      in_hand = λ n is. absurd (let no : None ≡ Some n = sym free ∙ is in let wrong : ⊥ = cc in wrong);
      settled = settled_too;
      settled_numbered = settled_numbered;
      target = new.contents;
      back = leads-here new none;
      target_of = target_of;
      noted = noted-none hour new.changes all free none;
    }

    -- the hour as it is settled
    pub undone-kept : (new : Store) → AreSame kept.keeps.target new.contents → new.changes ≡ []
        → IsKept (hour_of grid number (take settled events) settled None) settled settled_numbers settled_numbers new
    undone-kept new same none =
        let keeps = kept.keeps in
        let contents = same-are (settled_board own) keeps.target new.contents keeps.target_of same in
        subst (λ h. IsKept h settled settled_numbers settled_numbers new) (sym undone-is)
        (record {
          first_part = (let few = kept.first_part in let long = length-take-le settled events few in omega (arith, long));
          keeps = kept-now (undone own) settled_numbers new keeps.settled keeps.settled contents contents keeps.settled_numbered keeps.settled_numbered refl refl none;
        })
      where
        undone-is : hour_of grid number (take settled events) settled None ≡ undone own
        undone-is =
            let few = kept.first_part in
            let long = length-take-le settled events few in
            let whole : take settled (take settled events) ≡ take settled events =
            ap (λ n. take n (take settled events)) (sym long) ∙ take-length (take settled events) in
            ap (λ es. record (undone own) { settled = es }) whole

    pub settled-kept : (new : Store) → hand ≡ None → new.contents ≡ store.contents → new.changes ≡ []
        → IsKept (hour_of grid number events (length events) hand) (length events) numbers numbers new
    settled-kept new free same none =
        let keeps = kept.keeps in
        let contents : AreOf own.board new.contents = subst (AreOf own.board) (sym same) keeps.contents in
        let bare : own.board ≡ settled_board (settled_now own) = ap (λ h. record { grid = grid; hour = number; parts = 7; events = events; hand = h }) free in
        subst (λ h. IsKept h (length events) numbers numbers new) (sym settled-is)
        (record {
          first_part = omega arith;
          keeps = kept-now (settled_now own) numbers new keeps.board (subst IsBoard bare keeps.board) contents (subst (λ b. AreOf b new.contents) bare contents)
              keeps.numbered keeps.numbered refl free none;
        })
      where
        settled-is : hour_of grid number events (length events) hand ≡ settled_now own
        settled-is = ap (λ es. record (settled_now own) { settled = es }) (take-length events)
