-- Orders and blocks are withdrawn and reduced, and the flows of a kept hour change.
use Rattle.std.proofs.Common.{◌≡◌, ◌∙◌, inl, inr, ℕ, ◌≤◌, Bool, true, false, [], ◌∷◌, None, refl, sym, ap, subst, arith}
use Rattle.order_kinds.specs.declared.contract.Quarter.{Quarter}
use Rattle.order_kinds.specs.declared.phase.Phase.{Phase}
use Rattle.zone_graph.specs.declared.route.Arc.{Arc}
use Rattle.zone_graph.specs.Pour.{same_arc}
use Rattle.zone_graph.specs.Route.{IsIn}
use Rattle.contract_book.specs.Book.{reduced, without}
use Rattle.block_book.specs.Book as block_books
use Rattle.market_model.specs.declared.event.Event.{Event}
use Rattle.market_model.specs.History.{and_then, touches}
use Rattle.market_model.specs.Refusals.{desk_room}
use Rattle.laws_of_books.specs.BookOf.{book_of}
use Rattle.laws_of_hours.specs.FlowLaws.{IsRangeIn}
use Rattle.laws_of_hours.specs.Standing.{IsCarried, IsHaltSet, IsOffered, Stands}
use Rattle.laws_of_hours.proofs.Noted as noted
use Rattle.laws_of_hours.proofs.Ranges as ranges
use Rattle.laws_of_hours.specs.FlowEvents.{changes_flows}
use Rattle.laws_of_hours.specs.OrderEvents.{resting_count, without_hand}
use Rattle.laws_of_hours.proofs.FlowChanges.{leaves_books}
use Rattle.laws_of_hours.proofs.NextEvents.{next}
use Rattle.laws_of_hours.proofs.Reduced.{is_reduced}
use Rattle.laws_of_hours.proofs.TakenOut.{withdrawn}
use Rattle.laws_of_views.specs.Changes.{order_names}
use Rattle.hour_store.specs.Changed.{NotesNoOrder}
use Rattle.hour_store.specs.Store.{StillLeadsBack, Store}
use Rattle.kept_hour.specs.Kept.{Keeps}
use Rattle.kept_hour.specs.State.{CanBeNext, HourState, gate_of, grant_of, halt_of, name_in, offer_of, reduction_of, resumption_of, withdrawal_of}
use Rattle.kept_hour.proofs.Keeping.{KeepsNext}
use Rattle.kept_hour.proofs.Making.{names-same}
use Rattle.kept_hour.proofs.NamedOrders.{IsFoundIn, NotesChanged, rests-where}
use Rattle.kept_hour.proofs.Noting.{NotesNext, notes-flows}

module _ (hour : HourState) (numbers settled_numbers : ℕ) (store : Store) (keeps : Keeps hour numbers settled_numbers store) (free : hour.board.hand ≡ None) where
  pub bare-book : store.contents.book ≡ book_of hour.board.events hour.board.hour
  bare-book = keeps.contents.book ∙ ap (λ h. without_hand h (book_of hour.board.events hour.board.hour)) free

  pub few-before : resting_count hour.board.events hour.board.hour None ≤ desk_room
  few-before = subst (λ h. resting_count hour.board.events hour.board.hour h ≤ desk_room) free keeps.board.few

  -- ---- orders and blocks

  changed-notes : (e : Event) (number part : ℕ) → IsIn (name_in hour number) (order_names e) → IsFoundIn hour part number → (new : Store)
      → NotesChanged store.contents.book part number store.changes new.changes → NotesNext hour (e ∷ []) None store.changes new.changes
  changed-notes e number part named of_part new noted = record {
    orders = λ other side zone low more. elim (noted.0 other side zone more) [
      | inl before ↦ inl before
      | inr now ↦ inr (rests-where hour keeps.board.stands e store.contents.book bare-book number part of_part named other side zone low now)
    ];
    held = λ other order held. absurd (let no : ⊥ = cc in no);
    flows = λ more. inl (sym noted.1 ∙ more);
  }

  pub withdrawn-next : (number lots : ℕ) → CanBeNext hour (withdrawal_of hour number lots) → (new : Store)
      → new.contents.book ≡ without store.contents.book number → new.contents.blocks ≡ block_books.without store.contents.blocks number
      → new.contents.flows ≡ store.contents.flows → StillLeadsBack store new → (part : ℕ) → IsFoundIn hour part number
      → NotesChanged store.contents.book part number store.changes new.changes → KeepsNext hour (withdrawal_of hour number lots) None numbers store new
  withdrawn-next number lots can new book blocks flows back part of_part noted =
      let is = withdrawn hour.board.grid hour.board.hour hour.board.events (name_in hour number) lots can in
      record {
        next = can;
        few = (let less = is.few in let few = few-before in omega (arith, less, few));
        contents = record {
          book = book ∙ ap (λ b. without b number) bare-book ∙ sym is.book;
          blocks = blocks ∙ ap (λ b. block_books.without b number) keeps.contents.blocks ∙ sym is.blocks;
          flows = is.flows new.contents.flows
              (subst (Stands hour.board.grid hour.board.events hour.board.hour) (sym flows) keeps.contents.flows);
        };
        numbered = names-same hour (withdrawal_of hour number lots) is.same_next numbers keeps.numbered;
        in_hand = λ other holds. absurd (let no : ⊥ = cc in no);
        back = back;
        noted = changed-notes (withdrawal_of hour number lots) number part (inl refl) of_part new noted;
      }

  pub reduced-next : (number by : ℕ) → CanBeNext hour (reduction_of hour number by) → (new : Store)
      → new.contents.book ≡ reduced store.contents.book number by → new.contents.blocks ≡ store.contents.blocks
      → new.contents.flows ≡ store.contents.flows → StillLeadsBack store new → (part : ℕ) → IsFoundIn hour part number
      → NotesChanged store.contents.book part number store.changes new.changes → KeepsNext hour (reduction_of hour number by) None numbers store new
  reduced-next number by can new book blocks flows back part of_part noted =
      let is = is_reduced hour.board.grid hour.board.hour hour.board.events (name_in hour number) by can in
      record {
        next = can;
        few = (let less = is.few in let few = few-before in omega (arith, less, few));
        contents = record {
          book = book ∙ ap (λ b. reduced b number by) bare-book ∙ sym is.book;
          blocks = blocks ∙ keeps.contents.blocks ∙ sym is.blocks;
          flows = is.flows new.contents.flows
              (subst (Stands hour.board.grid hour.board.events hour.board.hour) (sym flows) keeps.contents.flows);
        };
        numbered = names-same hour (reduction_of hour number by) is.same_next numbers keeps.numbered;
        in_hand = λ other holds. absurd (let no : ⊥ = cc in no);
        back = back;
        noted = changed-notes (reduction_of hour number by) number part (inl refl) of_part new noted;
      }

  -- ---- flows

  -- an event of the flows, where they stand for the events with it
  pub flows-next : (e : Event) → changes_flows e ≡ true → CanBeNext hour e → (new : Store) → new.contents.book ≡ store.contents.book
      → new.contents.blocks ≡ store.contents.blocks → Stands hour.board.grid (and_then hour.board.events e) hour.board.hour new.contents.flows
      → StillLeadsBack store new → NotesNoOrder store.changes new.changes → KeepsNext hour e None numbers store new
  flows-next e changes can new book blocks flows back noted =
      let is = leaves_books hour.board.grid hour.board.hour hour.board.events e can changes in
      record {
        next = can;
        few = (let less = is.few in let few = few-before in omega (arith, less, few));
        contents = record {
          book = book ∙ bare-book ∙ sym is.book;
          blocks = blocks ∙ keeps.contents.blocks ∙ sym is.blocks;
          flows = flows;
        };
        numbered = names-same hour e is.same_next numbers keeps.numbered;
        in_hand = λ other holds. absurd (let no : ⊥ = cc in no);
        back = back;
        noted = notes-flows hour e store.changes new.changes changes noted;
      }

  -- the next event touches the hour
  touched : (e : Event) → CanBeNext hour e → touches hour.board.hour e ≡ true
  touched e can = (next hour.board.grid hour.board.hour hour.board.events e can).touched

  module _ (new : Store) (book : new.contents.book ≡ store.contents.book) (blocks : new.contents.blocks ≡ store.contents.blocks) (back : StillLeadsBack store new)
      (no_order : NotesNoOrder store.changes new.changes) where
    pub offered-next : (arc : Arc) (first last : Quarter) (lots : ℕ) (counts : ℕ → Bool) → CanBeNext hour (offer_of arc first last lots)
        → IsRangeIn hour.board.hour first last counts → IsOffered arc counts lots store.contents.flows new.contents.flows
        → KeepsNext hour (offer_of arc first last lots) None numbers store new
    offered-next arc first last lots counts can in_range offered =
        flows-next (offer_of arc first last lots) refl can new book blocks
        (ranges.offers hour.board.grid hour.board.events arc first last lots hour.board.hour counts store.contents.flows new.contents.flows keeps.contents.flows in_range offered) back no_order

    pub granted-next : (arc : Arc) (first last : Quarter) (lots : ℕ) (counts : ℕ → Bool) → CanBeNext hour (grant_of arc first last lots)
        → IsRangeIn hour.board.hour first last counts → IsCarried (same_arc arc) counts lots store.contents.flows new.contents.flows
        → KeepsNext hour (grant_of arc first last lots) None numbers store new
    granted-next arc first last lots counts can in_range carried =
        flows-next (grant_of arc first last lots) refl can new book blocks
        (ranges.grants hour.board.grid hour.board.events arc first last lots hour.board.hour counts store.contents.flows new.contents.flows keeps.contents.flows in_range carried) back no_order

    pub halted-next : (border first last : ℕ) → CanBeNext hour (halt_of border first last) → IsHaltSet border true store.contents.flows new.contents.flows
        → KeepsNext hour (halt_of border first last) None numbers store new
    halted-next border first last can set =
        flows-next (halt_of border first last) refl can new book blocks
        (ranges.halts hour.board.grid hour.board.events border first last hour.board.hour store.contents.flows new.contents.flows keeps.contents.flows
        (touched (halt_of border first last) can) set) back no_order

    pub resumed-next : (border first last : ℕ) → CanBeNext hour (resumption_of border first last) → IsHaltSet border false store.contents.flows new.contents.flows
        → KeepsNext hour (resumption_of border first last) None numbers store new
    resumed-next border first last can set =
        flows-next (resumption_of border first last) refl can new book blocks
        (ranges.resumptions hour.board.grid hour.board.events border first last hour.board.hour store.contents.flows new.contents.flows keeps.contents.flows
        (touched (resumption_of border first last) can) set) back no_order

    pub gated-next : (phase : Phase) → CanBeNext hour (gate_of hour phase) → new.contents.flows ≡ record store.contents.flows { phase = phase }
        → KeepsNext hour (gate_of hour phase) None numbers store new
    gated-next phase can set =
        flows-next (gate_of hour phase) refl can new book blocks
        (subst (Stands hour.board.grid (and_then hour.board.events (gate_of hour phase)) hour.board.hour) (sym set)
        (noted.gates hour.board.grid hour.board.events hour.board.hour phase store.contents.flows keeps.contents.flows)) back no_order
