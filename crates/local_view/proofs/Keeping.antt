-- What the rows of a part and side rest on, as they are adopted, forgotten and made.
use Rattle.std.proofs.Common.{◌≡◌, ◌∙◌, ◌<◌, ℕ, Bool, true, false, List, [], inl, inr, get_or, length, None, Option, Some, IfSome, refl, sym, ap, subst, if◌then◌else◌}
use Rattle.std.proofs.lemmas.Bool.{true≢false}
use Rattle.cut_proof.specs.ZoneSet.{holds}
use Rattle.order_kinds.specs.declared.side.Side.{Side}
use Rattle.zone_graph.specs.Graph.{Graph, HasZone, zone_count}
use Rattle.market_model.specs.declared.reply.ViewRow.{ViewRow}
use Rattle.market_model.specs.Board.{BoardState}
use Rattle.local_view.specs.declared.footing.Footing.{Footing}
use Rattle.local_view.specs.Boards.{view_of}
use Rattle.local_view.specs.Footing.{AreMadeOver, IsFoundedAt, IsLine, IsSized, standing_at}
use Rattle.local_view.specs.Rows.{HaveLists, chosen_at, rows_if}
use Rattle.local_view.specs.Works.{row_made}

-- a part and side without next rows says so
pub not_next : (is_next : Bool) (rows : List (List ViewRow)) → rows_if is_next rows ≡ None → is_next ≡ false
not_next true rows is = absurd (some_none (sym is))
  where
    some : Option (List (List ViewRow)) → Bool
    some None = false
    some (Some rows) = true

    some_none : None ≡ Some rows → ⊥
    some_none e = true≢false (sym (ap some e))
not_next false rows is = refl

module _ (zones computed : ℕ) (kept next : List (List ViewRow)) (is_next : Bool) (footing : Option Footing) (line : IsLine zones kept next computed is_next footing) where
  pub adopted_line : is_next ≡ true → (new_kept new_next : List (List ViewRow)) → length new_kept ≡ length kept → length new_next ≡ length next
      → ((zone : ℕ) → get_or new_kept zone [] ≡ chosen_at computed kept next zone) → IsLine zones new_kept new_next computed false footing
  adopted_line is new_kept new_next kept_size next_size each = record {
    lists = record {
      same = next_size ∙ line.lists.same ∙ sym kept_size;
      made = elim line.lists.made [ inl none ↦ inl (next_size ∙ none) | inr all ↦ inr (next_size ∙ all) ];
    };
    founded = record {
      sized = line.founded.sized;
      at = λ zone less.
          subst (IsFoundedAt zones footing zone) (ap (λ b. standing_at computed b kept next zone) is ∙ sym (each zone)) (line.founded.at zone less);
    };
  }

  pub forgotten_line : is_next ≡ true → (new : Option Footing) → IfSome new (IsSized zones)
      → ((zone : ℕ) (rows : List ViewRow) → (holds computed zone ≡ false → IsFoundedAt zones footing zone rows) → IsFoundedAt zones new zone rows) → IsLine zones kept next computed false new
  forgotten_line is new sized rest = record {
    lists = line.lists;
    founded = record {
      sized = sized;
      at = λ zone less. rest zone (get_or kept zone []) (λ none.
          subst (IsFoundedAt zones footing zone) (ap (λ b. standing_at computed b kept next zone) is ∙ ap (λ b. if b then get_or next zone [] else get_or kept zone []) none) (line.founded.at zone less));
    };
  }

  -- where nothing is next the kept rows rest on the footing
  pub kept_at : is_next ≡ false → (zone : ℕ) → zone < zones → IsFoundedAt zones footing zone (get_or kept zone [])
  kept_at none zone less = subst (IsFoundedAt zones footing zone) (ap (λ b. standing_at computed b kept next zone) none) (line.founded.at zone less)

  -- next rows of a set of zones may be written where nothing is next, which rest on nothing
  pub written_line : is_next ≡ false → (written : ℕ) (new_next : List (List ViewRow)) (new : Option Footing) → length new_next ≡ length next → IfSome new (IsSized zones)
      → ((zone : ℕ) (rows : List ViewRow) → (holds written zone ≡ false → IsFoundedAt zones footing zone rows) → IsFoundedAt zones new zone rows) → IsLine zones kept new_next written true new
  written_line none written new_next new size sized rest = record {
    lists = record {
      same = size ∙ line.lists.same;
      made = elim line.lists.made [ inl none_made ↦ inl (size ∙ none_made) | inr all ↦ inr (size ∙ all) ];
    };
    founded = record {
      sized = sized;
      at = λ zone less. rest zone (chosen_at written kept new_next zone) (λ other.
          subst (IsFoundedAt zones footing zone) (sym (ap (λ b. if b then get_or new_next zone [] else get_or kept zone []) other)) (kept_at none zone less));
    };
  }

  -- lists may be made anew where nothing is next
  pub kept_line : is_next ≡ false → (new_kept new_next : List (List ViewRow)) (new : Option Footing) → HaveLists zones new_kept new_next
      → ((zone : ℕ) → zone < zones → get_or new_kept zone [] ≡ get_or kept zone []) → IfSome new (IsSized zones)
      → ((zone : ℕ) (rows : List ViewRow) → zone < zones → IsFoundedAt zones footing zone rows → IsFoundedAt zones new zone rows) → IsLine zones new_kept new_next computed is_next new
  kept_line none new_kept new_next new lists same sized rest = record {
    lists = lists;
    founded = record {
      sized = sized;
      at = λ zone less.
          subst (IsFoundedAt zones new zone) (sym (ap (λ b. standing_at computed b new_kept new_next zone) none ∙ same zone less)) (rest zone (get_or kept zone []) less (kept_at none zone less));
    };
  }

module _ (graph : Graph) (board : BoardState) (part : ℕ) (side : Side) (computed made : ℕ) (old new : Option Footing) (kept next : List (List ViewRow)) (same_graph : graph ≡ board.grid)
    (over : AreMadeOver graph board part side computed old new next made)
    (founded : (zone : ℕ) → zone < zone_count graph → IsFoundedAt (zone_count graph) old zone (get_or kept zone [])) where
  -- the next rows rest on the new footing
  pub next_at : (zone : ℕ) → zone < zone_count graph → IsFoundedAt (zone_count graph) new zone (chosen_at made kept next zone)
  next_at zone less = by (holds made zone) refl
    where
      by : (b : Bool) → holds made zone ≡ b → IsFoundedAt (zone_count graph) new zone (if b then get_or next zone [] else get_or kept zone [])
      by true e = over.own zone less e
      by false e = over.rest zone (get_or kept zone []) less e (founded zone less)

  -- and are computed or kept
  pub next_made : (zone : ℕ) → HasZone board.grid zone → chosen_at made kept next zone ≡ row_made computed board part side kept zone
  next_made zone there = by (holds made zone) (holds computed zone) refl refl
    where
      known : HasZone graph zone
      known = subst (λ (g : Graph). HasZone g zone) (sym same_graph) there

      by : (b c : Bool) → holds made zone ≡ b → holds computed zone ≡ c
          → (if b then get_or next zone [] else get_or kept zone []) ≡ (if c then view_of board part side zone else get_or kept zone [])
      by true true e f = over.views zone there e
      by true false e f = absurd (true≢false (sym (over.within zone known e) ∙ f))
      by false true e f = over.kept zone (get_or kept zone []) known f e (founded zone known)
      by false false e f = refl
