-- The rows of each zone, of which some were computed and the others are kept.
use Rattle.std.proofs.Common.{◌≡◌, ◌∙◌, ◌<◌, ◌≤◌, ◌+◌, ℕ, zero, suc, Bool, true, false, List, [], ◌∷◌, ◌++◌, Some, take, get_or, length, map, replicate, refl, sym, ap, if◌then◌else◌, arith}
use Rattle.std.proofs.lemmas.List.FromFn.{get_or-map-range_with_len, length-map-range_with_len}
use Rattle.std.proofs.lemmas.List.{get_or_past}
use Rattle.std.proofs.Math.Seq.{take-append_seam}
use Rattle.std.specs.List.{range_with_len}
use Rattle.cut_proof.specs.ZoneSet.{holds}
use Rattle.order_kinds.specs.declared.side.Side.{Side}
use Rattle.zone_graph.specs.Graph.{HasZone, zone_count}
use Rattle.market_model.specs.declared.reply.ViewRow.{ViewRow}
use Rattle.market_model.specs.Board.{BoardState}
use Rattle.local_view.specs.Boards.{view_of}
use Rattle.local_view.specs.Rows.{LineRows, chosen, chosen_at, of_zones}
use Rattle.local_view.specs.Works.{AreComputed, HasMade, row_made}

abbrev get_or_empty : List (List ViewRow) → ℕ → List ViewRow
get_or_empty lists zone = get_or lists zone []

-- lists that are none are empty
none_there : (from count : ℕ) → map (get_or_empty []) (range_with_len from count) ≡ replicate count []
none_there from zero = refl
none_there from (suc count) = ap (λ rows. [] ∷ rows) (none_there (from + 1) count)

pub none-of_zones : (zones : ℕ) → of_zones zones [] ≡ replicate zones []
none-of_zones zones = none_there 0 zones

none_past : (lists : List (List ViewRow)) (zone : ℕ) → length lists ≤ zone → get_or_empty lists zone ≡ []
none_past lists zone past = get_or_past lists zone [] past

-- past the last list there are no rows
pub past_chosen : (computed : ℕ) (kept next new : List (List ViewRow)) (zone : ℕ) → length new ≡ length kept → length next ≡ length kept → length kept ≤ zone
    → get_or new zone [] ≡ chosen_at computed kept next zone
past_chosen computed kept next new zone size same past = none_past new zone (omega (arith, size, past)) ∙ by (holds computed zone)
  where
    by : (b : Bool) → [] ≡ (if b then get_or_empty next zone else get_or_empty kept zone)
    by true = sym (none_past next zone (omega (arith, same, past)))
    by false = sym (none_past kept zone past)

-- the next rows are computed or kept, though some that were to be computed are kept
pub made_of_some : (zones computed made : ℕ) (board : BoardState) (part : ℕ) (side : Side) (kept next : List (List ViewRow)) (was : List (List ViewRow)) (line : LineRows) → zones ≡ zone_count board.grid
    → was ≡ of_zones zones kept → ((zone : ℕ) → HasZone board.grid zone → chosen_at made kept next zone ≡ row_made computed board part side kept zone)
    → line.next ≡ Some (chosen zones made kept next) → HasMade computed board part side was line
made_of_some zones computed made board part side kept next was line count are each is = record {
  rows = chosen zones made kept next;
  is = is;
  size = many ∙ sym (ap length are ∙ length-map-range_with_len (λ zone. get_or kept zone []) 0 zones);
  made = λ zone less.
      let within : zone < zones = omega (arith, less, many) in
      get_or-map-range_with_len (chosen_at made kept next) 0 zones zone zone [] within (omega arith)
      ∙ each zone (omega (arith, within, count))
      ∙ ap (λ rows. if holds computed zone then view_of board part side zone else rows)
      (sym (ap (λ lists. get_or lists zone []) are ∙ get_or-map-range_with_len (λ k. get_or kept k []) 0 zones zone zone [] within (omega arith)));
}
  where
    many : length (chosen zones made kept next) ≡ zones
    many = length-map-range_with_len (chosen_at made kept next) 0 zones

-- they are where all that were to be computed are
pub made_of : (zones computed : ℕ) (board : BoardState) (part : ℕ) (side : Side) (kept next : List (List ViewRow)) (was : List (List ViewRow)) (line : LineRows) → zones ≡ zone_count board.grid
    → was ≡ of_zones zones kept → AreComputed computed board part side next → line.next ≡ Some (chosen zones computed kept next) → HasMade computed board part side was line
made_of zones computed board part side kept next was line count are made is =
    made_of_some zones computed computed board part side kept next was line count are (λ zone there. by zone there (holds computed zone) refl) is
  where
    by : (zone : ℕ) → HasZone board.grid zone → (b : Bool) → holds computed zone ≡ b
        → (if b then get_or next zone [] else get_or kept zone []) ≡ (if b then view_of board part side zone else get_or kept zone [])
    by zone there true e = made zone there e
    by zone there false e = refl

-- lists that were lent whole and written back are those that were written
pub written_whole : (new rest : List (List ViewRow)) (len : ℕ) → length new ≡ len → take len (new ++ rest) ≡ new
written_whole new rest len size = ap (λ n. take n (new ++ rest)) (sym size) ∙ take-append_seam new rest

-- so many zones have lists
pub zones_are : (zones count : ℕ) (lists was : List (List ViewRow)) → of_zones zones lists ≡ was → length was ≡ count → zones ≡ count
zones_are zones count lists was are size = sym (length-map-range_with_len (λ zone. get_or lists zone []) 0 zones) ∙ ap length are ∙ size

-- a kept list
pub listed_at : (zones : ℕ) (lists now : List (List ViewRow)) (zone : ℕ) → of_zones zones lists ≡ now → zone < length now → get_or lists zone [] ≡ get_or now zone []
listed_at zones lists now zone are less =
    sym (get_or-map-range_with_len (λ k. get_or lists k []) 0 zones zone zone [] (let size = zones_are zones (length now) lists now are refl in omega (arith, size, less)) (omega arith))
    ∙ ap (λ rows. get_or rows zone []) are

-- lists of which so many zones' are the same
pub listed_same : (zones : ℕ) (new old : List (List ViewRow)) → of_zones zones new ≡ of_zones zones old → (zone : ℕ) → zone < zones → get_or new zone [] ≡ get_or old zone []
listed_same zones new old same zone less =
    let within : zone < length (of_zones zones old) = let size = length-map-range_with_len (λ k. get_or old k []) 0 zones in omega (arith, size, less) in
    listed_at zones new (of_zones zones old) zone same within ∙ sym (listed_at zones old (of_zones zones old) zone refl within)

-- the lists of a line that has none are empty
pub empty_line : (zones : ℕ) (lists : List (List ViewRow)) → lists ≡ [] → of_zones zones lists ≡ replicate zones []
empty_line zones lists none = ap (of_zones zones) none ∙ none-of_zones zones
