-- What the noted changes of a store say: in which zones the orders of a part and side have changed, and
-- whether and over which borders the flows have.
use Rattle.std.specs.Prelude.{◌≡◌, ◌⊎◌, ℕ, ◌<◌, Bool, true, false, ◌==◌, ◌&&◌, ◌*◌, not, List, filter, get_or, replicate, slice_index_or}
use Rattle.std.specs.List.{list_any}
use Rattle.std.specs.Option.{IsSomeAnd}
use Rattle.order_kinds.specs.declared.side.Side.{Side}
use Rattle.order_kinds.specs.Same.{same_side}
use Rattle.contract_book.specs.declared.resting.Resting.{Resting}
use Rattle.contract_book.specs.Book.{line_number, line_of, order_of}
use Rattle.cut_proof.specs.ZoneSet.{holds}
use Rattle.zone_graph.specs.Graph.{most_borders}
use Rattle.hour_store.specs.declared.change.Change.{Change}
use Rattle.hour_store.specs.declared.change.Change.TheVariants as change
use Rattle.hour_store.specs.Contents.{AreAlike, AreAlikeOver, Contents}
use Rattle.hour_store.specs.Store.{GoesBackTo, Store}

-- an order of a part is of this part and side, and stands in this zone
abbrev pub stands_in : (part : ℕ) → Side → (zone : ℕ) → (own : ℕ) → Resting → Bool
stands_in part side zone own order = (own == part) && same_side order.side side && (order.zone == zone)

-- a change is of an order of this part and side, in this zone
abbrev pub changes_in : (part : ℕ) → Side → (zone : ℕ) → Change → Bool
changes_in part side zone (change.OrderRested own order) = stands_in part side zone own order
changes_in part side zone (change.OrderChanged own was) = stands_in part side zone own was
changes_in part side zone _ = false

-- some of the changes is
abbrev pub has_changed : List Change → (part : ℕ) → Side → (zone : ℕ) → Bool
has_changed changes part side zone = list_any (changes_in part side zone) changes

-- a change is of the flows: of an offer, what flows, a halt or the phase
abbrev pub changes_flows : Change → Bool
changes_flows (change.Carried arc set lots) = true
changes_flows (change.Offered arc number lots) = true
changes_flows (change.HaltSet border was) = true
changes_flows (change.PhaseSet was) = true
changes_flows _ = false

-- of orders changes are noted more at some places alone, each a part, side and zone
abbrev pub NotesOrdersAt : (at : (part : ℕ) → Side → (zone : ℕ) → Type 0) → (old new : List Change) → Type 0
NotesOrdersAt at old new = (part : ℕ) (side : Side) (zone : ℕ) → has_changed new part side zone ≡ true
    → (has_changed old part side zone ≡ true) ⊎ at part side zone

-- the order of a number rests in a book, and as one of its own part it is of this part and side, in this zone
abbrev pub RestsAt : (book : List (List Resting)) → (number own : ℕ) → (part : ℕ) → Side → (zone : ℕ) → Type 0
RestsAt book number own part side zone = IsSomeAnd (order_of book number) (λ order. stands_in part side zone own order ≡ true)

-- no change of an order is noted more
abbrev pub NotesNoOrder : (old new : List Change) → Type 0
NotesNoOrder old new = (part : ℕ) (side : Side) (zone : ℕ) → has_changed new part side zone ≡ has_changed old part side zone

-- and none of the flows
abbrev pub NotesNoFlow : (old new : List Change) → Type 0
NotesNoFlow old new = list_any changes_flows new ≡ list_any changes_flows old

-- a change is of the flows over a border: of an offer, what flows or a halt there, or of the phase
abbrev pub changes_over : (border : ℕ) → Change → Bool
changes_over border (change.Carried arc set lots) = arc.border == border
changes_over border (change.Offered arc number lots) = arc.border == border
changes_over border (change.HaltSet halted was) = halted == border
changes_over border (change.PhaseSet was) = true
changes_over border _ = false

-- of each border it is told whether one of the changes is of the flows over it
abbrev pub AreChangedBorders : List Change → (changed : List Bool) → Type 0
AreChangedBorders changes changed = (border : ℕ) → border < most_borders → get_or changed border false ≡ list_any (changes_over border) changes

-- the bits for the zones of a part and side, of such of all parts: of each part first those for the buys
abbrev pub zones_of : (zones : List ℕ) → (part : ℕ) → Side → ℕ
zones_of zones part side = slice_index_or zones (line_number part side) 0

-- no zone of any part and side
abbrev pub no_zones : List ℕ
no_zones = replicate (2 * 7) 0

-- bit z stands for zone z, and is 1 exactly where the orders of the part and side have changed in it
abbrev pub AreChangedZones : List Change → (zones : List ℕ) → Type 0
AreChangedZones changes zones = (part : ℕ) (side : Side) (zone : ℕ) → part < 7 → zone < 64
    → holds (zones_of zones part side) zone ≡ has_changed changes part side zone

-- an order of a part and side stands in none of the zones where such have changed
abbrev pub is_untouched : List Change → (part : ℕ) → Side → Resting → Bool
is_untouched changes part side order = not (has_changed changes part side order.zone)

-- where the changes of a store lead back to a target, the orders in no changed zone are the same in each line
abbrev pub LinesChangeInTheirZones : Type 0
LinesChangeInTheirZones = (store : Store) (target : Contents) (part : ℕ) (side : Side) → GoesBackTo store target
    → filter (is_untouched store.changes part side) (line_of store.contents.book part side)
    ≡ filter (is_untouched store.changes part side) (line_of target.book part side)

-- and where no change of the flows is noted, they say the same
abbrev pub FlowsChangeWhereNoted : Type 0
FlowsChangeWhereNoted = (store : Store) (target : Contents) → GoesBackTo store target → list_any changes_flows store.changes ≡ false
    → AreAlike target.flows store.contents.flows

-- and where none of the flows over a border is noted, they say the same there
abbrev pub BordersChangeWhereNoted : Type 0
BordersChangeWhereNoted = (store : Store) (target : Contents) (border : ℕ) → GoesBackTo store target → list_any (changes_over border) store.changes ≡ false
    → AreAlikeOver border target.flows store.contents.flows
