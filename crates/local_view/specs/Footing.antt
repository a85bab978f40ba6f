-- What the rows of a line's zones rest on.
use Rattle.std.specs.Prelude.{◌≡◌, ℕ, ◌<◌, Bool, false, true, List, [], get_or, length, map, IfSome, None, Option, Some}
use Rattle.order_kinds.specs.declared.side.Side.{Side}
use Rattle.std.specs.Box.{box_value}
use Rattle.cut_proof.specs.ZoneSet.{holds}
use Rattle.zone_graph.specs.Graph.{Graph, HasZone, IsGraph, zone_count}
use Rattle.zone_graph.specs.Rooms.{room_of}
use Rattle.zone_graph.specs.Route.{IsIn}
use Rattle.market_model.specs.declared.reply.ViewRow.{ViewRow}
use Rattle.market_model.specs.Orders.{Standing}
use Rattle.local_view.specs.declared.footing.Certificate.{Certificate}
use Rattle.local_view.specs.declared.footing.Footing.{Footing}
use Rattle.local_view.specs.declared.whole.LineOrder.{LineOrder}
use Rattle.local_view.specs.declared.filling.Made.{Made}
use Rattle.local_view.specs.declared.work.Work.{Work}
use Rattle.market_model.specs.Board.{BoardState}
use Rattle.local_view.specs.Boards.{view_of}
use Rattle.local_view.specs.Certified.{IsCertified, rows_in_turn}
use Rattle.local_view.specs.Drafts.{IsFlow}
use Rattle.local_view.specs.Moved.{cut_in, flow_in}
use Rattle.local_view.specs.Rows.{HaveLists, chosen_at}
use Rattle.local_view.specs.Whole.{in_line, rows_shown}
use Rattle.local_view.specs.Ways.{HasWays}
use Rattle.local_view.specs.Works.{AreComputed}

-- a flow and cuts certify rows of a zone
pub record Certifies (graph : Graph) (rooms : List (ℕ × ℕ)) (side : Side) (zone : ℕ) (line : List Standing) (certificate : Certificate) (rows : List ViewRow) : Type 0 where
  pub taken : ℕ → ℕ
  pub certified : IsCertified graph (room_of rooms) side zone line (flow_in certificate.flow) taken (cut_in certificate.cuts)
  pub rows_are : rows ≡ rows_in_turn taken line

-- they do so, or the rows are all that the line shows
abbrev pub AreTold : (is_whole : Bool) → Graph → (rooms : List (ℕ × ℕ)) → Side → (zone : ℕ) → List Standing → Certificate → List ViewRow → Type 0
AreTold true graph rooms side zone line certificate rows = rows ≡ rows_shown line
AreTold false graph rooms side zone line certificate rows = Certifies graph rooms side zone line certificate rows

-- rows of a zone rest on orders of a side, the two zones of each border of a grid, rooms, and a certificate that tells them
pub record RestOn (zones : ℕ) (ends rooms : List (ℕ × ℕ)) (side : Side) (zone : ℕ) (orders : List LineOrder) (certificate : Certificate) (rows : List ViewRow) : Type 0 where
  pub graph : Graph
  pub is_graph : IsGraph graph
  pub zones_are : zone_count graph ≡ zones
  pub borders_are : graph.borders ≡ ends
  pub has_zone : HasZone graph zone
  pub line : List Standing
  pub orders_are : orders ≡ map in_line line
  pub in_zones : (order : Standing) → IsIn order line → HasZone graph order.order.zone
  pub told : AreTold certificate.is_whole graph rooms side zone line certificate rows

-- what stands for a certificate where there is none
abbrev pub no_certificate : Certificate
no_certificate = record { is_whole = false; flow = record { of = []; left = []; leads = []; given = [] }; cuts = [] }

abbrev pub certificate_at : List Certificate → (zone : ℕ) → Certificate
certificate_at certificates zone = get_or certificates zone no_certificate

-- a footing has a room and a flow for each border, a certificate for each of so many zones, and orders of these; its ways are
-- over its borders
pub record IsSized (zones : ℕ) (footing : Footing) : Type 0 where
  pub rooms_are : length footing.rooms ≡ length footing.ends.items
  pub count : length footing.certificates.items ≡ zones
  pub flows : (zone : ℕ) → zone < zones → IsFlow (length footing.ends.items) (certificate_at footing.certificates.items zone).flow
  pub orders_in : (order : LineOrder) → IsIn order footing.orders.items → order.zone < zones
  pub ways_are : (graph : Graph) → graph.borders ≡ footing.ends.items → HasWays graph (box_value footing.ways)

-- a footing of a side is over a grid
pub record IsOver (graph : Graph) (side : Side) (footing : Footing) : Type 0 where
  pub side_is : footing.side ≡ side
  pub ends_are : footing.ends.items ≡ graph.borders
  pub sized : IsSized (zone_count graph) footing

-- there is one
abbrev pub IsThereOver : Graph → Side → Option Footing → Type 0
IsThereOver graph side None = ⊥
IsThereOver graph side (Some footing) = IsOver graph side footing

-- rows of a zone rest on a footing
abbrev pub Rest : (zones : ℕ) → Footing → (zone : ℕ) → List ViewRow → Type 0
Rest zones footing zone rows = RestOn zones footing.ends.items footing.rooms footing.side zone footing.orders.items (certificate_at footing.certificates.items zone) rows

-- where a footing says that the rows of a zone rest on it, they do
abbrev pub IsFoundedAt : (zones : ℕ) → Option Footing → (zone : ℕ) → List ViewRow → Type 0
IsFoundedAt zones footing zone rows = IfSome footing (λ on. holds on.resting zone ≡ true → Rest zones on zone rows)

-- so of each zone
pub record AreFounded (zones : ℕ) (footing : Option Footing) (rows : (zone : ℕ) → List ViewRow) : Type 0 where
  pub sized : IfSome footing (IsSized zones)
  pub at : (zone : ℕ) → zone < zones → IsFoundedAt zones footing zone (rows zone)

-- rows that rest on one footing rest on another one, where this says that they do
pub record IsFootingAfter (zones : ℕ) (old new : Footing) : Type 0 where
  pub had : (zone : ℕ) → holds new.resting zone ≡ true → holds old.resting zone ≡ true
  pub rest : (zone : ℕ) (rows : List ViewRow) → zone < zones → holds new.resting zone ≡ true → Rest zones old zone rows → Rest zones new zone rows

-- of the rows that rest on a footing those of a set of zones rest on other orders, rooms and certificates
pub record AreMovable (zones : ℕ) (footing : Footing) (still : ℕ) (rooms : List (ℕ × ℕ)) (orders : List LineOrder) (certificates : List Certificate) : Type 0 where
  pub had : (zone : ℕ) → holds still zone ≡ true → holds footing.resting zone ≡ true
  pub rest : (zone : ℕ) (rows : List ViewRow) → zone < zones → holds still zone ≡ true → Rest zones footing zone rows
      → RestOn zones footing.ends.items rooms footing.side zone orders (certificate_at certificates zone) rows

-- rows of a zone rest on the line and the rooms that lists work with
abbrev pub RestOnWork : Graph → Work → Side → (zone : ℕ) → Certificate → List ViewRow → Type 0
RestOnWork graph work side zone certificate rows = RestOn (zone_count graph) graph.borders work.of_part side zone work.whole.orders.items certificate rows

-- the lists of a set of zones were made, and those that rest on what certifies them say so
pub record AreListed (graph : Graph) (work : Work) (side : Side) (made resting : ℕ) (certificates : List Certificate) (lists : List (List ViewRow)) : Type 0 where
  pub within : (zone : ℕ) → HasZone graph zone → holds resting zone ≡ true → holds made zone ≡ true
  pub rest : (zone : ℕ) → HasZone graph zone → holds resting zone ≡ true → RestOnWork graph work side zone (certificate_at certificates zone) (get_or lists zone [])

-- of a set of zones some lists were made: views of the board, and those that rest on the new footing say so; the rows of the
-- others that rested on the old footing are views of the board
pub record AreFilled (graph : Graph) (board : BoardState) (part : ℕ) (side : Side) (computed : ℕ) (old new : Footing) (lists : List (List ViewRow)) (made : Made) : Type 0 where
  pub within : (zone : ℕ) → HasZone graph zone → holds made.lists zone ≡ true → holds computed zone ≡ true
  pub views : AreComputed made.lists board part side lists
  pub kept : (zone : ℕ) → HasZone graph zone → holds computed zone ≡ true → holds made.lists zone ≡ false
      → (holds old.resting zone ≡ true) × ((rows : List ViewRow) → Rest (zone_count graph) old zone rows → rows ≡ view_of board part side zone)
  pub apart : (zone : ℕ) → HasZone graph zone → holds new.resting zone ≡ true → holds made.lists zone ≡ false
  pub own : (zone : ℕ) → HasZone graph zone → holds made.resting zone ≡ true → holds made.lists zone ≡ true
  pub rest : (zone : ℕ) → HasZone graph zone → holds made.resting zone ≡ true → Rest (zone_count graph) new zone (get_or lists zone [])

-- of a set of zones some lists were made, views of the board, and the rows of the others are views of the board; those of each
-- zone rest on the new footing, where it says so
pub record AreMadeOver (graph : Graph) (board : BoardState) (part : ℕ) (side : Side) (computed : ℕ) (old new : Option Footing) (lists : List (List ViewRow)) (made : ℕ) : Type 0 where
  pub within : (zone : ℕ) → HasZone graph zone → holds made zone ≡ true → holds computed zone ≡ true
  pub views : AreComputed made board part side lists
  pub kept : (zone : ℕ) (rows : List ViewRow) → HasZone graph zone → holds computed zone ≡ true → holds made zone ≡ false → IsFoundedAt (zone_count graph) old zone rows
      → rows ≡ view_of board part side zone
  pub own : (zone : ℕ) → HasZone graph zone → holds made zone ≡ true → IsFoundedAt (zone_count graph) new zone (get_or lists zone [])
  pub rest : (zone : ℕ) (rows : List ViewRow) → HasZone graph zone → holds made zone ≡ false → IsFoundedAt (zone_count graph) old zone rows → IsFoundedAt (zone_count graph) new zone rows

-- the rows of a zone that stand: the next ones, where there are such, else the kept ones
abbrev pub standing_at : (computed : ℕ) → (is_next : Bool) → (kept next : List (List ViewRow)) → (zone : ℕ) → List ViewRow
standing_at computed true kept next zone = chosen_at computed kept next zone
standing_at computed false kept next zone = get_or kept zone []

-- a part and side has lists of so many zones or none, and the rows that stand rest on its footing, where it says so
pub record IsLine (zones : ℕ) (kept next : List (List ViewRow)) (computed : ℕ) (is_next : Bool) (footing : Option Footing) : Type 0 where
  pub lists : HaveLists zones kept next
  pub founded : AreFounded zones footing (standing_at computed is_next kept next)
