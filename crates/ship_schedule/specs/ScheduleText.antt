-- The schedule that operators ship after a session, as a text: quarter by quarter what trades and grants
-- carry over the borders, and what zones have sold and bought. Numbers are in MW.
use Rattle.std.specs.Prelude.{ℕ, ◌*◌, ◌==◌, ◌&&◌, Bool, false, List, [], ◌∷◌, ◌++◌, ℤ, pos, negsuc, codes, if◌then◌else◌}
use Rattle.std.specs.List.{flat_map, join_with_byte, range_with_len}
use Rattle.order_kinds.specs.declared.contract.Quarter.{Quarter}
use Rattle.order_kinds.specs.Contract.{quarter_text}
use Rattle.order_kinds.specs.Price.{lots_text}
use Rattle.zone_graph.specs.Graph.{border_count, zone_count}
use Rattle.market_model.specs.declared.event.Event.{Event}
use Rattle.market_model.specs.declared.setup.Setup.{Setup}
use Rattle.market_model.specs.Grid.{graph_of}
use Rattle.journal_print.specs.Line.{arc_text, zone_name}
use Rattle.ship_schedule.specs.Places.{quarter_at}
use Rattle.ship_schedule.specs.Rows.{balance_at, net, signed_text}
use Rattle.ship_schedule.specs.declared.sums.Sums.{Sums}
use Rattle.ship_schedule.specs.Schedule.{bought, exchange, explicit, forward_arc, net_position, sold}

-- what the lines show: what trades and grants carry over a border in the quarter at a place of the day,
-- what a zone has sold and bought then, and its net position
pub record Numbers : Type 0 where
  pub exchange : (border place : ℕ) → ℤ
  pub explicit : (border place : ℕ) → ℤ
  pub sold : (zone place : ℕ) → ℕ
  pub bought : (zone place : ℕ) → ℕ
  pub net : (zone place : ℕ) → ℤ

-- those of a history
abbrev pub numbers_of : List Event → Numbers
numbers_of events = record {
  exchange = λ border place. exchange events border (quarter_at place);
  explicit = λ border place. explicit events border (quarter_at place);
  sold = λ zone place. sold events zone (quarter_at place);
  bought = λ zone place. bought events zone (quarter_at place);
  net = λ zone place. net_position events zone (quarter_at place);
}

-- those of rows of sums: for a border what goes forward and what goes back, for a zone what is sold and
-- what is bought
abbrev pub numbers_in : Sums → Numbers
numbers_in sums = record {
  exchange = λ border place. net (balance_at sums.traded place border);
  explicit = λ border place. net (balance_at sums.granted place border);
  sold = λ zone place. (balance_at sums.positions place zone).plus;
  bought = λ zone place. (balance_at sums.positions place zone).minus;
  net = λ zone place. net (balance_at sums.positions place zone);
}

-- nothing is carried
abbrev pub is_none : ℤ → Bool
is_none (pos lots) = lots == 0
is_none (negsuc n) = false

-- words with single spaces between them, and a line feed behind
abbrev pub line : List (List ℕ) → List ℕ
line words = join_with_byte 32 words ++ codes "\n"

-- lots in MW
abbrev pub amount_text : ℕ → List ℕ
amount_text lots = lots_text (record { 0 = lots })

-- the line of a border: by the name of its forward arc, what trades carry over it and what grants do;
-- none where both carry nothing
abbrev pub border_line : Setup → Quarter → (border : ℕ) → (traded granted : ℤ) → List ℕ
border_line setup quarter border traded granted =
    if is_none traded && is_none granted then []
    else line (codes "exchange" ∷ quarter_text quarter ∷ arc_text setup (forward_arc border) ∷ signed_text traded ∷ signed_text granted ∷ [])

-- the line of a zone: what it has sold and bought, and its net position; none where it has done neither
abbrev pub zone_line : Setup → Quarter → (zone sold bought : ℕ) → (net : ℤ) → List ℕ
zone_line setup quarter zone sold bought net =
    if (sold == 0) && (bought == 0) then []
    else line (codes "position" ∷ quarter_text quarter ∷ zone_name setup zone ∷ amount_text sold ∷ amount_text bought ∷ signed_text net ∷ [])

-- the lines of the quarter at a place of the day: borders by number, then zones by number
abbrev pub border_lines : Setup → Numbers → (place : ℕ) → List ℕ
border_lines setup numbers place =
    flat_map (λ border. border_line setup (quarter_at place) border (numbers.exchange border place) (numbers.explicit border place))
    (range_with_len 0 (border_count (graph_of setup)))

abbrev pub zone_lines : Setup → Numbers → (place : ℕ) → List ℕ
zone_lines setup numbers place =
    flat_map (λ zone. zone_line setup (quarter_at place) zone (numbers.sold zone place) (numbers.bought zone place) (numbers.net zone place))
    (range_with_len 0 (zone_count (graph_of setup)))

abbrev pub quarter_lines : Setup → Numbers → (place : ℕ) → List ℕ
quarter_lines setup numbers place = border_lines setup numbers place ++ zone_lines setup numbers place

-- the lines of all quarters of the day, in order
abbrev pub lines_of : Setup → Numbers → List ℕ
lines_of setup numbers = flat_map (quarter_lines setup numbers) (range_with_len 0 (4 * setup.hours))

-- the schedule of a history
abbrev pub schedule_text : Setup → List Event → List ℕ
schedule_text setup events = lines_of setup (numbers_of events)
