-- What the orders of each zone give along a line, and where it ends; and the rooms over which it goes.
use Rattle.std.specs.Prelude.{◌≡◌, ◌⊎◌, ℕ, suc, ◌-◌, ◌<◌, ◌≤◌, List, length, min, slice_index_or, take}
use Rattle.order_kinds.specs.declared.side.Side.{Side}
use Rattle.zone_graph.specs.declared.route.Arc.{Arc}
use Rattle.zone_graph.specs.Graph.{Graph}
use Rattle.zone_graph.specs.Rooms.{room_of}
use Rattle.market_model.specs.declared.reply.ViewRow.{ViewRow}
use Rattle.market_model.specs.Orders.{Standing}
use Rattle.local_view.specs.declared.cuts.Cuts.{Cuts}
use Rattle.local_view.specs.Certified.{lots_from, lots_to, rows_in_turn}
use Rattle.local_view.specs.Whole.{shown_in}

-- what the orders of each zone give, and the place of its cut
abbrev pub given_by : Cuts → (zone : ℕ) → ℕ
given_by cuts zone = slice_index_or cuts.given zone 0

abbrev pub cut_by : Cuts → (zone : ℕ) → ℕ
cut_by cuts zone = slice_index_or cuts.places zone 0

-- what flows over each arc, where rooms are left of others
abbrev pub flow_beside : (rooms left : List (ℕ × ℕ)) → Arc → ℕ
flow_beside rooms left arc = room_of rooms arc - room_of left arc

-- along a line the orders of a zone give all that they show before its cut, and nothing behind it
pub record AreAlong (line : List Standing) (cuts : Cuts) : Type 0 where
  pub before : (zone : ℕ) → zone < 64 → shown_in (take (cut_by cuts zone) line) zone ≤ given_by cuts zone
  pub behind : (zone : ℕ) → zone < 64 → given_by cuts zone ≤ shown_in (take (suc (cut_by cuts zone)) line) zone

-- so along its first orders, which have these rows
pub record AreCutting (line : List Standing) (place : ℕ) (cuts : Cuts) (rows : List ViewRow) : Type 0 where
  pub given_size : length cuts.given ≡ 64
  pub places_size : length cuts.places ≡ 64
  pub before : (zone : ℕ) → zone < 64 → shown_in (take (min (cut_by cuts zone) place) line) zone ≤ given_by cuts zone
  pub behind : (zone : ℕ) → zone < 64 → given_by cuts zone ≤ shown_in (take (min (suc (cut_by cuts zone)) place) line) zone
  pub rows_are : rows ≡ rows_in_turn (given_by cuts) (take place line)

-- a cut stays where it is, or comes to a place where it is not before that
abbrev pub IsNoLater : (place old new : ℕ) → Type 0
IsNoLater place old new = (new ≡ old) ⊎ (new ≡ min old place)

-- over neither arc of a border room is left for lots to come to a zone with a later cut
abbrev pub AreClosedOver : Graph → (left : Arc → ℕ) → Side → (cut : ℕ → ℕ) → (border : ℕ) → Type 0
AreClosedOver graph left side cut border = (arc : Arc) → arc.border ≡ border → 0 < left arc → cut (lots_to graph side arc) ≤ cut (lots_from graph side arc)
