-- The arcs of the legs of an hour are those of its grid.
use Rattle.std.proofs.Common.{◌≡◌, ◌∙◌, inl, inr, ℕ, zero, suc, List, [], ◌∷◌, drop, take, sym, ap, subst}
use Rattle.zone_graph.specs.Graph.{border_count}
use Rattle.zone_graph.specs.Route.{IsIn}
use Rattle.zone_graph.proofs.Membership.{from_filter}
use Rattle.cut_proof.proofs.Ways.{way_has_arc}
use Rattle.market_model.specs.declared.event.Event.{Event}
use Rattle.market_model.specs.declared.event.Event.TheVariants as event
use Rattle.market_model.specs.declared.setup.Setup.{Setup}
use Rattle.market_model.specs.Board.{BoardState, IsBoard}
use Rattle.market_model.specs.Grid.{graph_of}
use Rattle.market_model.specs.History.{and_then, touches}
use Rattle.market_model.specs.WellFormed.{FitAfter, Fits}
use Rattle.desk_entering.specs.Opening.{AreWithin, IsWithin}

fits-within : (setup : Setup) (before : List Event) (e : Event) → Fits setup before e → IsWithin (border_count (graph_of setup)) e
fits-within setup before (event.Leg contract leg) fits = λ arc i. way_has_arc (graph_of setup) _ _ _ leg.route arc fits.carried.is_route.way i
fits-within setup before _ fits = tt

all-within : (setup : Setup) (before more : List Event) → FitAfter setup before more → AreWithin (border_count (graph_of setup)) more
all-within setup before [] fit e i = absurd i
all-within setup before (first ∷ more) fit e i = elim i [
  | inl same ↦ subst (IsWithin (border_count (graph_of setup))) (sym same) (fits-within setup before first fit.0)
  | inr later ↦ all-within setup (and_then before first) more fit.1 e later
]

pub board-within : (board : BoardState) → IsBoard board → (borders : ℕ) → borders ≡ border_count board.grid → AreWithin borders board.events
board-within board is_board borders same e i =
    let whole = is_board.stands in
    let there = (from_filter (touches board.hour) e whole.history (subst (IsIn e) (sym whole.in_hour) i)).0 in
    subst (λ n. IsWithin n e) (ap border_count whole.over_grid ∙ sym same) (all-within whole.setup [] whole.history whole.fit e there)

pub within-behind : (borders : ℕ) (count : ℕ) (events : List Event) → AreWithin borders events → AreWithin borders (drop count events)
within-behind borders zero events within = within
within-behind borders (suc count) [] within = within
within-behind borders (suc count) (e ∷ events) within = within-behind borders count events (λ x i. within x (inr i))

pub within-front : (borders : ℕ) (count : ℕ) (events : List Event) → AreWithin borders events → AreWithin borders (take count events)
within-front borders zero events within e i = absurd i
within-front borders (suc count) [] within e i = absurd i
within-front borders (suc count) (first ∷ events) within e i = elim i [
  | inl same ↦ within e (inl same)
  | inr later ↦ within-front borders count events (λ x j. within x (inr j)) e later
]
