-- What crosses, order by order.
use Rattle.std.proofs.Common.{◌≡◌, ◌∙◌, ℕ, ◌+◌, ◌==◌, ◌||◌, ◌≤◌, Bool, true, false, List, [], ◌∷◌, filter, sum_by, refl, sym, ap, ap₂, arith}
use Rattle.std.specs.List.{list_any}
use Rattle.order_kinds.specs.declared.order.Kind.TheVariants as kind
use Rattle.order_kinds.specs.declared.order.Order.{Order}
use Rattle.order_kinds.specs.declared.price.Lots.{Lots}
use Rattle.order_kinds.specs.Order.{peak_count}
use Rattle.order_kinds.specs.Side.{opposite}
use Rattle.zone_graph.specs.Pour.{lots_if}
use Rattle.zone_graph.specs.Route.{has}
use Rattle.market_model.specs.declared.event.Event.{Event}
use Rattle.market_model.specs.Certificate.{crossing_inside, crossing_lots}
use Rattle.market_model.specs.Lines.{line}
use Rattle.market_model.specs.Orders.{Standing}
use Rattle.cut_proof.proofs.ArcSums.{sum_passing}
use Rattle.plain_refusals.specs.Crossing.{crossing_in, crossing_peaks, lots_inside}

-- a zone is one of some zones
pub has-any : (zone : ℕ) (zones : List ℕ) → list_any (λ other. other == zone) zones ≡ has zone zones
has-any zone [] = refl
has-any zone (other ∷ zones) = ap (λ b. (other == zone) || b) (has-any zone zones)

-- an iceberg crosses by its peaks
pub iceberg-is : (taker : Order) (other : Standing) (peak : Lots) (delta : ℕ) → other.order.kind ≡ kind.Iceberg peak delta
    → crossing_lots taker other ≡ crossing_peaks taker other.order peak.0 delta other.filled other.left (peak_count (other.filled + other.left) peak.0)
unfolding crossing_peaks
iceberg-is taker other peak delta is = rw is refl

-- what crosses inside is what crosses of each that is inside
pub inside-sum : (taker : Order) (zones : List ℕ) (orders : List Standing) → crossing_in taker zones orders ≡ sum_by (lots_inside taker zones) orders
unfolding crossing_in
inside-sum taker zones orders = sum_passing (λ (other : Standing). has other.order.zone zones) (crossing_lots taker) orders

-- of a line it is what crosses inside
pub inside-is : (events : List Event) (taker : Order) (zones : List ℕ) (orders : List Standing) → orders ≡ line events taker.contract (opposite taker.side)
    → crossing_in taker zones orders ≡ crossing_inside events taker zones
unfolding crossing_in
inside-is events taker zones orders is = ap (λ l. sum_by (crossing_lots taker) (filter (λ (other : Standing). has other.order.zone zones) l)) is

-- an iceberg crosses by its peaks, as it is read
pub iceberg-by : (taker : Order) (other : Standing) (order : Order) (filled left lots : ℕ) (peak : Lots) (delta : ℕ) → order ≡ other.order → filled ≡ other.filled
    → left ≡ other.left → order.kind ≡ kind.Iceberg peak delta → lots ≡ crossing_peaks taker order peak.0 delta filled left (peak_count (filled + left) peak.0)
    → lots ≡ crossing_lots taker other
iceberg-by taker other order filled left lots peak delta same so_filled so_left is by_peaks =
    by_peaks
    ∙ ap (λ (o : Order). crossing_peaks taker o peak.0 delta filled left (peak_count (filled + left) peak.0)) same
    ∙ ap₂ (λ (f l : ℕ). crossing_peaks taker other.order peak.0 delta f l (peak_count (f + l) peak.0)) so_filled so_left
    ∙ sym (iceberg-is taker other peak delta (sym (ap (λ (o : Order). o.kind) same) ∙ is))

-- no more than all
pub lots_if-most : (test : Bool) (lots : ℕ) → lots_if test lots ≤ lots
lots_if-most true lots = omega arith
lots_if-most false lots = omega arith
