-- A book is uncrossed where each hour is.
use Rattle.std.proofs.Common.{ℕ, List, refl}
use Rattle.zone_graph.specs.Graph.{Graph}
use Rattle.market_model.specs.declared.event.Event.{Event}
use Rattle.laws_of_market.specs.UncrossedBook.{IsUncrossedBook}
use Rattle.laws_of_market.proofs.Uncrossed.{IsUncrossed}

pub hour_of_book : (graph : Graph) (events : List Event) → IsUncrossedBook graph events → (hour : ℕ) → IsUncrossed graph hour events
hour_of_book graph events book hour buy sell buy_open sell_open in_hour same on_buy on_sell =
    book buy sell buy_open.is_placed sell_open.is_placed buy_open.is_left sell_open.is_left same on_buy on_sell

pub book_of_hours : (graph : Graph) (events : List Event) → ((hour : ℕ) → IsUncrossed graph hour events) → IsUncrossedBook graph events
book_of_hours graph events hours buy sell buy_placed sell_placed buy_open sell_open same on_buy on_sell =
    hours buy.order.contract.hour buy sell (record { is_placed = buy_placed; is_left = buy_open }) (record { is_placed = sell_placed; is_left = sell_open })
    refl same on_buy on_sell
