-- How many orders and blocks of a kept hour rest.
use Rattle.std.proofs.Common.{◌≡◌, ℕ, ◌+◌, length, ap, arith}
use Rattle.contract_book.specs.Book.{order_count}
use Rattle.market_model.specs.Board.{resting_names}
use Rattle.laws_of_hours.proofs.OpenCounts.{all_rest}
use Rattle.hour_store.specs.Store.{Store}
use Rattle.kept_hour.specs.Kept.{Keeps}
use Rattle.kept_hour.specs.State.{HourState}

-- as many as stand in the two books of its store
pub open-count : (hour : HourState) (numbers settled_numbers : ℕ) (store : Store) → Keeps hour numbers settled_numbers store
    → order_count store.contents.book + length store.contents.blocks ≡ length (resting_names hour.board)
open-count hour numbers settled_numbers store keeps =
    let all = all_rest hour.board.grid hour.board.hour hour.board.events hour.board.hand keeps.board.stands keeps.in_hand in
    let book = ap order_count keeps.contents.book in
    let blocks = ap length keeps.contents.blocks in
    omega (arith, all, book, blocks)
