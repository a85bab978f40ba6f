use Rattle.market_model.specs.History.{journal_events}
use Rattle.market_model.specs.Market.{run_by}
use Rattle.laws_of_market.proofs.HoursAlone.{few-open}
use Rattle.laws_of_market.proofs.Journals.{run-history}
use Rattle.laws_of_books.proofs.WholeBlockBooks.{book-is_book}
use Rattle.laws_of_books.proofs.block_lines.runs_keep_block_books.Goals as goal

pub returns : goal.returns
returns c = λ setup parts turns first is_setup.
    book-is_book setup (journal_events (run_by parts setup turns)) (run-history setup is_setup parts turns).fit first (few-open setup is_setup parts turns first)
