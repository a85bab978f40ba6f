use Rattle.std.proofs.Common.{◌≡◌, [], ap}
use Rattle.contract_book.specs.Book.{parts_of}
use Rattle.undo_log.specs.Log.{empty_log}
use Rattle.hour_store.proofs.Ranges.{drawn-idle, offers-idle}
use Rattle.hour_store.proofs.Stores.{goes-nowhere}
use Rattle.hour_store.proofs.store.HourStore.new.Goals as goal

pub invariant_of-result : goal.invariant_of-result
invariant_of-result c =
    let none : c.in-Ok.log.records ≡ [] = (let made = c.in-Ok.ensures in let same : c.in-Ok.log ≡ empty_log = cc in ap (λ l. l.records) same) in (
      record {
        parts = ap parts_of c.in_ok-new.ensures.empty;
        drawn = drawn-idle c.in_ok-new-3.field-0 c.in_ok-new-3.ensures.offers c.in_ok-new-3.ensures.flows;
        offers = offers-idle c.in_ok-new-3.field-0 c.in_ok-new-3.ensures.offers;
      },
      goes-nowhere c.in-Ok.log.records (record { book = c.in_ok-new.field-0; blocks = c.in_ok-new-2.field-0; flows = c.in_ok-new-3.field-0 }) none,
    )
