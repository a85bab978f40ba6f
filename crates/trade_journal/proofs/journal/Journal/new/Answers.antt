use Rattle.std.proofs.Common.{◌≡◌, ◌∙◌, ◌≤◌, List, [], sum_by, ap, sym, subst, arith}
use Rattle.std.specs.Vec.{vec_capacity}
use Rattle.market_model.specs.declared.entry.Entry.{Entry}
use Rattle.market_model.specs.declared.setup.Caller.{Caller}
use Rattle.market_model.specs.declared.setup.Setup.{Setup}
use Rattle.trade_journal.specs.Journals.{IsJournal, all_rooms}
use Rattle.trade_journal.proofs.Pushed.{nothing}
use Rattle.trade_journal.proofs.journal.Journal.new.Goals as goal

pub invariant_of-result : goal.invariant_of-result
invariant_of-result c =
    let most : c.in-Some.most ≡ all_rooms c.args.setup.now =
    c.in-Some.ensures ∙ ap (λ (callers : List Caller). sum_by (λ (own : Caller). own.room) callers) c.as_slice.ensures in
    let same : c.in_ok-setup.setup ≡ c.args.setup.now = c.in_ok-setup.ensures in
    let room = c.in_ok-reserve.ensures.ok in
    record {
      journal = subst (λ items. IsJournal (record { setup = c.in_ok-setup.setup; entries = items })) (sym (c.reserve.ensures.items ∙ c.new-entries.ensures.items)) (nothing c.in_ok-setup.setup);
      room = subst (λ n. n ≤ vec_capacity c.reserve.new.self) (most ∙ ap all_rooms (sym same)) (omega (arith, room));
    }
