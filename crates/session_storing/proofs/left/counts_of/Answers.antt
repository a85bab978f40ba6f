-- Entry by entry its caller is counted.
use Rattle.std.proofs.Common.{◌≡◌, ◌<◌, ◌+◌, ◌∙◌, ℕ, List, get_or, length, nat_eq, slice_index, slice_set, arith, ap, sym, subst}
use Rattle.std.proofs.Math.ListN.{length-set}
use Rattle.std.proofs.lemmas.List.{length-map, length-replicate, take_all}
use Rattle.market_model.specs.declared.entry.Entry.{Entry}
use Rattle.session_journal.proofs.Turns.{CountsTurns, CountsTurns-more, CountsTurns-none, count_by-take}
use Rattle.journal_audit.specs.Course.{callers_of}
use Rattle.session_storing.specs.Playing.{turns_of}
use Rattle.session_storing.proofs.LeftTurns.{caller-at}
use Rattle.session_storing.proofs.left.counts_of.Goals as goal

pub loop-entry-init : goal.loop-entry-init
loop-entry-init c = record {
  size = ap length c.in_ok-counts.ensures ∙ length-replicate c.args.callers 0;
  counted = subst (λ counts. CountsTurns counts (callers_of c.args.entries.now) 0) (sym c.in_ok-counts.ensures) (CountsTurns-none c.args.callers (callers_of c.args.entries.now));
}

pub count-requires-clause-known : goal.count-requires-clause-known
count-requires-clause-known c =
    let at = c.requires.made c.loop-entry.entry-index c.entry-item.result c.loop-entry-test.true in
    let here : c.entry-item.result.caller < c.args.callers = subst (λ (e : Entry). e.caller < c.args.callers) (sym c.entry-item.is) at in
    omega (arith, here, c.loop-entry.invariant.size)

pub count-requires-clause-few : goal.count-requires-clause-few
count-requires-clause-few c =
    let caller = c.entry-item.result.caller in
    let so_far = c.loop-entry.invariant.counted.each caller in
    let most = count_by-take (λ turn. nat_eq turn caller) c.loop-entry.entry-index (callers_of c.args.entries.now) in
    let few = c.requires.few caller in
    omega (arith, so_far, most, few)

pub loop-entry-preserved : goal.loop-entry-preserved
loop-entry-preserved c =
    let turns : List ℕ = callers_of c.args.entries.now in
    let counts : List ℕ = c.loop-entry.counts in
    let same : get_or turns c.loop-entry.entry-index 0 ≡ c.entry-item.result.caller =
    caller-at c.args.entries.now c.loop-entry.entry-index c.entry-item.result c.entry-item.is c.loop-entry-test.true in
    let within : c.loop-entry.entry-index < length turns = omega (arith, length-map c.args.entries.now (λ (e : Entry). e.caller), c.loop-entry-test.true) in
    let at = c.requires.made c.loop-entry.entry-index c.entry-item.result c.loop-entry-test.true in
    let here : c.entry-item.result.caller < c.args.callers = subst (λ (e : Entry). e.caller < c.args.callers) (sym c.entry-item.is) at in
    let known : get_or turns c.loop-entry.entry-index 0 < length counts = omega (arith, same, here, c.loop-entry.invariant.size) in
    record {
      size = ap length c.count.ensures.after ∙ length-set counts c.entry-item.result.caller (slice_index counts c.entry-item.result.caller + 1) ∙ c.loop-entry.invariant.size;
      counted = subst (λ after. CountsTurns after turns (c.loop-entry.entry-index + 1))
          (sym (c.count.ensures.after ∙ ap (λ caller. slice_set counts caller (slice_index counts caller + 1)) (sym same)))
          (CountsTurns-more counts turns c.loop-entry.entry-index c.loop-entry.invariant.counted within known);
    }

pub returns-clause-each : goal.returns-clause-each
returns-clause-each c = λ caller.
    let turns : List ℕ = callers_of c.args.entries.now in
    let end = length-map c.args.entries.now (λ (e : Entry). e.caller) in
    c.loop-entry.invariant.counted.each caller ∙ ap (λ ts. turns_of ts caller) (take_all c.loop-entry.entry-index turns (omega (arith, end, c.loop-entry-test.false)))
