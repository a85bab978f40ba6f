use Rattle.std.proofs.Common.{inl, inr, ⊎_elim, arith, rules}
use Rattle.durable_journal.proofs.Counting.{none_in_few, none_counted, line_counted}
use Rattle.durable_journal.proofs.opening.next_line.Goals as goal

pub returns-in_default-clause-none : goal.returns-in_default-clause-none
returns-in_default-clause-none c = λ line gate behind is_line is. none_in_few c.args.after.now line behind gate c.in_default.len_below is

pub returns-then-count-eq0-clause-none : goal.returns-then-count-eq0-clause-none
returns-then-count-eq0-clause-none c =
    none_counted c.args.after.now c.from_be_bytes-count.result c.in-len8-up.len_at_least c.from_be_bytes-count.ensures
    (⊎_elim (λ none. inl none) (λ much. inr much.1) c.then-count-eq0.either)

pub returns-clause-whole : goal.returns-clause-whole
returns-clause-whole c =
    line_counted c.args.after.now c.split_at.result.0.now c.split_at.result.1.now c.from_be_bytes-count.result c.in-len8-up.len_at_least (λ i. omega (arith, c.type_inv.after i))
    c.from_be_bytes-count.ensures c.split_at.ensures.front_len (search rules)
