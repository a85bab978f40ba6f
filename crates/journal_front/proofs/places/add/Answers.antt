use Rattle.std.proofs.Common.{arith, subst, ◌%◌, ◌+◌, ◌^◌}
use mathlib.Core.Option.{none}
use Rattle.atomic_table.specs.Table.{Allows, step}
use Rattle.journal_front.specs.Ruled.{IsRuled, committed}
use Rattle.journal_front.proofs.Seated.{committing_by}
use Rattle.journal_front.proofs.places.add.Goals as goal

pub fetch_add-requires : goal.fetch_add-requires
fetch_add-requires g c =
    let word = c.args.word.now in
    let lead = c.args.lead.now in (
      c.requires.place,
      omega (arith, c.requires.word),
      subst (λ entry. Allows (IsRuled word.key) word.table_id.slots lead.id lead.me 0 (λ n. (n + 1) % 2 ^ 64) (committed entry (step word.table_id.slots 0 1 0 none) lead.me)) c.requires.written
          (committing_by word.key word.table_id.slots lead.id lead.me c.requires.lead.holds_none c.args.entry.now c.requires.lead.leads c.requires.concerned c.requires.caller c.requires.room),
    )
