use Rattle.std.proofs.Common.{◌∙◌, ℕ, List, length, slice_index, sym, ap, subst}
use Rattle.std.proofs.lemmas.List.{length-replicate}
use Rattle.zone_graph.specs.Graph.{Graph}
use Rattle.trade_journal.specs.Journals.{JournalState}
use Rattle.desk_market.specs.Day.{DayState, empty_desks}
use Rattle.desk_market.specs.Standing.{IsMarket}
use Rattle.desk_market.proofs.Counted.{none-counted}
use Rattle.desk_market.proofs.market.DeskMarket.new.Goals as goal

-- each desk is without events, as the journal is without entries
pub invariant_of-result : goal.invariant_of-result
invariant_of-result c =
    subst (λ (j : JournalState). IsMarket c.args.grid j.setup j.entries c.in_ok-desks.desks.desks c.in_ok-given.given) (sym c.in_ok-journal.ensures) (record {
      over = c.requires.grid;
      of_day = c.requires.of_day;
      stand = ap (λ (d : DayState). d.desks) c.in_ok-desks.ensures ∙ ap (λ (g : Graph). empty_desks g c.args.setup.now.hours) c.requires.grid;
      callers = ap length c.in_ok-given.ensures ∙ length-replicate c.len.result 0 ∙ c.len.ensures;
      counted = λ caller. ap (λ (cs : List ℕ). slice_index cs caller) c.in_ok-given.ensures ∙ none-counted c.len.result caller;
    })
