use Rattle.std.proofs.Common.{◌∙◌, inl, inr, arith}
use Rattle.std.proofs.lemmas.Bool.{cases_lt}
use Rattle.std.proofs.lemmas.Bool.Decides.{eqb_tells}
use Rattle.zone_graph.specs.Graph.{border_count}
use Rattle.local_view.proofs.Drafting.{kept_past}
use Rattle.local_view.proofs.draft.Flow.lay.Goals as goal

pub loop-border-preserved : goal.loop-border-preserved
loop-border-preserved c = record {
  of = c.lay_over.ensures.of ∙ c.loop-border.invariant.of;
  left = c.lay_over.ensures.left;
  kept = λ arc less. elim (eqb_tells arc.border c.loop-border.border) [
    | inl same ↦ c.lay_over.ensures.kept arc same.1
    | inr apart ↦ let one = apart.1 in c.lay_over.ensures.others c.args.rooms.now arc one (c.loop-border.invariant.kept arc (omega (arith, less, one)))
  ];
  later = λ arc later.
      c.lay_over.ensures.others c.args.self.now.of arc (λ same. omega (arith, later, same)) (c.loop-border.invariant.later arc (omega (arith, later)));
}

pub returns-clause-kept : goal.returns-clause-kept
returns-clause-kept c = λ arc. elim (cases_lt arc.border (border_count c.args.grid.now)) [
  | inl there ↦ c.loop-border.invariant.kept arc (let end = c.loop-border-test.false in let count = c.borders-border-end.ensures.count in omega (arith, there, end, count))
  | inr past ↦ kept_past c.args.rooms.now c.loop-border.self.left arc (let size = c.requires.size in omega (arith, past, size)) (let size = c.loop-border.invariant.left in omega (arith, past, size))
]
