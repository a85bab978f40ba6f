use Rattle.std.proofs.Common.{◌≡◌, ◌∙◌, ◌+◌, ◌++◌, Global, Vec, [], ap, get_or, length, subst, sym, arith}
use Rattle.std.proofs.lemmas.List.{length-map}
use Rattle.market_model.specs.declared.reply.ViewRow.{ViewRow}
use Rattle.local_view.specs.declared.cuts.Cuts.{Cuts}
use Rattle.local_view.specs.declared.draft.Flow.{Flow}
use Rattle.local_view.specs.Cuts.{AreCutting}
use Rattle.local_view.specs.Drafts.{AreKept}
use Rattle.local_view.specs.Poured.{row_if}
use Rattle.local_view.specs.Moved.{no_order}
use Rattle.local_view.specs.Whole.{in_line}
use Rattle.local_view.proofs.Cutting.{all_cut, next_passed, next_taken, seen_small, within_all}
use Rattle.local_view.proofs.Drafting.{kept-on}
use Rattle.local_view.proofs.cuts.Cuts.along.Goals as goal
use Rattle.local_view.proofs.cuts.Cuts.along.Goals.{then-place-self+in_ok-add_row, else-place-self}

pub overflow_cast-order : goal.overflow_cast-order
overflow_cast-order g c =
    let small = seen_small g.line c.as_slice-orders.result.now c.loop-place.place no_order (c.as_slice-orders.ensures.value ∙ c.requires.0) c.loop-place-test.true c.requires.1.1.0 in
    omega (arith, small)

pub offset_bounds-self-order : goal.offset_bounds-self-order
offset_bounds-self-order g c =
    let small = seen_small g.line c.as_slice-orders.result.now c.loop-place.place no_order (c.as_slice-orders.ensures.value ∙ c.requires.0) c.loop-place-test.true c.requires.1.1.0 in
    omega (arith, small)

pub bounds-self-order : goal.bounds-self-order
bounds-self-order g c = seen_small g.line c.as_slice-orders.result.now c.loop-place.place no_order (c.as_slice-orders.ensures.value ∙ c.requires.0) c.loop-place-test.true c.requires.1.1.0

pub take-requires-clause-few : goal.take-requires-clause-few
take-requires-clause-few g c =
    let all =
    within_all g.line c.as_slice-orders.result.now (c.as_slice-orders.ensures.value ∙ c.requires.0) c.requires.1.1.0 c.loop-place.place no_order c.loop-place-test.true c.loop-place.self
    c.loop-place.rows.items c.loop-place.invariant.cutting c.if-place-self.true in
    omega (arith, all, c.obtain-lots.ensures.most, c.requires.1.1.1.0)

pub loop-place-preserved : goal.loop-place-preserved
loop-place-preserved g c = elim c.if-place-self.branch [
  | then-place-self+in_ok-add_row w ↦
      let taken = w.take.ensures in
      let rows = c.loop-place.rows.items ++ row_if (get_or c.as_slice-orders.result.now c.loop-place.place no_order).price w.obtain-lots.result.0 [] in
      let rows_are : c.if-place-self.rows.items ≡ rows = ap (λ (list : Vec ViewRow Global). list.items) w.rows-is ∙ w.in_ok-add_row.ensures in
      record {
        cutting =
            subst (AreCutting g.line (c.loop-place.place + 1) c.if-place-self.self) (sym rows_are)
            (subst (λ (cuts : Cuts). AreCutting g.line (c.loop-place.place + 1) cuts rows) (sym w.self-is)
            (next_taken g.line c.as_slice-orders.result.now (c.as_slice-orders.ensures.value ∙ c.requires.0) c.requires.1.1.0 c.loop-place.place no_order c.loop-place-test.true c.loop-place.self c.loop-place.rows.items c.loop-place.invariant.cutting
            w.take.new.self w.obtain-lots.result.0
            (record { most = w.obtain-lots.ensures.most; early = w.if-place-self.true; given = taken.given; size = taken.size; cuts = taken.cuts; part = taken.part; all = taken.all })));
        of = ap (λ (flow : Flow). flow.of) w.flow-is ∙ w.obtain-lots.ensures.of ∙ c.loop-place.invariant.of;
        size = ap (λ (flow : Flow). length flow.left) w.flow-is ∙ w.obtain-lots.ensures.size;
        kept =
            subst (λ (flow : Flow). AreKept c.args.flow.now.left flow.left) (sym w.flow-is)
            (kept-on c.args.flow.now.left c.loop-place.flow.left w.obtain-lots.new.flow.left c.loop-place.invariant.kept w.obtain-lots.ensures.kept);
      }
  | else-place-self w ↦ record {
    cutting =
        subst (AreCutting g.line (c.loop-place.place + 1) c.if-place-self.self) (sym (ap (λ (list : Vec ViewRow Global). list.items) w.rows-is))
        (subst (λ (cuts : Cuts). AreCutting g.line (c.loop-place.place + 1) cuts c.loop-place.rows.items) (sym w.self-is)
        (next_passed g.line c.as_slice-orders.result.now (c.as_slice-orders.ensures.value ∙ c.requires.0) c.requires.1.1.0 c.loop-place.place no_order c.loop-place-test.true c.loop-place.self c.loop-place.rows.items c.loop-place.invariant.cutting
        w.if-place-self.false));
    of = ap (λ (flow : Flow). flow.of) w.flow-is ∙ c.loop-place.invariant.of;
    size = ap (λ (flow : Flow). length flow.left) w.flow-is ∙ c.loop-place.invariant.size;
    kept = subst (λ (flow : Flow). AreKept c.args.flow.now.left flow.left) (sym w.flow-is) c.loop-place.invariant.kept;
  }
]

pub returns-clause-along : goal.returns-clause-along
returns-clause-along g c =
    all_cut g.line c.loop-place.self c.loop-place.rows.items c.loop-place.place
    (omega (arith, c.loop-place-test.false, ap length (c.as_slice-orders.ensures.value ∙ c.requires.0) ∙ length-map g.line in_line)) c.loop-place.invariant.cutting
